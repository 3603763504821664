use Rattle.admission.proofs.tables.Tables.is_batch_new.Goals as goal

pub returns : goal.returns
returns c = λ batch digested node state event meets. c.is_new_batch.ensures batch digested node state event meets.message meets.at.batches
