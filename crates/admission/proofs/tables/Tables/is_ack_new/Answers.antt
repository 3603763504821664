use Rattle.admission.proofs.tables.Tables.is_ack_new.Goals as goal

pub returns : goal.returns
returns c = λ node state event meets. c.is_new_ack.ensures node state event meets.message meets.at.batches
