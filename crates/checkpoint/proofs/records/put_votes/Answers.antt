use Rattle.std.proofs.Common.{List, ℕ, [], ◌∷◌, ◌++◌, sym, ap, ◌∙◌, subst}
use Rattle.spec_checkpoint.specs.Records.{vote_record}
use Rattle.checkpoint.specs.Kept.{vote_of}
use Rattle.checkpoint.proofs.RowsMore.{row_fits_at, row_more_at}
use Rattle.checkpoint.proofs.records.put_votes.Goals as goal

pub put_row-requires : goal.put_row-requires
put_row-requires g c =
    subst g.S.RecordSink.fits (sym (c.as_slice.ensures.value ∙ c.in_ok-row.ensures))
    (row_fits_at g.S.RecordSink.fits vote_record vote_of c.args.votes.now c.loop-vote.vote-index _ c.loop-vote-test.true c.requires)

pub loop-vote-preserved : goal.loop-vote-preserved
loop-vote-preserved g c =
    let records = g.S.RecordSink.records in
    let before = records c.loop-vote.sink in
    row_more_at vote_record vote_of c.args.votes.now c.loop-vote.vote-index _ before (records c.put_row.new.sink) (records c.args.sink.now)
    c.loop-vote-test.true (c.in_ok-put_row.ensures ∙ ap (λ (text : List ℕ). before ++ text ∷ []) (c.as_slice.ensures.value ∙ c.in_ok-row.ensures)) c.loop-vote.invariant
