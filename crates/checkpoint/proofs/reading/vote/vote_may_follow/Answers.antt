use Rattle.std.proofs.Common.{◌≡◌, Some, sym, ◌∙◌}
use Rattle.std.specs.Prelude.{slice_get, length, ◌-◌}
use Rattle.spec_checkpoint.specs.Data.{KeptVote, place_before}
use Rattle.checkpoint.specs.Kept.{vote_of}
use Rattle.checkpoint.proofs.ReadOn.{follows_last}
use Rattle.checkpoint.proofs.reading.vote.vote_may_follow.Goals as goal

pub returns-in-Some : goal.returns-in-Some
returns-in-Some c =
    let before = c.args.before.now in
    let last : slice_get before (length before - 1) ≡ Some c.in-Some.field-0.now = cc (c.in-Some.ensures.value) in
    c.place_before.ensures
    ∙ sym (follows_last vote_of (λ (one : KeptVote). place_before one.round one.author c.args.round c.args.author) before c.in-Some.field-0.now last)
