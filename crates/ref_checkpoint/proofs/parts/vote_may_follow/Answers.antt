use Rattle.std.proofs.Common.{sym, ap, ◌∙◌, ℕ}
use Rattle.wire.proofs.RisingLemmas.{follows-last}
use Rattle.spec_checkpoint.specs.Data.{KeptVote, place_before}
use Rattle.ref_checkpoint.proofs.parts.vote_may_follow.Goals as goal

pub returns-in-Some : goal.returns-in-Some
returns-in-Some c =
    let last = follows-last (λ (one : KeptVote). place_before one.round one.author c.args.round c.args.author) c.args.before.now c.in-Some.last.now (cc (c.in-Some.ensures.value)) in
    c.place_before.ensures ∙ ap (λ (n : ℕ). place_before n c.last-in-Some.inside.author c.args.round c.args.author) c.number.ensures.value
    ∙ ap (λ (kept : KeptVote). place_before kept.round kept.author c.args.round c.args.author) c.last-in-Some.view_is ∙ sym last
