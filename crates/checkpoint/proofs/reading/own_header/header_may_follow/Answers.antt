use Rattle.std.proofs.Common.{sym, ap, ◌∙◌, ℕ}
use Rattle.std.specs.Prelude.{nat_lt}
use Rattle.wire.proofs.RisingLemmas.{follows-last}
use Rattle.spec_checkpoint.specs.Data.{KeptHeader}
use Rattle.checkpoint.proofs.reading.own_header.header_may_follow.Goals as goal

pub returns-in-Some : goal.returns-in-Some
returns-in-Some c =
    let last = follows-last (λ (one : KeptHeader). nat_lt one.header.body.round c.args.round) c.args.before.now c.in-Some.last.now (cc (c.in-Some.ensures.value)) in
    ap (λ (n : ℕ). nat_lt n c.args.round) (c.number.ensures.value ∙ ap (λ (kept : KeptHeader). kept.header.body.round) c.last-in-Some.view_is) ∙ sym last
