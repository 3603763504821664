use Rattle.std.proofs.Common.{sym, ap, ◌∙◌, ℕ}
use Rattle.wire.proofs.RisingLemmas.{follows-last}
use Rattle.spec_model.specs.Words.{Certificate}
use Rattle.spec_checkpoint.specs.Data.{place_before}
use Rattle.checkpoint.proofs.reading.certificate.certificate_may_follow.Goals as goal

pub returns-in-Some : goal.returns-in-Some
returns-in-Some c =
    let header = c.args.header.now in
    let last = follows-last (λ (one : Certificate). place_before one.header.round one.header.author.0 header.round header.author.0) c.args.before.now c.in-Some.last.now
    (cc (c.in-Some.ensures.value)) in
    let last_round = c.in-Some.last.now.header in
    c.place_before.ensures ∙ ap (λ (n : ℕ). place_before n last_round.author.0 c.number-in-Some.result header.author.0) c.number.ensures.value
    ∙ ap (λ (n : ℕ). place_before last_round.round last_round.author.0 n header.author.0) c.number-in-Some.ensures.value ∙ sym last
