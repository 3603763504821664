use Rattle.std.proofs.Common.{◌%◌, ◌∙◌, ℕ, length, ap}
use Rattle.committee.specs.Charter.{Charter}
use Rattle.tusk.proofs.Supporting.{slot_held}
use Rattle.tusk.proofs.support.chosen.Goals as goal

pub returns-in-Some-clause-value : goal.returns-in-Some-clause-value
returns-in-Some-clause-value c =
    slot_held c.args.dag.now c.limits_hold.ensures c.in_ok-round.round (c.args.coin % c.size.result) _ _ c.in-Some.field-0.now c.in_ok-round.ensures.some
    (ap (λ (n : ℕ). c.args.coin % n) (c.size.ensures.value ∙ ap (λ (charter : Charter). length charter.keys) c.committee.ensures)) c.in-Some.ensures
