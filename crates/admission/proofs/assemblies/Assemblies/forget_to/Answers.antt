use Rattle.std.proofs.Common.{rules, ap}
use Rattle.admission.proofs.Looking.{forgotten, none_low, none_left, holds_without}
use Rattle.admission.proofs.assemblies.Assemblies.forget_to.Goals as goal

pub returns-then-first-last : goal.returns-then-first-last
returns-then-first-last c =
    let left = c.loop-first.self-inside.rounds.entries in
    let holds = c.loop-first.invariant in
    let low = none_low left c.in-Some.first.now c.number-last.result c.if-first-last.true c.in-Some.ensures.least in
    rw (← c.self.view_is, ← c.number-last.ensures.value) (forgotten _ _ _ holds.charter (ap (λ o. o.0) holds.own) holds.later low)

pub returns : goal.returns
returns c =
    let left = c.loop-first.self-inside.rounds.entries in
    let holds = c.loop-first.invariant in
    let low = none_left c.number-last.result left (search rules) in
    rw (← c.self.view_is, ← c.number-last.ensures.value) (forgotten _ _ _ holds.charter (ap (λ o. o.0) holds.own) holds.later low)

pub invariant_of-self : goal.invariant_of-self
invariant_of-self c =
    let left = c.loop-first.self-inside.rounds.entries in
    let holds = c.loop-first.invariant in
    let low = none_low left c.in-Some.first.now c.number-last.result c.if-first-last.true c.in-Some.ensures.least in
    holds_without _ _ c.number-last.result c.self.invariant (forgotten _ _ _ holds.charter (ap (λ o. o.0) holds.own) holds.later low) holds.rise

pub invariant_of-self-in_default : goal.invariant_of-self-in_default
invariant_of-self-in_default c =
    let left = c.loop-first.self-inside.rounds.entries in
    let holds = c.loop-first.invariant in
    let low = none_left c.number-last.result left (search rules) in
    holds_without _ _ c.number-last.result c.self.invariant (forgotten _ _ _ holds.charter (ap (λ o. o.0) holds.own) holds.later low) holds.rise
