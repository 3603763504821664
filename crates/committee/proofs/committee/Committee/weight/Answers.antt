use Rattle.std.proofs.Common.{◌≡◌, ◌<◌, ◌≤◌, ℕ, ◌+◌, true, false, Bool, cond, List, length, get_or, ap, ◌∙◌, arith}
use Rattle.committee.specs.Charter.{Charter, IsCharter, weight as weight_of}
use Rattle.committee.specs.Sets.{has}
use Rattle.committee.proofs.StakeLemmas.{total-bounds}
use Rattle.committee.proofs.Weights.{weight_below, weight_below-more, weight_below-most, weight_below-room}
use Rattle.committee.proofs.committee.Committee.weight.Goals as goal
use Rattle.committee.proofs.committee.Committee.weight.Goals.{then-contains, else-contains}

-- one more member, who is in the set or not
counted : (stakes : List ℕ) (p : ℕ → Bool) (n weight next : ℕ) (held : Bool) → weight ≡ weight_below stakes p n → held ≡ p n → next
    ≡ weight + cond held (get_or stakes n 0) 0 → next ≡ weight_below stakes p (n + 1)
counted stakes p n weight next held before is more =
    let next-is = weight_below-more stakes p n in
    let term = ap (λ b. cond b (get_or stakes n 0) 0) is in
    omega (arith, before, more, term, next-is)

pub overflow_add-weight : goal.overflow_add-weight
overflow_add-weight c =
    let stakes : c.deref-stake-items.result.now ≡ c.args.self.now.stakes = c.deref-stake-items.ensures.value ∙ ap (λ (charter : Charter). charter.stakes) c.self.view_is in
    let within : c.loop-i.i < length c.args.self.now.stakes = omega (arith, ap length stakes) in
    let room = weight_below-room c.args.self.now.stakes (has c.args.members.now) c.loop-i.i within in
    let bound = (total-bounds c.args.self.now (rw (← c.self.view_is) c.self.invariant.committee)).1 in
    omega (arith, room, c.loop-i.invariant, bound, ap (λ list. get_or list c.loop-i.i 0) stakes)

pub loop-i-preserved : goal.loop-i-preserved
loop-i-preserved c =
    let stakes : c.deref-stake-items.result.now ≡ c.args.self.now.stakes = c.deref-stake-items.ensures.value ∙ ap (λ (charter : Charter). charter.stakes) c.self.view_is in
    let stake = ap (λ list. get_or list c.loop-i.i 0) stakes in
    let step = counted c.args.self.now.stakes (has c.args.members.now) c.loop-i.i c.loop-i.weight c.if-contains.weight in
    elim c.if-contains.branch [
      | then-contains w ↦ step true c.loop-i.invariant (w.if-contains.ensures) (w.weight-is ∙ ap (λ n. c.loop-i.weight + n) stake)
      | else-contains w ↦ step false c.loop-i.invariant (w.if-contains.ensures) (w.weight-is ∙ omega arith)
    ]

-- all members were gone through
whole : (charter : Charter) (p : ℕ → Bool) (weight n : ℕ) → IsCharter charter → weight ≡ weight_below charter.stakes p n → n ≤ length charter.stakes
    → length charter.stakes ≤ n → weight ≡ weight_of charter p
whole charter p weight n is before low high =
    let all : n ≡ length charter.keys = omega (arith, is.staked) in
    before ∙ ap (weight_below charter.stakes p) all

pub returns-clause-value : goal.returns-clause-value
returns-clause-value c =
    let stakes : c.deref-stake-items.result.now ≡ c.args.self.now.stakes = c.deref-stake-items.ensures.value ∙ ap (λ (charter : Charter). charter.stakes) c.self.view_is in
    whole c.args.self.now (has c.args.members.now) c.loop-i.weight c.loop-i.i (rw (← c.self.view_is) c.self.invariant.committee) c.loop-i.invariant
    (omega (arith, ap length stakes)) (omega (arith, ap length stakes))

pub returns-clause-most : goal.returns-clause-most
returns-clause-most c =
    let stakes : c.deref-stake-items.result.now ≡ c.args.self.now.stakes = c.deref-stake-items.ensures.value ∙ ap (λ (charter : Charter). charter.stakes) c.self.view_is in
    rw c.loop-i.invariant (weight_below-most c.args.self.now.stakes (has c.args.members.now) c.loop-i.i (omega (arith, ap length stakes)))
