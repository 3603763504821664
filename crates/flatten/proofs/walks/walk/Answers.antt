use Rattle.std.proofs.Common.{◌≡◌, ◌+◌, ◌-◌, ◌<◌, ◌∙◌, ℕ, Bool, List, ap, sym, subst, arith}
use Rattle.std.specs.Prelude.{nat_le, sum_by, ◌&&◌, ◌||◌}
use Rattle.std.specs.List.{range_with_len}
use Rattle.committee.specs.declared.sets.MemberSet.{MemberSet}
use Rattle.dag.specs.Graph.{references_of}
use Rattle.flatten.specs.Sets.{is_in, is_free, orders_in, AreClosed}
use Rattle.flatten.proofs.Taking.{walked_free}
use Rattle.flatten.proofs.walks.walk.Goals as goal

-- who is free, by the numbers and the list that the call has
free_same : (c : goal.After-number) → is_free c.args.dag.now c.number-high.result c.deref.result.now ≡ is_free c.args.dag.now c.args.top c.args.taken.now.items
free_same c =
    ap (λ (t : ℕ). is_free c.args.dag.now t c.deref.result.now) c.number-high.ensures.value ∙ ap (λ (l : List MemberSet). is_free c.args.dag.now c.args.top l) c.deref.ensures.value

bottom_same : (c : goal.After-number) → c.args.leader.0 + 1 - (c.number-round.result + 1 - c.args.bottom) ≡ c.args.bottom
bottom_same c = omega (arith, c.number-round.ensures.value, c.requires.low)

closed_same : (c : goal.After-number) → AreClosed c.args.dag.now c.args.bottom c.args.leader.0 (is_free c.args.dag.now c.args.top c.args.taken.now.items)
    → AreClosed c.args.dag.now (c.args.leader.0 + 1 - (c.number-round.result + 1 - c.args.bottom)) c.args.leader.0 (is_free c.args.dag.now c.number-high.result c.deref.result.now)
closed_same c closed =
    let graph = c.args.dag.now in
    let leader = c.args.leader.0 in
    subst (λ (f : ℕ → ℕ → Bool). AreClosed graph (leader + 1 - (c.number-round.result + 1 - c.args.bottom)) leader f) (sym (free_same c))
    (subst (λ b. AreClosed graph b leader (is_free graph c.args.top c.args.taken.now.items)) (sym (bottom_same c)) closed)

walked_sets : (c : goal.After-number) → AreClosed c.args.dag.now c.args.bottom c.args.leader.0
    (is_free c.args.dag.now c.args.top c.args.taken.now.items) → (place other : ℕ) → place < c.args.leader.0 + 1 - c.args.bottom
    → is_in c.in_ok-walked.walked.items place other ≡ orders_in c.args.dag.now c.args.leader.0 c.args.leader.1.0
    (is_free c.args.dag.now c.args.top c.args.taken.now.items) (c.args.leader.0 - place) other
walked_sets c closed place other within =
    let leader = c.args.leader in
    c.in_ok-walked.ensures.sets (closed_same c closed) place other (omega (arith, within, c.number-round.ensures.value))
    ∙ ap (λ (f : ℕ → ℕ → Bool). orders_in c.args.dag.now leader.0 leader.1.0 f (leader.0 - place) other) (free_same c)

pub returns-clause-sets : goal.returns-clause-sets
returns-clause-sets c closed place other within = walked_sets c closed place other within

pub returns-clause-reads : goal.returns-clause-reads
returns-clause-reads c closed =
    let graph = c.args.dag.now in
    let leader = c.args.leader in
    let count = c.number-round.result + 1 - c.args.bottom in
    let round = c.number-round.ensures.value in
    let low = c.requires.low in
    let from : leader.0 + 2 - count ≡ c.args.bottom + 1 = omega (arith, round, low) in
    let long : count - 1 ≡ leader.0 - c.args.bottom = omega (arith, round, low) in
    let sum : (ℕ → ℕ → Bool) → ℕ → ℕ → ℕ = λ f a n. sum_by (λ r. references_of graph r (orders_in graph leader.0 leader.1.0 f r)) (range_with_len a n) in
    c.number.ensures ∙ c.in_ok-walked.ensures.reads (closed_same c closed)
    ∙ ap (λ (f : ℕ → ℕ → Bool). sum f (leader.0 + 2 - count) (count - 1)) (free_same c)
    ∙ ap (λ a. sum (is_free graph c.args.top c.args.taken.now.items) a (count - 1)) from
    ∙ ap (sum (is_free graph c.args.top c.args.taken.now.items) (c.args.bottom + 1)) long

pub returns-clause-taken : goal.returns-clause-taken
returns-clause-taken c closed round other above below =
    let graph = c.args.dag.now in
    let leader = c.args.leader in
    let walked = c.in_ok-walked.walked.items in
    let old = c.args.taken.now.items in
    walked_free graph c.limits_hold.ensures leader c.args.bottom c.args.top old c.put.new.sets.items walked c.requires.high (walked_sets c closed)
    (λ place author. c.in_ok-put.ensures place author
    ∙ ap (λ (l : List MemberSet). is_in old place author ||
    (nat_le (c.number-high.result - c.number-round.result) place && is_in l (place - (c.number-high.result - c.number-round.result)) author))
    c.deref-2.ensures.value
    ∙ ap (λ (t : ℕ). is_in old place author || (nat_le (t - c.number-round.result) place && is_in walked (place - (t - c.number-round.result)) author)) c.number-high.ensures.value
    ∙ ap (λ (t : ℕ). is_in old place author || (nat_le (c.args.top - t) place && is_in walked (place - (c.args.top - t)) author)) c.number-round.ensures.value)
    round other above below
