-- Whom a leader orders, round by round downwards.
use Rattle.std.proofs.Common.{◌≡◌, ℕ, zero, suc, ◌+◌, ◌-◌, ◌<◌, ◌≤◌, Bool, true, false, cond, [], Option, Some, inl, inr, refl, ap, sym, ◌∙◌, arith}
use Rattle.std.proofs.Math.Path.{fun_ext}
use Rattle.std.specs.Prelude.{not, is_some, ◌&&◌, sum_by}
use Rattle.std.specs.List.{list_any, range_with_len}
use Rattle.std.proofs.lemmas.List.Sums.{sum_by-cons, sum_by-append}
use Rattle.std.proofs.lemmas.Bool.{and_parts, and_from, true≢false}
use Rattle.committee.specs.Charter.{numbers}
use Rattle.spec_model.specs.Ordering.{is_past}
use Rattle.spec_model.specs.Words.{Certificate}
use Rattle.spec_laws.proofs.Lists.{given_or_none}
use Rattle.spec_laws.proofs.Meeting.{any_to}
use Rattle.spec_laws.proofs.Votes.{slot_is}
use Rattle.dag.specs.Graph.{DagView, IsGraph, slots_in, size_in, has_parent_in, reaches_in, is_parent_of, references_at, references_of}
use Rattle.dag.proofs.Paths.{in_round}
use Rattle.dag.proofs.Tests.{same_test, any_from}
use Rattle.dag.proofs.Walking.{parent_of, one_down, past_on}
use Rattle.tusk.specs.Chain.{ledger_in}
use Rattle.flatten.specs.Sets.{orders_in, AreClosed, AreUnordered}
use Rattle.flatten.proofs.Ranges.{any_none, range_parts, sum_zero, sums_none}

-- ---- what has a parent that no leader has ordered yet isn't ordered yet either

not_true : (b : Bool) → not b ≡ true → b ≡ false
not_true true bad = sym bad
not_true false good = refl

true_not : (b : Bool) → (b ≡ true → ⊥) → not b ≡ true
true_not true never = absurd (never refl)
true_not false never = refl

pub are_closed : (graph : DagView) → IsGraph graph → (previous : Option Certificate) (from high top : ℕ) (free : ℕ → ℕ → Bool) → high ≤ top
    → AreUnordered graph previous from top free → AreClosed graph from high free
are_closed graph is previous from high top free within unordered round author other above below inside has =
    let found = parent_of graph (round + 1) author round other has in
    let place = slot_is round other found.parent.header (is.placed round other found.parent found.held_parent) in
    let member = is.of_members (round + 1) author found.child found.held_child in
    let new : not (is_past (ledger_in graph []) previous found.parent) ≡ true = sym (unordered round other found.parent above (omega (arith, below, within)) found.held_parent) ∙ inside in
    let level : slots_in graph (found.parent.header.round + 1) author ≡ Some found.child = ap (λ r. slots_in graph (r + 1) author) place.0 ∙ found.held_child in
    let inside' = in_round (size_in graph) (slots_in graph) (found.parent.header.round + 1) author found.child member level in
    unordered (round + 1) author found.child (omega (arith, above)) (omega (arith, below, within)) found.held_child
    ∙ true_not (is_past (ledger_in graph []) previous found.child)
    (λ past. true≢false (sym (past_on (ledger_in graph []) previous found.child found.parent inside' found.names past) ∙ not_true (is_past (ledger_in graph []) previous found.parent) new))

-- ---- the set of the round below

-- whoever is ordered of a round is a parent of one who is ordered of the round above
pub set_below : (graph : DagView) → IsGraph graph → (leader leader_author from : ℕ) (free : ℕ → ℕ → Bool) → AreClosed graph from leader free → (round other : ℕ) → from ≤ round → round < leader
    → (is_parent_of graph (round + 1) round (orders_in graph leader leader_author free (round + 1)) other && free round other) ≡ orders_in graph leader leader_author free round other
set_below graph is leader leader_author from free closed round other above lower =
    let test : ℕ → Bool = λ author. orders_in graph leader leader_author free (round + 1) author && has_parent_in graph (round + 1) author round other in
    let wide : ℕ → Bool = λ author. reaches_in graph leader leader_author (round + 1) author && has_parent_in graph (round + 1) author round other in
    let all = numbers (size_in graph) in
    let down = one_down graph is leader leader_author round other lower in
    same_test _ _
    (λ passes.
    let parts = and_parts (list_any test all) (free round other) passes in
    let found = any_to test all parts.0 in
    let parts' = and_parts (orders_in graph leader leader_author free (round + 1) found.0) (has_parent_in graph (round + 1) found.0 round other) found.2 in
    let reached = and_parts (reaches_in graph leader leader_author (round + 1) found.0) (free (round + 1) found.0) parts'.0 in
    and_from _ _ (sym down ∙ any_from wide all found.0 found.1 (and_from _ _ reached.0 parts'.1)) parts.1)
    (λ passes.
    let parts = and_parts (reaches_in graph leader leader_author round other) (free round other) passes in
    let found = any_to wide all (down ∙ parts.0) in
    let parts' = and_parts (reaches_in graph leader leader_author (round + 1) found.0) (has_parent_in graph (round + 1) found.0 round other) found.2 in
    let inside = closed round found.0 other above lower parts.1 parts'.1 in
    and_from _ _ (any_from test all found.0 found.1 (and_from _ _ (and_from _ _ parts'.0 inside) parts'.1)) parts.1)

-- ---- one round more

-- the set that is made of a round
pub next_orders : (graph : DagView) → IsGraph graph → (leader leader_author from : ℕ) (free : ℕ → ℕ → Bool) → AreClosed graph from leader free
    → (place : ℕ) (above : ℕ → Bool) → 0 < place → from + place ≤ leader
    → ((other : ℕ) → above other ≡ orders_in graph leader leader_author free (leader - (place - 1)) other) → (other : ℕ)
    → (is_parent_of graph (leader - place + 1) (leader - place) above other && free (leader - place) other) ≡ orders_in graph leader leader_author free (leader - place) other
next_orders graph is leader leader_author from free closed place above some within same other =
    let next : leader - (place - 1) ≡ leader - place + 1 = omega (arith, some, within) in
    let all : above ≡ orders_in graph leader leader_author free (leader - place + 1) = fun_ext (λ a. same a ∙ ap (λ r. orders_in graph leader leader_author free r a) next) in
    ap (λ (f : ℕ → Bool). is_parent_of graph (leader - place + 1) (leader - place) f other && free (leader - place) other) all
    ∙ set_below graph is leader leader_author from free closed (leader - place) other (omega (arith, within)) (omega (arith, some, within))

-- what was read of it
pub next_reads : (graph : DagView) (orders : ℕ → ℕ → Bool) (leader place old new : ℕ) (above : ℕ → Bool) → 0 < place → place ≤ leader
    → ((other : ℕ) → above other ≡ orders (leader - (place - 1)) other)
    → old ≡ sum_by (λ r. references_of graph r (orders r)) (range_with_len (leader + 2 - place) (place - 1)) → new ≡ old + references_of graph (leader - place + 1) above
    → new ≡ sum_by (λ r. references_of graph r (orders r)) (range_with_len (leader + 2 - (place + 1)) (place + 1 - 1))
next_reads graph orders leader place old new above some within same before more =
    let f : ℕ → ℕ = λ r. references_of graph r (orders r) in
    let next : leader - (place - 1) ≡ leader - place + 1 = omega (arith, some, within) in
    let all : above ≡ orders (leader - place + 1) = fun_ext (λ a. same a ∙ ap (λ r. orders r a) next) in
    let here : references_of graph (leader - place + 1) above ≡ f (leader - place + 1) = ap (references_of graph (leader - place + 1)) all in
    let from : leader + 2 - (place + 1) ≡ leader - place + 1 = omega (arith, within) in
    let count : place + 1 - 1 ≡ suc (place - 1) = omega (arith, some) in
    let rest : leader - place + 1 + 1 ≡ leader + 2 - place = omega (arith, within) in
    let sum : sum_by f (range_with_len (leader + 2 - (place + 1)) (place + 1 - 1)) ≡ f (leader - place + 1) + sum_by f (range_with_len (leader + 2 - place) (place - 1)) =
    ap (λ a. sum_by f (range_with_len a (place + 1 - 1))) from ∙ ap (λ n. sum_by f (range_with_len (leader - place + 1) n)) count
    ∙ sum_by-cons f (leader - place + 1) (range_with_len (leader - place + 1 + 1) (place - 1))
    ∙ ap (λ a. f (leader - place + 1) + sum_by f (range_with_len a (place - 1))) rest in
    omega (arith, before, more, here, sum)

-- ---- where nobody is left

-- where nobody is ordered of a round, nobody is of a lower one
pub none_further : (graph : DagView) → IsGraph graph → (leader leader_author from : ℕ) (free : ℕ → ℕ → Bool) → AreClosed graph from leader free → (round : ℕ) → round ≤ leader
    → ((other : ℕ) → orders_in graph leader leader_author free round other ≡ false) → (down : ℕ) → from + down ≤ round → (other : ℕ)
    → orders_in graph leader leader_author free (round - down) other ≡ false
none_further graph is leader leader_author from free closed round within none zero low other =
    let same : round - 0 ≡ round = omega arith in
    ap (λ r. orders_in graph leader leader_author free r other) same ∙ none other
none_further graph is leader leader_author from free closed round within none (suc down) low other =
    let above = none_further graph is leader leader_author from free closed round within none down (omega (arith, low)) in
    let next : round - down ≡ round - suc down + 1 = omega (arith, low) in
    let empty : list_any (λ a. orders_in graph leader leader_author free (round - suc down + 1) a && has_parent_in graph (round - suc down + 1) a
    (round - suc down) other) (numbers (size_in graph)) ≡ false =
    any_none (λ a. orders_in graph leader leader_author free (round - suc down + 1) a && has_parent_in graph (round - suc down + 1) a (round - suc down) other) (numbers (size_in graph))
    (λ a. ap (λ b. b && has_parent_in graph (round - suc down + 1) a (round - suc down) other) (ap (λ r. orders_in graph leader leader_author free r a) (sym next) ∙ above a)) in
    sym (set_below graph is leader leader_author from free closed (round - suc down) other (omega (arith, low)) (omega (arith, low, within)))
    ∙ ap (λ b. b && free (round - suc down) other) empty

-- of nobody nothing is read
pub none_read : (graph : DagView) (round : ℕ) (passes : ℕ → Bool) → ((a : ℕ) → passes a ≡ false) → references_of graph round passes ≡ 0
none_read graph round passes none = sum_zero (λ a. cond (passes a) (references_at graph round a) 0) (numbers (size_in graph)) (λ a. ap (λ b. cond b (references_at graph round a) 0) (none a))

-- what was read so far is all, where nobody is left
pub all_read : (graph : DagView) (orders : ℕ → ℕ → Bool) (leader place count reads : ℕ) → 0 < place → place ≤ count → count ≤ leader + 1
    → ((down other : ℕ) → down < count - place + 1 → orders ((leader - (place - 1)) - down) other ≡ false)
    → reads ≡ sum_by (λ r. references_of graph r (orders r)) (range_with_len (leader + 2 - place) (place - 1))
    → reads ≡ sum_by (λ r. references_of graph r (orders r)) (range_with_len (leader + 2 - count) (count - 1))
all_read graph orders leader place count reads some within few none so_far =
    let f : ℕ → ℕ = λ r. references_of graph r (orders r) in
    let parts : count - 1 ≡ (count - place) + (place - 1) = omega (arith, some, within) in
    let seam : (leader + 2 - count) + (count - place) ≡ leader + 2 - place = omega (arith, some, within, few) in
    let empty : sum_by f (range_with_len (leader + 2 - count) (count - place)) ≡ 0 =
    sums_none f (leader + 2 - count) (count - place)
    (λ r above below. none_read graph r (orders r)
    (λ a. let at : (leader - (place - 1)) - ((leader - (place - 1)) - r) ≡ r = omega (arith, above, below, some, within, few) in
    ap (λ q. orders q a) (sym at) ∙ none ((leader - (place - 1)) - r) a (omega (arith, above, below, some, within, few)))) in
    let whole : sum_by f (range_with_len (leader + 2 - count) (count - 1)) ≡ sum_by f (range_with_len (leader + 2 - count) (count - place)) + sum_by f
    (range_with_len (leader + 2 - place) (place - 1)) =
    ap (λ n. sum_by f (range_with_len (leader + 2 - count) n)) parts
    ∙ ap (sum_by f) (range_parts (leader + 2 - count) (count - place) (place - 1))
    ∙ sum_by-append f (range_with_len (leader + 2 - count) (count - place)) (range_with_len ((leader + 2 - count) + (count - place)) (place - 1))
    ∙ ap (λ a. sum_by f (range_with_len (leader + 2 - count) (count - place)) + sum_by f (range_with_len a (place - 1))) seam in
    omega (arith, so_far, empty, whole)

-- a leader that is held lies at the floor or above
pub floor_within : (graph : DagView) → IsGraph graph → (leader leader_author : ℕ) → is_some (slots_in graph leader leader_author) ≡ true → graph.floor ≤ leader
floor_within graph is leader leader_author held =
    elim (given_or_none (slots_in graph leader leader_author)) [
      | inl c ↦ is.above leader leader_author c.0 c.1
      | inr none ↦ absurd (true≢false (sym held ∙ ap (λ (o : Option Certificate). is_some o) none))
    ]
