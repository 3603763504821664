-- Each of leaders that are linked follows the one before it.
use Rattle.std.proofs.Common.{◌≡◌, ℕ, ◌-◌, ◌≤◌, true, List, [], ◌∷◌, ◌++◌, Option, Some, inl, inr, ap, sym, ◌∙◌, subst, arith}
use Rattle.std.specs.Prelude.{is_some}
use Rattle.std.proofs.lemmas.Bool.{true≢false}
use Rattle.spec_laws.proofs.Lists.{given_or_none}
use Rattle.spec_laws.specs.Laws.{last_or}
use Rattle.spec_model.specs.Ordering.{is_past}
use Rattle.spec_model.specs.Words.{Author, Certificate}
use Rattle.dag.specs.Graph.{DagView, IsGraph, slots_in}
use Rattle.tusk.specs.Chain.{ledger_in}
use Rattle.flatten.proofs.Leaders.{has_all, link_above}
use Rattle.flatten.proofs.Taking.{past_before}
use Rattle.flatten.specs.Laws.{EachFollows}
use Rattle.flatten.specs.Segments.{leader_held, AreLinked, IsMarkedPast, IsMarkedFor}

-- those after a beginning are linked
linked_after : (graph : DagView) (previous : Option (ℕ × Author)) (front back : List (ℕ × Author)) → AreLinked graph previous (front ++ back) → AreLinked graph (last_or previous front) back
linked_after graph previous [] back linked = linked
linked_after graph previous (first ∷ front) back linked = linked_after graph (Some first) front back linked.2

-- a later leader reaches all that an earlier one does
all_after : (graph : DagView) → IsGraph graph → (previous : Option (ℕ × Author)) (front back : List (ℕ × Author))
    → AreLinked graph previous (front ++ back) → (round author : ℕ) (e : Certificate) → slots_in graph round author ≡ Some e
    → is_past (ledger_in graph []) (leader_held graph previous) e ≡ true → is_past (ledger_in graph []) (leader_held graph (last_or previous front)) e ≡ true
all_after graph is previous [] back linked round author e held past = past
all_after graph is previous (first ∷ front) back linked round author e held past =
    elim (given_or_none (slots_in graph first.0 first.1.0)) [
      | inr none ↦ absurd (true≢false (sym linked.0 ∙ ap (λ (o : Option Certificate). is_some o) none))
      | inl c ↦
          let here = has_all graph is previous first c.0 c.1 linked.1 round author e held past in
          all_after graph is (Some first) front back linked.2 round author e held (subst (λ p. is_past (ledger_in graph []) p e ≡ true) (sym c.1) here)
    ]

-- and isn't below it
not_under : (graph : DagView) → IsGraph graph → (first : ℕ × Author) (front rest : List (ℕ × Author)) (leader : ℕ × Author) → AreLinked graph (Some first) (front ++ leader ∷ rest) → first.0 ≤ leader.0
not_under graph is first [] rest leader linked = link_above graph is first leader linked.1
not_under graph is first (next ∷ front) rest leader linked =
    let here = link_above graph is first next linked.1 in
    let later = not_under graph is next front rest leader linked.2 in
    omega (arith, here, later)

-- the marks of the first are those of each
marks_of : (graph : DagView) → IsGraph graph → (previous : Option (ℕ × Author)) (front rest : List (ℕ × Author)) (leader : ℕ × Author)
    → AreLinked graph previous (front ++ leader ∷ rest) → IsMarkedFor graph previous (front ++ leader ∷ rest)
    → IsMarkedPast graph (leader.0 - graph.charter.depth) (leader_held graph previous)
marks_of graph is previous [] rest leader linked marks = marks
marks_of graph is previous (first ∷ front) rest leader linked marks =
    let above = not_under graph is first front rest leader linked.2 in
    λ round author c from held. marks round author c (omega (arith, from, above)) held

pub each_follows : EachFollows
each_follows graph previous front rest leader is linked marks =
    let here = linked_after graph previous front (leader ∷ rest) linked in
    record {
      held = here.0;
      all = λ c held. has_all graph is (last_or previous front) leader c held here.1;
      marked = past_before graph is (leader.0 - graph.charter.depth) (leader_held graph previous) (leader_held graph (last_or previous front))
          (marks_of graph is previous front rest leader linked marks)
          (all_after graph is previous front (leader ∷ rest) linked);
    }
