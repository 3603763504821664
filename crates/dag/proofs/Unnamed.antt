-- Where a certificate enters that nothing held names as a parent.
use Rattle.std.proofs.Common.{◌≡◌, ℕ, ◌+◌, ◌<◌, ◌≤◌, false, Some, None, inl, inr, sym, ◌∙◌, arith}
use Rattle.std.proofs.lemmas.Bool.{cases_Bool, true≢false}
use Rattle.spec_model.specs.Holdings.{is_low}
use Rattle.spec_model.specs.Slots.{is_parent}
use Rattle.spec_model.specs.Words.{Certificate}
use Rattle.spec_laws.proofs.Closed.{low_parent}
use Rattle.spec_laws.proofs.Lists.{given_or_none}
use Rattle.spec_laws.proofs.Votes.{slot_is}
use Rattle.dag.specs.Graph.{DagView, IsGraph, placed_at, slots_in, end_in}
use Rattle.dag.proofs.Entries.{round_below}
use Rattle.dag.proofs.Paths.{parent_below}

-- what is held lies below the end
pub held_below : (graph : DagView) (round author : ℕ) (held : Certificate) → slots_in graph round author ≡ Some held → round < end_in graph
held_below graph round author held is =
    elim (given_or_none (placed_at graph round author)) [
      | inl placed ↦ round_below graph.floor graph.rounds round author placed.0 placed.1
      | inr none ↦ let bad = rw none at is in absurd cc
    ]

-- one that isn't low, whose slot holds nothing
pub unnamed_high : (graph : DagView) (c : Certificate) → IsGraph graph → is_low graph.floor c.header.round ≡ false → slots_in graph c.header.round c.header.author.0 ≡ None
    → (round author : ℕ) (held : Certificate) → slots_in graph round author ≡ Some held → is_parent c held ≡ false
unnamed_high graph c is high free round author held there =
    elim (cases_Bool (is_parent c held)) [
      | inr not ↦ not
      | inl names ↦ absurd (true≢false (sym (low_parent (slots_in graph) graph.floor c held (is.held round author held there) free names) ∙ high))
    ]

-- one of the last round that has a row, or of a later one
pub unnamed_last : (graph : DagView) (c : Certificate) → IsGraph graph → end_in graph ≤ c.header.round + 1
    → (round author : ℕ) (held : Certificate) → slots_in graph round author ≡ Some held → is_parent c held ≡ false
unnamed_last graph c is last round author held there =
    elim (cases_Bool (is_parent c held)) [
      | inr not ↦ not
      | inl names ↦
          let above = parent_below c held names in
          let round_is : held.header.round ≡ round = (slot_is round author held.header (is.placed round author held there)).0 in
          absurd (omega (arith, above, round_is, last, held_below graph round author held there))
    ]
