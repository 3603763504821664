-- What a commit of several leaders will add to the order and mark.
use Rattle.std.specs.Prelude.{◌≡◌, ℕ, ◌≤◌, List, [], Some, is_some, true}
use Rattle.committee.specs.declared.sets.MemberSet.{MemberSet}
use Rattle.spec_model.specs.Ordering.{is_past}
use Rattle.spec_model.specs.Words.{Author, Certificate, Digest}
use Rattle.dag.specs.Graph.{DagView, slots_in, marked_in}
use Rattle.tusk.specs.Chain.{ledger_in}
use Rattle.flatten.specs.Segments.{leader_held}
use Rattle.flatten.specs.Sets.{lowest_in, is_free, AreUnordered}

-- What is prepared for a commit of leaders: the digests that they order; round and author of the last one; the authors of the certificates
-- that they order, as a set for each round from the last leader's downwards; and how many references to parents were read.
pub record LengtheningView : Type 0 where
  pub digests : List Digest
  pub last : ℕ × Author
  pub ordered : List MemberSet
  pub reads : ℕ

-- What is prepared fits a DAG: the last leader is in it. In the rounds of which that leader may order certificates, exactly those that it
-- reaches are to be ordered or are marked; and it reaches all that is marked.
pub record FitsTo (graph : DagView) (made : LengtheningView) : Type 0 where
  pub held : is_some (slots_in graph made.last.0 made.last.1.0) ≡ true
  pub unordered : AreUnordered graph (leader_held graph (Some made.last)) (lowest_in graph made.last.0) made.last.0 (is_free graph made.last.0 made.ordered)
  pub marked : (round author : ℕ) (c : Certificate) → lowest_in graph made.last.0 ≤ round → slots_in graph round author ≡ Some c → marked_in graph round author ≡ true
      → is_past (ledger_in graph []) (leader_held graph (Some made.last)) c ≡ true
