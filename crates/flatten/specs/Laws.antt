-- Laws of what leaders order: what stays right when a certificate is added, and what holds of each leader of a chain.
use Rattle.std.specs.Prelude.{◌≡◌, ◌<◌, ◌-◌, ℕ, true, List, ◌∷◌, ◌++◌, Option, Some, Ok, is_some}
use Rattle.spec_laws.specs.Laws.{last_or}
use Rattle.spec_model.specs.Words.{Author, Certificate}
use Rattle.dag.specs.Answer.{answer}
use Rattle.dag.specs.Changes.{IsWith}
use Rattle.dag.specs.Graph.{DagView, IsGraph, size_in, slots_in}
use Rattle.dag.specs.declared.answers.Added.TheVariants.{New}
use Rattle.flatten.specs.Lengthening.{LengtheningView, FitsTo}
use Rattle.flatten.specs.Segments.{leader_held, AreLinked, IsMarkedFor, IsMarkedBefore}
use Rattle.flatten.specs.Sets.{HasAllOf}

-- a new certificate of a member was added to a DAG
pub record Enters (before after : DagView) (certificate : Certificate) : Type 0 where
  pub graph : IsGraph before
  pub member : certificate.header.author.0 < size_in before
  pub new : answer before certificate ≡ Ok New
  pub with : IsWith before after certificate

-- A lengthening of the order that was computed in the DAG before a certificate came is also right after it, if the leaders are of rounds
-- below that of the new certificate.
abbrev pub MadeStays : Type 0
MadeStays = (before after : DagView) (certificate : Certificate) (made : LengtheningView) → Enters before after certificate → made.last.0 < certificate.header.round
    → FitsTo before made → FitsTo after made

-- A leader is in the DAG and reaches all that the leader before it reaches, and the leader before reaches all that is marked. Then
-- `segment` computes for this leader what the definition says that it orders.
pub record Follows (graph : DagView) (previous : Option (ℕ × Author)) (leader : ℕ × Author) : Type 0 where
  pub held : is_some (slots_in graph leader.0 leader.1.0) ≡ true
  pub all : (c : Certificate) → slots_in graph leader.0 leader.1.0 ≡ Some c → HasAllOf graph (leader_held graph previous) c
  pub marked : IsMarkedBefore graph (leader.0 - graph.charter.depth) (leader_held graph previous)

-- in a chain of linked leaders `Follows` holds of each leader and the one before it, if exactly what the leader before the first one
-- reaches is marked
abbrev pub EachFollows : Type 0
EachFollows = (graph : DagView) (previous : Option (ℕ × Author)) (front rest : List (ℕ × Author)) (leader : ℕ × Author) → IsGraph graph
    → AreLinked graph previous (front ++ leader ∷ rest) → IsMarkedFor graph previous (front ++ leader ∷ rest) → Follows graph (last_or previous front) leader
