-- A cluster: the members of one committee, which of them are honest, and the world (the model of all runs) of each honest member.
use Rattle.std.specs.Prelude.{◌≡◌, ◌≢◌, ◌<◌, ℕ, Bool, true, List, [], ◌∷◌, length, None, Contains, ⊤}
use Rattle.committee.specs.Charter.{Charter}
use Rattle.header.specs.Checks.{Accepts, fault_of}
use Rattle.spec_model.specs.Nodes.{Node, IsNode}
use Rattle.spec_model.specs.Words.{Event}
use Rattle.spec_world.specs.World.{World, alone_on, run_on}
use Rattle.spec_world.specs.Runs.{AreKeys, first_bytes}
use Rattle.spec_world.specs.Steps.{Move, accept, IsStep, IsRun, IsFirst}

-- a cluster: the committee, the verifier that all use, who is honest, and what each honest member is as a node; nothing is said of the
-- other members
pub record Cluster : Type 0 where
  pub charter : Charter
  pub accepts : Accepts
  pub honest : ℕ → Bool
  pub node : ℕ → Node

-- for each honest member, by number, its world over all its runs
abbrev pub Worlds : Type 0
Worlds = ℕ → World

-- an honest member is a node of this committee, and has its own number
pub record IsMember (cluster : Cluster) (member : ℕ) : Type 0 where
  pub within : member < length cluster.charter.keys
  pub number : (cluster.node member).own.0 ≡ member
  pub charter : (cluster.node member).charter ≡ cluster.charter
  pub is : IsNode (cluster.node member)

abbrev pub AreMembers : Cluster → Type 0
AreMembers cluster = (member : ℕ) → cluster.honest member ≡ true → IsMember cluster member

-- ---- turns: steps of the members, one after the other

-- one step of one honest member, which is any move of its world
pub record Turn : Type 0 where
  pub member : ℕ
  pub move : Move

-- if the move lets an event in, that event passed the checks, with its signatures
abbrev pub Passes : Cluster → Move → Type 0
Passes cluster (accept event) = fault_of cluster.charter cluster.accepts event ≡ None
Passes cluster _ = ⊤

-- the world of one honest member makes a move, and the worlds of the others stay as they are
pub record IsTurn (cluster : Cluster) (worlds : Worlds) (turn : Turn) (next : Worlds) : Type 0 where
  pub honest : cluster.honest turn.member ≡ true
  pub passed : Passes cluster turn.move
  pub step : IsStep (cluster.node turn.member) (worlds turn.member) turn.move (next turn.member)
  pub others : (other : ℕ) → other ≢ turn.member → next other ≡ worlds other

-- each honest member begins on empty disks, one or two, and has given nothing out
abbrev pub Begin : Cluster → Worlds → Type 0
Begin cluster worlds = (member : ℕ) → cluster.honest member ≡ true → IsFirst (cluster.node member) (worlds member)

-- these turns, one after the other, lead from the worlds `worlds` to the worlds `last`, and what is assumed of each turn holds in the
-- worlds before it
abbrev pub Leads : Cluster → (Worlds → Turn → Type 0) → Worlds → List Turn → Worlds → Type 0
Leads cluster Assumed worlds [] last = worlds ≡ last
Leads cluster Assumed worlds (turn ∷ turns) last = (next : Worlds) × Assumed worlds turn × IsTurn cluster worlds turn next × Leads cluster Assumed next turns last

pub record IsReached (cluster : Cluster) (Assumed : Worlds → Turn → Type 0) (turns : List Turn) (worlds : Worlds) : Type 0 where
  pub first : Worlds
  pub begins : Begin cluster first
  pub leads : Leads cluster Assumed first turns worlds

-- ---- runs side by side: nothing is said of the order of different members' steps

-- the world of each honest member was reached by a run of its own, and each event that came in during that run meets `Comes`
pub record HaveRun (cluster : Cluster) (Comes : Event → Type 0) (worlds : Worlds) : Type 0 where
  pub moves : ℕ → List Move
  pub runs : (member : ℕ) → cluster.honest member ≡ true → IsRun (cluster.node member) (moves member) (worlds member)
  pub came : (member : ℕ) → cluster.honest member ≡ true → (event : Event) → Contains (moves member) (accept event) → Comes event

-- if each key has 32 bytes, the honest members can begin, each on what an opening makes of an empty disk
abbrev pub ClustersBegin : Type 0
ClustersBegin = (cluster : Cluster) → AreMembers cluster → ((member : ℕ) → cluster.honest member ≡ true → AreKeys (cluster.node member))
    → Begin cluster (λ member. run_on (alone_on (first_bytes (cluster.node member))) [] [])
