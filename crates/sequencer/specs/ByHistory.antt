-- What a DAG that holds the certificates of a legal history from some round on has in common with that history.
use Rattle.std.specs.Prelude.{◌≡◌, ◌≤◌, ◌*◌, ◌-◌, ◌++◌, ℕ, List, ◌∷◌, map, Option, None, Some, option_map}
use Rattle.spec_laws.specs.Laws.{HoldsFrom, last_or, committed_at}
use Rattle.spec_model.specs.Admitting.{IsLegal}
use Rattle.spec_model.specs.Histories.{History, coins}
use Rattle.spec_model.specs.Holdings.{floor, slots, ledger_at}
use Rattle.spec_model.specs.Nodes.{Node}
use Rattle.spec_model.specs.Ordering.{leader, top, newer, last_wave, segment}
use Rattle.spec_model.specs.Words.{Author, Certificate}
use Rattle.dag.specs.Graph.{DagView, IsGraph, slots_in}
use Rattle.tusk.specs.Chain.{ledger_in, slot_of, base_of, IsBased, IsChain, IsFrom}
use Rattle.flatten.specs.Segments.{leader_held, AreLinked, IsMarkedPast, IsMarkedFor, IsMarkedBefore}
use Rattle.flatten.specs.Sets.{HasAllOf}

-- The DAG has the certificates of the legal history `before ++ more` from the round `low` on, which is not above the floor of `before`.
-- `last` is the last committed wave of `before`, if there is one; the DAG's base is the round of that wave's leader, or 1.
pub record HoldsHistory (node : Node) (before more : History) (low : ℕ) (graph : DagView) (last : Option ℕ) : Type 0 where
  pub legal : IsLegal node (before ++ more)
  pub graph_is : IsGraph graph
  pub charter : graph.charter ≡ node.charter
  pub low_enough : low ≤ floor node before
  pub held : HoldsFrom low (slots_in graph) (slots node (before ++ more))
  pub last_is : top (ledger_at node before) ≡ last
  pub base : graph.base ≡ base_of last

-- with the coins of the history, the DAG has the history's leaders, last committed wave, and chain of newer leaders
pub record ChainsAre (node : Node) (before later : History) (low : ℕ) (graph : DagView) (last : Option ℕ) : Type 0 where
  pub based : IsBased graph (coins later)
  pub from : IsFrom graph (coins later) last
  pub same_leader : (wave : ℕ) → low ≤ 2 * wave - 1 → leader (ledger_in graph (coins later)) wave ≡ leader (ledger_at node later) wave
  pub same_top : top (ledger_in graph (coins later)) ≡ top (ledger_at node later)
  pub same_chain : (chain : List (ℕ × Author)) → IsChain (ledger_in graph (coins later)) last chain
      → chain ≡ map slot_of (newer (ledger_at node later) (last_wave (ledger_at node before)))

-- a DAG that holds enough of a history has, with the history's coins, the chains of leaders that the history has
abbrev pub ChainsByHistory : Type 0
ChainsByHistory = (node : Node) (before more : History) (low : ℕ) (graph : DagView) (last : Option ℕ) → HoldsHistory node before more low graph last
    → ChainsAre node before (before ++ more) low graph last

-- the last leader that a history commits, if it commits one
abbrev pub last_leader_at : Node → History → Option Certificate
last_leader_at node history = last_or None (committed_at node history)

-- A leader is in the DAG. It reaches all that the leader before it reaches, and each marked certificate is one that the leader before it
-- reaches. After that leader it orders in the DAG just what it orders at the later history.
pub record OrdersAs (node : Node) (later : History) (graph : DagView) (previous : Option Certificate) (c : Certificate) : Type 0 where
  pub held : slots_in graph c.header.round c.header.author.0 ≡ Some c
  pub all : HasAllOf graph (leader_held graph (option_map slot_of previous)) c
  pub marked : IsMarkedBefore graph (c.header.round - graph.charter.depth) (leader_held graph (option_map slot_of previous))
  pub same_segment : (values : List ℕ) → segment (ledger_in graph values) (leader_held graph (option_map slot_of previous)) c ≡ segment (ledger_at node later) previous c

-- The newer leaders are a chain after the last leader of the earlier history, and what that one reaches is marked. Each of them orders what
-- it orders at the later history.
pub record OrdersAre (node : Node) (before later : History) (graph : DagView) : Type 0 where
  pub linked : AreLinked graph (option_map slot_of (last_leader_at node before)) (map slot_of (newer (ledger_at node later) (last_wave (ledger_at node before))))
  pub marked : IsMarkedFor graph (option_map slot_of (last_leader_at node before)) (map slot_of (newer (ledger_at node later) (last_wave (ledger_at node before))))
  pub each : (front rest : List Certificate) (c : Certificate) → newer (ledger_at node later) (last_wave (ledger_at node before)) ≡ front ++ c ∷ rest
      → OrdersAs node later graph (last_or (last_leader_at node before) front) c

-- The DAG orders what the later history orders, if it has the certificates of that history from a low enough round on, and if its marked
-- certificates from the floor on are exactly those that the last leader of the earlier history reaches.
abbrev pub OrdersByHistory : Type 0
OrdersByHistory = (node : Node) (before more : History) (low : ℕ) (graph : DagView) (last : Option ℕ) → HoldsHistory node before more low graph last
    → IsMarkedPast graph (floor node before) (last_leader_at node before) → OrdersAre node before (before ++ more) graph
