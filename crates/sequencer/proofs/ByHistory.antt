-- A DAG that holds what a legal history holds from a round on has its leaders.
use Rattle.std.proofs.Common.{◌≡◌, ℕ, ◌++◌, ◌-◌, ◌*◌, true, List, map, Option, Some, None, ap, sym, ◌∙◌, arith}
use Rattle.std.specs.Prelude.{IfSome}
use Rattle.std.specs.Option.{option_map_or}
use Rattle.committee.specs.Charter.{Charter}
use Rattle.spec_laws.proofs.FromFloor.{held_is_enough}
use Rattle.spec_laws.proofs.Lengthening.{is_later}
use Rattle.spec_laws.proofs.OrderLonger.{is_top_of}
use Rattle.spec_laws.specs.Laws.{IsEnough}
use Rattle.spec_model.specs.Histories.{History, coins}
use Rattle.spec_model.specs.Holdings.{floor, ledger_of, ledger_at}
use Rattle.spec_model.specs.Nodes.{Node}
use Rattle.spec_model.specs.Ordering.{Ledger, leader, is_directly_committed, top, newer}
use Rattle.dag.specs.Graph.{DagView, slots_in}
use Rattle.tusk.specs.Chain.{ledger_in, slot_of, wave_of}
use Rattle.tusk.proofs.Chains.{is_based}
use Rattle.sequencer.specs.ByHistory.{HoldsHistory, ChainsByHistory}

-- the DAG's ledger is one of the node
pub ledger_is : (node : Node) (graph : DagView) (values : List ℕ) → graph.charter ≡ node.charter → ledger_in graph values ≡ ledger_of node (slots_in graph) values
ledger_is node graph values charter = ap (λ (x : Charter). let l : Ledger = record { charter = x; slots = slots_in graph; coins = values } in l) charter

pub enough_of : (node : Node) (before more : History) (low : ℕ) (graph : DagView) (last : Option ℕ) → HoldsHistory node before more low graph last
    → IsEnough node before (before ++ more) low (slots_in graph)
enough_of node before more low graph last holds = held_is_enough node before more low (slots_in graph) holds.legal holds.low_enough holds.held

-- the floor of a history by its last committed wave
pub floor_is : (node : Node) (history : History) (wave : ℕ) → top (ledger_at node history) ≡ Some wave → floor node history ≡ (2 * wave - 1) - node.charter.depth
floor_is node history wave is = ap (λ o. option_map_or (λ w. (2 * w - 1) - node.charter.depth) o 0) is

-- the last wave that was committed still is, by what the DAG holds
still_committed : (node : Node) (before more : History) (low : ℕ) (graph : DagView) (last greatest : Option ℕ) → HoldsHistory node before more low graph last → top (ledger_at node before) ≡ greatest
    → IfSome greatest (λ wave. is_directly_committed (ledger_in graph (coins (before ++ more))) wave ≡ true)
still_committed node before more low graph last None holds is = tt
still_committed node before more low graph last (Some wave) holds is =
    let later = before ++ more in
    let low_enough = holds.low_enough in
    let floor_at = floor_is node before wave is in
    let was = (is_top_of (ledger_at node before) _ wave is).is in
    ap (λ l. is_directly_committed l wave) (ledger_is node graph (coins later) holds.charter)
    ∙ (enough_of node before more low graph last holds).same.same_committed wave (omega (arith, low_enough, floor_at))
    ∙ (is_later node before more holds.legal).committed wave was

pub chains_by_history : ChainsByHistory
chains_by_history node before more low graph last holds =
    let later = before ++ more in
    let same = (enough_of node before more low graph last holds).same in
    let ledger = ledger_is node graph (coins later) holds.charter in
    let committed = still_committed node before more low graph last last holds holds.last_is in
    record {
      based = is_based graph (coins later) last holds.base committed;
      from = record { base = holds.base; committed = committed };
      same_leader = λ wave above. ap (λ l. leader l wave) ledger ∙ same.same_leader wave above;
      same_top = ap top ledger ∙ same.same_top;
      same_chain = λ chain is. is.newer
          ∙ ap (λ l. map slot_of (newer l (wave_of last))) ledger
          ∙ ap (λ o. map slot_of (newer (ledger_of node (slots_in graph) (coins later)) (wave_of o))) (sym holds.last_is)
          ∙ ap (map slot_of) same.same_newer;
    }
