-- A shared node, its seats, and the book under its lock.
use Rattle.std.specs.Prelude.{◌≡◌, ◌≤◌, ℕ, ◌+◌, List, length, map, take, drop, is_some, IfSome, true}
use Rattle.atomic_table.specs.Seated.{TableId}
use Rattle.admission.specs.declared.tables.Tables.{Tables}
use Rattle.spec_machine.specs.After.{after_all}
use Rattle.spec_model.specs.Histories.{History}
use Rattle.spec_model.specs.Nodes.{Node}
use Rattle.spec_model.specs.States.{State}
use Rattle.wire.specs.Lists.{Begins}
use Rattle.spec_records.specs.Records.{record_of}
use Rattle.validator.specs.Setting.{ConfigView, node_of}
use Rattle.validator.specs.Standing.{AreAtSound, StandSomewhere}
use Rattle.node_seats.specs.Sights.{SeatView}
use Rattle.node_seats.specs.Views.{events}
use Rattle.node_seats.specs.declared.view.Marked.{Marked}
use Rattle.node_seats.specs.declared.view.View.{View}
use Rattle.book.specs.Book.{BookView, Run, Stands, IsCheckpoint}
use Rattle.book.specs.Pending.{IsLongestBeginning}
use Rattle.node_shared.specs.declared.flush_seat.FlushSeat.{FlushSeat}
use Rattle.sigface.specs.Scheme.{Scheme}

-- what contracts see of a shared node: which words it has, the setting of its validator, and the tables that the validator had when the
-- node was made
pub record NodeView (S : Type 0) : Type 0 where
  pub table : TableId
  pub setting : ConfigView S
  pub begun : Tables

-- the state is a base of the node: the validator held this state when the node was made. Each node has exactly one base
-- (`Node::limits_hold`, `admission::one_state`)
abbrev pub IsBase : {S : Type 0} → Scheme S → NodeView S → State → Type 0
IsBase scheme node base = AreAtSound (node_of scheme node.setting) node.begun base

-- from each base of the node, these records are a checkpoint of the state after these events
abbrev pub IsCheckpointAfter : {S : Type 0} → Scheme S → NodeView S → List Marked → List (List ℕ) → Type 0
IsCheckpointAfter scheme node marked records =
    let member = node_of scheme node.setting in
    (base : State) → IsBase scheme node base → IsCheckpoint member (after_all member base (events marked)) records

-- a seat belongs to a node: it is at this node's words, wasn't merged into another seat, and knows its own number
pub record IsOf {S : Type 0} (node : NodeView S) (seat : SeatView) : Type 0 where
  pub table : seat.table ≡ node.table
  pub live : seat.view.live ≡ true
  pub numbered : seat.view.numbered ≡ true

-- the state after all events that a seat has seen, from this base; and the state after those that it knows as settled
abbrev pub seen_in : Node → State → SeatView → State
seen_in node base seat = after_all node base (events seat.view.seen)

abbrev pub durable_in : Node → State → SeatView → State
durable_in node base seat = after_all node base (events seat.view.durable)

-- A flush seat belongs to a node, and its counts are right. It counts as settled as many events as its seat knows as settled. It counts at
-- least as many as taken, all of which its seat has seen.
pub record IsFlushOf {S : Type 0} (node : NodeView S) (flush : FlushSeat) : Type 0 where
  pub of_node : IsOf node flush.seat
  pub settled : flush.settled ≡ length flush.seat.view.durable
  pub rising : flush.settled ≤ flush.taken
  pub seen : flush.taken ≤ length flush.seat.view.seen
  pub begins : Begins flush.seat.view.durable flush.seat.view.seen

-- the events that are taken; and the records of those among them that aren't settled
abbrev pub taken_by : FlushSeat → List Marked
taken_by flush = take flush.taken flush.seat.view.seen

abbrev pub group_of : FlushSeat → List (List ℕ)
group_of flush = map record_of (drop flush.settled (events (taken_by flush)))

-- The flush seat took this group when nothing was in flight: the longest prefix that fits a group of the events that it has seen and that
-- aren't settled.
pub record TakesNext (flush : FlushSeat) (group : List (List ℕ)) : Type 0 where
  pub rest : List (List ℕ)
  pub longest : IsLongestBeginning (map record_of (drop flush.settled (events flush.seat.view.seen))) group rest
  pub counts : flush.taken ≡ flush.settled + length group
  pub is : group ≡ group_of flush

-- the run, from this base, of a book whose own seat knows this much, when these events were taken
abbrev pub run_of : State → View → History → Run
run_of base view taken = record { base = base; accepted = events view.seen; taken = taken; settled = events view.durable }

-- if a rewriting is in flight, it settles all events that were taken
abbrev pub RewritesAllTaken : {S : Type 0} → BookView S → Type 0
RewritesAllTaken book = IfSome book.rewriting (λ count. count ≡ book.taken)

-- A book is at home in a node, which has a base. Both have the same setting. The book's own seat is one of the node's, and knows that the
-- node is down if the book is. From each base, the book stands at the run that accepted what this seat has seen and settled what it knows
-- as settled; what the run has taken is a list between these two.
pub record IsAtHome {S : Type 0} (scheme : Scheme S) (node : NodeView S) (seat : SeatView) (book : BookView S) : Type 0 where
  pub somewhere : StandSomewhere (node_of scheme node.setting) node.begun
  pub setting : book.validator.setting ≡ node.setting
  pub of_node : IsOf node seat
  pub taken : History
  pub stands : (base : State) → IsBase scheme node base → Stands (node_of scheme node.setting) (run_of base seat.view taken) book
  pub down : book.down ≡ true → seat.view.down ≡ true
  pub whole : RewritesAllTaken book

-- A flush seat is tied to a book that is at home in a node, and to the book's own seat: it knows exactly what that seat knows, and counts
-- as many taken and settled events as the book. A rewriting is in flight exactly if the flush seat says so.
pub record IsTied {S : Type 0} (node : NodeView S) (seat : SeatView) (book : BookView S) (flush : FlushSeat) : Type 0 where
  pub flush_of : IsFlushOf node flush
  pub seen : flush.seat.view.seen ≡ seat.view.seen
  pub durable : flush.seat.view.durable ≡ seat.view.durable
  pub settled : book.settled ≡ flush.settled
  pub taken : book.taken ≡ flush.taken
  pub rewriting : is_some book.rewriting ≡ flush.rewriting
