-- The text of a script: what a node of one owner writes while it carries out commands, one after the other.
use Rattle.std.specs.Prelude.{ℕ, ◌+◌, nat_le, ◌&&◌, not, Bool, List, [], ◌∷◌, ◌++◌, map, length, drop, if◌then◌else◌}
use Rattle.std.specs.List.{filter, flat_map}
use Rattle.journal.specs.Format.{body_len}
use Rattle.journal.specs.declared.layout.TheConstants.{MAX_GROUP_BYTES, MAX_GROUP_RECORDS}
use Rattle.spec_machine.specs.After.{after_all}
use Rattle.spec_machine.specs.Machine.{answered}
use Rattle.spec_model.specs.Histories.{History}
use Rattle.spec_model.specs.Nodes.{Node}
use Rattle.spec_model.specs.States.{State}
use Rattle.spec_model.specs.Words.{Event}
use Rattle.header.specs.declared.admission.Admission.{Admission}
use Rattle.header.specs.declared.admission.Admission.TheVariants.{New, Known, Refused}
use Rattle.spec_records.specs.Records.{record_of}
use Rattle.wire.specs.Outputs.{frame_of}
use Rattle.spec_world.specs.World.{Waiting}
use Rattle.spec_world.specs.Steps.{ticketed}

-- A command to a node. take_in: an event comes in. flush: the longest group of pending events that fits is settled. The others: all
-- accepted events are settled by a checkpoint; the machine stops, and the node is opened again.
pub data Command : Type 0 where
  take_in : Event → Command
  flush : Command
  checkpoint : Command
  stop : Command

-- A desk, the state of a script's node between two commands: the state with which this run began (its base), the events that the run
-- accepted, those that are settled, and the outputs that wait, each with its ticket.
pub record Desk : Type 0 where
  pub base : State
  pub accepted : History
  pub settled : History
  pub waiting : List Waiting

-- the desk of a run that has just begun with this state
abbrev pub desk_on : State → Desk
desk_on base = record { base = base; accepted = []; settled = []; waiting = [] }

-- the state after all events that the run accepted; settled_in: the state after those that are settled
abbrev pub state_in : Node → Desk → State
state_in node desk = after_all node desk.base desk.accepted

abbrev pub settled_in : Node → Desk → State
settled_in node desk = after_all node desk.base desk.settled

-- ---- what a command does to a desk

-- The desk after an event with this answer. New: the event is accepted, and its outputs wait until it is settled. Known: the outputs wait
-- until all accepted events are settled. Refused: nothing changes
abbrev pub with_answer : Desk → Event → Admission → Desk
with_answer desk event (New outputs) = record desk {
  accepted = desk.accepted ++ event ∷ [];
  waiting = desk.waiting ++ ticketed (length desk.accepted + 1) outputs;
}
with_answer desk event (Known outputs) = record desk { waiting = desk.waiting ++ ticketed (length desk.accepted) outputs }
with_answer desk event (Refused refusal) = desk

-- these records are within the limits of a group
abbrev pub fits_group : List (List ℕ) → Bool
fits_group records = nat_le 1 (length records) && (nat_le (length records) MAX_GROUP_RECORDS && nat_le (body_len records) MAX_GROUP_BYTES)

-- a group of events, extended by the first of these events for as long as the records fit a group
unfoldable pub filled : History → History → History
filled group [] = group
filled group (event ∷ events) = if fits_group (map record_of (group ++ event ∷ [])) then filled (group ++ event ∷ []) events else group

-- the longest prefix of these events whose records fit a group
abbrev pub group_of : History → History
group_of events = filled [] events

-- the desk after a flush: the longest group of accepted events that aren't settled yet is settled
abbrev pub flushed : Desk → Desk
flushed desk = record desk { settled = desk.settled ++ group_of (drop (length desk.settled) desk.accepted) }

-- the desk after a command, before any output is written
unfoldable pub after : Node → Desk → Command → Desk
after node desk (take_in event) = with_answer desk event (answered node (state_in node desk) event)
after node desk flush = flushed desk
after node desk checkpoint = record desk { settled = desk.accepted }
after node desk stop = desk_on (settled_in node desk)

-- ---- what a script writes

-- an output is due: as many events are settled as its ticket says
abbrev pub is_due : Desk → Waiting → Bool
is_due desk waiting = nat_le waiting.ticket (length desk.settled)

-- the outputs at a desk that are due; without_due: the desk once they were written
abbrev pub due : Desk → List Waiting
due desk = filter (λ waiting. is_due desk waiting) desk.waiting

abbrev pub without_due : Desk → Desk
without_due desk = record desk { waiting = filter (λ waiting. not (is_due desk waiting)) desk.waiting }

abbrev pub frames : List Waiting → List ℕ
frames waiting = flat_map (λ one. frame_of one.output) waiting

-- the desk after a command, once the outputs that are then due were written
abbrev pub carried_out : Node → Desk → Command → Desk
carried_out node desk command = without_due (after node desk command)

-- the bytes that a list of commands writes: after each command, the frames of the outputs that are then due, in their order
unfoldable pub text : Node → Desk → List Command → List ℕ
text node desk [] = []
text node desk (command ∷ commands) = frames (due (after node desk command)) ++ text node (carried_out node desk command) commands

-- the desk after a list of commands, with all due outputs written
unfoldable pub desk_after : Node → Desk → List Command → Desk
desk_after node desk [] = desk
desk_after node desk (command ∷ commands) = desk_after node (carried_out node desk command) commands
