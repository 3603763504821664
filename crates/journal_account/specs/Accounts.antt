-- What the summary of a journal says: the state and the events that the bytes of the journal's two files are read as.
use Rattle.std.specs.Prelude.{◌≡◌, ℕ, ◌==◌, ◌++◌, List, [], ◌∷◌, length, map, Result, Ok, Option, Some, None, nat_le, if◌then◌else◌}
use Rattle.std.specs.Option.{option_and_then, option_map, option_map_or}
use Rattle.committee.specs.Charter.{Charter}
use Rattle.journal.specs.Areas.{Areas, head_in, stands_in}
use Rattle.journal.specs.declared.error.JournalError.{JournalError}
use Rattle.journal.specs.declared.layout.TheConstants.{SECOND_AREA}
use Rattle.journal.specs.declared.record.Record.{Record}
use Rattle.journal.specs.declared.side.Side.{Side}
use Rattle.journal.specs.declared.side.Side.TheVariants as sides
use Rattle.spec_checkpoint.specs.Data.{Checkpoint, KeptHeader, KeptVote, IsWritten}
use Rattle.spec_checkpoint.specs.Meaning.{state_in}
use Rattle.spec_machine.specs.After.{after_all, IsLegalAfter}
use Rattle.spec_machine.specs.Machine.{fresh, round_in}
use Rattle.spec_model.specs.Histories.{History, headers, as_header}
use Rattle.spec_model.specs.Nodes.{Node}
use Rattle.spec_model.specs.Slots.{header_digest}
use Rattle.spec_model.specs.States.{State, floor_in}
use Rattle.spec_model.specs.Words.{Digest, Event, Header}
use Rattle.spec_world.specs.World.{StandsFor}
use Rattle.opening.specs.Decoded.{event_in, events_part, own_fault, read_state, state_part, decoded_in, unless}
use Rattle.admission.specs.declared.tables.Tables.{Tables}
use Rattle.validator.specs.Standing.{AreAtSound}
use Rattle.journal_account.specs.declared.summary.Summary.{Summary}
use Rattle.journal_account.specs.declared.votes.Given.{Given}

-- ---- the parts of a journal's records: configuration, head, the state of a checkpoint, events

-- the records after a checkpoint's head; None if there is no head, which would be in the group of the first record
unfoldable pub after_head : Record → List Record → Option (List Record)
after_head first [] = None
after_head first (second ∷ rest) = if second.gate == first.gate then Some rest else None

-- the records of events: those after the first group and, if there is a checkpoint, after the records of its state
unfoldable pub events_in : List Record → List Record
events_in [] = []
events_in (first ∷ rest) = option_map_or events_part (after_head first rest) rest

-- the state with which a journal begins, given the records after the configuration: that of a checkpoint, or the fresh state
unfoldable pub base_of : Node → Record → List Record → Result State ℕ
base_of node first rest = option_map_or (λ records. read_state node first (state_part records)) (after_head first rest) (Ok (fresh node))

-- the state with which a journal begins, given all its records; or what is wrong with them
unfoldable pub base_in : Node → List Record → Result State JournalError
base_in node [] = Ok (fresh node)
base_in node (first ∷ rest) = unless (own_fault node first) (base_of node first rest)

-- the generation of the checkpoint with which the records begin; None if they begin with a configuration alone
unfoldable pub generation_in : List Record → Option ℕ
generation_in [] = None
generation_in (first ∷ []) = None
generation_in (first ∷ second ∷ rest) = if second.gate == first.gate then head_in second.bytes else None

-- which of the two files these records are from: the place of the first one shows that
unfoldable pub side_in : List Record → Side
side_in [] = sides.First
side_in (first ∷ rest) = if nat_le SECOND_AREA first.gate then sides.Second else sides.First

-- ---- what the bytes of a journal are read as

-- The bytes of a journal are read as a state and later events: its records begin with that state, and have these events, each of which is
-- new. The bytes stand for the state after the events and for no other state, and an opening of the node finds that state.
pub record IsReadAs (node : Node) (areas : Areas) (base : State) (events : History) : Type 0 where
  pub records : List Record
  pub stand : stands_in areas ≡ Ok records
  pub begins : base_in node records ≡ Ok base
  pub has : map (λ one. event_in node.charter one.bytes) (events_in records) ≡ map (λ event. Some event) events
  pub legal : IsLegalAfter node base events
  pub stands_for : StandsFor node areas (after_all node base events)
  pub one_state : (other : State) → StandsFor node areas other → other ≡ after_all node base events
  pub is_decoded : decoded_in node areas ≡ Ok (after_all node base events)

-- the two files are read as a state and events after it, and the validator's tables hold the state after these events
pub record IsReadAt (node : Node) (areas : Areas) (tables : Tables) : Type 0 where
  pub base : State
  pub events : History
  pub read_as : IsReadAs node areas base events
  pub at : AreAtSound node tables (after_all node base events)

-- ---- what the parts of a summary say

-- the numbers in the summary are those of the state and the events that the journal is read as
pub record Sums (node : Node) (areas : Areas) (summary : Summary) : Type 0 where
  pub base : State
  pub events : History
  pub read_as : IsReadAs node areas base events
  pub count : summary.events ≡ length events
  pub order : summary.order ≡ length (after_all node base events).order
  pub round : summary.round ≡ round_in node (after_all node base events)
  pub floor : summary.floor ≡ floor_in node (after_all node base events)
  pub checkpoint : summary.checkpoint ≡ option_map (λ generation. (generation, side_in read_as.records)) (generation_in read_as.records)

-- the vote that the node gives with a header that it takes; an own header counts as voted for
abbrev pub given_to : Header → Given
given_to header = record { author = header.body.author; round = header.body.round; digest = header_digest header.body }

-- the vote that the node gave at an event; None if the event is no header
abbrev pub given_by : Event → Option Given
given_by event = option_map given_to (as_header event.message)

-- the vote that the node gave at the event in a record; None if there is none
abbrev pub given_in : Charter → Record → Option Given
given_in charter one = option_and_then given_by (event_in charter one.bytes)

-- a vote in a checkpoint, for another member's header, as the summary gives it; given_as: the vote that an own header in a checkpoint
-- stands for
abbrev pub given_for : KeptVote → Given
given_for vote = record { author = record { 0 = vote.author }; round = vote.round; digest = vote.header }

abbrev pub given_as : KeptHeader → Given
given_as voted = given_to voted.header

-- `votes` are those in the checkpoint of a state: first the votes for other members' headers, then those for own headers
pub record AreKeptVotes (node : Node) (state : State) (votes : List Given) : Type 0 where
  pub checkpoint : Checkpoint
  pub written : IsWritten node checkpoint
  pub is : state_in node checkpoint ≡ state
  pub are : votes ≡ map given_for checkpoint.votes ++ map given_as checkpoint.headers

-- `votes` are all that the journal holds: first those of the state with which it begins, then those given at its events, in the order of
-- the events.
pub record AreVotes (node : Node) (areas : Areas) (votes : List Given) : Type 0 where
  pub base : State
  pub events : History
  pub read_as : IsReadAs node areas base events
  pub kept : List Given
  pub of_base : AreKeptVotes node base kept
  pub are : votes ≡ kept ++ map given_to (headers events)

-- `digests` are the order that the journal leads to: after the state with which it begins, and its events
pub record AreOrdered (node : Node) (areas : Areas) (digests : List Digest) : Type 0 where
  pub base : State
  pub events : History
  pub read_as : IsReadAs node areas base events
  pub are : digests ≡ (after_all node base events).order
