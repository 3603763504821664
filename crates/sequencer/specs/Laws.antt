-- Laws of a sequencer: which events leave it as it is, and how its DAG agrees with histories.
use Rattle.std.specs.Prelude.{◌≡◌, ◌≤◌, ◌++◌, ℕ, List, None, ◌<◌, length, Ok, Some}
use Rattle.spec_laws.specs.Laws.{HoldsFrom, IsEnough}
use Rattle.spec_machine.specs.Laws.{SoundStays, StateStands, HeldIsEnoughNow, HeldIsEnoughAfter}
use Rattle.spec_machine.specs.Machine.{after, certificate_of}
use Rattle.spec_model.specs.Admitting.{IsLegal}
use Rattle.spec_model.specs.Histories.{History, as_coin}
use Rattle.spec_model.specs.Holdings.{floor, slots, ledger_of}
use Rattle.spec_model.specs.Nodes.{Node}
use Rattle.spec_model.specs.States.{State}
use Rattle.spec_model.specs.Words.{Certificate, Event}
use Rattle.dag.specs.Answer.{answer}
use Rattle.dag.specs.Graph.{DagView, size_in, slots_in}
use Rattle.dag.specs.declared.answers.Added.TheVariants.{New}
use Rattle.tusk.specs.Chain.{ledger_in}
use Rattle.sequencer.specs.Sequence.{SequencerView, IsAt, ComesTo}

-- after an event that adds neither a certificate nor a coin, the unchanged sequencer agrees with the state after the event
abbrev pub SequenceStays : Type 0
SequenceStays = (node : Node) (state : State) (event : Event) (sequence : SequencerView) → ComesTo node state event sequence
    → certificate_of node state event.message ≡ None → as_coin event.message ≡ None → IsAt node (after node state event) sequence

-- a certificate is new to the sequencer's DAG, its author is a member, and it names at least one parent
pub record IsNewTo (sequence : SequencerView) (certificate : Certificate) : Type 0 where
  pub new : answer sequence.graph certificate ≡ Ok New
  pub member : certificate.header.author.0 < size_in sequence.graph
  pub named : 0 < length certificate.header.parents

-- the certificate that a new event adds is new in this sense
abbrev pub CertificatesAreNew : Type 0
CertificatesAreNew = (node : Node) (state : State) (event : Event) (sequence : SequencerView) (certificate : Certificate) → ComesTo node state event sequence
    → certificate_of node state event.message ≡ Some certificate → IsNewTo sequence certificate

-- a DAG with the values of coins is a ledger of the node: all that the order depends on
abbrev pub IsLedgerOf : Type 0
IsLedgerOf = (node : Node) (graph : DagView) (values : List ℕ) → graph.charter ≡ node.charter → ledger_in graph values ≡ ledger_of node (slots_in graph) values

-- If a DAG has the certificates of a legal history from a round on that is not above the floor of a prefix of it, then leaders, support,
-- the last committed wave, the floor, and what the leaders order are the same by the DAG as by the history.
abbrev pub DagIsEnough : Type 0
DagIsEnough = (node : Node) (before more : History) (low : ℕ) (graph : DagView) → IsLegal node (before ++ more) → low ≤ floor node before
    → HoldsFrom low (slots_in graph) (slots node (before ++ more)) → IsEnough node before (before ++ more) low (slots_in graph)

-- the laws of the state machine about the state after an event, as this crate needs them
pub record AreKnown : Type 0 where
  pub sound_stays : SoundStays
  pub state_stands : StateStands
  pub enough_now : HeldIsEnoughNow
  pub enough_after : HeldIsEnoughAfter
