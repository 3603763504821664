-- What is kept of a legal history with one more event is the state after that event.
use Rattle.std.proofs.Common.{[], ◌∷◌, ◌++◌, ap, sym, ◌∙◌, subst}
use Rattle.wire.specs.declared.message.Message.TheVariants as message
use Rattle.spec_model.specs.Giving.{collected}
use Rattle.spec_model.specs.Histories.{History}
use Rattle.spec_model.specs.Holdings.{slots, floor}
use Rattle.spec_model.specs.Nodes.{Node}
use Rattle.spec_model.specs.States.{whole}
use Rattle.spec_model.specs.Words.{Author, Event, Message}
use Rattle.spec_laws.proofs.Closed.{closed, extends, new_vote-high}
use Rattle.spec_laws.proofs.Growing.{Extends}
use Rattle.spec_laws.proofs.Legal.{Adds, legal-last}
use Rattle.spec_laws.proofs.OrderGrows.{members_some}
use Rattle.spec_machine.specs.Laws.{StateFollows}
use Rattle.spec_machine.proofs.Collected.{IsHigh, IsNext, collected_grows}
use Rattle.spec_machine.proofs.Grown.{slots_are, whole_grows}

is_high : (node : Node) (history : History) (sender : Author) (m : Message) → Adds node history (record { sender = sender; message = m }) → IsHigh (floor node history) m
is_high node history sender (message.Vote vote) adds = new_vote-high node history (whole node (history ++ record { sender = sender; message = message.Vote vote } ∷ [])) vote adds.new
is_high node history sender (message.Certificate certificate) adds = tt
is_high node history sender (message.Batch batch) adds = tt
is_high node history sender (message.BatchAck ack) adds = tt
is_high node history sender (message.Header header) adds = tt
is_high node history sender (message.Coin coin) adds = tt

pub is_next : (node : Node) (history : History) (event : Event) → Adds node history event → IsNext node (whole node history) event.message
is_next node history event adds = record {
  members = members_some node adds.legal.sound;
  extends = subst (Extends (slots node history)) (sym (slots_are node history event adds)) (extends node history event (closed node history adds.legal) adds);
  high = is_high node history event.sender event.message adds;
}

pub state_follows : StateFollows
state_follows node history event longer =
    let adds = legal-last node history event longer in
    ap (collected node) (sym (whole_grows node history event adds)) ∙ collected_grows node (whole node history) event.message (is_next node history event adds)
