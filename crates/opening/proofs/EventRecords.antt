-- That the record of an event is read as that event, and that an event which was read has that record.
use Rattle.std.proofs.Common.{◌≡◌, ℕ, ◌<◌, ◌^◌, inl, inr, true, cond, List, [], ◌∷◌, ◌++◌, length, Option, Some, None, Result, Ok, Err, refl, sym, ap, ◌∙◌, arith}
use Rattle.std.specs.Prelude.{is_none}
use Rattle.std.specs.Int.{w16, to_be_bytes}
use Rattle.std.proofs.lemmas.Bool.{cases_Bool, cases_eq, cases_lt, ltb-true}
use Rattle.std.proofs.lemmas.List.{get_or_past}
use Rattle.std.proofs.lemmas.List.Elements.{All-get_or}
use Rattle.std.proofs.lemmas.Nat.{from_be_bytes-to_be_bytes_2, be_bytes_2}
use Rattle.std.proofs.lemmas.Option.{same_Some, none-some}
use Rattle.committee.specs.Charter.{Charter}
use Rattle.diskmodel.specs.Outcomes.{AreBytes}
use Rattle.header.specs.Checks.{fault_of, accepts_all, is_member}
use Rattle.spec_model.specs.Admitting.{IsTaken}
use Rattle.spec_model.specs.Nodes.{Node, IsNode}
use Rattle.spec_model.specs.Words.{Author, Event, Message}
use Rattle.spec_records.specs.Records.{record_of}
use Rattle.wire.specs.Reading.{message_of}
use Rattle.wire.specs.Encoding.{encoding}
use Rattle.wire.specs.declared.error.WireError.{WireError}
use Rattle.wire_read.proofs.Messages.{is_encoded, is_read}
use Rattle.wire_read.proofs.Steps.{IsBytes, IsBytes-drop, IsBytes-take}
use Rattle.opening.specs.Decoded.{if_passed, checked_in, sender_in, event_in}
use Rattle.opening.proofs.Reporting.{event_short, event_other, event_is}

-- ---- an event's record is read

-- who sent what passed is a member
sender_is_member : (charter : Charter) (event : Event) → fault_of charter accepts_all event ≡ None → is_member charter event.sender ≡ true
sender_is_member charter event passed =
    elim (cases_Bool (is_member charter event.sender)) [
      | inl member ↦ member
      | inr none ↦ let fails = rw none at passed in absurd cc
    ]

-- and its number has two bytes
sender_fits : (node : Node) (event : Event) → IsNode node → IsTaken node event → event.sender.0 < 2 ^ 16
sender_fits node event sound taken =
    let below : event.sender.0 < length node.charter.keys = ltb-true _ _ (sender_is_member node.charter event taken.passed) in
    omega (arith, below, sound.charter.size)

passed_is : (charter : Charter) (event : Event) → fault_of charter accepts_all event ≡ None → if_passed charter event ≡ Some event
passed_is charter event passed = ap (λ f. cond (is_none f) (Some event) None) passed

pub record_read : (node : Node) (event : Event) → IsNode node → IsTaken node event → event_in node.charter (record_of event) ≡ Some event
record_read node event sound taken =
    let charter = node.charter in
    let text = encoding event.message in
    let sender : sender_in (record_of event) ≡ event.sender = λ i. record { 0 = from_be_bytes-to_be_bytes_2 event.sender.0 (sender_fits node event sound taken) i } in
    event_is charter (record_of event) (omega arith) refl
    ∙ (λ i. checked_in charter (sender i) (is_read event.message taken.message i))
    ∙ passed_is charter event taken.passed

-- ---- what is read is an event's record

-- what a read that passed says
record IsChecked (charter : Charter) (sender : Author) (read : Result Message WireError) (event : Event) : Type 0 where
  is_read : read ≡ Ok event.message
  sent : sender ≡ event.sender
  passed : fault_of charter accepts_all event ≡ None

tested : {X : Type 0} (fault : Option X) (one event : Event) → cond (is_none fault) (Some one) None ≡ Some event → (fault ≡ None) × (one ≡ event)
tested None one event is = (refl, same_Some one event is)
tested (Some x) one event is = absurd (none-some event is)

checked : (charter : Charter) (sender : Author) (read : Result Message WireError) (event : Event) → checked_in charter sender read ≡ Some event → IsChecked charter sender read event
checked charter sender (Ok message) event is =
    let one : Event = record { sender = sender; message = message } in
    let found = tested (fault_of charter accepts_all one) one event is in
    record {
      is_read = ap (λ (e : Event). Ok e.message) found.1;
      sent = ap (λ (e : Event). e.sender) found.1;
      passed = ap (λ e. fault_of charter accepts_all e) (sym found.1) ∙ found.0;
    }
checked charter sender (Err fault) event is = absurd (none-some event is)

-- a record that was read is this event's, as the node takes it
pub record IsRecord (node : Node) (bytes : List ℕ) (event : Event) : Type 0 where
  pub same : bytes ≡ record_of event
  pub taken : IsTaken node event

-- each place has a byte, or nothing
pub each_byte : (bytes : List ℕ) → AreBytes bytes → IsBytes bytes
each_byte bytes are i =
    elim (cases_lt i (length bytes)) [
      | inl below ↦ All-get_or (λ byte. byte < 256) bytes i 0 below are
      | inr past ↦ rw (get_or_past bytes i 0 past) (omega arith)
    ]

record_checked : (node : Node) (kind first second : ℕ) (text : List ℕ) (event : Event) → IsBytes (kind ∷ first ∷ second ∷ text) → kind ≡ 1
    → IsChecked node.charter (sender_in (kind ∷ first ∷ second ∷ text)) (message_of text) event → IsRecord node (kind ∷ first ∷ second ∷ text) event
record_checked node kind first second text event are kind_is is =
    let encoded = is_encoded text event.message (IsBytes-drop 3 (kind ∷ first ∷ second ∷ text) are) is.is_read in
    let sender : to_be_bytes w16 event.sender.0 ≡ first ∷ second ∷ [] =
    be_bytes_2 (first ∷ second ∷ []) event.sender.0 refl (IsBytes-take 2 (first ∷ second ∷ text) (IsBytes-drop 1 (kind ∷ first ∷ second ∷ text) are)) (ap (λ (a : Author). a.0) (sym is.sent)) in
    record {
      same = λ i. kind_is i ∷ (sym sender i ++ encoded.1 i);
      taken = record { message = encoded.0; passed = is.passed };
    }

pub read_record : (node : Node) (bytes : List ℕ) (event : Event) → AreBytes bytes → event_in node.charter bytes ≡ Some event → IsRecord node bytes event
read_record node [] event are is = absurd (none-some event (sym (event_short node.charter [] (omega arith)) ∙ is))
read_record node (kind ∷ []) event are is = absurd (none-some event (sym (event_short node.charter (kind ∷ []) (omega arith)) ∙ is))
read_record node (kind ∷ first ∷ []) event are is = absurd (none-some event (sym (event_short node.charter (kind ∷ first ∷ []) (omega arith)) ∙ is))
read_record node (kind ∷ first ∷ second ∷ text) event are is =
    let bytes = kind ∷ first ∷ second ∷ text in
    elim (cases_eq kind 1) [
      | inl kind_is ↦
          record_checked node kind first second text event (each_byte bytes are) kind_is
          (checked node.charter (sender_in bytes) (message_of text) event (sym (event_is node.charter bytes (omega arith) kind_is) ∙ is))
      | inr other ↦ absurd (none-some event (sym (event_other node.charter bytes (omega arith) other) ∙ is))
    ]
