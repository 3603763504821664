-- That records which are read one after the other are those of events, each new, and that such records are read.
use Rattle.std.proofs.Common.{◌≡◌, ℕ, inl, inr, true, List, [], ◌∷◌, length, map, get_or, drop, Option, Some, None, Result, Ok, Err, refl, sym, ap, ◌∙◌, subst, arith}
use Rattle.std.specs.Prelude.{All}
use Rattle.std.proofs.lemmas.Bool.{cases_Bool, and_parts, and_from}
use Rattle.std.proofs.lemmas.List.Elements.{All-nil, All-cons, All-head, All-tail}
use Rattle.journal.specs.declared.record.Record.{Record}
use Rattle.spec_machine.specs.After.{after_all, each_new_after}
use Rattle.spec_machine.specs.Machine.{after, answered}
use Rattle.spec_model.specs.Admitting.{is_new, IsTaken}
use Rattle.spec_model.specs.Histories.{History}
use Rattle.spec_model.specs.Nodes.{Node, IsNode}
use Rattle.spec_model.specs.States.{State}
use Rattle.spec_model.specs.Words.{Event}
use Rattle.spec_records.specs.Records.{record_of}
use Rattle.spec_world.specs.World.{bytes_of}
use Rattle.opening.specs.Decoded.{IsText, event_in, read_event, read_events}
use Rattle.opening.proofs.EventRecords.{record_read, read_record}
use Rattle.opening.proofs.Reporting.{read_none, read_new, read_old, read_nil, read_ok, read_err}

-- ---- one record

-- one result has one state
ok_is : (one other : State) → ◌≡◌ {A = Result State ℕ} (Ok one) (Ok other) → one ≡ other
ok_is one other same = cc

no_ok : (place : ℕ) (state : State) → ◌≡◌ {A = Result State ℕ} (Err place) (Ok state) → ⊥
no_ok place state same = cc

-- a state is that after another one and a record's event, which is new there
record IsNext (node : Node) (state : State) (one : Record) (later : State) : Type 0 where
  event : Event
  is_read : event_in node.charter one.bytes ≡ Some event
  new : is_new (answered node state event) ≡ true
  same : later ≡ after node state event

next_by : (node : Node) (state later : State) (one : Record) (found : Option Event) → event_in node.charter one.bytes ≡ found → read_event node state one ≡ Ok later
    → IsNext node state one later
next_by node state later one None none is = absurd (no_ok one.gate later (sym (read_none node state one (sym none)) ∙ is))
next_by node state later one (Some event) some is =
    elim (cases_Bool (is_new (answered node state event))) [
      | inl new ↦ record {
        event = event;
        is_read = some;
        new = new;
        same = ok_is later (after node state event) (sym is ∙ read_new node state one event (sym some) new);
      }
      | inr old ↦ absurd (no_ok one.gate later (sym (read_old node state one event (sym some) old) ∙ is))
    ]

next : (node : Node) (state later : State) (one : Record) → read_event node state one ≡ Ok later → IsNext node state one later
next node state later one is = next_by node state later one (event_in node.charter one.bytes) refl is

-- ---- one after the other

-- what lies between the first record and the others
record IsSplit (node : Node) (state : State) (one : Record) (rest : List Record) (later : State) : Type 0 where
  mid : State
  first : read_event node state one ≡ Ok mid
  others : read_events node mid rest ≡ Ok later

split_by : (node : Node) (state later : State) (one : Record) (rest : List Record) (read : Result State ℕ) → read_event node state one ≡ read
    → read_events node state (one ∷ rest) ≡ Ok later → IsSplit node state one rest later
split_by node state later one rest (Ok mid) first is = record { mid = mid; first = first; others = sym (read_ok node state mid one rest first) ∙ is }
split_by node state later one rest (Err place) first is = absurd (no_ok place later (sym (read_err node state one rest place first) ∙ is))

-- records are those of events that the node takes, each new after those before it from a state on
pub record AreEvents (node : Node) (state : State) (records : List Record) (events : History) : Type 0 where
  pub same : bytes_of records ≡ map record_of events
  pub taken : All (IsTaken node) events
  pub new : each_new_after node state events ≡ true

-- a state is that after another one and the events of these records
pub record IsLonger (node : Node) (state : State) (records : List Record) (later : State) : Type 0 where
  pub events : History
  pub parts : later ≡ after_all node state events
  pub are : AreEvents node state records events

longer : (node : Node) (state mid later : State) (one : Record) (rest : List Record) → IsText one → IsNext node state one mid → IsLonger node mid rest later
    → IsLonger node state (one ∷ rest) later
unfolding after_all each_new_after
longer node state mid later one rest text is more =
    let found = read_record node one.bytes is.event text is.is_read in
    record {
      events = is.event ∷ more.events;
      parts = more.parts ∙ ap (λ (s : State). after_all node s more.events) is.same;
      are = record {
        same = λ i. found.same i ∷ more.are.same i;
        taken = All-cons (IsTaken node) is.event more.events found.taken more.are.taken;
        new = and_from (is_new (answered node state is.event)) (each_new_after node (after node state is.event) more.events) is.new
            (subst (λ (s : State). each_new_after node s more.events ≡ true) is.same more.are.new);
      };
    }

pub read_back : (node : Node) (state later : State) (records : List Record) → All IsText records → read_events node state records ≡ Ok later → IsLonger node state records later
unfolding after_all each_new_after
read_back node state later [] texts is = record {
  events = [];
  parts = ok_is later state (sym is ∙ read_nil node state);
  are = record { same = refl; taken = All-nil (IsTaken node); new = refl };
}
read_back node state later (one ∷ rest) texts is =
    let parts = split_by node state later one rest (read_event node state one) refl is in
    longer node state parts.mid later one rest (All-head IsText one rest texts) (next node state parts.mid one parts.first)
    (read_back node parts.mid later rest (All-tail IsText one rest texts) parts.others)

-- and such records are read
pub read_whole : (node : Node) (state : State) (records : List Record) (events : History) → IsNode node → AreEvents node state records events
    → read_events node state records ≡ Ok (after_all node state events)
unfolding after_all each_new_after
read_whole node state [] [] sound are = read_nil node state
read_whole node state [] (event ∷ events) sound are = absurd (omega (arith, ap length are.same))
read_whole node state (one ∷ rest) [] sound are = absurd (omega (arith, ap length are.same))
read_whole node state (one ∷ rest) (event ∷ events) sound are =
    let taken = All-head (IsTaken node) event events are.taken in
    let bytes : one.bytes ≡ record_of event = ap (λ (l : List (List ℕ)). get_or l 0 []) are.same in
    let some : event_in node.charter one.bytes ≡ Some event = ap (event_in node.charter) bytes ∙ record_read node event sound taken in
    let parts = and_parts (is_new (answered node state event)) (each_new_after node (after node state event) events) are.new in
    let later : AreEvents node (after node state event) rest events = record {
      same = ap (λ (l : List (List ℕ)). drop 1 l) are.same;
      taken = All-tail (IsTaken node) event events are.taken;
      new = parts.1;
    } in
    read_ok node state (after node state event) one rest (read_new node state one event (sym some) parts.0)
    ∙ read_whole node (after node state event) rest events sound later
