-- What bytes are told as with a group of new events more.
use Rattle.std.proofs.Common.{◌≡◌, ◌≢◌, ℕ, ◌-◌, ◌<◌, ◌≤◌, ◌^◌, Bool, true, false, cond, inl, inr, List, [], ◌∷◌, ◌++◌, length, map, Option, Some}
use Rattle.std.proofs.Common.{None, Result, Ok, Err, refl, sym, ap, ◌∙◌, arith}
use Rattle.std.specs.Prelude.{All, nat_lt}
use Rattle.std.specs.Int.{w16, to_be_bytes, from_be_bytes}
use Rattle.std.proofs.lemmas.Bool.{cases_Bool, cases_lt, and_parts, and_from, lt-ltb, ltb-true}
use Rattle.std.proofs.lemmas.List.Elements.{All-head, All-tail}
use Rattle.std.proofs.lemmas.List.Folds.{list_all-append}
use Rattle.std.proofs.lemmas.Nat.{from_be_bytes-to_be_bytes_2}
use Rattle.committee.specs.Charter.{Charter, IsCharter}
use Rattle.header.specs.Checks.{fault_of, accepts_all, is_member}
use Rattle.journal.specs.Format.{kept_at, kept, stands}
use Rattle.journal.specs.Journal.{with_group, stands_with}
use Rattle.journal.specs.declared.error.JournalError.{JournalError}
use Rattle.journal.specs.declared.error.JournalError.TheVariants.{Damaged}
use Rattle.journal.specs.declared.record.Record.{Record}
use Rattle.journal.proofs.Walks.{stands_short}
use Rattle.spec_machine.specs.After.{after_all, each_new_after, IsLegalAfter}
use Rattle.spec_machine.specs.Machine.{after, answered, fresh}
use Rattle.spec_model.specs.Admitting.{is_new, IsTaken}
use Rattle.spec_model.specs.Histories.{History}
use Rattle.spec_model.specs.Nodes.{Node, IsNode}
use Rattle.spec_model.specs.States.{State}
use Rattle.spec_model.specs.Words.{Event}
use Rattle.spec_records.specs.Records.{record_of}
use Rattle.journal.specs.declared.version.Version.{Version}
use Rattle.wire_read.proofs.Messages.{is_read}
use Rattle.opening.specs.Decoded.{checked_in, if_passed, sender_in, event_in, read_event, read_events, unless, is_alone, is_own, first_fault, decoded}
use Rattle.journal.specs.Configuration.{shaped_version}
use Rattle.opening.proofs.Reporting.{event_is, read_new, read_nil, read_ok, read_err, journal_cons, decoded_records, decoded_damaged, ok_decoded, by_version}

-- ---- the record of an event

-- who sent what passed is a member
sender_is_member : (charter : Charter) (event : Event) → fault_of charter accepts_all event ≡ None → is_member charter event.sender ≡ true
sender_is_member charter event passed =
    elim (cases_Bool (is_member charter event.sender)) [
      | inl member ↦ member
      | inr none ↦ let fails = rw none at passed in absurd cc
    ]

sender_fits : (charter : Charter) (event : Event) → IsCharter charter → fault_of charter accepts_all event ≡ None → event.sender.0 < 2 ^ 16
sender_fits charter event sound passed =
    let below : event.sender.0 < length charter.keys = ltb-true _ _ (sender_is_member charter event passed) in
    omega (arith, below, sound.size)

passes : (charter : Charter) (event : Event) → fault_of charter accepts_all event ≡ None → if_passed charter event ≡ Some event
passes charter event passed = rw passed refl

-- it has the event
event_written : (node : Node) (event : Event) → IsNode node → IsTaken node event → event_in node.charter (record_of event) ≡ Some event
event_written node event sound taken =
    let bytes = record_of event in
    let sender = event.sender.0 in
    let long : 3 ≤ length bytes = omega arith in
    let number : from_be_bytes w16 (to_be_bytes w16 sender) ≡ sender = from_be_bytes-to_be_bytes_2 sender (sender_fits node.charter event sound.charter taken.passed) in
    event_is node.charter bytes long refl
    ∙ ap (checked_in node.charter (sender_in bytes)) (is_read event.message taken.message)
    ∙ ap (λ (n : ℕ). if_passed node.charter (record { sender = record { 0 = n }; message = event.message })) number
    ∙ passes node.charter event taken.passed

-- ---- readings

ok_state : (a b : State) → ◌≡◌ {A = Result State ℕ} (Ok a) (Ok b) → a ≡ b
ok_state a b same = cc

failed_read : (place : ℕ) (state : State) → ◌≡◌ {A = Result State ℕ} (Err place) (Ok state) → ⊥
failed_read place state same = cc

read_first : (node : Node) (state later : State) (first : Record) (one other : List Record) → read_events node state (first ∷ one) ≡ Ok later
    → (r : Result State ℕ) → read_event node state first ≡ r
    → ((next : State) → read_events node next one ≡ Ok later → read_events node next (one ++ other) ≡ read_events node later other)
    → read_events node state (first ∷ one ++ other) ≡ read_events node later other
read_first node state later first one other is (Ok next) e goes = read_ok node state next first (one ++ other) e ∙ goes next (sym (read_ok node state next first one e) ∙ is)
read_first node state later first one other is (Err place) e goes = absurd (failed_read place later (sym (read_err node state first one place e) ∙ is))

-- a reading goes on after what was read
read_append : (node : Node) (state later : State) (one other : List Record) → read_events node state one ≡ Ok later → read_events node state (one ++ other) ≡ read_events node later other
read_append node state later [] other is = ap (λ (s : State). read_events node s other) (ok_state state later (sym (read_nil node state) ∙ is))
read_append node state later (first ∷ one) other is =
    read_first node state later first one other is (read_event node state first) refl (λ next. read_append node next later one other)

-- the records of new events are read as these events
read_written : (node : Node) (gate : ℕ) (state : State) (more : History) → IsNode node → All (IsTaken node) more → each_new_after node state more ≡ true
    → read_events node state (kept gate (map record_of more)) ≡ Ok (after_all node state more)
unfolding after_all each_new_after
read_written node gate state [] sound taken new = read_nil node state
read_written node gate state (event ∷ more) sound taken new =
    let parts = and_parts (is_new (answered node state event)) (each_new_after node (after node state event) more) new in
    let found : Some event ≡ event_in node.charter (record_of event) = sym (event_written node event sound (All-head (IsTaken node) event more taken)) in
    let first : read_event node state (kept_at gate (record_of event)) ≡ Ok (after node state event) = read_new node state (kept_at gate (record_of event)) event found parts.0 in
    read_ok node state (after node state event) (kept_at gate (record_of event)) (kept gate (map record_of more)) first
    ∙ read_written node gate (after node state event) more sound (All-tail (IsTaken node) event more taken) parts.1

-- ---- a first record without a fault

-- what was read without a fault
unless_ok : (fault : Option JournalError) (read : Result State ℕ) (state : State) → unless fault read ≡ Ok state → (fault ≡ None) × (read ≡ Ok state)
unless_ok (Some error) read state is = absurd (cc)
unless_ok None (Ok found) state is = (refl, is_found found state is)
  where
    is_found : (a b : State) → ◌≡◌ {A = Result State JournalError} (Ok a) (Ok b) → ◌≡◌ {A = Result State ℕ} (Ok a) (Ok b)
    is_found a b same = cc
unless_ok None (Err place) state is = absurd (cc)

alone_true : (alone : Bool) (version : Option Version) (own : Version → Bool) (place : ℕ) → by_version own (cond alone version None) place ≡ None → alone ≡ true
alone_true true version own place none = refl
alone_true false version own place none = absurd (cc)

kept_alone : (gate : ℕ) (group : List (List ℕ)) → 0 < gate → is_alone (kept gate group) ≡ true
kept_alone gate [] following = refl
kept_alone gate (bytes ∷ group) following = and_from (nat_lt 0 gate) (is_alone (kept gate group)) (lt-ltb 0 gate following) (kept_alone gate group following)

-- a group after place 0 brings none
no_fault_more : (node : Node) (first : Record) (events : List Record) (gate : ℕ) (group : List (List ℕ)) → 0 < gate → first_fault node first events ≡ None
    → first_fault node first (events ++ kept gate group) ≡ None
no_fault_more node first events gate group following none =
    let version = shaped_version first.bytes in
    let own = is_own node first.bytes in
    let before = alone_true (is_alone events) version own first.gate none in
    let alone : is_alone (events ++ kept gate group) ≡ true =
    list_all-append (λ (one : Record). nat_lt 0 one.gate) events (kept gate group) ∙ and_from (is_alone events) (is_alone (kept gate group)) before (kept_alone gate group following) in
    ap (λ (b : Bool). by_version own (cond b version None) first.gate) (alone ∙ sym before) ∙ none

-- ---- a journal with a group more

-- records that stand after a first one
record IsAfter (bytes : List ℕ) : Type 0 where
  pub first : Record
  pub events : List Record
  pub is : stands bytes ≡ Ok (first ∷ events)
  pub long : 2 ≤ length bytes

some_records : (node : Node) (bytes : List ℕ) (state : State) → stands bytes ≢ Ok [] → decoded node bytes ≡ Ok state → IsAfter bytes
some_records node bytes state some is = by_records (stands bytes) refl
  where
    by_records : (r : Result (List Record) ℕ) → stands bytes ≡ r → IsAfter bytes
    by_records (Ok []) e = absurd (some e)
    by_records (Ok (first ∷ events)) e = record {
      first = first;
      events = events;
      is = e;
      long = elim (cases_lt (length bytes) 2) [ inl short ↦ absurd (some (stands_short bytes short)) | inr long ↦ long ];
    }
    by_records (Err place) e = absurd (failed (sym (decoded_damaged node bytes place e) ∙ is))
      where
        failed : ◌≡◌ {A = Result State JournalError} (Err (Damaged place)) (Ok state) → ⊥
        failed same = cc

module _ (node : Node) (before later : List ℕ) (state : State) (some : stands before ≢ Ok []) (is : decoded node before ≡ Ok state) where
  abbrev now : IsAfter before
  now = some_records node before state some is

  abbrev gate : ℕ
  gate = length before - 1

  -- it stands for them, and then for the group's
  stands_later : (group : List (List ℕ)) → stands later ≡ stands_with before group → stands later ≡ Ok (now.first ∷ (now.events ++ kept gate group))
  stands_later group with_it = with_it ∙ ap (with_group gate group) now.is

  -- and is told so
  pub decoded_more : (more : History) → stands later ≡ stands_with before (map record_of more) → IsLegalAfter node state more → decoded node later ≡ Ok (after_all node state more)
  decoded_more more with_it legal =
      let group = map record_of more in
      let was = unless_ok (first_fault node now.first now.events) (read_events node (fresh node) now.events) state
      (sym (decoded_records node before (now.first ∷ now.events) now.is ∙ journal_cons node now.first now.events) ∙ is) in
      let following : 0 < gate = omega (arith, now.long) in
      decoded_records node later (now.first ∷ (now.events ++ kept gate group)) (stands_later group with_it)
      ∙ journal_cons node now.first (now.events ++ kept gate group)
      ∙ ok_decoded (first_fault node now.first (now.events ++ kept gate group)) (read_events node (fresh node) (now.events ++ kept gate group)) (after_all node state more)
      (no_fault_more node now.first now.events gate group following was.0)
      (read_append node (fresh node) state now.events (kept gate group) was.1 ∙ read_written node gate state more legal.node_is legal.taken legal.new)

  -- and still has records
  pub some_more : (group : List (List ℕ)) → stands later ≡ stands_with before group → stands later ≢ Ok []
  some_more group with_it none = failed (sym (stands_later group with_it) ∙ none)
    where
      failed : ◌≡◌ {A = Result (List Record) ℕ} (Ok (now.first ∷ (now.events ++ kept gate group))) (Ok []) → ⊥
      failed same = cc
