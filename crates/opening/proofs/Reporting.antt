-- What readings of records, and of a journal, come to.
use Rattle.std.proofs.Common.{drop-cons, ◌≡◌, ◌≢◌, ℕ, suc, ◌-◌, ◌+◌, ◌<◌, inl, inr, Bool, true, false, cond, eqb, ltb, ◌≤◌, List, [], ◌∷◌}
use Rattle.std.proofs.Common.{length, drop, Option, Some, None, Result, Ok, Err, refl, sym, ap, ◌∙◌, subst, arith}
use Rattle.std.specs.Prelude.{get_or, not, slice_index, IfOk, IfErr}
use Rattle.std.specs.Option.{option_map_or}
use Rattle.std.specs.Str.{bytes_eq}
use Rattle.std.proofs.lemmas.Bool.{cases_Bool, and_from, cond-true, cond-false, lt-ltb, le-ltb, eq-eqb, ne_eqb}
use Rattle.std.proofs.lemmas.Slice.Eq.{bytes_eq-Decides}
use Rattle.committee.specs.Charter.{Charter}
use Rattle.journal.specs.Format.{kept_at, stands, FailsAs}
use Rattle.journal.specs.Journal.{with_group, IsBeforeOrAfter, StandsAsOneOf}
use Rattle.journal.specs.declared.error.JournalError.{JournalError}
use Rattle.journal.specs.declared.error.JournalError.TheVariants.{Memory, Device, Damaged, ConfigMismatch, Full}
use Rattle.journal.specs.declared.record.Record.{Record}
use Rattle.spec_model.specs.Admitting.{is_new}
use Rattle.spec_model.specs.Nodes.{Node}
use Rattle.spec_model.specs.States.{State}
use Rattle.spec_model.specs.Words.{Author, Event, Message}
use Rattle.header.specs.declared.admission.Admission.{Admission}
use Rattle.header.specs.declared.refusal.Refusal.{Refusal}
use Rattle.admission.specs.Answers.{IsAnswer, is_new_step}
use Rattle.admission.specs.declared.step.Step.{Step}
use Rattle.admission.specs.declared.step.Step.TheVariants.{New, Known}
use Rattle.spec_machine.specs.Machine.{after, answered, fresh}
use Rattle.spec_records.specs.Records.{configuration_of, CanReport}
use Rattle.journal.specs.declared.version.Version.{Version}
use Rattle.admission.specs.declared.tables.Tables.{Tables}
use Rattle.validator.specs.Standing.{AreAtSound}
use Rattle.wire.specs.Reading.{Faults, message_of}
use Rattle.wire.specs.declared.error.WireError.{WireError}
use Rattle.wire.specs.declared.error.WireError.TheVariants as wire
use Rattle.opening.specs.Decoded.{checked_in, sender_in, event_in, with_new, read_event, go_on, read_events, or_damaged, unless, can_report}
use Rattle.journal.specs.Configuration.{shaped_version}
use Rattle.opening.specs.Decoded.{first_version, is_own, mismatch, first_fault, read_journal, decoded_by, decoded, Reports, StandsAt, IsOld}
use Rattle.opening.specs.Decoded.{IsDecodedAsOneOf, KeepsOrBegins, KeepsRecords}
use Rattle.opening.proofs.Configured.{decoded_of}

-- an error of which more is known
pub err_weaker : {A E : Type 0} (r : Result A E) (P Q : E → Type 0) → ((e : E) → P e → Q e) → IfErr r P → IfErr r Q
err_weaker (Ok x) P Q less is = tt
err_weaker (Err e) P Q less is = less e is

-- ---- a record's event

pub ok_weaker : {A E : Type 0} (r : Result A E) (P Q : A → Type 0) → ((x : A) → P x → Q x) → IfOk r P → IfOk r Q
ok_weaker (Ok x) P Q less is = less x is
ok_weaker (Err e) P Q less is = tt

-- bytes that are too few, or of another kind, have no event
pub event_short : (charter : Charter) (bytes : List ℕ) → length bytes < 3 → event_in charter bytes ≡ None
unfolding event_in
event_short charter bytes short = cond-true (ltb (length bytes) 3) None _ (lt-ltb (length bytes) 3 short)

event_long : (charter : Charter) (bytes : List ℕ) → 3 ≤ length bytes
    → event_in charter bytes ≡ cond (not (eqb (slice_index bytes 0) 1)) None (checked_in charter (sender_in bytes) (message_of (drop 3 bytes)))
unfolding event_in
event_long charter bytes long = cond-false (ltb (length bytes) 3) None _ (le-ltb (length bytes) 3 long)

pub event_other : (charter : Charter) (bytes : List ℕ) → 3 ≤ length bytes → slice_index bytes 0 ≢ 1 → event_in charter bytes ≡ None
event_other charter bytes long other =
    event_long charter bytes long ∙ ap (λ (b : Bool). cond (not b) None (checked_in charter (sender_in bytes) (message_of (drop 3 bytes)))) (ne_eqb (slice_index bytes 0) 1 other)

pub event_is : (charter : Charter) (bytes : List ℕ) → 3 ≤ length bytes → slice_index bytes 0 ≡ 1 → event_in charter bytes ≡ checked_in charter (sender_in bytes) (message_of (drop 3 bytes))
event_is charter bytes long is =
    event_long charter bytes long ∙ ap (λ (b : Bool). cond (not b) None (checked_in charter (sender_in bytes) (message_of (drop 3 bytes)))) (eq-eqb (slice_index bytes 0) 1 is)

-- what can't be read is no event
pub unread_none : (charter : Charter) (sender : Author) (error : WireError) (read : Result Message WireError) → Faults error read → error ≢ wire.Memory → checked_in charter sender read ≡ None
unread_none charter sender wire.Memory read faults other = absurd (other refl)
unread_none charter sender wire.Short read faults other = ap (checked_in charter sender) faults
unread_none charter sender wire.Trailing read faults other = ap (checked_in charter sender) faults
unread_none charter sender wire.BadTag read faults other = ap (checked_in charter sender) faults
unread_none charter sender wire.NotCanonical read faults other = ap (checked_in charter sender) faults
unread_none charter sender wire.TooMany read faults other = ap (checked_in charter sender) faults
unread_none charter sender wire.BadRound read faults other = ap (checked_in charter sender) faults

-- ---- a reading of records

-- a record without an event is at fault
pub read_none : (node : Node) (state : State) (one : Record) → None ≡ event_in node.charter one.bytes → read_event node state one ≡ Err one.gate
unfolding read_event
read_none node state one none =
    ap (λ (o : Option Event). option_map_or (λ event. option_map_or (λ later. Ok later) (with_new node state event) (Err one.gate)) o (Err one.gate)) (sym none)

-- an event is read by what the state answers
read_by : (node : Node) (state : State) (one : Record) (event : Event) → Some event ≡ event_in node.charter one.bytes
    → read_event node state one ≡ option_map_or (λ (later : State). Ok later) (with_new node state event) (Err one.gate)
unfolding read_event
read_by node state one event some =
    ap (λ (o : Option Event). option_map_or (λ event. option_map_or (λ later. Ok later) (with_new node state event) (Err one.gate)) o (Err one.gate)) (sym some)

pub read_new : (node : Node) (state : State) (one : Record) (event : Event) → Some event ≡ event_in node.charter one.bytes
    → is_new (answered node state event) ≡ true → read_event node state one ≡ Ok (after node state event)
read_new node state one event some new =
    read_by node state one event some
    ∙ ap (λ (b : Bool). option_map_or (λ (later : State). Ok later) (cond b (Some (after node state event)) None) (Err one.gate)) new

pub read_old : (node : Node) (state : State) (one : Record) (event : Event) → Some event ≡ event_in node.charter one.bytes
    → is_new (answered node state event) ≡ false → read_event node state one ≡ Err one.gate
read_old node state one event some old =
    read_by node state one event some
    ∙ ap (λ (b : Bool). option_map_or (λ (later : State). Ok later) (cond b (Some (after node state event)) None) (Err one.gate)) old

-- what came of an event says whether it is new
pub new_answer : (answer : Admission) (step : Result Step Refusal) → IsAnswer answer step → is_new_step step ≡ true → is_new answer ≡ true
new_answer answer (Ok (New outputs)) is new = ap is_new is
new_answer answer (Ok (Known outputs)) is new = absurd (cc)
new_answer answer (Err refusal) is new = absurd (cc)

pub old_answer : (answer : Admission) (step : Result Step Refusal) → IsAnswer answer step → IsOld step → is_new answer ≡ false
old_answer answer (Ok (New outputs)) is old = absurd old
old_answer answer (Ok (Known outputs)) is old = ap is_new is
old_answer answer (Err refusal) (inl memory) old = absurd (old memory)
old_answer answer (Err refusal) (inr refused) old = ap is_new refused

pub fails_by : (error : JournalError) (read : Result State ℕ) (gate : ℕ) → (error ≢ Memory → (error ≡ Damaged gate) × (read ≡ Err gate)) → FailsAs error read
fails_by Memory read gate is = tt
fails_by (Damaged place) read gate is =
    let found : (Damaged place ≡ Damaged gate) × (read ≡ Err gate) = is (λ same. cc) in
    let here : gate ≡ place = cc found.0 in
    found.1 ∙ ap Err here
fails_by Device read gate is = let found : (Device ≡ Damaged gate) × (read ≡ Err gate) = is (λ same. cc) in absurd (cc found.0)
fails_by ConfigMismatch read gate is = let found : (ConfigMismatch ≡ Damaged gate) × (read ≡ Err gate) = is (λ same. cc) in absurd (cc found.0)
fails_by Full read gate is = let found : (Full ≡ Damaged gate) × (read ≡ Err gate) = is (λ same. cc) in absurd (cc found.0)

-- ---- one record after the other

pub read_nil : (node : Node) (state : State) → read_events node state [] ≡ Ok state
unfolding read_events
read_nil node state = refl

pub read_ok : (node : Node) (state later : State) (one : Record) (rest : List Record) → read_event node state one ≡ Ok later
    → read_events node state (one ∷ rest) ≡ read_events node later rest
unfolding read_events
read_ok node state later one rest is = ap (go_on (λ l. read_events node l rest)) is

pub read_err : (node : Node) (state : State) (one : Record) (rest : List Record) (place : ℕ) → read_event node state one ≡ Err place
    → read_events node state (one ∷ rest) ≡ Err place
unfolding read_events
read_err node state one rest place is = ap (go_on (λ l. read_events node l rest)) is

-- a state was reached after so many of the records, and tables stand there
pub record IsReached (node : Node) (records : List Record) (count : ℕ) (tables : Tables) : Type 0 where
  pub state : State
  pub at : AreAtSound node tables state
  pub rest : read_events node (fresh node) records ≡ read_events node state (drop count records)

pub reached_first : (node : Node) (records : List Record) (tables : Tables) → AreAtSound node tables (fresh node) → IsReached node records 0 tables
reached_first node records tables at = record { state = fresh node; at = at; rest = refl }

pub here : (records : List Record) (count : ℕ) (one : Record) → count < length records → one ≡ get_or records count one → drop count records ≡ one ∷ drop (count + 1) records
here records count one within is =
    let more : suc count ≡ count + 1 = omega arith in
    drop-cons records count one within ∙ (λ i. sym is i ∷ drop (more i) records)

pub reached_next : (node : Node) (records : List Record) (count : ℕ) (one : Record) (tables later : Tables) → drop count records ≡ one ∷ drop (count + 1) records
    → ((state : State) → AreAtSound node tables state → StandsAt node (read_event node state one) later)
    → IsReached node records count tables → IsReached node records (count + 1) later
reached_next node records count one tables later is stands reached =
    let next = stands reached.state reached.at in
    record {
      state = next.state;
      at = next.at;
      rest = reached.rest ∙ ap (read_events node reached.state) is ∙ read_ok node reached.state next.state one (drop (count + 1) records) next.is_read;
    }

pub reached_end : (node : Node) (records : List Record) (count : ℕ) (tables : Tables) → drop count records ≡ [] → IsReached node records count tables
    → StandsAt node (read_events node (fresh node) records) tables
reached_end node records count tables none reached = record {
  state = reached.state;
  is_read = reached.rest ∙ ap (read_events node reached.state) none ∙ read_nil node reached.state;
  at = reached.at;
}

-- an error of a record is that of them all
pub fails_on : (node : Node) (state : State) (one : Record) (rest : List Record) (error : JournalError)
    → FailsAs error (read_event node state one) → FailsAs error (read_events node state (one ∷ rest))
fails_on node state one rest Memory fails = tt
fails_on node state one rest (Damaged gate) fails = read_err node state one rest gate fails
fails_on node state one rest Device fails = absurd fails
fails_on node state one rest ConfigMismatch fails = absurd fails
fails_on node state one rest Full fails = absurd fails

pub fails_there : (node : Node) (records : List Record) (count : ℕ) (one : Record) (tables : Tables) (error : JournalError) → drop count records ≡ one ∷ drop (count + 1) records
    → ((state : State) → AreAtSound node tables state → FailsAs error (read_event node state one))
    → IsReached node records count tables → FailsAs error (read_events node (fresh node) records)
fails_there node records count one tables error is fails reached =
    subst (FailsAs error) (ap (read_events node reached.state) (sym is) ∙ sym reached.rest)
    (fails_on node reached.state one (drop (count + 1) records) error (fails reached.state reached.at))

-- ---- a journal

-- the fault of a first record, by its version
abbrev pub by_version : (Version → Bool) → Option Version → ℕ → Option JournalError
by_version own version place = option_map_or (λ v. mismatch (own v)) version (Some (Damaged place))

fault_own : (node : Node) (first : Record) (events : List Record) (version : Version) → first_version first events ≡ Some version
    → first_fault node first events ≡ mismatch (is_own node first.bytes version)
fault_own node first events version is = ap (λ (version : Option Version). by_version (is_own node first.bytes) version first.gate) is

pub fault_none : (node : Node) (first : Record) (events : List Record) (version : Version) (own : Bool) → first_version first events ≡ Some version → own ≡ is_own node first.bytes version → own ≡ true
    → first_fault node first events ≡ None
fault_none node first events version own is own_is so = fault_own node first events version is ∙ ap mismatch (sym own_is ∙ so)

-- an error of a reading of records is that of the journal after a first record without a fault
pub fails_decoded : (fault : Option JournalError) (read : Result State ℕ) (error : JournalError) → fault ≡ None → FailsAs error read → Reports error (unless fault read)
fails_decoded fault read Memory none fails = tt
fails_decoded fault read (Damaged gate) none fails = ap (λ (f : Option JournalError). unless f read) none ∙ ap or_damaged fails
fails_decoded fault read Device none fails = absurd fails
fails_decoded fault read ConfigMismatch none fails = absurd fails
fails_decoded fault read Full none fails = absurd fails

pub fault_decoded : (fault : Option JournalError) (read : Result State ℕ) (error : JournalError) → (error ≢ Memory → fault ≡ Some error) → Reports error (unless fault read)
fault_decoded fault read Memory is = tt
fault_decoded fault read (Damaged gate) is = ap (λ (f : Option JournalError). unless f read) (is (λ same. cc))
fault_decoded fault read Device is = ap (λ (f : Option JournalError). unless f read) (is (λ same. cc))
fault_decoded fault read ConfigMismatch is = ap (λ (f : Option JournalError). unless f read) (is (λ same. cc))
fault_decoded fault read Full is = ap (λ (f : Option JournalError). unless f read) (is (λ same. cc))

pub ok_decoded : (fault : Option JournalError) (read : Result State ℕ) (state : State) → fault ≡ None → read ≡ Ok state → unless fault read ≡ Ok state
ok_decoded fault read state none is = ap (λ (f : Option JournalError). unless f read) none ∙ ap or_damaged is

pub journal_nil : (node : Node) → read_journal node [] ≡ Ok (fresh node)
unfolding read_journal
journal_nil node = refl

pub journal_cons : (node : Node) (first : Record) (events : List Record) → read_journal node (first ∷ events) ≡ unless (first_fault node first events) (read_events node (fresh node) events)
unfolding read_journal
journal_cons node first events = refl

pub decoded_same : (node : Node) (one other : List ℕ) → stands one ≡ stands other → decoded node one ≡ decoded node other
unfolding decoded
decoded_same node one other same = ap (decoded_by node) same

pub decoded_records : (node : Node) (bytes : List ℕ) (records : List Record) → stands bytes ≡ Ok records → decoded node bytes ≡ read_journal node records
unfolding decoded
decoded_records node bytes records is = ap (decoded_by node) is

pub decoded_damaged : (node : Node) (bytes : List ℕ) (place : ℕ) → stands bytes ≡ Err place → decoded node bytes ≡ Err (Damaged place)
unfolding decoded
decoded_damaged node bytes place is = ap (decoded_by node) is

-- a reading that gave this error
pub reports_is : (error : JournalError) (read : Result State JournalError) → read ≡ Err error → Reports error read
reports_is Memory read is = tt
reports_is (Damaged place) read is = is
reports_is Device read is = is
reports_is ConfigMismatch read is = is
reports_is Full read is = is

-- a reading that is another one
pub reports_same : (error : JournalError) (one other : Result State JournalError) → one ≡ other → Reports error one → Reports error other
reports_same error one other same reports = subst (Reports error) same reports

-- where the first record has no fault tables stand at what the others have
stands_unless : (node : Node) (fault : Option JournalError) (read : Result State ℕ) (decoded_is : Result State JournalError) (tables : Tables)
    → decoded_is ≡ unless fault read → fault ≡ None → StandsAt node read tables → StandsAt node decoded_is tables
stands_unless node fault read decoded_is tables is none stands = record {
  state = stands.state;
  is_read = is ∙ ok_decoded fault read stands.state none stands.is_read;
  at = stands.at;
}

pub stands_after : (node : Node) (first : Record) (events : List Record) (tables : Tables) → first_fault node first events ≡ None → StandsAt node (read_events node (fresh node) events) tables
    → StandsAt node (read_journal node (first ∷ events)) tables
stands_after node first events tables none stands = stands_unless node (first_fault node first events) (read_events node (fresh node) events)
    (read_journal node (first ∷ events)) tables (journal_cons node first events) none stands

-- without records the others are none
fresh_is : (node : Node) → read_journal node [] ≡ unless None (read_events node (fresh node) [])
fresh_is node = journal_nil node ∙ ap (unless None) (sym (read_nil node (fresh node)))

pub stands_fresh : (node : Node) (tables : Tables) → StandsAt node (read_events node (fresh node) []) tables → StandsAt node (read_journal node []) tables
stands_fresh node tables stands = stands_unless node None (read_events node (fresh node) []) (read_journal node []) tables (fresh_is node) refl stands

-- an error of the others
pub fails_after : (node : Node) (first : Record) (events : List Record) (error : JournalError) → first_fault node first events ≡ None → FailsAs error (read_events node (fresh node) events)
    → Reports error (read_journal node (first ∷ events))
fails_after node first events error none fails =
    reports_same error _ _ (sym (journal_cons node first events)) (fails_decoded (first_fault node first events) (read_events node (fresh node) events) error none fails)

pub fails_fresh : (node : Node) (error : JournalError) → FailsAs error (read_events node (fresh node) []) → Reports error (read_journal node [])
fails_fresh node error fails = reports_same error _ _ (sym (fresh_is node)) (fails_decoded None (read_events node (fresh node) []) error refl fails)

pub fails_not : (error : JournalError) (read : Result State ℕ) → FailsAs error read → (error ≢ Device) × (error ≢ Full)
fails_not Memory read fails = ((λ same. cc), (λ same. cc))
fails_not (Damaged gate) read fails = ((λ same. cc), (λ same. cc))
fails_not Device read fails = absurd fails
fails_not ConfigMismatch read fails = absurd fails
fails_not Full read fails = absurd fails

same_bytes : (bytes : List ℕ) → bytes_eq bytes bytes ≡ false → ⊥
same_bytes bytes off = grind (arith, bytes_eq-Decides bytes bytes)

pub bytes_same : (bytes : List ℕ) → bytes_eq bytes bytes ≡ true
bytes_same bytes = elim (cases_Bool (bytes_eq bytes bytes)) [ inl so ↦ so | inr off ↦ absurd (same_bytes bytes off) ]

-- ---- the configuration written

-- a journal told as without records stays so with the configuration alone
decoded_written : (version : Version) (node : Node) (before following : List ℕ) (place : ℕ) → can_report version node.charter ≡ true
    → shaped_version (configuration_of version node.charter node.own) ≡ Some version → stands before ≡ Ok []
    → stands following ≡ Ok (kept_at place (configuration_of version node.charter node.own) ∷ []) → decoded node following ≡ decoded node before
decoded_written version node before following place reports shape none written =
    let one = kept_at place (configuration_of version node.charter node.own) in
    let own : is_own node one.bytes version ≡ true = and_from (can_report version node.charter) (bytes_eq one.bytes one.bytes) reports (bytes_same one.bytes) in
    let free : first_fault node one [] ≡ None = fault_none node one [] version (is_own node one.bytes version) shape refl own in
    decoded_records node following (one ∷ []) written ∙ journal_cons node one [] ∙ ap (λ (f : Option JournalError). unless f (read_events node (fresh node) [])) free
    ∙ ap or_damaged (read_nil node (fresh node))
    ∙ sym (decoded_records node before [] none ∙ journal_nil node)

-- so does whatever a stop leaves while it is written
pub decoded_before_or_after : (version : Version) (node : Node) (before left : List ℕ) → CanReport version node.charter
    → shaped_version (configuration_of version node.charter node.own) ≡ Some version → stands before ≡ Ok []
    → IsBeforeOrAfter before (configuration_of version node.charter node.own ∷ []) left → decoded node left ≡ decoded node before
decoded_before_or_after version node before left can shape none (inl same) = decoded_same node left before same
decoded_before_or_after version node before left can shape none (inr with_it) =
    decoded_written version node before left (length before - 1) (decoded_of version node.charter can) shape none
    (with_it ∙ ap (with_group (length before - 1) (configuration_of version node.charter node.own ∷ [])) none)

-- ---- openings

-- an opening of the journal fails by what is told, or by memory or the disk
pub opening_fails : (node : Node) (bytes : List ℕ) (error : JournalError) → ((gate : ℕ) → error ≡ Damaged gate → stands bytes ≡ Err gate) → error ≢ Full → error ≢ ConfigMismatch → error ≢ Device
    → Reports error (decoded node bytes)
opening_fails node bytes Memory damaged full config device = tt
opening_fails node bytes (Damaged gate) damaged full config device = decoded_damaged node bytes gate (damaged gate refl)
opening_fails node bytes Device damaged full config device = absurd (device refl)
opening_fails node bytes ConfigMismatch damaged full config device = absurd (config refl)
opening_fails node bytes Full damaged full config device = absurd (full refl)

pub as_one_of : (node : Node) (outcome : List ℕ → Type 0) (left : List ℕ) → StandsAsOneOf outcome left → IsDecodedAsOneOf node outcome left
as_one_of node outcome left (inl possible) = (left, possible, refl)
as_one_of node outcome left (inr (first, possible, (records, before, after))) = (first, possible, decoded_same node left first (after ∙ sym before))

-- an opening of the journal leaves one outcome, or the records of one
pub keeps_one : (node : Node) (outcome : List ℕ → Type 0) (left : List ℕ) → StandsAsOneOf outcome left → KeepsRecords node outcome left
keeps_one node outcome left (inl possible) = inl possible
keeps_one node outcome left (inr (first, possible, same)) = inr (first, possible, inl same)

-- and what is kept of bytes that stand for the same is kept of these
pub keeps_same : (version : Version) (node : Node) (file mid left : List ℕ) → stands mid ≡ stands file → KeepsOrBegins version node mid left → KeepsOrBegins version node file left
keeps_same version node file mid left same (inl (records, before, after)) = inl (records, sym same ∙ before, after)
keeps_same version node file mid left same (inr (none, begun)) = inr (sym same ∙ none, begun)

pub stands_same : (node : Node) (one other : Result State JournalError) (tables : Tables) → one ≡ other → StandsAt node one tables → StandsAt node other tables
stands_same node one other tables same stands = subst (λ r. StandsAt node r tables) same stands
