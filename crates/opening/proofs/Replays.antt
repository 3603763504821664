-- What taking one record more comes to.
use Rattle.std.proofs.Common.{◌≡◌, ◌≢◌, inl, inr, ℕ, Bool, true, false, List, [], ◌∷◌, ◌++◌, drop, Option, Some, None, Result, Ok, Err, refl, sym, ap, ◌∙◌, subst}
use Rattle.std.specs.Prelude.{nat_lt, ◌&&◌, ◌⊎◌, is_none, IfOk, IfErr, if◌then◌else◌}
use Rattle.std.proofs.lemmas.Bool.{cases_Bool}
use Rattle.std.proofs.lemmas.List.Elements.{All-push}
use Rattle.journal.specs.Format.{FailsAs}
use Rattle.journal.specs.declared.error.JournalError.{JournalError}
use Rattle.journal.specs.declared.error.JournalError.TheVariants.{Memory, Device, Damaged, ConfigMismatch, Full}
use Rattle.journal.specs.declared.record.Record.{Record}
use Rattle.spec_machine.specs.Machine.{fresh}
use Rattle.spec_model.specs.Nodes.{Node}
use Rattle.spec_model.specs.States.{State}
use Rattle.admission.specs.declared.tables.Tables.{Tables}
use Rattle.sigface.specs.Scheme.{Scheme}
use Rattle.validator.specs.Setting.{ConfigView, node_of}
use Rattle.validator.specs.Standing.{AreAtSound, ValidatorView}
use Rattle.journal.specs.Configuration.{shaped_version}
use Rattle.std.specs.Option.{option_map_or}
use Rattle.opening.specs.Decoded.{IsText, StandsAt, read_event, read_events, go_on, or_damaged, unless, is_alone, is_own, mismatch, own_fault, read_journal}
use Rattle.opening.specs.Replayed.{HasReplayed, first_gate, read_apart}
use Rattle.opening.proofs.Reporting.{ok_weaker, err_weaker, read_nil, fails_not, journal_nil, journal_cons}

read_same : (read : Result State ℕ) → go_on (λ later. Ok later) read ≡ read
read_same (Ok state) = refl
read_same (Err place) = refl

push_on : (node : Node) (rest : List Record) (one : Record) → ((state : State) → read_events node state (rest ++ one ∷ []) ≡ go_on (λ later. read_event node later one) (read_events node state rest))
    → (read : Result State ℕ) → go_on (λ later. read_events node later (rest ++ one ∷ [])) read ≡ go_on (λ later. read_event node later one) (go_on (λ later. read_events node later rest) read)
push_on node rest one each (Ok later) = each later
push_on node rest one each (Err place) = refl

-- one record more after events
pub read_push : (node : Node) (state : State) (events : List Record) (one : Record)
    → read_events node state (events ++ one ∷ []) ≡ go_on (λ later. read_event node later one) (read_events node state events)
unfolding read_events
read_push node state [] one = read_same (read_event node state one)
read_push node state (kept ∷ rest) one = push_on node rest one (λ later. read_push node later rest one) (read_event node state kept)

pub alone_push : (events : List Record) (one : Record) → is_alone (events ++ one ∷ []) ≡ is_alone events && nat_lt 0 one.gate
alone_push [] one = elim (cases_Bool (nat_lt 0 one.gate)) [ inl so ↦ (cc) | inr off ↦ (cc) ]
alone_push (kept ∷ rest) one = elim (cases_Bool (nat_lt 0 kept.gate)) [
  | inl so ↦ ap (λ (b : Bool). b && is_alone (rest ++ one ∷ [])) so ∙ alone_push rest one ∙ ap (λ (b : Bool). (b && is_alone rest) && nat_lt 0 one.gate) (sym so)
  | inr off ↦ ap (λ (b : Bool). b && is_alone (rest ++ one ∷ [])) off ∙ ap (λ (b : Bool). (b && is_alone rest) && nat_lt 0 one.gate) (sym off)
]

unless_ok : (fault : Option JournalError) (read : Result State ℕ) (state : State) → unless fault read ≡ Ok state → (fault ≡ None) × (read ≡ Ok state)
unless_ok (Some error) read state is = absurd (cc)
unless_ok None (Ok other) state is = (refl, (cc))
unless_ok None (Err place) state is = absurd (cc)

unless_err : (fault : Option JournalError) (read : Result State ℕ) (F : State → Result State ℕ) (error : JournalError) → unless fault read ≡ Err error → unless fault (go_on F read) ≡ Err error
unless_err (Some other) read F error is = is
unless_err None (Ok state) F error is = absurd (cc)
unless_err None (Err place) F error is = is

fails_damaged : (error : JournalError) (read : Result State ℕ) → error ≢ Memory → FailsAs error read → or_damaged read ≡ Err error
fails_damaged Memory read other fails = absurd (other refl)
fails_damaged (Damaged place) read other fails = ap or_damaged fails
fails_damaged Device read other fails = absurd fails
fails_damaged ConfigMismatch read other fails = absurd fails
fails_damaged Full read other fails = absurd fails

module _ (node : Node) (first : Record) (events : List Record) (one : Record) where
  abbrev more : State → Result State ℕ
  more later = read_event node later one

  -- its event was new
  pub stands_push : (tables later : Tables) → StandsAt node (read_apart node (first ∷ events)) tables
      → ((state : State) → AreAtSound node tables state → StandsAt node (read_event node state one) later) → StandsAt node (read_apart node (first ∷ events ++ one ∷ [])) later
  stands_push tables later stands took =
      let was = unless_ok (own_fault node first) (read_events node (fresh node) events) stands.state stands.is_read in
      let next = took stands.state stands.at in
      record {
        state = next.state;
        is_read =
            (λ i. unless (was.0 i) (read_push node (fresh node) events one i))
            ∙ ap (λ (read : Result State ℕ). or_damaged (go_on more read)) was.1
            ∙ ap or_damaged next.is_read;
        at = next.at;
      }

  -- it is at fault
  pub fails_push : (tables : Tables) (error : JournalError) → StandsAt node (read_apart node (first ∷ events)) tables → error ≢ Memory
      → ((state : State) → AreAtSound node tables state → FailsAs error (read_event node state one)) → read_apart node (first ∷ events ++ one ∷ []) ≡ Err error
  fails_push tables error stands other fails =
      let was = unless_ok (own_fault node first) (read_events node (fresh node) events) stands.state stands.is_read in
      (λ i. unless (was.0 i) (read_push node (fresh node) events one i))
      ∙ ap (λ (read : Result State ℕ). or_damaged (go_on more read)) was.1
      ∙ fails_damaged error (read_event node stands.state one) other (fails stands.state stands.at)

  -- a fault stays
  pub fault_stays : (error : JournalError) → read_apart node (first ∷ events) ≡ Err error → read_apart node (first ∷ events ++ one ∷ []) ≡ Err error
  fault_stays error is =
      ap (unless (own_fault node first)) (read_push node (fresh node) events one) ∙ unless_err (own_fault node first) (read_events node (fresh node) events) more error is

-- ---- a whole journal

-- the fault of a first record, by whether it is alone
by_alone : Node → Record → Bool → Option JournalError
by_alone node first alone = option_map_or (λ version. mismatch (is_own node first.bytes version)) (if alone then shaped_version first.bytes else None) (Some (Damaged first.gate))

pub whole_alone : (node : Node) (first : Record) (events : List Record) → true ≡ is_alone events → read_journal node (first ∷ events) ≡ read_apart node (first ∷ events)
unfolding by_alone
whole_alone node first events alone =
    journal_cons node first events ∙ ap (λ (b : Bool). unless (by_alone node first b) (read_events node (fresh node) events)) (sym alone)

pub whole_shared : (node : Node) (first : Record) (events : List Record) → false ≡ is_alone events → read_journal node (first ∷ events) ≡ Err (Damaged first.gate)
unfolding by_alone
whole_shared node first events shared =
    journal_cons node first events ∙ ap (λ (b : Bool). unless (by_alone node first b) (read_events node (fresh node) events)) (sym shared)

whole_apart : (node : Node) (records : List Record) → true ≡ is_alone (drop 1 records) → read_journal node records ≡ read_apart node records
whole_apart node [] alone = journal_nil node
whole_apart node (first ∷ events) alone = whole_alone node first events alone

module _ {S : Type 0} (scheme : Scheme S) (setting : ConfigView S) where
  -- ---- one record more

  module _ (one : Record) (alone : Bool) where
    module _ (gate : Option ℕ) (was : gate ≢ None) where
      pub took : (records : List Record) (before later : ValidatorView S) → HasReplayed scheme setting gate alone (Ok before) records → later.setting ≡ before.setting → IsText one
          → ((state : State) → AreAtSound (node_of scheme before.setting) before.tables state
          → StandsAt (node_of scheme before.setting) (read_event (node_of scheme before.setting) state one) later.tables)
          → HasReplayed scheme setting gate (alone && nat_lt 0 one.gate) (Ok later) (records ++ one ∷ [])
      took [] before later has same text next = absurd (was has.begins)
      took (first ∷ events) before later has same text next = record {
        begins = has.begins;
        is_alone_in = ap (λ (b : Bool). b && nat_lt 0 one.gate) has.is_alone_in ∙ sym (alone_push events one);
        set = same ∙ has.set;
        stands = stands_push (node_of scheme setting) first events one before.tables later.tables has.stands
            (subst (λ (s : ConfigView S). (state : State) → AreAtSound (node_of scheme s) before.tables state
            → StandsAt (node_of scheme s) (read_event (node_of scheme s) state one) later.tables) has.set next);
        fault = tt;
        never = tt;
        texts = All-push IsText events one has.texts text;
      }

      pub failed : (records : List Record) (before : ValidatorView S) (error : JournalError) → HasReplayed scheme setting gate alone (Ok before) records → error ≢ Memory
          → ((state : State) → AreAtSound (node_of scheme before.setting) before.tables state → FailsAs error (read_event (node_of scheme before.setting) state one))
          → HasReplayed scheme setting gate (alone && nat_lt 0 one.gate) (Err error) (records ++ one ∷ [])
      failed [] before error has other fails = absurd (was has.begins)
      failed (first ∷ events) before error has other fails =
          let fails_here = subst (λ (s : ConfigView S). (state : State) → AreAtSound (node_of scheme s) before.tables state → FailsAs error (read_event (node_of scheme s) state one)) has.set fails in
          let state = has.stands.state in
          let not = fails_not error (read_event (node_of scheme setting) state one) (fails_here state has.stands.at) in
          record {
            begins = has.begins;
            is_alone_in = ap (λ (b : Bool). b && nat_lt 0 one.gate) has.is_alone_in ∙ sym (alone_push events one);
            set = tt;
            stands = tt;
            fault = fails_push (node_of scheme setting) first events one before.tables error has.stands other fails_here;
            never = (other, not.0, not.1);
            texts = tt;
          }

      pub stayed : (records : List Record) (error : JournalError) → HasReplayed scheme setting gate alone (Err error) records
          → HasReplayed scheme setting gate (alone && nat_lt 0 one.gate) (Err error) (records ++ one ∷ [])
      stayed [] error has = absurd (was has.begins)
      stayed (first ∷ events) error has = record {
        begins = has.begins;
        is_alone_in = ap (λ (b : Bool). b && nat_lt 0 one.gate) has.is_alone_in ∙ sym (alone_push events one);
        set = tt;
        stands = tt;
        fault = fault_stays (node_of scheme setting) first events one error has.fault;
        never = has.never;
        texts = tt;
      }

    -- the first one
    pub began : (records : List Record) (reached : Result (ValidatorView S) JournalError) → HasReplayed scheme setting None alone reached records → None ≡ own_fault (node_of scheme setting) one
        → HasReplayed scheme setting (Some one.gate) alone reached (records ++ one ∷ [])
    began (first ∷ events) reached has free = absurd (cc has.begins)
    began [] (Ok before) has free = record {
      begins = refl;
      is_alone_in = has.is_alone_in;
      set = has.set;
      stands = record {
        state = has.stands.state;
        is_read = ap (λ (fault : Option JournalError). unless fault (read_events (node_of scheme setting) (fresh (node_of scheme setting)) [])) (sym free)
            ∙ ap or_damaged (read_nil (node_of scheme setting) (fresh (node_of scheme setting))) ∙ has.stands.is_read;
        at = has.stands.at;
      };
      fault = tt;
      never = tt;
      texts = has.texts;
    }
    began [] (Err error) has free = absurd (cc has.fault)

    pub began_at_fault : (records : List Record) (reached : Result (ValidatorView S) JournalError) (error : JournalError) → HasReplayed scheme setting None alone reached records
        → Some error ≡ own_fault (node_of scheme setting) one → (error ≢ Memory) × (error ≢ Device) × (error ≢ Full)
        → HasReplayed scheme setting (Some one.gate) alone (Err error) (records ++ one ∷ [])
    began_at_fault (first ∷ events) reached error has fault never = absurd (cc has.begins)
    began_at_fault [] reached error has fault never = record {
      begins = refl;
      is_alone_in = has.is_alone_in;
      set = tt;
      stands = tt;
      fault = ap (λ (found : Option JournalError). unless found (read_events (node_of scheme setting) (fresh (node_of scheme setting)) [])) (sym fault);
      never = never;
      texts = tt;
    }

  -- ---- all of them

  pub ends_shared : (records : List Record) (gate : ℕ) (reached : Result (ValidatorView S) JournalError) → HasReplayed scheme setting (Some gate) false reached records
      → read_journal (node_of scheme setting) records ≡ Err (Damaged gate)
  ends_shared [] gate reached has = absurd (cc has.begins)
  ends_shared (first ∷ events) gate reached has =
      let same : first.gate ≡ gate = (cc has.begins) in
      whole_shared (node_of scheme setting) first events has.is_alone_in ∙ ap (λ (place : ℕ). Err (Damaged place)) same

  module _ (gate : Option ℕ) (alone : Bool) (records : List Record) (reached : Result (ValidatorView S) JournalError) (has : HasReplayed scheme setting gate alone reached records) where
    apart : (gate ≡ None) ⊎ (alone ≡ true) → read_journal (node_of scheme setting) records ≡ read_apart (node_of scheme setting) records
    apart (inr is) = whole_apart (node_of scheme setting) records (sym is ∙ has.is_alone_in)
    apart (inl none) = first_none records (sym has.begins ∙ none)
      where
        first_none : (l : List Record) → first_gate l ≡ None → read_journal (node_of scheme setting) l ≡ read_apart (node_of scheme setting) l
        first_none [] is = journal_nil (node_of scheme setting)
        first_none (first ∷ events) is = absurd (cc)

    pub ends_standing : (gate ≡ None) ⊎ (alone ≡ true) → IfOk reached (λ validator. StandsAt (node_of scheme setting) (read_journal (node_of scheme setting) records) validator.tables)
    ends_standing so = ok_weaker reached _ _ (λ v stands. subst (λ (read : Result State JournalError). StandsAt (node_of scheme setting) read v.tables) (sym (apart so)) stands) has.stands

    pub ends_at_fault : (gate ≡ None) ⊎ (alone ≡ true) → IfErr reached (λ error. read_journal (node_of scheme setting) records ≡ Err error)
    ends_at_fault so = err_weaker reached _ _ (λ error is. apart so ∙ is) has.fault

-- ---- whether there was a record

pub none_taken : (first : Option ℕ) (records : List Record) → first ≡ first_gate records → is_none first ≡ true → records ≡ []
none_taken first [] begins none = refl
none_taken first (one ∷ rest) begins none = absurd (cc (begins, none))

pub some_taken : (first : Option ℕ) (records : List Record) → first ≡ first_gate records → is_none first ≡ false → records ≢ []
some_taken first [] begins some none = absurd (cc (begins, some))
some_taken first (one ∷ rest) begins some none = absurd (cc)

pub same_records : {one other : List Record} → ◌≡◌ {A = Result (List Record) ℕ} (Ok one) (Ok other) → one ≡ other
same_records same = cc
