-- What taking one record more of a journal on two disks comes to.
use Rattle.std.proofs.Common.{◌≡◌, ◌≢◌, ℕ, inl, inr, Bool, true, false, List, [], ◌∷◌, ◌++◌, Option, Some, None, Result, Err, refl, sym, ap, ◌∙◌, subst, append_assoc}
use Rattle.std.specs.Prelude.{All, ◌⊎◌}
use Rattle.std.proofs.lemmas.Bool.{and_parts}
use Rattle.std.proofs.lemmas.List.{append-nil, map-append}
use Rattle.std.proofs.lemmas.List.Elements.{All-nil, All-tail, All-push}
use Rattle.std.proofs.lemmas.Slice.Eq.{bytes_eq-Decides}
use Rattle.std.specs.Str.{bytes_eq}
use Rattle.checkpoint.specs.Reader.{fault_of}
use Rattle.checkpoint.specs.declared.error.LoadError.{LoadError}
use Rattle.checkpoint.specs.declared.error.LoadError.TheVariants as load
use Rattle.journal.specs.Configuration.{shaped_version}
use Rattle.journal.specs.Format.{FailsAs}
use Rattle.journal.specs.declared.error.JournalError.{JournalError}
use Rattle.journal.specs.declared.error.JournalError.TheVariants.{Memory, Device, Damaged, ConfigMismatch, Full}
use Rattle.journal.specs.declared.record.Record.{Record}
use Rattle.journal.specs.declared.version.Version.{Version}
use Rattle.sigface.specs.Scheme.{Scheme}
use Rattle.spec_checkpoint.specs.Laws.{FailsAtFirst, ReadAsWritten}
use Rattle.spec_checkpoint.specs.Loading.{LoadFault, at_record, of_whole, load_fault}
use Rattle.spec_machine.specs.Machine.{fresh}
use Rattle.spec_model.specs.Nodes.{Node}
use Rattle.spec_model.specs.States.{State}
use Rattle.spec_records.specs.Records.{configuration_of}
use Rattle.spec_world.specs.World.{bytes_of}
use Rattle.admission.specs.declared.tables.Tables.{Tables}
use Rattle.validator.specs.Loading.{LoadingView}
use Rattle.validator.specs.Setting.{ConfigView, node_of}
use Rattle.validator.specs.Standing.{AreAtSound, ValidatorView}
use Rattle.opening.specs.Decoded.{IsText, StandsAt, Reports, can_report, is_own, mismatch, own_fault, or_damaged, go_on, read_event, read_events, is_event, gates_of, gate_of, read_state, read_pair}
use Rattle.opening.specs.PairReplayed.{version_in, IsOfBytesAlone, IsConfigured, IsLoadingTo, IsStandingAt, IsStandingBefore, IsFailedAs, HasReached, error_at, IsPut}
use Rattle.opening.specs.declared.reached.Reached.{Reached}
use Rattle.opening.specs.declared.reached.Reached.TheVariants as reached
use Rattle.opening.proofs.PairReporting.{IsOfState, pair_none, pair_fails, pair_headed, pair_apart, pair_alone, checkpoint_ends, checkpoint_whole, state_fails, fault_stays}
use Rattle.opening.proofs.Reporting.{read_nil, read_ok, read_err, reports_is, by_version}

-- ---- errors

pub damaged_alone : (gate : ℕ) → IsOfBytesAlone (Damaged gate)
damaged_alone gate = record { memory = λ same. cc; device = λ same. cc; full = λ same. cc }

pub mismatch_alone : IsOfBytesAlone ConfigMismatch
mismatch_alone = record { memory = λ same. cc; device = λ same. cc; full = λ same. cc }

-- a reading that fails so, but for memory, is damaged at the gate
failing : (error : JournalError) (read : Result State ℕ) → error ≢ Memory → FailsAs error read → (or_damaged read ≡ Err error) × IsOfBytesAlone error
failing Memory read other fails = absurd (other refl)
failing (Damaged gate) read other fails = (ap or_damaged fails, damaged_alone gate)
failing Device read other fails = absurd fails
failing ConfigMismatch read other fails = absurd fails
failing Full read other fails = absurd fails

-- so does a longer one
failing_on : (error : JournalError) (read : Result State ℕ) (more : State → Result State ℕ) → FailsAs error read → FailsAs error (go_on more read)
failing_on Memory read more fails = tt
failing_on (Damaged gate) read more fails = ap (go_on more) fails
failing_on Device read more fails = absurd fails
failing_on ConfigMismatch read more fails = absurd fails
failing_on Full read more fails = absurd fails

-- an event at fault is so with others after it
event_fails : (node : Node) (state : State) (one : Record) (more : List Record) (error : JournalError) → FailsAs error (read_event node state one) → FailsAs error (read_events node state (one ∷ more))
event_fails node state one more Memory fails = tt
event_fails node state one more (Damaged gate) fails = read_err node state one more gate fails
event_fails node state one more Device fails = absurd fails
event_fails node state one more ConfigMismatch fails = absurd fails
event_fails node state one more Full fails = absurd fails

-- what is wrong with records that can't be loaded, by their gates
pub load_fails : (node : Node) (first : Record) (state : List Record) (gates : List ℕ) (cause : LoadError) → gates ≡ gates_of (first ∷ state)
    → (cause ≢ load.Memory → load_fault node (bytes_of (first ∷ state)) ≡ fault_of cause) → FailsAs (error_at gates cause) (read_state node first state)
load_fails node first state gates load.Memory are is = tt
load_fails node first state gates (load.Unsound place) are is =
    state_fails node first state (at_record place) (is (λ same. cc)) ∙ ap (λ (l : List ℕ). Err (gate_of l (at_record place))) (sym are)
load_fails node first state gates load.UnsoundWhole are is = state_fails node first state of_whole (is (λ same. cc)) ∙ ap (λ (l : List ℕ). Err (gate_of l of_whole)) (sym are)

-- ---- some records

with_one_some : (records : List Record) (one : Record) → records ++ one ∷ [] ≢ []
with_one_some [] one none = cc
with_one_some (first ∷ records) one none = cc

pub version_stays : (records : List Record) (one : Record) → records ≢ [] → version_in (records ++ one ∷ []) ≡ version_in records
version_stays [] one some = absurd (some refl)
version_stays (first ∷ records) one some = refl

module _ {S : Type 0} (scheme : Scheme S) (setting : ConfigView S) where
  abbrev node : Node
  node = node_of scheme setting

  -- ---- the first record

  pub began : (one : Record) (version : Version) → shaped_version one.bytes ≡ Some version → is_own node one.bytes version ≡ true
      → IsConfigured scheme setting (one ∷ []) version one.gate
  began one version shape own = record {
    first = one;
    are = refl;
    at = refl;
    shape = shape;
    own = ap (λ (v : Option Version). by_version (is_own node one.bytes) v one.gate) shape ∙ ap mismatch own;
  }

  first_fails : (one : Record) (error : JournalError) → own_fault node one ≡ Some error → IsOfBytesAlone error → IsFailedAs scheme setting (one ∷ []) error
  first_fails one error is of_bytes = record { some = with_one_some [] one; on = λ more. pair_fails node one more error is; of_bytes = of_bytes }

  pub began_shapeless : (one : Record) → shaped_version one.bytes ≡ None → IsFailedAs scheme setting (one ∷ []) (Damaged one.gate)
  began_shapeless one none = first_fails one (Damaged one.gate) (ap (λ (v : Option Version). by_version (is_own node one.bytes) v one.gate) none) (damaged_alone one.gate)

  pub began_other : (one : Record) (version : Version) → shaped_version one.bytes ≡ Some version → is_own node one.bytes version ≡ false
      → IsFailedAs scheme setting (one ∷ []) ConfigMismatch
  began_other one version shape other =
      first_fails one ConfigMismatch (ap (λ (v : Option Version). by_version (is_own node one.bytes) v one.gate) shape ∙ ap mismatch other) mismatch_alone

  -- ---- an event

  with_one : (records : List Record) (one : Record) (more : List Record) → (records ++ one ∷ []) ++ more ≡ records ++ one ∷ more
  with_one records one more = append_assoc records (one ∷ []) more

  pub took : (records : List Record) (one : Record) (before later : ValidatorView S) → IsStandingBefore scheme setting records one before → later.setting ≡ before.setting
      → ((state : State) → AreAtSound node before.tables state → StandsAt node (read_event node state one) later.tables) → IsStandingAt scheme setting (records ++ one ∷ []) later
  took records one before later is same stands =
      let next = stands is.state is.at in
      record {
        set = same ∙ is.set;
        some = with_one_some records one;
        state = next.state;
        at = next.at;
        on = λ more. ap (read_pair node) (with_one records one more) ∙ is.on more ∙ ap or_damaged (read_ok node is.state next.state one more next.is_read);
      }

  pub failed : (records : List Record) (one : Record) (before : ValidatorView S) (error : JournalError) → IsStandingBefore scheme setting records one before → error ≢ Memory
      → ((state : State) → AreAtSound node before.tables state → FailsAs error (read_event node state one)) → IsFailedAs scheme setting (records ++ one ∷ []) error
  failed records one before error is other fails =
      let here = fails is.state is.at in
      record {
        some = with_one_some records one;
        on = λ more. ap (read_pair node) (with_one records one more) ∙ is.on more
            ∙ (failing error (read_events node is.state (one ∷ more)) other (event_fails node is.state one more error here)).0;
        of_bytes = (failing error (read_event node is.state one) other here).1;
      }

  pub stayed : (records : List Record) (one : Record) (error : JournalError) → IsFailedAs scheme setting records error → IsFailedAs scheme setting (records ++ one ∷ []) error
  stayed records one error is = record { some = with_one_some records one; on = λ more. ap (read_pair node) (with_one records one more) ∙ is.on (one ∷ more); of_bytes = is.of_bytes }

  pub goes_on : (records : List Record) (one : Record) (validator : ValidatorView S) → IsStandingAt scheme setting records validator → IsStandingBefore scheme setting records one validator
  goes_on records one validator is = record { set = is.set; state = is.state; at = is.at; on = λ more. is.on (one ∷ more) }

  -- the first event after the configuration
  pub begins_events : (records : List Record) (version : Version) (gate : ℕ) (one : Record) (validator : ValidatorView S) → IsConfigured scheme setting records version gate → one.gate ≢ gate
      → validator.setting ≡ setting → AreAtSound node validator.tables (fresh node) → IsStandingBefore scheme setting records one validator
  begins_events records version gate one validator is other set at = record {
    set = set;
    state = fresh node;
    at = at;
    on = λ more. ap (λ (l : List Record). read_pair node (l ++ one ∷ more)) is.are
        ∙ pair_apart node is.first one more is.own (λ same. other (same ∙ is.at));
  }

  -- ---- a checkpoint

  module _ (fails : FailsAtFirst) (reads : ReadAsWritten) where
    -- a record was put to those of a checkpoint, or is at fault
    pub put_there : (first head : Record) (state : List Record) (old : LoadingView S) (old_gates : List ℕ) (bytes : List ℕ) (gate : ℕ) (later : Reached S)
        → own_fault node first ≡ None → head.gate ≡ first.gate → old.setting ≡ setting → old.records ++ bytes ∷ [] ≡ bytes_of (first ∷ state)
        → old_gates ++ gate ∷ [] ≡ gates_of (first ∷ state) → All IsOfState state → All IsText state
        → IsPut scheme old old_gates bytes gate later → HasReached scheme setting (first ∷ head ∷ state) later
    put_there first head state old old_gates bytes gate (reached.Checkpoint loading gates) own shares set rows gates_are all texts put = record {
      first = first;
      head = head;
      state = state;
      are = refl;
      shares = shares;
      own = own;
      set = ap (λ (l : LoadingView S). l.setting) put.put ∙ set;
      came = ap (λ (l : LoadingView S). l.records) put.put ∙ rows;
      gates_are = put.gates_are ∙ gates_are;
      of_state = all;
    }
    put_there first head state old old_gates bytes gate (reached.Failed error) own shares set rows gates_are all texts put =
        at_fault put.cause refl
      where
        each : (fault : LoadFault) → fault_of put.cause ≡ Some fault → (more : List (List ℕ)) → load_fault node (bytes_of (first ∷ state) ++ more) ≡ Some fault
        each fault is more =
            ap (λ (l : List (List ℕ)). load_fault node (l ++ more)) (sym rows)
            ∙ ap (load_fault node) (append_assoc old.records (bytes ∷ []) more)
            ∙ ap (λ (s : ConfigView S). load_fault (node_of scheme s) (old.records ++ bytes ∷ more)) (sym set)
            ∙ put.fault more ∙ is

        fails_so : (fault : LoadFault) → fault_of put.cause ≡ Some fault → error ≡ Damaged (gate_of (gates_of (first ∷ state)) fault) → IsFailedAs scheme setting (first ∷ head ∷ state) error
        fails_so fault is error_is = record {
          some = λ none. cc;
          on = λ more. pair_headed node first head (state ++ more) own shares
              ∙ ap or_damaged (fault_stays fails reads node first state fault texts all (each fault is) more) ∙ ap Err (sym error_is);
          of_bytes = subst IsOfBytesAlone (sym error_is) (damaged_alone (gate_of (gates_of (first ∷ state)) fault));
        }

        at_fault : (cause : LoadError) → put.cause ≡ cause → IsFailedAs scheme setting (first ∷ head ∷ state) error
        at_fault load.Memory is = absurd (put.other is)
        at_fault (load.Unsound place) is =
            fails_so (at_record place) (ap fault_of is) (put.is ∙ (λ i. error_at (gates_are i) (is i)))
        at_fault load.UnsoundWhole is = fails_so of_whole (ap fault_of is) (put.is ∙ (λ i. error_at (gates_are i) (is i)))
    put_there first head state old old_gates bytes gate reached.Empty own shares set rows gates_are all texts put = absurd put
    put_there first head state old old_gates bytes gate (reached.Configured version place) own shares set rows gates_are all texts put = absurd put
    put_there first head state old old_gates bytes gate (reached.Standing validator) own shares set rows gates_are all texts put = absurd put

    -- the head: the configuration is put before a state's records
    pub begins_state : (records : List Record) (version : Version) (gate : ℕ) (one : Record) (bytes : List ℕ) (later : Reached S) → IsConfigured scheme setting records version gate
        → one.gate ≡ gate → bytes ≡ configuration_of version setting.charter setting.own → IsPut scheme (record { setting = setting; records = [] }) [] bytes gate later
        → HasReached scheme setting (records ++ one ∷ []) later
    begins_state records version gate one bytes later is shares own put =
        subst (λ (l : List Record). HasReached scheme setting (l ++ one ∷ []) later) (sym is.are)
        (put_there is.first one [] (record { setting = setting; records = [] }) [] bytes gate later is.own (shares ∙ sym is.at) refl
        (ap (λ (b : List ℕ). b ∷ []) (own ∙ sym (own_bytes is.first version is.shape is.own)))
        (ap (λ (g : ℕ). g ∷ []) (sym is.at))
        (All-nil IsOfState) (All-nil IsText) put)
      where
        matched : (b : Bool) → mismatch b ≡ None → b ≡ true
        matched true none = refl
        matched false none = absurd (cc)

        own_bytes : (first : Record) (v : Version) → shaped_version first.bytes ≡ Some v → own_fault node first ≡ None → first.bytes ≡ configuration_of v setting.charter setting.own
        own_bytes first v shape none =
            let so = matched (is_own node first.bytes v) (sym (ap (λ (o : Option Version). by_version (is_own node first.bytes) o first.gate) shape) ∙ none) in
            (bytes_eq-Decides first.bytes (configuration_of v node.charter node.own)).0 (and_parts (can_report v node.charter) (bytes_eq first.bytes (configuration_of v node.charter node.own)) so).1

    -- one more of a state's records
    pub put_more : (records : List Record) (loading : LoadingView S) (gates : List ℕ) (one : Record) (later : Reached S) → All IsText records → IsText one → is_event one ≡ false
        → IsLoadingTo scheme setting records loading gates → IsPut scheme loading gates one.bytes one.gate later → HasReached scheme setting (records ++ one ∷ []) later
    put_more records loading gates one later texts text of_state is put =
        let states = is.state ++ one ∷ [] in
        let all = subst (All IsText) is.are texts in
        subst (λ (l : List Record). HasReached scheme setting (l ++ one ∷ []) later) (sym is.are)
        (put_there is.first is.head states loading gates one.bytes one.gate later is.own is.shares is.set
        (ap (λ (l : List (List ℕ)). l ++ one.bytes ∷ []) is.came ∙ sym (map-append (λ (r : Record). r.bytes) (is.first ∷ is.state) (one ∷ [])))
        (ap (λ (l : List ℕ). l ++ one.gate ∷ []) is.gates_are ∙ sym (map-append (λ (r : Record). r.gate) (is.first ∷ is.state) (one ∷ [])))
        (All-push IsOfState is.state one is.of_state of_state)
        (All-push IsText is.state one (All-tail IsText is.head is.state (All-tail IsText is.first (is.head ∷ is.state) all)) text)
        put)

  -- ---- the end of a state's records

  module _ (records : List Record) (loading : LoadingView S) (gates : List ℕ) (is : IsLoadingTo scheme setting records loading gates) where
    on_event : (one : Record) (more : List Record) → is_event one ≡ true
        → read_pair node (records ++ one ∷ more) ≡ or_damaged (go_on (λ base. read_events node base (one ∷ more)) (read_state node is.first is.state))
    on_event one more event =
        ap (λ (l : List Record). read_pair node (l ++ one ∷ more)) is.are
        ∙ pair_headed node is.first is.head (is.state ++ one ∷ more) is.own is.shares
        ∙ ap or_damaged (checkpoint_ends node is.first one is.state more is.of_state event)

    -- the state is that of a validator, and the first event comes
    pub ends_state : (one : Record) (validator : ValidatorView S) → is_event one ≡ true → validator.setting ≡ setting → StandsAt node (read_state node is.first is.state) validator.tables
        → IsStandingBefore scheme setting records one validator
    ends_state one validator event set stands = record {
      set = set;
      state = stands.state;
      at = stands.at;
      on = λ more. on_event one more event ∙ ap (λ (read : Result State ℕ). or_damaged (go_on (λ base. read_events node base (one ∷ more)) read)) stands.is_read;
    }

    -- or there is none
    pub ends_fault : (one : Record) (error : JournalError) → is_event one ≡ true → error ≢ Memory → FailsAs error (read_state node is.first is.state)
        → IsFailedAs scheme setting (records ++ one ∷ []) error
    ends_fault one error event other fails = record {
      some = with_one_some records one;
      on = λ more. ap (read_pair node) (with_one records one more) ∙ on_event one more event
          ∙ (failing error (go_on (λ base. read_events node base (one ∷ more)) (read_state node is.first is.state)) other
          (failing_on error (read_state node is.first is.state) (λ base. read_events node base (one ∷ more)) fails)).0;
      of_bytes = (failing error (read_state node is.first is.state) other fails).1;
    }

    -- without an event
    whole : read_pair node records ≡ or_damaged (read_state node is.first is.state)
    whole =
        ap (read_pair node) is.are ∙ pair_headed node is.first is.head is.state is.own is.shares
        ∙ ap or_damaged (checkpoint_whole node is.first is.state is.of_state)

    pub whole_stands : (tables : Tables) → StandsAt node (read_state node is.first is.state) tables → StandsAt node (read_pair node records) tables
    whole_stands tables stands = record { state = stands.state; is_read = whole ∙ ap or_damaged stands.is_read; at = stands.at }

    pub whole_fails : (error : JournalError) → FailsAs error (read_state node is.first is.state) → Reports error (read_pair node records) × (error ≢ Device) × (error ≢ Full)
    whole_fails error fails = by_error error fails
      where
        by_error : (e : JournalError) → FailsAs e (read_state node is.first is.state) → Reports e (read_pair node records) × (e ≢ Device) × (e ≢ Full)
        by_error Memory f = (tt, (λ same. cc), (λ same. cc))
        by_error (Damaged gate) f = (whole ∙ ap or_damaged f, (λ same. cc), (λ same. cc))
        by_error Device f = absurd f
        by_error ConfigMismatch f = absurd f
        by_error Full f = absurd f

  -- ---- what was reached says whether there is a record

  pub reached_some : (records : List Record) (later : Reached S) → HasReached scheme setting records later → later ≢ reached.Empty → records ≢ []
  reached_some records reached.Empty has other = absurd (other refl)
  reached_some records (reached.Configured version gate) has other = λ none. absurd (cc (sym has.are ∙ none))
  reached_some records (reached.Checkpoint loading gates) has other = λ none. absurd (cc (sym has.are ∙ none))
  reached_some records (reached.Standing validator) has other = has.some
  reached_some records (reached.Failed error) has other = has.some

  -- ---- the end of the journal

  pub none_stands : (records : List Record) (tables : Tables) → records ≡ [] → AreAtSound node tables (fresh node) → StandsAt node (read_pair node records) tables
  none_stands records tables none at = record { state = fresh node; is_read = ap (read_pair node) none ∙ pair_none node; at = at }

  pub alone_stands : (records : List Record) (version : Version) (gate : ℕ) (tables : Tables) → IsConfigured scheme setting records version gate → AreAtSound node tables (fresh node)
      → StandsAt node (read_pair node records) tables
  alone_stands records version gate tables is at = record { state = fresh node; is_read = ap (read_pair node) is.are ∙ pair_alone node is.first is.own; at = at }

  -- the validator is a new one where no record came, or the configuration alone
  pub fresh_stands : (records : List Record) (later : Reached S) (tables : Tables) → HasReached scheme setting records later
      → (later ≡ reached.Empty) ⊎ ((version : Version) × (gate : ℕ) × (later ≡ reached.Configured version gate)) → AreAtSound node tables (fresh node) → StandsAt node (read_pair node records) tables
  fresh_stands records later tables has (inl is) at = none_stands records tables (subst (λ (r : Reached S). HasReached scheme setting records r) is has) at
  fresh_stands records later tables has (inr (version, gate, is)) at =
      alone_stands records version gate tables (subst (λ (r : Reached S). HasReached scheme setting records r) is has) at

  pub standing_stands : (records : List Record) (validator : ValidatorView S) → IsStandingAt scheme setting records validator → StandsAt node (read_pair node records) validator.tables
  standing_stands records validator is = record {
    state = is.state;
    is_read = ap (read_pair node) (sym (append-nil records)) ∙ is.on [] ∙ ap or_damaged (read_nil node is.state);
    at = is.at;
  }

  pub failed_reports : (records : List Record) (error : JournalError) → IsFailedAs scheme setting records error → Reports error (read_pair node records) × (error ≢ Device) × (error ≢ Full)
  failed_reports records error is = (reports_is error (read_pair node records) (ap (read_pair node) (sym (append-nil records)) ∙ is.on []), is.of_bytes.device, is.of_bytes.full)
