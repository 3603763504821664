-- That what two areas are told as is what they stand for, both ways.
use Rattle.std.proofs.Common.{◌≡◌, ◌≢◌, ℕ, ◌<◌, inl, inr, Bool, true, false, cond, List, [], ◌∷◌, ◌++◌, length}
use Rattle.std.proofs.Common.{get_or, map, take, drop, Option, Some, None, Result, Ok, Err, refl, sym, ap, ◌∙◌, subst, arith}
use Rattle.std.specs.Prelude.{All}
use Rattle.std.specs.Option.{option_map_or}
use Rattle.std.specs.Str.{bytes_eq}
use Rattle.std.proofs.lemmas.Bool.{cases_Bool, and_parts, and_from, eq-eqb, ne_eqb}
use Rattle.std.proofs.lemmas.List.{map-append}
use Rattle.std.proofs.lemmas.List.Elements.{All-nil, All-cons, All-head, All-tail, All-map, All-append}
use Rattle.std.proofs.lemmas.Slice.Eq.{bytes_eq-Decides}
use Rattle.journal.specs.Areas.{Areas, alone, pair, head_record, stands_in}
use Rattle.journal.specs.Configuration.{shaped_version}
use Rattle.journal.specs.declared.error.JournalError.TheVariants.{Damaged}
use Rattle.journal.specs.declared.record.Record.{Record}
use Rattle.journal.specs.declared.version.Version.{Version}
use Rattle.spec_checkpoint.specs.Data.{Checkpoint, IsWritten}
use Rattle.spec_checkpoint.specs.Loading.{LoadFault, load_fault}
use Rattle.spec_checkpoint.specs.Meaning.{state_in}
use Rattle.spec_checkpoint.specs.Reading.{kind_of, checkpoint_read}
use Rattle.spec_checkpoint.specs.Records.{order_record, batch_record, vote_record, header_record, certificate_record, coins_record, cut, state_records}
use Rattle.spec_checkpoint.proofs.Loadable.{loads_the_sound, read_as_written}
use Rattle.spec_machine.specs.After.{after_all, IsLegalAfter}
use Rattle.spec_machine.specs.Laws.{StartsFresh}
use Rattle.spec_machine.specs.Machine.{fresh}
use Rattle.spec_machine.specs.Sound.{IsSound}
use Rattle.spec_machine.proofs.AfterAll.{kept_is_sound, order_grows_after}
use Rattle.spec_model.specs.Giving.{kept}
use Rattle.spec_model.specs.Histories.{History}
use Rattle.spec_model.specs.Nodes.{Node, IsNode}
use Rattle.spec_model.specs.States.{State}
use Rattle.spec_records.specs.Records.{record_of, configuration_of, CanReport}
use Rattle.spec_world.specs.Promise.{NothingTakenBack}
use Rattle.spec_world.specs.Runs.{AreKeys}
use Rattle.spec_world.specs.World.{bytes_of, IsPair, own_configuration, BeginsAs, as_fresh, as_checkpoint, Holds, StandsFor, as_journal, as_empty}
use Rattle.wire.specs.Fields.{AreBytes}
use Rattle.opening.specs.Laws.{IsOfAreas, DecodedInStandsFor, WhatStandsIsDecodedIn, WorldsAreDecodedIn}
use Rattle.opening.specs.Decoded.{IsText, can_report, is_own, mismatch, own_fault, or_damaged, go_on, read_events, is_event}
use Rattle.opening.specs.Decoded.{state_part, events_part, gates_of, gate_of, loaded, read_state, read_checkpoint, read_after, read_pair, decoded_in}
use Rattle.opening.proofs.Configured.{reports_of, decoded_of}
use Rattle.opening.proofs.FirstGroups.{IsAfterFirst, BeginsWith, with_head, without_head, begins_with, pair_texts, head_written}
use Rattle.opening.proofs.Histories.{AreEvents, read_back, read_whole}
use Rattle.opening.proofs.GroupTexts.{OnlyGroups}
use Rattle.opening.proofs.Laws.{fresh_sound, unless_ok, configuration_shape, decoded_stands_for, what_stands_is_decoded}
use Rattle.opening.proofs.PairReporting.{pair_none, pair_first, pair_headed, pair_alone, pair_apart, checkpoint_is, state_read, decoded_pair_records, decoded_pair_damaged}
use Rattle.opening.proofs.StateTexts.{state_are, configuration_are}
use Rattle.opening.proofs.Reporting.{by_version, bytes_same, read_nil}

-- ---- the first record

-- it is the node's configuration, in a version that can tell its committee
pub record IsOwn (node : Node) (first : Record) : Type 0 where
  pub version : Version
  pub shape : shaped_version first.bytes ≡ Some version
  pub can : CanReport version node.charter
  pub is : first.bytes ≡ configuration_of version node.charter node.own

matched : (own : Bool) → mismatch own ≡ None → own ≡ true
matched true none = refl
matched false none = absurd (cc)

own_by : (node : Node) (first : Record) (shaped : Option Version) → shaped_version first.bytes ≡ shaped → by_version (is_own node first.bytes) shaped first.gate ≡ None → IsOwn node first
own_by node first None shape none = absurd (cc)
own_by node first (Some version) shape none =
    let configuration = configuration_of version node.charter node.own in
    let parts = and_parts (can_report version node.charter) (bytes_eq first.bytes configuration) (matched (is_own node first.bytes version) none) in
    record {
      version = version;
      shape = shape;
      can = reports_of version node.charter parts.0;
      is = (bytes_eq-Decides first.bytes configuration).0 parts.1;
    }

pub own_is : (node : Node) (first : Record) → own_fault node first ≡ None → IsOwn node first
own_is node first none = own_by node first (shaped_version first.bytes) refl none

pub own_free : (node : Node) (first : Record) → IsOwn node first → own_fault node first ≡ None
own_free node first own =
    let configuration = configuration_of own.version node.charter node.own in
    let same : bytes_eq first.bytes configuration ≡ true = ap (λ (l : List ℕ). bytes_eq first.bytes l) (sym own.is) ∙ bytes_same first.bytes in
    let is : is_own node first.bytes own.version ≡ true =
    and_from (can_report own.version node.charter) (bytes_eq first.bytes configuration) (decoded_of own.version node.charter own.can) same in
    ap (λ (v : Option Version). by_version (is_own node first.bytes) v first.gate) own.shape ∙ ap mismatch is

-- ---- what a reading gave

ok_is : {E : Type 0} (one other : State) → ◌≡◌ {A = Result State E} (Ok one) (Ok other) → one ≡ other
ok_is one other same = cc

no_ok : {E : Type 0} (error : E) (state : State) → ◌≡◌ {A = Result State E} (Err error) (Ok state) → ⊥
no_ok error state same = cc

-- a reading went on after another one
record WentOn (read : Result State ℕ) (more : State → Result State ℕ) (state : State) : Type 0 where
  base : State
  first : read ≡ Ok base
  then : more base ≡ Ok state

went_on : (read : Result State ℕ) (more : State → Result State ℕ) (state : State) → go_on more read ≡ Ok state → WentOn read more state
went_on (Ok base) more state is = record { base = base; first = refl; then = is }
went_on (Err place) more state is = absurd (no_ok place state is)

-- a state's records were read
record WasLoaded (node : Node) (first : Record) (state : List Record) (base : State) : Type 0 where
  none : load_fault node (bytes_of (first ∷ state)) ≡ None
  checkpoint : Checkpoint
  read : checkpoint_read node (bytes_of state) ≡ Ok checkpoint
  is : base ≡ state_in node checkpoint

loaded_by : (node : Node) (first : Record) (state : List Record) (base : State) (fault : Option LoadFault) (read : Result Checkpoint ℕ) → load_fault node (bytes_of (first ∷ state)) ≡ fault
    → checkpoint_read node (bytes_of state) ≡ read → read_state node first state ≡ Ok base → WasLoaded node first state base
unfolding read_state
loaded_by node first state base (Some fault) read is reads so =
    absurd (no_ok _ base (sym (ap (λ (f : Option LoadFault). option_map_or (λ one. Err (gate_of (gates_of (first ∷ state)) one)) f (loaded node first.gate (checkpoint_read node
    (bytes_of state)))) is) ∙ so))
loaded_by node first state base None (Ok checkpoint) is reads so = record {
  none = is;
  checkpoint = checkpoint;
  read = reads;
  is = ok_is base (state_in node checkpoint) (sym so ∙ state_read node first state checkpoint is reads);
}
loaded_by node first state base None (Err place) is reads so =
    absurd (no_ok first.gate base (sym
    (ap (λ (f : Option LoadFault). option_map_or (λ one. Err (gate_of (gates_of (first ∷ state)) one)) f (loaded node first.gate (checkpoint_read node (bytes_of state)))) is
    ∙ ap (loaded node first.gate) reads) ∙ so))

was_loaded : (node : Node) (first : Record) (state : List Record) (base : State) → read_state node first state ≡ Ok base → WasLoaded node first state base
was_loaded node first state base so = loaded_by node first state base (load_fault node (bytes_of (first ∷ state))) (checkpoint_read node (bytes_of state)) refl refl so

-- ---- both parts

parts_join : (records : List Record) → state_part records ++ events_part records ≡ records
unfolding state_part events_part
parts_join [] = refl
parts_join (one ∷ records) = elim (cases_Bool (is_event one)) [
  | inl event ↦ (λ i. cond (event i) [] (one ∷ state_part records) ++ cond (event i) (one ∷ records) (events_part records))
  | inr other ↦
      (λ i. cond (other i) [] (one ∷ state_part records) ++ cond (other i) (one ∷ records) (events_part records))
      ∙ ap (λ (l : List Record). one ∷ l) (parts_join records)
]

state_texts : (records : List Record) → All IsText records → All IsText (state_part records)
unfolding state_part
state_texts [] all = all
state_texts (one ∷ records) all = elim (cases_Bool (is_event one)) [
  | inl event ↦ subst (λ (b : Bool). All IsText (cond b [] (one ∷ state_part records))) (sym event) (All-nil IsText)
  | inr other ↦ subst (λ (b : Bool). All IsText (cond b [] (one ∷ state_part records))) (sym other)
      (All-cons IsText one (state_part records) (All-head IsText one records all) (state_texts records (All-tail IsText one records all)))
]

event_texts : (records : List Record) → All IsText records → All IsText (events_part records)
unfolding events_part
event_texts [] all = all
event_texts (one ∷ records) all = elim (cases_Bool (is_event one)) [
  | inl event ↦ subst (λ (b : Bool). All IsText (cond b (one ∷ records) (events_part records))) (sym event) all
  | inr other ↦ subst (λ (b : Bool). All IsText (cond b (one ∷ records) (events_part records))) (sym other) (event_texts records (All-tail IsText one records all))
]

-- ---- what is told stands

module _ (starts : StartsFresh) (node : Node) (areas : Areas) (two : IsPair areas) (sound : IsNode node) where
  -- events alone come after the configuration
  module _ (first : Record) (rest : List Record) (state : State) (is : stands_in areas ≡ Ok (first ∷ rest)) (own : IsOwn node first) where
    of_events : All IsText rest → All (IsAfterFirst first) rest → read_events node (fresh node) rest ≡ Ok state → IsOfAreas node areas state
    of_events texts after read =
        let more = read_back node (fresh node) state rest texts read in
        let legal : IsLegalAfter node (fresh node) more.events = record { node_is = sound; sound = fresh_sound starts node sound; taken = more.are.taken; new = more.are.new } in
        let held : Holds node areas state = record {
          front = own_configuration own.version node ∷ [];
          in_first = 1;
          base = fresh node;
          begins = as_fresh own.version own.can refl refl refl;
          events = more.events;
          journal = record {
            records = first ∷ rest;
            stands_for = is;
            are = λ i. own.is i ∷ more.are.same i;
            first_gate = first.gate;
            first = All-cons (λ (one : Record). one.gate ≡ first.gate) first [] refl (All-nil (λ (one : Record). one.gate ≡ first.gate));
            others = after;
          };
          legal = legal;
          leads = sym more.parts;
        } in
        record { stands_for = as_journal held; sound = subst (IsSound node) (sym more.parts) (order_grows_after node (fresh node) more.events legal).sound }

    -- a head and a checkpoint do
    of_checkpoint : (head : Record) (records : List Record) (generation : ℕ) → rest ≡ head ∷ records → head.gate ≡ first.gate → head.bytes ≡ head_record generation
        → All IsText (first ∷ records) → All (IsAfterFirst first) records → read_checkpoint node first records ≡ Ok state → IsOfAreas node areas state
    of_checkpoint head records generation are shares head_is texts after read =
        let went = went_on (read_state node first (state_part records)) (λ base. read_events node base (events_part records)) state (sym (checkpoint_is node first records) ∙ read) in
        let was = was_loaded node first (state_part records) went.base went.first in
        let record_texts = All-tail IsText first records texts in
        let rows = All-map AreBytes (λ (one : Record). one.bytes) (first ∷ state_part records)
        (All-cons IsText first (state_part records) (All-head IsText first records texts) (state_texts records record_texts)) in
        let (c, loadable) = (loads_the_sound node (bytes_of (first ∷ state_part records)) sound rows).0 was.none in
        let state_rows : bytes_of (state_part records) ≡ state_records c = ap (λ (l : List (List ℕ)). drop 1 l) loadable.are in
        let is_read : checkpoint_read node (bytes_of (state_part records)) ≡ Ok c =
        (read_as_written node (bytes_of (state_part records)) c (All-tail AreBytes first.bytes (bytes_of (state_part records)) rows)).1 (loadable.written.canonical, state_rows) in
        let base_is : went.base ≡ state_in node c = was.is ∙ ap (state_in node) (same_read was.checkpoint c (sym was.read ∙ is_read)) in
        let more = read_back node went.base state (events_part records) (event_texts records record_texts) went.then in
        let base_sound : IsSound node went.base = subst (IsSound node) (sym base_is) loadable.sound in
        let legal : IsLegalAfter node went.base more.events = record { node_is = sound; sound = base_sound; taken = more.are.taken; new = more.are.new } in
        let after_head : bytes_of records ≡ state_records c ++ map record_of more.events =
        ap bytes_of (sym (parts_join records)) ∙ map-append (λ (one : Record). one.bytes) (state_part records) (events_part records) ∙ (λ i. state_rows i ++ more.are.same i) in
        let held : Holds node areas state = record {
          front = own_configuration own.version node ∷ head_record generation ∷ state_records c;
          in_first = 2;
          base = went.base;
          begins = as_checkpoint own.version generation c two own.can loadable.written refl refl base_is;
          events = more.events;
          journal = record {
            records = first ∷ head ∷ records;
            stands_for = is ∙ ap (λ (l : List Record). Ok (first ∷ l)) are;
            are = λ i. own.is i ∷ head_is i ∷ after_head i;
            first_gate = first.gate;
            first = All-cons (λ (one : Record). one.gate ≡ first.gate) first (head ∷ []) refl
                (All-cons (λ (one : Record). one.gate ≡ first.gate) head [] shares (All-nil (λ (one : Record). one.gate ≡ first.gate)));
            others = after;
          };
          legal = legal;
          leads = sym more.parts;
        } in
        record { stands_for = as_journal held; sound = subst (IsSound node) (sym more.parts) (order_grows_after node went.base more.events legal).sound }
      where
        same_read : (one other : Checkpoint) → ◌≡◌ {A = Result Checkpoint ℕ} (Ok one) (Ok other) → one ≡ other
        same_read one other same = cc

    by_group : BeginsWith first rest → All IsText (first ∷ rest) → read_after node first rest ≡ Ok state → IsOfAreas node areas state
    by_group (with_head head records generation are shares head_is after) texts read =
        let all = subst (λ (l : List Record). All IsText (first ∷ l)) are texts in
        let others = All-tail IsText first (head ∷ records) all in
        of_checkpoint head records generation are shares (head_written head.bytes generation (All-head IsText head records others) head_is)
        (All-cons IsText first records (All-head IsText first (head ∷ records) all) (All-tail IsText head records others)) after
        (sym (headed ∙ ap (λ (b : Bool). cond b (read_checkpoint node first records) (read_events node (fresh node) (head ∷ records))) (eq-eqb head.gate first.gate shares)) ∙ read)
      where
        headed : read_after node first rest ≡ read_after node first (head ∷ records)
        headed = ap (read_after node first) are
    by_group (without_head after) texts read = of_events (All-tail IsText first rest texts) after (sym (apart rest after) ∙ read)
      where
        apart : (l : List Record) → All (IsAfterFirst first) l → read_after node first l ≡ read_events node (fresh node) l
        apart [] all = refl
        apart (one ∷ others) all =
            let above = All-head (IsAfterFirst first) one others all in
            ap (λ (b : Bool). cond b (read_checkpoint node first others) (read_events node (fresh node) (one ∷ others))) (ne_eqb one.gate first.gate (λ same. omega (arith, above, same)))

  pub found_in : (records : List Record) (state : State) → All IsText records → stands_in areas ≡ Ok records → ((first : Record) (rest : List Record) → records ≡ first ∷ rest → BeginsWith first rest)
      → read_pair node records ≡ Ok state → IsOfAreas node areas state
  found_in [] state texts is begins read =
      let same = ok_is (fresh node) state (sym (pair_none node) ∙ read) in
      record { stands_for = as_empty is (sym same); sound = subst (IsSound node) same (fresh_sound starts node sound) }
  found_in (first ∷ rest) state texts is begins read =
      let found = unless_ok (own_fault node first) (read_after node first rest) state (sym (pair_first node first rest) ∙ read) in
      by_group first rest state is (own_is node first found.0) (begins first rest refl) texts found.1

-- the first group of areas that are two
pub areas_begin : (areas : Areas) → IsPair areas → (first : Record) (rest : List Record) → stands_in areas ≡ Ok (first ∷ rest) → BeginsWith first rest
areas_begin (alone bytes) two first rest is = absurd two
areas_begin (pair one other) two first rest is = begins_with one other first rest is

-- ---- what stands is told

-- the records of a state are of other kinds than those of events
abbrev OfState : List ℕ → Type 0
OfState bytes = kind_of bytes ≢ 1

abbrev OfEvent : List ℕ → Type 0
OfEvent bytes = kind_of bytes ≡ 1

each_of : {X : Type 0} (f : X → List ℕ) (P : List ℕ → Type 0) (xs : List X) → ((x : X) → P (f x)) → All P (map f xs)
each_of f P [] each = All-nil P
each_of f P (x ∷ xs) each = All-cons P (f x) (map f xs) (each x) (each_of f P xs each)

rows_of_state : (c : Checkpoint) → All OfState (state_records c)
rows_of_state c =
    let certificates = map certificate_record c.certificates in
    let coins = map coins_record (cut 131072 c.coins) in
    All-append OfState (map order_record (cut 65536 c.order)) _ (each_of order_record OfState (cut 65536 c.order) (λ one same. omega (arith, same)))
    (All-append OfState (map batch_record c.batches) _ (each_of batch_record OfState c.batches (λ one same. omega (arith, same)))
    (All-append OfState (map vote_record c.votes) _ (each_of vote_record OfState c.votes (λ one same. omega (arith, same)))
    (All-append OfState (map header_record c.headers) _ (each_of header_record OfState c.headers (λ one same. omega (arith, same)))
    (All-append OfState certificates coins (each_of certificate_record OfState c.certificates (λ one same. omega (arith, same)))
    (each_of coins_record OfState (cut 131072 c.coins) (λ one same. omega (arith, same)))))))

first_same : (one other : List ℕ) (rest also : List (List ℕ)) → one ∷ rest ≡ other ∷ also → one ≡ other
first_same one other rest also same = ap (λ (l : List (List ℕ)). get_or l 0 []) same

rest_same : (one other : List ℕ) (rest also : List (List ℕ)) → one ∷ rest ≡ other ∷ also → rest ≡ also
rest_same one other rest also same = ap (λ (l : List (List ℕ)). drop 1 l) same

-- so they are told apart
record AreParts (records : List Record) (rows events : List (List ℕ)) : Type 0 where
  state : bytes_of (state_part records) ≡ rows
  events_are : bytes_of (events_part records) ≡ events

parts_are : (records : List Record) (rows events : List (List ℕ)) → bytes_of records ≡ rows ++ events → All OfState rows → All OfEvent events → AreParts records rows events
unfolding state_part events_part
parts_are [] [] events same of_state of_event = record { state = refl; events_are = same }
parts_are [] (row ∷ rows) events same of_state of_event = absurd (omega (arith, ap length same))
parts_are (one ∷ records) [] [] same of_state of_event = absurd (omega (arith, ap length same))
parts_are (one ∷ records) [] (event ∷ events) same of_state of_event =
    let bytes = first_same one.bytes event (bytes_of records) events same in
    let is : is_event one ≡ true = eq-eqb (kind_of one.bytes) 1 (ap kind_of bytes ∙ All-head OfEvent event events of_event) in
    record {
      state = ap (λ (b : Bool). bytes_of (cond b [] (one ∷ state_part records))) is;
      events_are = ap (λ (b : Bool). bytes_of (cond b (one ∷ records) (events_part records))) is ∙ same;
    }
parts_are (one ∷ records) (row ∷ rows) events same of_state of_event =
    let bytes = first_same one.bytes row (bytes_of records) (rows ++ events) same in
    let other : is_event one ≡ false = ne_eqb (kind_of one.bytes) 1 (λ is. All-head OfState row rows of_state (ap kind_of (sym bytes) ∙ is)) in
    let more = parts_are records rows events (rest_same one.bytes row (bytes_of records) (rows ++ events) same) (All-tail OfState row rows of_state) of_event in
    record {
      state = ap (λ (b : Bool). bytes_of (cond b [] (one ∷ state_part records))) other ∙ (λ i. bytes i ∷ more.state i);
      events_are = ap (λ (b : Bool). bytes_of (cond b (one ∷ records) (events_part records))) other ∙ more.events_are;
    }

-- ---- a checkpoint without a fault

loads_written : (node : Node) (first : Record) (state : List Record) (c : Checkpoint) → IsNode node → AreKeys node → IsOwn node first → IsWritten node c → IsSound node (state_in node c)
    → bytes_of state ≡ state_records c → load_fault node (bytes_of (first ∷ state)) ≡ None
loads_written node first state c sound keys own written state_sound rows =
    let configuration = configuration_of own.version node.charter node.own in
    let texts = All-cons AreBytes configuration (state_records c) (configuration_are own.version node keys) (state_are node c written.canonical) in
    (λ i. load_fault node (own.is i ∷ rows i))
    ∙ (loads_the_sound node (configuration ∷ state_records c) sound texts).1
    (c, record { version = own.version; can_report = own.can; are = refl; written = written; sound = state_sound })

-- ---- a journal with a checkpoint

pub checkpoint_decoded : (node : Node) (first head : Record) (records : List Record) (c : Checkpoint) (events : History) → AreKeys node → IsOwn node first → head.gate ≡ first.gate
    → bytes_of records ≡ state_records c ++ map record_of events → IsWritten node c → IsLegalAfter node (state_in node c) events
    → read_pair node (first ∷ head ∷ records) ≡ Ok (after_all node (state_in node c) events)
checkpoint_decoded node first head records c events keys own shares are written legal =
    let parts = parts_are records (state_records c) (map record_of events) are (rows_of_state c) (each_of record_of OfEvent events (λ event. refl)) in
    let base : read_state node first (state_part records) ≡ Ok (state_in node c) =
    state_read node first (state_part records) c (loads_written node first (state_part records) c legal.node_is keys own written legal.sound parts.state)
    (ap (checkpoint_read node) parts.state ∙ (read_as_written node (state_records c) c (state_are node c written.canonical)).1 (written.canonical, refl)) in
    let following : AreEvents node (state_in node c) (events_part records) events = record { same = parts.events_are; taken = legal.taken; new = legal.new } in
    pair_headed node first head records (own_free node first own) shares
    ∙ ap or_damaged (checkpoint_is node first records ∙ ap (go_on (λ s. read_events node s (events_part records))) base
    ∙ read_whole node (state_in node c) (events_part records) events legal.node_is following)

-- one with events alone
pub events_decoded : (node : Node) (first : Record) (rest : List Record) (events : History) → IsOwn node first → All (IsAfterFirst first) rest
    → bytes_of rest ≡ map record_of events → IsLegalAfter node (fresh node) events → read_pair node (first ∷ rest) ≡ Ok (after_all node (fresh node) events)
events_decoded node first rest events own after are legal = by_rest rest after (read_whole node (fresh node) rest events legal.node_is (record { same = are; taken = legal.taken; new = legal.new }))
  where
    free : own_fault node first ≡ None
    free = own_free node first own

    by_rest : (l : List Record) → All (IsAfterFirst first) l → read_events node (fresh node) l ≡ Ok (after_all node (fresh node) events)
        → read_pair node (first ∷ l) ≡ Ok (after_all node (fresh node) events)
    by_rest [] all read = pair_alone node first free ∙ sym (ap or_damaged (read_nil node (fresh node))) ∙ ap or_damaged read
    by_rest (one ∷ others) all read =
        let above = All-head (IsAfterFirst first) one others all in
        pair_apart node first one others free (λ same. omega (arith, above, same)) ∙ ap or_damaged read

-- the node's configuration is its own
pub own_by_bytes : (node : Node) (first : Record) (version : Version) → IsNode node → AreKeys node → CanReport version node.charter → first.bytes ≡ own_configuration version node → IsOwn node first
own_by_bytes node first version sound keys can is = record { version = version; shape = ap shaped_version is ∙ configuration_shape version node sound keys; can = can; is = is }

module _ (node : Node) (areas : Areas) (two : IsPair areas) (keys : AreKeys node) where
  begun_decoded : (front : List (List ℕ)) (in_first : ℕ) (base : State) (events : History) → IsLegalAfter node base events → (records : List Record) → stands_in areas ≡ Ok records
      → bytes_of records ≡ front ++ map record_of events → (gate : ℕ) → All (λ (one : Record). one.gate ≡ gate) (take in_first records)
      → All (λ (one : Record). gate < one.gate) (drop in_first records)
      → BeginsAs node areas front in_first base → decoded_in node areas ≡ Ok (after_all node base events)
  begun_decoded front in_first base events legal [] is are gate firsts others (as_fresh version can front_is first base_is) =
      absurd (omega (arith, ap length (are ∙ ap (λ (l : List (List ℕ)). l ++ map record_of events) front_is)))
  begun_decoded front in_first base events legal (one ∷ rest) is are gate firsts others (as_fresh version can front_is first base_is) =
      let rows : one.bytes ∷ bytes_of rest ≡ own_configuration version node ∷ map record_of events = are ∙ ap (λ (l : List (List ℕ)). l ++ map record_of events) front_is in
      let own = own_by_bytes node one version legal.node_is keys can (first_same one.bytes (own_configuration version node) (bytes_of rest) (map record_of events) rows) in
      let at : one.gate ≡ gate = All-head (λ (r : Record). r.gate ≡ gate) one [] (subst (λ (n : ℕ). All (λ (r : Record). r.gate ≡ gate) (take n (one ∷ rest))) first firsts) in
      let after : All (IsAfterFirst one) rest =
      subst (λ (g : ℕ). All (λ (r : Record). g < r.gate) rest) (sym at) (subst (λ (n : ℕ). All (λ (r : Record). gate < r.gate) (drop n (one ∷ rest))) first others) in
      decoded_pair_records node areas (one ∷ rest) two is
      ∙ events_decoded node one rest events own after (rest_same one.bytes (own_configuration version node) (bytes_of rest) (map record_of events) rows)
      (subst (λ (s : State). IsLegalAfter node s events) base_is legal)
      ∙ ap (λ (s : State). Ok (after_all node s events)) (sym base_is)
  begun_decoded front in_first base events legal [] is are gate firsts others (as_checkpoint version generation c is_two can written front_is first base_is) =
      absurd (omega (arith, ap length (are ∙ ap (λ (l : List (List ℕ)). l ++ map record_of events) front_is)))
  begun_decoded front in_first base events legal (one ∷ []) is are gate firsts others (as_checkpoint version generation c is_two can written front_is first base_is) =
      absurd (omega (arith, ap length (are ∙ ap (λ (l : List (List ℕ)). l ++ map record_of events) front_is)))
  begun_decoded front in_first base events legal (one ∷ head ∷ rest) is are gate firsts others (as_checkpoint version generation c is_two can written front_is first base_is) =
      let rows : one.bytes ∷ head.bytes ∷ bytes_of rest ≡ own_configuration version node ∷ head_record generation ∷ state_records c ++ map record_of events =
      are ∙ ap (λ (l : List (List ℕ)). l ++ map record_of events) front_is in
      let own = own_by_bytes node one version legal.node_is keys can
      (first_same one.bytes (own_configuration version node) (head.bytes ∷ bytes_of rest) (head_record generation ∷ state_records c ++ map record_of events) rows) in
      let two_firsts = subst (λ (n : ℕ). All (λ (r : Record). r.gate ≡ gate) (take n (one ∷ head ∷ rest))) first firsts in
      let at = All-head (λ (r : Record). r.gate ≡ gate) one (head ∷ []) two_firsts in
      let also = All-head (λ (r : Record). r.gate ≡ gate) head [] (All-tail (λ (r : Record). r.gate ≡ gate) one (head ∷ []) two_firsts) in
      decoded_pair_records node areas (one ∷ head ∷ rest) two is
      ∙ checkpoint_decoded node one head rest c events keys own (also ∙ sym at) (ap (λ (l : List (List ℕ)). drop 2 l) rows) written
      (subst (λ (s : State). IsLegalAfter node s events) base_is legal)
      ∙ ap (λ (s : State). Ok (after_all node s events)) (sym base_is)

  pub two_are_decoded : (state : State) → StandsFor node areas state → decoded_in node areas ≡ Ok state
  two_are_decoded state (as_journal holds) =
      begun_decoded holds.front holds.in_first holds.base holds.events holds.legal holds.journal.records holds.journal.stands_for holds.journal.are
      holds.journal.first_gate holds.journal.first holds.journal.others holds.begins ∙ ap Ok holds.leads
  two_are_decoded state (as_empty none is) = decoded_pair_records node areas [] two none ∙ pair_none node ∙ ap Ok (sym is)

-- ---- the laws of areas

pub decoded_in_stands_for : StartsFresh → OnlyGroups → DecodedInStandsFor
decoded_in_stands_for starts only node (alone bytes) state sound are is =
    let found = decoded_stands_for starts only node bytes state sound are is in
    record { stands_for = found.stands_for; sound = subst (IsSound node) found.keeps (kept_is_sound node found.history found.legal) }
decoded_in_stands_for starts only node (pair one other) state sound are is = by_read (stands_in (pair one other)) refl
  where
    by_read : (read : Result (List Record) ℕ) → stands_in (pair one other) ≡ read → IsOfAreas node (pair one other) state
    by_read (Ok records) stand =
        found_in starts node (pair one other) tt sound records state (pair_texts only one other records are.0 are.1 stand) stand
        (λ first rest same. begins_with one other first rest (stand ∙ ap Ok same)) (sym (decoded_pair_records node (pair one other) records tt stand) ∙ is)
    by_read (Err place) stand = absurd (no_ok (Damaged place) state (sym (decoded_pair_damaged node (pair one other) place tt stand) ∙ is))

pub what_stands_is_decoded_in : WhatStandsIsDecodedIn
what_stands_is_decoded_in node (alone bytes) state sound keys stands_for = what_stands_is_decoded node bytes state keys stands_for
what_stands_is_decoded_in node (pair one other) state sound keys stands_for = two_are_decoded node (pair one other) tt keys state stands_for

pub worlds_are_decoded_in : NothingTakenBack → WorldsAreDecodedIn
worlds_are_decoded_in kept_all node moves world areas sound keys run may =
    let never = kept_all node moves world sound run in
    let (history, recovered, stands_for) = never.stands areas may in
    record {
      history = history;
      is_decoded = what_stands_is_decoded_in node areas (kept node history) sound keys stands_for;
      stands_for = stands_for;
      recovered = recovered;
    }
