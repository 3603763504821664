-- What readings of a journal on two disks come to.
use Rattle.std.proofs.Common.{◌≡◌, ◌≢◌, ℕ, ◌+◌, ◌<◌, inl, inr, Bool, true, false, cond, List, [], ◌∷◌}
use Rattle.std.proofs.Common.{◌++◌, length, get_or, Option, Some, None, Result, Ok, Err, refl, sym, ap, ◌∙◌, arith, length-append}
use Rattle.std.specs.Prelude.{All, not, if◌then◌else◌}
use Rattle.std.specs.List.{position_from}
use Rattle.std.specs.Option.{option_map, option_map_or, option_or}
use Rattle.std.proofs.lemmas.Bool.{cases_Bool, eq-eqb, ne_eqb}
use Rattle.std.proofs.lemmas.List.{append-nil, get_or_append_left, length-map, map-append}
use Rattle.std.proofs.lemmas.List.Elements.{All-head, All-tail, All-map}
use Rattle.journal.specs.declared.error.JournalError.{JournalError}
use Rattle.journal.specs.declared.error.JournalError.TheVariants.{Damaged}
use Rattle.journal.specs.declared.record.Record.{Record}
use Rattle.journal.specs.Areas.{Areas, alone, pair, stands_in}
use Rattle.spec_checkpoint.specs.Data.{KeptBatch, Checkpoint}
use Rattle.spec_checkpoint.specs.Faults.{batch_tests, record_tests, is_whole_sound}
use Rattle.spec_checkpoint.specs.Laws.{FailsAtFirst, ReadAsWritten}
use Rattle.spec_checkpoint.specs.Loading.{LoadFault, at_record, of_whole, is_configuration, fault_of_read, load_fault}
use Rattle.spec_checkpoint.specs.Meaning.{state_in}
use Rattle.spec_checkpoint.specs.Reading.{checkpoint_read}
use Rattle.spec_checkpoint.specs.Records.{state_records}
use Rattle.spec_machine.specs.Machine.{fresh}
use Rattle.spec_model.specs.Nodes.{Node}
use Rattle.spec_model.specs.States.{State}
use Rattle.spec_world.specs.World.{bytes_of, IsPair}
use Rattle.wire.specs.Fields.{AreBytes}
use Rattle.opening.specs.Decoded.{IsText, own_fault, or_damaged, unless, go_on, read_events, is_event, state_part, events_part, gates_of, gate_of, loaded}
use Rattle.opening.specs.Decoded.{read_state, read_checkpoint, read_after, read_pair, decoded_by_both, decoded_in}
use Rattle.opening.proofs.Reporting.{read_nil}

-- ---- a state's records, and the events after them

-- a record is none of an event
abbrev pub IsOfState : Record → Type 0
IsOfState one = is_event one ≡ false

pub state_on : (state more : List Record) → All IsOfState state → state_part (state ++ more) ≡ state ++ state_part more
unfolding state_part
state_on [] more all = refl
state_on (one ∷ state) more all =
    ap (λ (b : Bool). cond b [] (one ∷ state_part (state ++ more))) (All-head IsOfState one state all)
    ∙ ap (λ (l : List Record). one ∷ l) (state_on state more (All-tail IsOfState one state all))

pub events_on : (state more : List Record) → All IsOfState state → events_part (state ++ more) ≡ events_part more
unfolding events_part
events_on [] more all = refl
events_on (one ∷ state) more all =
    ap (λ (b : Bool). cond b (one ∷ (state ++ more)) (events_part (state ++ more))) (All-head IsOfState one state all)
    ∙ events_on state more (All-tail IsOfState one state all)

state_ends : (one : Record) (more : List Record) → is_event one ≡ true → state_part (one ∷ more) ≡ []
unfolding state_part
state_ends one more is = ap (λ (b : Bool). cond b [] (one ∷ state_part more)) is

events_begin : (one : Record) (more : List Record) → is_event one ≡ true → events_part (one ∷ more) ≡ one ∷ more
unfolding events_part
events_begin one more is = ap (λ (b : Bool). cond b (one ∷ more) (events_part more)) is

no_state : state_part [] ≡ []
unfolding state_part
no_state = refl

no_events : events_part [] ≡ []
unfolding events_part
no_events = refl

with_none : (records : List Record) → records ++ [] ≡ records
with_none [] = refl
with_none (one ∷ records) = ap (λ (l : List Record). one ∷ l) (with_none records)

-- ---- where a fault stands

below_end : {A : Type 0} (test : A → Bool) (place found : ℕ) (xs : List A) → position_from test place xs ≡ Some found → found < place + length xs
below_end test place found [] is = absurd (cc)
below_end test place found (x ∷ xs) is = elim (cases_Bool (test x)) [
  | inl so ↦
      let here : Some place ≡ Some found = sym (ap (λ (b : Bool). cond b (Some place) (position_from test (place + 1) xs)) so) ∙ is in
      let same : place ≡ found = (cc here) in omega (arith, same)
  | inr off ↦
      let later = below_end test (place + 1) found xs (sym (ap (λ (b : Bool). cond b (Some place) (position_from test (place + 1) xs)) off) ∙ is) in
      omega (arith, later)
]

batches_tested : (node : Node) (before batches : List KeptBatch) → length (batch_tests node before batches) ≡ length batches
unfolding batch_tests
batches_tested node before [] = refl
batches_tested node before (kept ∷ batches) = let rest = batches_tested node (before ++ kept ∷ []) batches in omega (arith, rest)

-- each record of a state has a test
each_tested : (node : Node) (c : Checkpoint) → length (record_tests node c) ≡ length (state_records c)
each_tested node c =
    simp (length-append, length-map, batches_tested) refl

tested_fault : (place : Option ℕ) (whole : Bool) (found : ℕ) → option_or (option_map at_record place) (if whole then None else Some of_whole) ≡ Some (at_record found) → place ≡ Some found
tested_fault (Some place) whole found is = cc
tested_fault None true found is = absurd (cc)
tested_fault None false found is = absurd (cc)

module _ (fails : FailsAtFirst) (reads : ReadAsWritten) (node : Node) where
  read_below : (records : List (List ℕ)) (place : ℕ) (read : Result Checkpoint ℕ) → All AreBytes records → checkpoint_read node records ≡ read → fault_of_read node read ≡ Some (at_record place)
      → place < 1 + length records
  read_below records place (Ok c) texts is fault =
      let found = tested_fault (position_from not 1 (record_tests node c)) (is_whole_sound node c) place fault in
      let same = ((reads node records c texts).0 is).1 in
      let within = below_end not 1 place (record_tests node c) found in
      omega (arith, within, each_tested node c, ap length same)
  read_below records place (Err at) texts is fault =
      let same : at + 1 ≡ place = (cc fault) in
      let within = ((fails node records at).0 is).within in
      omega (arith, same, within)

  -- a record's fault is that of one of them
  pub fault_below : (first : List ℕ) (records : List (List ℕ)) (place : ℕ) → All AreBytes records → load_fault node (first ∷ records) ≡ Some (at_record place) → place < 1 + length records
  unfolding load_fault
  fault_below first records place texts is = elim (cases_Bool (is_configuration node first)) [
    | inl so ↦ read_below records place (checkpoint_read node records) texts refl (sym (ap (λ (b : Bool). cond b (fault_of_read node (checkpoint_read node records)) (Some (at_record 0))) so) ∙ is)
    | inr off ↦
        let here : Some (at_record 0) ≡ Some (at_record place) = sym (ap (λ (b : Bool). cond b (fault_of_read node (checkpoint_read node records)) (Some (at_record 0))) off) ∙ is in
        let same : 0 ≡ place = (cc here) in omega (arith, same)
  ]

-- ---- a journal

pub pair_none : (node : Node) → read_pair node [] ≡ Ok (fresh node)
unfolding read_pair
pair_none node = refl

pub pair_first : (node : Node) (first : Record) (rest : List Record) → read_pair node (first ∷ rest) ≡ unless (own_fault node first) (read_after node first rest)
unfolding read_pair
pair_first node first rest = refl

pub pair_fails : (node : Node) (first : Record) (rest : List Record) (error : JournalError) → own_fault node first ≡ Some error → read_pair node (first ∷ rest) ≡ Err error
pair_fails node first rest error is = pair_first node first rest ∙ ap (λ (f : Option JournalError). unless f (read_after node first rest)) is

pair_free : (node : Node) (first : Record) (rest : List Record) → own_fault node first ≡ None → read_pair node (first ∷ rest) ≡ or_damaged (read_after node first rest)
pair_free node first rest none = pair_first node first rest ∙ ap (λ (f : Option JournalError). unless f (read_after node first rest)) none

-- a head stands after the configuration
pub pair_headed : (node : Node) (first head : Record) (rest : List Record) → own_fault node first ≡ None → head.gate ≡ first.gate
    → read_pair node (first ∷ head ∷ rest) ≡ or_damaged (read_checkpoint node first rest)
pair_headed node first head rest none shares =
    pair_free node first (head ∷ rest) none
    ∙ ap (λ (b : Bool). or_damaged (cond b (read_checkpoint node first rest) (read_events node (fresh node) (head ∷ rest)))) (eq-eqb head.gate first.gate shares)

-- an event does
pub pair_apart : (node : Node) (first one : Record) (rest : List Record) → own_fault node first ≡ None → one.gate ≢ first.gate
    → read_pair node (first ∷ one ∷ rest) ≡ or_damaged (read_events node (fresh node) (one ∷ rest))
pair_apart node first one rest none other =
    pair_free node first (one ∷ rest) none
    ∙ ap (λ (b : Bool). or_damaged (cond b (read_checkpoint node first rest) (read_events node (fresh node) (one ∷ rest)))) (ne_eqb one.gate first.gate other)

-- nothing does
pub pair_alone : (node : Node) (first : Record) → own_fault node first ≡ None → read_pair node (first ∷ []) ≡ Ok (fresh node)
pair_alone node first none = pair_free node first [] none ∙ ap or_damaged (read_nil node (fresh node))

-- ---- a checkpoint

pub checkpoint_is : (node : Node) (first : Record) (records : List Record)
    → read_checkpoint node first records ≡ go_on (λ state. read_events node state (events_part records)) (read_state node first (state_part records))
unfolding read_checkpoint
checkpoint_is node first records = refl

-- of a state's records with an event after them
pub checkpoint_ends : (node : Node) (first one : Record) (state more : List Record) → All IsOfState state → is_event one ≡ true
    → read_checkpoint node first (state ++ one ∷ more) ≡ go_on (λ base. read_events node base (one ∷ more)) (read_state node first state)
checkpoint_ends node first one state more all event =
    let records = state ++ one ∷ more in
    let states : state_part records ≡ state = state_on state (one ∷ more) all ∙ ap (λ (l : List Record). state ++ l) (state_ends one more event) ∙ with_none state in
    let events : events_part records ≡ one ∷ more = events_on state (one ∷ more) all ∙ events_begin one more event in
    checkpoint_is node first records ∙ (λ i. go_on (λ base. read_events node base (events i)) (read_state node first (states i)))

read_same : (node : Node) (read : Result State ℕ) → go_on (λ base. read_events node base []) read ≡ read
read_same node (Ok state) = read_nil node state
read_same node (Err place) = refl

-- of a state's records alone
pub checkpoint_whole : (node : Node) (first : Record) (state : List Record) → All IsOfState state → read_checkpoint node first state ≡ read_state node first state
checkpoint_whole node first state all =
    let states : state_part state ≡ state =
    ap state_part (sym (with_none state)) ∙ state_on state [] all ∙ ap (λ (l : List Record). state ++ l) no_state ∙ with_none state in
    let events : events_part state ≡ [] = ap events_part (sym (with_none state)) ∙ events_on state [] all ∙ no_events in
    checkpoint_is node first state ∙ (λ i. go_on (λ base. read_events node base (events i)) (read_state node first (states i))) ∙ read_same node (read_state node first state)

state_is : (node : Node) (first : Record) (state : List Record) (fault : Option LoadFault) → load_fault node (bytes_of (first ∷ state)) ≡ fault
    → read_state node first state ≡ option_map_or (λ f. Err (gate_of (gates_of (first ∷ state)) f)) fault (loaded node first.gate (checkpoint_read node (bytes_of state)))
unfolding read_state
state_is node first state fault is =
    ap (λ (f : Option LoadFault). option_map_or (λ one. Err (gate_of (gates_of (first ∷ state)) one)) f (loaded node first.gate (checkpoint_read node (bytes_of state)))) is

-- a state's records without a fault
pub state_read : (node : Node) (first : Record) (state : List Record) (c : Checkpoint) → load_fault node (bytes_of (first ∷ state)) ≡ None → checkpoint_read node (bytes_of state) ≡ Ok c
    → read_state node first state ≡ Ok (state_in node c)
state_read node first state c none is = state_is node first state None none ∙ ap (loaded node first.gate) is

-- and at fault
pub state_fails : (node : Node) (first : Record) (state : List Record) (fault : LoadFault) → load_fault node (bytes_of (first ∷ state)) ≡ Some fault
    → read_state node first state ≡ Err (gate_of (gates_of (first ∷ state)) fault)
state_fails node first state fault is = state_is node first state (Some fault) is

-- whatever comes after them, they keep the fault that they have before all that may come
module _ (fails : FailsAtFirst) (reads : ReadAsWritten) (node : Node) (first : Record) (state : List Record) (fault : LoadFault) (texts : All IsText state) (all : All IsOfState state)
    (each : (more : List (List ℕ)) → load_fault node (bytes_of (first ∷ state) ++ more) ≡ Some fault) where
  gate_stays : (kind : LoadFault) → fault ≡ kind → (more : List Record) → gate_of (gates_of (first ∷ state ++ more)) kind ≡ gate_of (gates_of (first ∷ state)) kind
  gate_stays (at_record place) is more =
      let here : load_fault node (first.bytes ∷ bytes_of state) ≡ Some (at_record place) = ap (load_fault node) (sym (append-nil (bytes_of (first ∷ state)))) ∙ each [] ∙ ap Some is in
      let below = fault_below fails reads node first.bytes (bytes_of state) place (All-map AreBytes (λ (one : Record). one.bytes) state texts) here in
      let within : place < length (gates_of (first ∷ state)) =
      omega (arith, below, length-map state (λ (one : Record). one.bytes), length-map state (λ (one : Record). one.gate)) in
      ap (λ (l : List ℕ). get_or l place first.gate) (map-append (λ (one : Record). one.gate) (first ∷ state) more)
      ∙ get_or_append_left (gates_of (first ∷ state)) (gates_of more) first.gate place within
  gate_stays of_whole is more = refl

  pub fault_stays : (more : List Record) → read_checkpoint node first (state ++ more) ≡ Err (gate_of (gates_of (first ∷ state)) fault)
  fault_stays more =
      let rest = state_part more in
      let rows : bytes_of (first ∷ state ++ rest) ≡ bytes_of (first ∷ state) ++ bytes_of rest = map-append (λ (one : Record). one.bytes) (first ∷ state) rest in
      let found : load_fault node (bytes_of (first ∷ state ++ rest)) ≡ Some fault = ap (load_fault node) rows ∙ each (bytes_of rest) in
      checkpoint_is node first (state ++ more)
      ∙ ap (λ (l : List Record). go_on (λ base. read_events node base (events_part (state ++ more))) (read_state node first l)) (state_on state more all)
      ∙ ap (go_on (λ base. read_events node base (events_part (state ++ more)))) (state_fails node first (state ++ rest) fault found ∙ ap Err (gate_stays fault refl rest))

-- ---- areas

-- two areas are read so
pub decoded_both : (node : Node) (areas : Areas) → IsPair areas → decoded_in node areas ≡ decoded_by_both node (stands_in areas)
decoded_both node (alone bytes) two = absurd two
decoded_both node (pair one other) two = refl

pub decoded_pair_same : (node : Node) (one other : Areas) → IsPair one → IsPair other → stands_in one ≡ stands_in other → decoded_in node one ≡ decoded_in node other
decoded_pair_same node one other two also same = decoded_both node one two ∙ ap (decoded_by_both node) same ∙ sym (decoded_both node other also)

pub decoded_pair_records : (node : Node) (areas : Areas) (records : List Record) → IsPair areas → stands_in areas ≡ Ok records → decoded_in node areas ≡ read_pair node records
decoded_pair_records node areas records two is = decoded_both node areas two ∙ ap (decoded_by_both node) is

pub decoded_pair_damaged : (node : Node) (areas : Areas) (place : ℕ) → IsPair areas → stands_in areas ≡ Err place → decoded_in node areas ≡ Err (Damaged place)
decoded_pair_damaged node areas place two is = decoded_both node areas two ∙ ap (decoded_by_both node) is
