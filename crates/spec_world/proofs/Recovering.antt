-- What the areas of a journal stand for.
use Rattle.std.proofs.Common.{◌≡◌, ℕ, zero, suc, ◌+◌, ◌-◌, ◌<◌, ◌≤◌, inl, inr, subst, List, [], ◌∷◌, ◌++◌, length, get_or, map, take, drop, Result, Ok, Err, refl, sym, ap, ◌∙◌, arith, append_assoc, length-append}
use Rattle.std.specs.Prelude.{All}
use Rattle.std.proofs.lemmas.List.{append-nil, map-append, drop-append-le, take-append-le, length-map, take-map, drop-map}
use Rattle.std.proofs.lemmas.List.Elements.{All-nil, All-cons, All-append, All-head, All-tail, All-map, All-weaker}
use Rattle.std.proofs.lemmas.Bool.{cases_lt, cases_eq}
use Rattle.journal.specs.Areas.{Areas, alone, base_of, head_record, moved, moved_by, stands_at, stands_in}
use Rattle.journal.specs.Format.{kept_at, kept, walk, stands}
use Rattle.journal.proofs.Walks.{Found, walk_later, goes, closed_is, stands_short}
use Rattle.journal.specs.Journal.{EndsClosed, with_group, stands_with}
use Rattle.journal.specs.declared.record.Record.{Record}
use Rattle.journal.specs.declared.side.Side.{Side}
use Rattle.journal.specs.declared.side.Side.TheVariants.{First, Second}
use Rattle.spec_checkpoint.specs.Data.{Checkpoint}
use Rattle.spec_checkpoint.proofs.Loadable.{one_checkpoint}
use Rattle.spec_checkpoint.specs.Meaning as checkpoint
use Rattle.spec_checkpoint.specs.Reading.{kind_of}
use Rattle.spec_checkpoint.specs.Records.{state_records, order_record, batch_record, vote_record, header_record, certificate_record, coins_record, cut}
use Rattle.spec_machine.specs.After.{after_all, IsLegalAfter}
use Rattle.spec_machine.proofs.AfterAll.{after_joins, after_append, after_is_kept, legal_after}
use Rattle.spec_model.specs.Admitting.{IsTaken, IsLegal}
use Rattle.spec_model.specs.Giving as model
use Rattle.spec_model.specs.Histories.{History}
use Rattle.spec_model.specs.Nodes.{Node, IsNode}
use Rattle.spec_model.specs.States.{State}
use Rattle.spec_records.specs.Records.{record_of}
use Rattle.spec_records.proofs.Once.{one_record}
use Rattle.spec_world.specs.World.{bytes_of, IsPair, IsJournal, own_configuration, BeginsAs, as_fresh, as_checkpoint, Holds, StandsFor, as_journal, as_empty}

-- one result has one list
pub ok_is : (one other : List Record) → ◌≡◌ {A = Result (List Record) ℕ} (Ok one) (Ok other) → one ≡ other
ok_is one other same = cc

-- ---- gates

-- a gate before this place
abbrev IsBefore : ℕ → Record → Type 0
IsBefore place one = one.gate < place

abbrev IsAfter : ℕ → Record → Type 0
IsAfter place one = place < one.gate

pub bytes_of-kept : (gate : ℕ) (group : List (List ℕ)) → bytes_of (kept gate group) ≡ group
bytes_of-kept gate [] = refl
bytes_of-kept gate (bytes ∷ group) = ap (λ (l : List (List ℕ)). bytes ∷ l) (bytes_of-kept gate group)

kept_before : (gate place : ℕ) (group : List (List ℕ)) → gate < place → All (IsBefore place) (kept gate group)
kept_before gate place [] less = All-nil (IsBefore place)
kept_before gate place (bytes ∷ group) less = All-cons (IsBefore place) (kept_at gate bytes) (kept gate group) less (kept_before gate place group less)

kept_after : (gate place : ℕ) (group : List (List ℕ)) → place < gate → All (IsAfter place) (kept gate group)
kept_after gate place [] less = All-nil (IsAfter place)
kept_after gate place (bytes ∷ group) less = All-cons (IsAfter place) (kept_at gate bytes) (kept gate group) less (kept_after gate place group less)

-- the gates of what is found stand before the one that ends it
walk_gates : (bytes : List ℕ) (place passed : ℕ) (found : Found) → walk place passed bytes ≡ Ok found → All (IsBefore found.1) found.0
unfolding walk
walk_gates [] place passed found walked =
    let is : found ≡ ([], place) = cc in
    subst (λ (f : Found). All (IsBefore f.1) f.0) (sym is) (All-nil (IsBefore place))
walk_gates (b ∷ rest) place (suc k) found walked = walk_gates rest (place + 1) k found walked
walk_gates (b ∷ rest) place zero found walked = elim (cases_eq b 0) [
  | inl shut ↦ subst (λ (f : Found). All (IsBefore f.1) f.0) (sym (closed_is place b rest found shut walked)) (All-nil (IsBefore place))
  | inr is_open ↦
      let on = goes place b rest found is_open walked in
      let later = walk_later rest (place + 1) (4 + length on.body) on.more on.on in
      let more = walk_gates rest (place + 1) (4 + length on.body) on.more on.on in
      subst (λ (f : Found). All (IsBefore f.1) f.0) (sym on.is)
      (All-append (IsBefore on.more.1) (kept place on.records) on.more.0 (kept_before place on.more.1 on.records (omega (arith, later))) more)
]

-- ---- an area on a side

moved_none : (records : List Record) → map (moved_by 0) records ≡ records
moved_none [] = refl
moved_none (one ∷ records) =
    let same : 0 + one.gate ≡ one.gate = omega arith in
    (λ i. record one { gate = same i } ∷ moved_none records i)

pub at_side : (side : Side) (file : List ℕ) (records : List Record) → stands file ≡ Ok records → stands_at side file ≡ Ok (map (moved_by (base_of side)) records)
at_side First file records is = is ∙ ap Ok (sym (moved_none records))
at_side Second file records is = ap (moved (base_of Second)) is

pub same_at : (side : Side) (file left : List ℕ) → stands left ≡ stands file → stands_at side left ≡ stands_at side file
same_at First file left same = same
same_at Second file left same = ap (moved (base_of Second)) same

moved_with : (base gate : ℕ) (group : List (List ℕ)) (read : Result (List Record) ℕ) → moved base (with_group gate group read) ≡ with_group (base + gate) group (moved base read)
moved_with base gate group (Ok records) = ap Ok (map-append (moved_by base) records (kept gate group) ∙ ap (λ (l : List Record). map (moved_by base) records ++ l) (moved_kept group))
  where
    moved_kept : (group : List (List ℕ)) → map (moved_by base) (kept gate group) ≡ kept (base + gate) group
    moved_kept [] = refl
    moved_kept (bytes ∷ group) = ap (λ (l : List Record). kept_at (base + gate) bytes ∷ l) (moved_kept group)
moved_with base gate group (Err place) = refl

-- with a group more
with_at : (side : Side) (file left : List ℕ) (group : List (List ℕ)) → stands left ≡ stands_with file group
    → stands_at side left ≡ with_group (base_of side + (length file - 1)) group (stands_at side file)
with_at First file left group is =
    let same : length file - 1 ≡ 0 + (length file - 1) = omega arith in
    is ∙ ap (λ (n : ℕ). with_group n group (stands file)) same
with_at Second file left group is = ap (moved (base_of Second)) is ∙ moved_with (base_of Second) (length file - 1) group (stands file)

-- its gates stand before its end
pub gates_at : (side : Side) (file : List ℕ) → EndsClosed file → (records : List Record) → stands_at side file ≡ Ok records → All (IsBefore (base_of side + (length file - 1))) records
gates_at side file ends records is =
    let place = length file - 1 in
    let found = walk_gates file 0 0 (ends.records, place) ends.ends in
    let base = base_of side in
    let all : All (IsBefore (base + place)) (map (moved_by base) ends.records) =
    All-map (IsBefore (base + place)) (moved_by base) ends.records
    (All-weaker (IsBefore place) (λ (one : Record). base + one.gate < base + place) (λ one less. omega (arith, less)) ends.records found) in
    subst (All (IsBefore (base + place))) (ok_is _ _ (sym (at_side side file ends.records ends.stands_for) ∙ is)) all

-- ---- journals

-- a journal on a side is one
moved_each : (P Q : Record → Type 0) (base : ℕ) (records : List Record) → ((one : Record) → P one → Q (moved_by base one)) → All P records → All Q (map (moved_by base) records)
moved_each P Q base records each all = All-map Q (moved_by base) records (All-weaker P (λ (one : Record). Q (moved_by base one)) each records all)

bytes_moved : (base : ℕ) (records : List Record) → bytes_of (map (moved_by base) records) ≡ bytes_of records
bytes_moved base [] = refl
bytes_moved base (one ∷ records) = ap (λ (l : List (List ℕ)). one.bytes ∷ l) (bytes_moved base records)

pub journal_at : (side : Side) (file : List ℕ) (front : List (List ℕ)) (in_first : ℕ) (events : History) → IsJournal (stands file) front in_first events
    → IsJournal (stands_at side file) front in_first events
journal_at side file front in_first events is =
    let base = base_of side in
    record {
      records = map (moved_by base) is.records;
      stands_for = at_side side file is.records is.stands_for;
      are = bytes_moved base is.records ∙ is.are;
      first_gate = base + is.first_gate;
      first = subst (All (λ (one : Record). one.gate ≡ base + is.first_gate)) (sym (take-map (moved_by base) in_first is.records))
          (moved_each (λ (one : Record). one.gate ≡ is.first_gate) (λ (one : Record). one.gate ≡ base + is.first_gate) base (take in_first is.records)
          (λ one same. ap (λ (n : ℕ). base + n) same) is.first);
      others = subst (All (IsAfter (base + is.first_gate))) (sym (drop-map (moved_by base) in_first is.records))
          (moved_each (IsAfter is.first_gate) (IsAfter (base + is.first_gate)) base (drop in_first is.records) (λ one less. omega (arith, less)) is.others);
    }

pub journal_same : (one other : Result (List Record) ℕ) (front : List (List ℕ)) (in_first : ℕ) (events : History) → other ≡ one → IsJournal one front in_first events
    → IsJournal other front in_first events
journal_same one other front in_first events same is = record {
  records = is.records;
  stands_for = same ∙ is.stands_for;
  are = is.are;
  first_gate = is.first_gate;
  first = is.first;
  others = is.others;
}

-- the gate of the first group stands before what all do
first_before : (place first_gate in_first : ℕ) (records : List Record) → 1 ≤ in_first → 1 ≤ length records → All (λ (one : Record). one.gate ≡ first_gate) (take in_first records)
    → All (IsBefore place) records → first_gate < place
first_before place first_gate in_first [] some has first all = absurd (omega (arith, has))
first_before place first_gate zero (one ∷ records) some has first all = absurd (omega (arith, some))
first_before place first_gate (suc n) (one ∷ records) some has first all =
    let is = All-head (λ (r : Record). r.gate ≡ first_gate) one (take n records) first in
    omega (arith, is, All-head (IsBefore place) one records all)

-- one with a group of these records more, whose gate is at this place
grown : (one other : Result (List Record) ℕ) (front : List (List ℕ)) (in_first : ℕ) (events : History) (group : List (List ℕ)) (front' : List (List ℕ)) (events' : History) (place : ℕ)
    → IsJournal one front in_first events → 1 ≤ in_first → in_first ≤ length front → ((records : List Record) → one ≡ Ok records → All (IsBefore place) records)
    → other ≡ with_group place group one → (front ++ map record_of events) ++ group ≡ front' ++ map record_of events' → IsJournal other front' in_first events'
grown one other front in_first events group front' events' place is some within before with joined =
    let last = kept place group in
    let many : in_first ≤ length is.records =
    omega (arith, within, ap length is.are, length-map is.records (λ (r : Record). r.bytes), length-append front (map record_of events)) in
    record {
      records = is.records ++ last;
      stands_for = with ∙ ap (with_group place group) is.stands_for;
      are = map-append (λ (r : Record). r.bytes) is.records last ∙ (λ i. is.are i ++ bytes_of-kept place group i) ∙ joined;
      first_gate = is.first_gate;
      first = subst (All (λ (r : Record). r.gate ≡ is.first_gate)) (sym (take-append-le in_first is.records last many)) is.first;
      others = subst (All (IsAfter is.first_gate)) (sym (drop-append-le in_first is.records last many))
          (All-append (IsAfter is.first_gate) (drop in_first is.records) last is.others
          (kept_after place is.first_gate group
          (first_before place is.first_gate in_first is.records some (omega (arith, many, some)) is.first (before is.records is.stands_for))));
    }

-- the records are those of events
journal_more : (one other : Result (List Record) ℕ) (front : List (List ℕ)) (in_first : ℕ) (events more : History) (place : ℕ) → IsJournal one front in_first events
    → 1 ≤ in_first → in_first ≤ length front → ((records : List Record) → one ≡ Ok records → All (IsBefore place) records)
    → other ≡ with_group place (map record_of more) one → IsJournal other front in_first (events ++ more)
journal_more one other front in_first events more place is some within before with =
    grown one other front in_first events (map record_of more) front (events ++ more) place is some within before with
    (append_assoc front (map record_of events) (map record_of more) ∙ ap (λ (l : List (List ℕ)). front ++ l) (sym (map-append record_of events more)))

-- or of what stands before the events
pub journal_grows : (one other : Result (List Record) ℕ) (front group : List (List ℕ)) (in_first place : ℕ) → IsJournal one front in_first []
    → 1 ≤ in_first → in_first ≤ length front → ((records : List Record) → one ≡ Ok records → All (λ (r : Record). r.gate < place) records)
    → other ≡ with_group place group one → IsJournal other (front ++ group) in_first []
journal_grows one other front group in_first place is some within before with =
    grown one other front in_first [] group (front ++ group) [] place is some within before with
    (ap (λ (l : List (List ℕ)). l ++ group) (append-nil front) ∙ sym (append-nil (front ++ group)))

-- ---- what is held

-- the first group has a record, and all of it is before the events
begun_long : (node : Node) (areas : Areas) (front : List (List ℕ)) (in_first : ℕ) (base : State) → BeginsAs node areas front in_first base → (1 ≤ in_first) × (in_first ≤ length front)
begun_long node areas front in_first base (as_fresh version can is first base_is) = (omega (arith, first), omega (arith, first, ap length is))
begun_long node areas front in_first base (as_checkpoint version generation kept two can written is first base_is) = (omega (arith, first), omega (arith, first, ap length is))

begun_same : (node : Node) (areas other : Areas) (front : List (List ℕ)) (in_first : ℕ) (base : State) → (IsPair areas → IsPair other)
    → BeginsAs node areas front in_first base → BeginsAs node other front in_first base
begun_same node areas other front in_first base two (as_fresh version can is first base_is) = as_fresh version can is first base_is
begun_same node areas other front in_first base two (as_checkpoint version generation kept is_pair can written is first base_is) =
    as_checkpoint version generation kept (two is_pair) can written is first base_is

-- other areas that are read as the same
pub holds_same : (node : Node) (areas other : Areas) (held_state : State) → Holds node areas held_state → (IsPair areas → IsPair other) → stands_in other ≡ stands_in areas
    → Holds node other held_state
holds_same node areas other held_state held two same = record {
  front = held.front;
  in_first = held.in_first;
  base = held.base;
  begins = begun_same node areas other held.front held.in_first held.base two held.begins;
  events = held.events;
  journal = journal_same (stands_in areas) (stands_in other) held.front held.in_first held.events same held.journal;
  legal = held.legal;
  leads = held.leads;
}

-- and with a group of the records of these events more
pub holds_after : (node : Node) (areas other : Areas) (side : Side) (file left : List ℕ) (held_state : State) (more : History) → Holds node areas held_state
    → (IsPair areas → IsPair other) → stands_in areas ≡ stands_at side file → stands_in other ≡ stands_at side left → EndsClosed file → stands left ≡ stands_with file (map record_of more)
    → IsLegalAfter node held_state more → Holds node other (after_all node held_state more)
holds_after node areas other side file left held_state more held two reads also ends is legal =
    let long = begun_long node areas held.front held.in_first held.base held.begins in
    let place = base_of side + (length file - 1) in
    record {
      front = held.front;
      in_first = held.in_first;
      base = held.base;
      begins = begun_same node areas other held.front held.in_first held.base two held.begins;
      events = held.events ++ more;
      journal = journal_more (stands_in areas) (stands_in other) held.front held.in_first held.events more place held.journal long.0 long.1
          (λ records stand. gates_at side file ends records (sym reads ∙ stand))
          (also ∙ with_at side file left (map record_of more) is ∙ ap (with_group place (map record_of more)) (sym reads));
      legal = (after_joins node held.base held.events more).joined held.legal (subst (λ (s : State). IsLegalAfter node s more) (sym held.leads) legal);
      leads = after_append node held.base held.events more ∙ ap (λ (s : State). after_all node s more) held.leads;
    }

-- and of a history
pub holds_more : (node : Node) (areas other : Areas) (side : Side) (file left : List ℕ) (history more : History) → Holds node areas (model.kept node history)
    → (IsPair areas → IsPair other) → stands_in areas ≡ stands_at side file → stands_in other ≡ stands_at side left → EndsClosed file → stands left ≡ stands_with file (map record_of more)
    → IsLegal node (history ++ more) → Holds node other (model.kept node (history ++ more))
holds_more node areas other side file left history more held two reads also ends is legal =
    subst (Holds node other) (after_is_kept node history more legal)
    (holds_after node areas other side file left (model.kept node history) more held two reads also ends is (legal_after node history more legal))

-- a journal has a record
pub some_record : (node : Node) (areas : Areas) (held_state : State) (held : Holds node areas held_state) → 1 ≤ length held.journal.records
some_record node areas held_state held =
    let long = begun_long node areas held.front held.in_first held.base held.begins in
    omega (arith, long.0, long.1, ap length held.journal.are, length-map held.journal.records (λ (r : Record). r.bytes), length-append held.front (map record_of held.events))

-- and one area two bytes or more
pub journal_long : (node : Node) (file : List ℕ) (held_state : State) → Holds node (alone file) held_state → 2 ≤ length file
unfolding stands_in
journal_long node file held_state held =
    elim (cases_lt (length file) 2) [
      | inl short ↦
          let none = ok_is held.journal.records [] (sym held.journal.stands_for ∙ stands_short file short) in
          absurd (omega (arith, some_record node (alone file) held_state held, ap length none))
      | inr long ↦ long
    ]

-- ---- one state

same_events : (node : Node) → IsNode node → (one other : History) → All (IsTaken node) one → All (IsTaken node) other → map record_of one ≡ map record_of other → one ≡ other
same_events node sound [] [] taken also same = refl
same_events node sound [] (event ∷ other) taken also same = absurd (omega (arith, ap length same))
same_events node sound (event ∷ one) [] taken also same = absurd (omega (arith, ap length same))
same_events node sound (event ∷ one) (next ∷ other) taken also same =
    let is = All-head (IsTaken node) event one taken in
    let is' = All-head (IsTaken node) next other also in
    let first : event ≡ next = one_record node.charter event next sound.charter (record { message = is.message; passed = is.passed }) (record { message = is'.message; passed = is'.passed })
    (ap (λ (l : List (List ℕ)). get_or l 0 []) same) in
    let rest : one ≡ other = same_events node sound one other (All-tail (IsTaken node) event one taken) (All-tail (IsTaken node) next other also) (ap (λ (l : List (List ℕ)). drop 1 l) same) in
    (λ i. first i ∷ rest i)

-- the records of events are of one kind, and those of a state of others
abbrev IsOfEvent : List ℕ → Type 0
IsOfEvent bytes = kind_of bytes ≡ 1

abbrev IsOfState : List ℕ → Type 0
IsOfState bytes = kind_of bytes ≡ 1 → ⊥

each_of : {X : Type 0} (P : X → Type 0) (xs : List X) → ((x : X) → P x) → All P xs
each_of P [] each = All-nil P
each_of P (x ∷ xs) each = All-cons P x xs (each x) (each_of P xs each)

of_kind : {X : Type 0} (f : X → List ℕ) (xs : List X) → ((x : X) → IsOfState (f x)) → All IsOfState (map f xs)
of_kind f xs each = All-map IsOfState f xs (each_of (λ x. IsOfState (f x)) xs each)

events_are : (events : History) → All IsOfEvent (map record_of events)
events_are events = All-map IsOfEvent record_of events (each_of (λ event. IsOfEvent (record_of event)) events (λ event. refl))

state_are : (kept : Checkpoint) → All IsOfState (state_records kept)
state_are kept =
    let orders = map order_record (cut 65536 kept.order) in
    let batches = map batch_record kept.batches in
    let votes = map vote_record kept.votes in
    let headers = map header_record kept.headers in
    let certificates = map certificate_record kept.certificates in
    let coins = map coins_record (cut 131072 kept.coins) in
    All-append IsOfState orders _ (of_kind order_record (cut 65536 kept.order) (λ one same. omega (arith, same)))
    (All-append IsOfState batches _ (of_kind batch_record kept.batches (λ one same. omega (arith, same)))
    (All-append IsOfState votes _ (of_kind vote_record kept.votes (λ one same. omega (arith, same)))
    (All-append IsOfState headers _ (of_kind header_record kept.headers (λ one same. omega (arith, same)))
    (All-append IsOfState certificates coins (of_kind certificate_record kept.certificates (λ one same. omega (arith, same)))
    (of_kind coins_record (cut 131072 kept.coins) (λ one same. omega (arith, same)))))))

-- the first of these records
first_same : (one other : List ℕ) (rest also : List (List ℕ)) → one ∷ rest ≡ other ∷ also → one ≡ other
first_same one other rest also same = ap (λ (l : List (List ℕ)). get_or l 0 []) same

rest_same : (one other : List ℕ) (rest also : List (List ℕ)) → one ∷ rest ≡ other ∷ also → rest ≡ also
rest_same one other rest also same = ap (λ (l : List (List ℕ)). drop 1 l) same

-- so where both follow one another each part is the same
split_same : (one events other also : List (List ℕ)) → All IsOfState one → All IsOfEvent events → All IsOfState other → All IsOfEvent also → one ++ events ≡ other ++ also
    → (one ≡ other) × (events ≡ also)
split_same [] events [] also a b c d same = (refl, same)
split_same [] [] (first ∷ other) also a b c d same = absurd (omega (arith, ap length same))
split_same [] (event ∷ events) (first ∷ other) also a b c d same =
    absurd (All-head IsOfState first other c (ap kind_of (sym (first_same event first events (other ++ also) same)) ∙ All-head IsOfEvent event events b))
split_same (first ∷ one) events [] [] a b c d same = absurd (omega (arith, ap length same))
split_same (first ∷ one) events [] (event ∷ also) a b c d same =
    absurd (All-head IsOfState first one a (ap kind_of (first_same first event (one ++ events) also same) ∙ All-head IsOfEvent event also d))
split_same (first ∷ one) events (next ∷ other) also a b c d same =
    let is = first_same first next (one ++ events) (other ++ also) same in
    let rest = split_same one events other also (All-tail IsOfState first one a) b (All-tail IsOfState next other c) d (rest_same first next (one ++ events) (other ++ also) same) in
    ((λ i. is i ∷ rest.0 i), rest.1)

-- the head of a checkpoint is no event
no_head : (generation : ℕ) (events : History) (records : List (List ℕ)) → map record_of events ≡ head_record generation ∷ records → ⊥
no_head generation [] records same = omega (arith, ap length same)
no_head generation (event ∷ events) records same = omega (arith, ap kind_of (first_same (record_of event) (head_record generation) (map record_of events) records same))

-- a beginning and the events after it
abbrev AreOne : State → History → State → History → Type 0
AreOne base events other also = (base ≡ other) × (events ≡ also)

one_begins : (node : Node) (areas : Areas) → IsNode node
    → (front : List (List ℕ)) (in_first : ℕ) (base : State) (events : History) → BeginsAs node areas front in_first base → All (IsTaken node) events
    → (front' : List (List ℕ)) (in_first' : ℕ) (base' : State) (events' : History) → BeginsAs node areas front' in_first' base' → All (IsTaken node) events'
    → front ++ map record_of events ≡ front' ++ map record_of events' → AreOne base events base' events'
one_begins node areas sound front in_first base events (as_fresh version can is first base_is) taken front' in_first' base' events' (as_fresh version' can' is' first' base_is') taken' same =
    let journals : own_configuration version node ∷ map record_of events ≡ own_configuration version' node ∷ map record_of events' =
    (λ i. sym is i ++ map record_of events) ∙ same ∙ (λ i. is' i ++ map record_of events') in
    let same_rest = rest_same (own_configuration version node) (own_configuration version' node) (map record_of events) (map record_of events') journals in
    (base_is ∙ sym base_is', same_events node sound events events' taken taken' same_rest)
one_begins node areas sound front in_first base events (as_fresh version can is first base_is) taken front' in_first' base' events'
    (as_checkpoint version' generation kept' two' can' written' is' first' base_is') taken' same =
    let journals : own_configuration version node ∷ map record_of events ≡ own_configuration version' node ∷ head_record generation ∷ state_records kept' ++ map record_of events' =
    (λ i. sym is i ++ map record_of events) ∙ same ∙ (λ i. is' i ++ map record_of events') in
    absurd (no_head generation events (state_records kept' ++ map record_of events')
    (rest_same (own_configuration version node) (own_configuration version' node) (map record_of events) (head_record generation ∷ state_records kept' ++ map record_of events') journals))
one_begins node areas sound front in_first base events (as_checkpoint version generation kept two can written is first base_is) taken front' in_first' base' events'
    (as_fresh version' can' is' first' base_is') taken' same =
    let journals : own_configuration version' node ∷ map record_of events' ≡ own_configuration version node ∷ head_record generation ∷ state_records kept ++ map record_of events =
    (λ i. sym is' i ++ map record_of events') ∙ sym same ∙ (λ i. is i ++ map record_of events) in
    absurd (no_head generation events' (state_records kept ++ map record_of events)
    (rest_same (own_configuration version' node) (own_configuration version node) (map record_of events') (head_record generation ∷ state_records kept ++ map record_of events) journals))
one_begins node areas sound front in_first base events (as_checkpoint version generation kept two can written is first base_is) taken front' in_first' base' events'
    (as_checkpoint version' generation' kept' two' can' written' is' first' base_is') taken' same =
    let journals : own_configuration version node ∷ head_record generation ∷ state_records kept ++ map record_of events
    ≡ own_configuration version' node ∷ head_record generation' ∷ state_records kept' ++ map record_of events' =
    (λ i. sym is i ++ map record_of events) ∙ same ∙ (λ i. is' i ++ map record_of events') in
    let rest : state_records kept ++ map record_of events ≡ state_records kept' ++ map record_of events' = ap (λ (l : List (List ℕ)). drop 2 l) journals in
    let parts = split_same (state_records kept) (map record_of events) (state_records kept') (map record_of events') (state_are kept) (events_are events) (state_are kept') (events_are events') rest in
    let same_kept : kept ≡ kept' = one_checkpoint node kept kept' written.canonical written'.canonical parts.0 in
    (base_is ∙ ap (checkpoint.state_in node) same_kept ∙ sym base_is', same_events node sound events events' taken taken' parts.1)

-- areas are a journal at one state
one_state : (node : Node) (areas : Areas) (one other : State) → Holds node areas one → Holds node areas other → one ≡ other
one_state node areas one other held also =
    let records = ok_is held.journal.records also.journal.records (sym held.journal.stands_for ∙ also.journal.stands_for) in
    let same = one_begins node areas held.legal.node_is held.front held.in_first held.base held.events held.begins held.legal.taken
    also.front also.in_first also.base also.events also.begins also.legal.taken (sym held.journal.are ∙ ap bytes_of records ∙ also.journal.are) in
    sym held.leads ∙ (λ i. after_all node (same.0 i) (same.1 i)) ∙ also.leads

-- and stand for no other
pub stands_once : (node : Node) (areas : Areas) (one other : State) → Holds node areas one → StandsFor node areas other → other ≡ one
stands_once node areas one other held (as_journal also) = one_state node areas other one also held
stands_once node areas one other held (as_empty none is) =
    let records = ok_is held.journal.records [] (sym held.journal.stands_for ∙ none) in
    absurd (omega (arith, ap length records, some_record node areas one held))
