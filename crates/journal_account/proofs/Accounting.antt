-- That a journal's records are read as a state and events after it, and give the votes that the records have.
use Rattle.std.proofs.Common.{◌≡◌, ℕ, ◌+◌, inl, inr, Bool, cond, List, [], ◌∷◌, ◌++◌, length, map, get_or, drop, Option, Some, None, Result, Ok, Err, refl, sym, ap, ◌∙◌, subst, arith, append_assoc}
use Rattle.std.specs.Prelude.{◌==◌, ◌≢◌, All}
use Rattle.std.specs.List.{filter_map, cons_option}
use Rattle.std.specs.Option.{option_and_then, option_map, option_map_or, option_to_list}
use Rattle.std.proofs.lemmas.Bool.{cases_Bool}
use Rattle.std.proofs.lemmas.List.{append-nil, length-map}
use Rattle.std.proofs.lemmas.List.Elements.{All-head, All-tail}
use Rattle.journal.specs.Areas.{Areas, stands_in}
use Rattle.journal.specs.Format.{FailsAs}
use Rattle.journal.specs.declared.error.JournalError.{JournalError}
use Rattle.journal.specs.declared.error.JournalError.TheVariants.{Memory, Device, Damaged, ConfigMismatch, Full}
use Rattle.journal.specs.declared.record.Record.{Record}
use Rattle.spec_machine.specs.After.{after_all}
use Rattle.spec_machine.specs.Laws.{StartsFresh}
use Rattle.spec_machine.specs.Machine.{fresh, round_in}
use Rattle.spec_machine.specs.Sound.{IsSound}
use Rattle.spec_model.specs.Admitting.{IsTaken}
use Rattle.spec_model.specs.Histories.{History, headers, as_header}
use Rattle.spec_model.specs.Nodes.{Node, IsNode}
use Rattle.spec_model.specs.States.{State, floor_in}
use Rattle.spec_model.specs.Words.{Digest, Event, Header}
use Rattle.spec_records.specs.Records.{record_of}
use Rattle.spec_world.specs.World as world
use Rattle.spec_world.specs.World.{bytes_of, IsPair, StandsFor}
use Rattle.spec_world.proofs.Recovering.{stands_once}
use Rattle.opening.specs.Decoded.{IsText, event_in, events_part, go_on, is_event, or_damaged, own_fault, read_after, read_checkpoint, read_events, read_pair, read_state, state_part, decoded_in, Reports, unless, StandsAt}
use Rattle.opening.proofs.EventRecords.{record_read}
use Rattle.opening.proofs.Histories.{read_back}
use Rattle.opening.proofs.Laws.{unless_ok}
use Rattle.opening.proofs.PairLaws.{areas_begin, found_in}
use Rattle.opening.proofs.PairReporting.{checkpoint_is, pair_fails, pair_first, pair_none, decoded_pair_records}
use Rattle.opening.proofs.Reporting.{read_nil}
use Rattle.admission.specs.declared.tables.Tables.{Tables}
use Rattle.validator.specs.Standing.{AreAtSound}
use Rattle.journal_account.specs.Accounts.{after_head, events_in, base_of, base_in, generation_in, side_in, IsReadAs, IsReadAt, given_to, given_by, given_in, AreKeptVotes, AreOrdered, AreVotes, Sums}
use Rattle.journal_account.specs.declared.summary.Summary.{Summary}
use Rattle.journal_account.specs.declared.votes.Given.{Given}

-- ---- the parts of its records

ok_is : {E : Type 0} (one other : State) → ◌≡◌ {A = Result State E} (Ok one) (Ok other) → one ≡ other
ok_is one other same = cc

no_ok : {E : Type 0} (state : State) (error : E) → ◌≡◌ {A = Result State E} (Ok state) (Err error) → ⊥
no_ok state error same = cc

records_are : (one other : List Record) → ◌≡◌ {A = Result (List Record) ℕ} (Ok one) (Ok other) → one ≡ other
records_are one other same = cc

-- what comes after the configuration is the state with which it begins, and events
after_is : (node : Node) (first : Record) (rest : List Record)
    → read_after node first rest ≡ go_on (λ state. read_events node state (events_in (first ∷ rest))) (base_of node first rest)
unfolding after_head events_in base_of
after_is node first [] = refl
after_is node first (second ∷ more) =
    elim (cases_Bool (second.gate == first.gate)) [
      | inl shares ↦
          (λ i. cond (shares i) (read_checkpoint node first more) (read_events node (fresh node) (second ∷ more)))
          ∙ checkpoint_is node first more
          ∙ sym (λ i. go_on (λ state. read_events node state (option_map_or events_part (cond (shares i) (Some more) None) (second ∷ more)))
          (option_map_or (λ records. read_state node first (state_part records)) (cond (shares i) (Some more) None) (Ok (fresh node))))
      | inr apart ↦
          (λ i. cond (apart i) (read_checkpoint node first more) (read_events node (fresh node) (second ∷ more)))
          ∙ sym (λ i. go_on (λ state. read_events node state (option_map_or events_part (cond (apart i) (Some more) None) (second ∷ more)))
          (option_map_or (λ records. read_state node first (state_part records)) (cond (apart i) (Some more) None) (Ok (fresh node))))
    ]

-- where nothing is wrong with the configuration
free : (node : Node) (first : Record) (rest : List Record) → own_fault node first ≡ None
    → read_pair node (first ∷ rest) ≡ or_damaged (go_on (λ state. read_events node state (events_in (first ∷ rest))) (base_of node first rest))
free node first rest none =
    pair_first node first rest ∙ ap (λ (f : Option JournalError). unless f (read_after node first rest)) none ∙ ap or_damaged (after_is node first rest)

-- a journal that begins with a state, from which its events lead to another one, is read as that
pub read_on : (node : Node) (records : List Record) (base state : State) → base_in node records ≡ Ok base → read_events node base (events_in records) ≡ Ok state
    → read_pair node records ≡ Ok state
unfolding base_in events_in
read_on node [] base state begins read = pair_none node ∙ begins ∙ ap Ok (ok_is base state (sym (read_nil node base) ∙ read))
read_on node (first ∷ rest) base state begins read =
    let parts = unless_ok (own_fault node first) (base_of node first rest) base begins in
    free node first rest parts.0 ∙ ap or_damaged (ap (go_on (λ s. read_events node s (events_in (first ∷ rest)))) parts.1 ∙ read)

-- ---- what is wrong

fault_on : (node : Node) (first : Record) (rest : List Record) (error : JournalError) (fault : Option JournalError) (base : Result State ℕ) → own_fault node first ≡ fault
    → base_of node first rest ≡ base → unless fault base ≡ Err error → read_pair node (first ∷ rest) ≡ Err error
fault_on node first rest error (Some found) base own is wrong = pair_fails node first rest found own ∙ wrong
fault_on node first rest error None (Ok state) own is wrong = absurd (no_ok state error wrong)
fault_on node first rest error None (Err place) own is wrong =
    free node first rest own ∙ ap or_damaged (ap (go_on (λ s. read_events node s (events_in (first ∷ rest)))) is) ∙ wrong

begins_wrong : (node : Node) (records : List Record) (error : JournalError) → base_in node records ≡ Err error → read_pair node records ≡ Err error
unfolding base_in
begins_wrong node [] error wrong = absurd (no_ok (fresh node) error wrong)
begins_wrong node (first ∷ rest) error wrong = fault_on node first rest error (own_fault node first) (base_of node first rest) refl refl wrong

-- a journal whose beginning is at fault is so
pub begin_reports : (node : Node) (records : List Record) (error : JournalError) → Reports error (base_in node records) → Reports error (read_pair node records)
begin_reports node records Memory reports = tt
begin_reports node records Device reports = begins_wrong node records Device reports
begin_reports node records (Damaged place) reports = begins_wrong node records (Damaged place) reports
begin_reports node records ConfigMismatch reports = begins_wrong node records ConfigMismatch reports
begin_reports node records Full reports = begins_wrong node records Full reports

events_wrong : (node : Node) (records : List Record) (base : State) (place : ℕ) → base_in node records ≡ Ok base → read_events node base (events_in records) ≡ Err place
    → read_pair node records ≡ Err (Damaged place)
unfolding base_in events_in
events_wrong node [] base place begins wrong = absurd (no_ok base place (sym (read_nil node base) ∙ wrong))
events_wrong node (first ∷ rest) base place begins wrong =
    let parts = unless_ok (own_fault node first) (base_of node first rest) base begins in
    free node first rest parts.0 ∙ ap or_damaged (ap (go_on (λ s. read_events node s (events_in (first ∷ rest)))) parts.1 ∙ wrong)

-- and so is one whose events are
pub events_report : (node : Node) (records : List Record) (base : State) (error : JournalError) → base_in node records ≡ Ok base
    → FailsAs error (read_events node base (events_in records)) → Reports error (read_pair node records)
events_report node records base Memory begins fails = tt
events_report node records base Device begins fails = absurd fails
events_report node records base (Damaged place) begins fails = events_wrong node records base place begins fails
events_report node records base ConfigMismatch begins fails = absurd fails
events_report node records base Full begins fails = absurd fails

-- what is told of areas is told of their records
pub reports_areas : (node : Node) (areas : Areas) (records : List Record) (error : JournalError) → IsPair areas → stands_in areas ≡ Ok records → Reports error (read_pair node records)
    → Reports error (decoded_in node areas)
reports_areas node areas records error two is reports = subst (Reports error) (sym (decoded_pair_records node areas records two is)) reports

-- ---- the records of events

part_texts : (records : List Record) → All IsText records → All IsText (events_part records)
unfolding events_part
part_texts [] all = all
part_texts (one ∷ records) all = elim (cases_Bool (is_event one)) [
  | inl event ↦ subst (λ (b : Bool). All IsText (cond b (one ∷ records) (events_part records))) (sym event) all
  | inr other ↦ subst (λ (b : Bool). All IsText (cond b (one ∷ records) (events_part records))) (sym other) (part_texts records (All-tail IsText one records all))
]

event_texts : (records : List Record) → All IsText records → All IsText (events_in records)
unfolding events_in after_head
event_texts [] all = all
event_texts (first ∷ []) all = All-tail IsText first [] all
event_texts (first ∷ second ∷ more) all =
    let rest = All-tail IsText first (second ∷ more) all in
    elim (cases_Bool (second.gate == first.gate)) [
      | inl shares ↦ subst (λ (b : Bool). All IsText (option_map_or events_part (cond b (Some more) None) (second ∷ more))) (sym shares)
          (part_texts more (All-tail IsText second more rest))
      | inr apart ↦ subst (λ (b : Bool). All IsText (option_map_or events_part (cond b (Some more) None) (second ∷ more))) (sym apart) rest
    ]

-- the events of records
abbrev read_each : Node → List Record → List (Option Event)
read_each node records = map (λ one. event_in node.charter one.bytes) records

abbrev each_some : History → List (Option Event)
each_some events = map (λ event. Some event) events

-- records of events that a node takes are read as these
events_read : (node : Node) (records : List Record) (events : History) → IsNode node → bytes_of records ≡ map record_of events → All (IsTaken node) events
    → read_each node records ≡ each_some events
events_read node [] [] sound same taken = refl
events_read node [] (event ∷ events) sound same taken = absurd (omega (arith, ap length same))
events_read node (one ∷ rest) [] sound same taken = absurd (omega (arith, ap length same))
events_read node (one ∷ rest) (event ∷ events) sound same taken =
    let bytes : one.bytes ≡ record_of event = ap (λ (l : List (List ℕ)). get_or l 0 []) same in
    let some : event_in node.charter one.bytes ≡ Some event = ap (event_in node.charter) bytes ∙ record_read node event sound (All-head (IsTaken node) event events taken) in
    let others = events_read node rest events sound (ap (λ (l : List (List ℕ)). drop 1 l) same) (All-tail (IsTaken node) event events taken) in
    (λ i. some i ∷ others i)

-- ---- what the bytes are read as

one_state : (node : Node) (areas : Areas) (state other : State) → StandsFor node areas state → StandsFor node areas other → other ≡ state
one_state node areas state other (world.as_journal held) also = stands_once node areas state other held also
one_state node areas state other (world.as_empty none is) (world.as_journal held) = sym (stands_once node areas other state held (world.as_empty none is))
one_state node areas state other (world.as_empty none is) (world.as_empty nothing too) = too ∙ sym is

-- the bytes of a journal are read as a state and events that lead to another one
pub record IsFoundAs (node : Node) (areas : Areas) (records : List Record) (base state : State) : Type 0 where
  pub events : History
  pub read_as : IsReadAs node areas base events
  pub same : read_as.records ≡ records
  pub leads : state ≡ after_all node base events

pub found_as : StartsFresh → (node : Node) (areas : Areas) (records : List Record) (base state : State) → IsPair areas → IsNode node → IsSound node base → All IsText records
    → stands_in areas ≡ Ok records → base_in node records ≡ Ok base → read_events node base (events_in records) ≡ Ok state → IsFoundAs node areas records base state
found_as starts node areas records base state two sound base_sound texts is begins read =
    let more = read_back node base state (events_in records) (event_texts records texts) read in
    let whole = read_on node records base state begins read in
    let stands : StandsFor node areas state =
    (found_in starts node areas two sound records state texts is (λ first rest same. areas_begin areas two first rest (is ∙ ap Ok same)) whole).stands_for in
    record {
      events = more.events;
      read_as = record {
        records = records;
        stand = is;
        begins = begins;
        has = events_read node (events_in records) more.events sound more.are.same more.are.taken;
        legal = record { node_is = sound; sound = base_sound; taken = more.are.taken; new = more.are.new };
        stands_for = subst (StandsFor node areas) more.parts stands;
        one_state = λ other stands_too. one_state node areas state other stands stands_too ∙ more.parts;
        is_decoded = decoded_pair_records node areas records two is ∙ whole ∙ ap Ok more.parts;
      };
      same = refl;
      leads = more.parts;
    }

-- tables stand where they lead
pub found_at : (node : Node) (areas : Areas) (records : List Record) (base state : State) (tables : Tables) → IsFoundAs node areas records base state → AreAtSound node tables state
    → IsReadAt node areas tables
found_at node areas records base state tables found at = record {
  base = base;
  events = found.events;
  read_as = found.read_as;
  at = subst (AreAtSound node tables) found.leads at;
}

-- ---- what is told of it

-- there are as many events as records of events
pub counted : (node : Node) (records : List Record) (events : History) → read_each node records ≡ each_some events → length records ≡ length events
counted node records events has =
    sym (length-map records (λ (one : Record). event_in node.charter one.bytes)) ∙ ap length has ∙ length-map events (λ (event : Event). Some event)

-- the vote of an event before others
vote_first : (event : Event) (found : Option Header) (events : History) → as_header event.message ≡ found
    → cons_option (option_map given_to found) (map given_to (headers events)) ≡ map given_to (cons_option found (headers events))
vote_first event None events is = refl
vote_first event (Some header) events is = refl

-- the records of events give the votes that the events give
pub votes_in : (node : Node) (records : List Record) (events : History) → read_each node records ≡ each_some events
    → filter_map (given_in node.charter) records ≡ map given_to (headers events)
votes_in node [] [] has = refl
votes_in node [] (event ∷ events) has = absurd (omega (arith, ap length has))
votes_in node (one ∷ rest) [] has = absurd (omega (arith, ap length has))
votes_in node (one ∷ rest) (event ∷ events) has =
    let some : event_in node.charter one.bytes ≡ Some event = ap (λ (l : List (Option Event)). get_or l 0 None) has in
    let others = votes_in node rest events (ap (λ (l : List (Option Event)). drop 1 l) has) in
    (λ i. cons_option (option_and_then given_by (some i)) (others i)) ∙ vote_first event (as_header event.message) events refl

-- ---- votes so far, and those of the records that are left

listed_first : {Y : Type 0} (found : Option Y) (others : List Y) → option_to_list found ++ others ≡ cons_option found others
listed_first None others = refl
listed_first (Some y) others = refl

module _ {X Y : Type 0} (make : X → Option Y) where
  pub made_next : (so_far later : List Y) (xs : List X) (count : ℕ) (x : X) (found : Option Y) → drop count xs ≡ x ∷ drop (count + 1) xs → found ≡ make x
      → later ≡ so_far ++ option_to_list found → so_far ++ filter_map make (drop count xs) ≡ filter_map make xs
      → later ++ filter_map make (drop (count + 1) xs) ≡ filter_map make xs
  made_next so_far later xs count x found here is longer all =
      let rest = filter_map make (drop (count + 1) xs) in
      ap (λ (l : List Y). l ++ rest) longer
      ∙ append_assoc so_far (option_to_list found) rest
      ∙ ap (λ (l : List Y). so_far ++ l) (listed_first found rest ∙ ap (λ (o : Option Y). cons_option o rest) is)
      ∙ ap (λ (l : List X). so_far ++ filter_map make l) (sym here)
      ∙ all

  pub made_end : (so_far : List Y) (xs : List X) (count : ℕ) → drop count xs ≡ [] → so_far ++ filter_map make (drop count xs) ≡ filter_map make xs
      → so_far ≡ filter_map make xs
  made_end so_far xs count none all = sym (append-nil so_far) ∙ ap (λ (l : List X). so_far ++ filter_map make l) (sym none) ∙ all

-- ---- the state with which a journal begins

pub base_some : (node : Node) (first : Record) (rest others : List Record) → Some others ≡ after_head first rest → base_of node first rest ≡ read_state node first (state_part others)
unfolding base_of
base_some node first rest others is =
    sym (ap (λ (o : Option (List Record)). option_map_or (λ records. read_state node first (state_part records)) o (Ok (fresh node))) is)

pub base_none : (node : Node) (first : Record) (rest : List Record) → None ≡ after_head first rest → base_of node first rest ≡ Ok (fresh node)
unfolding base_of
base_none node first rest is =
    sym (ap (λ (o : Option (List Record)). option_map_or (λ records. read_state node first (state_part records)) o (Ok (fresh node))) is)

pub base_free : (node : Node) (first : Record) (rest : List Record) (base : Result State ℕ) → own_fault node first ≡ None → base_of node first rest ≡ base
    → base_in node (first ∷ rest) ≡ or_damaged base
unfolding base_in
base_free node first rest base own is = (λ i. unless (own i) (is i))

pub base_fault : (node : Node) (first : Record) (rest : List Record) (error : JournalError) → own_fault node first ≡ Some error → base_in node (first ∷ rest) ≡ Err error
unfolding base_in
base_fault node first rest error own = ap (λ (f : Option JournalError). unless f (base_of node first rest)) own

pub base_nil : (node : Node) → base_in node [] ≡ Ok (fresh node)
unfolding base_in
base_nil node = refl

-- what stands at the state with which it begins
pub begun_stands : (node : Node) (first : Record) (rest : List Record) (tables : Tables) → own_fault node first ≡ None → StandsAt node (base_of node first rest) tables
    → StandsAt node (base_in node (first ∷ rest)) tables
begun_stands node first rest tables own at = record { state = at.state; is_read = base_free node first rest (Ok at.state) own at.is_read; at = at.at }

-- and what is wrong with it
pub begun_fails : (node : Node) (first : Record) (rest : List Record) (error : JournalError) → own_fault node first ≡ None → FailsAs error (base_of node first rest)
    → Reports error (base_in node (first ∷ rest))
begun_fails node first rest Memory own fails = tt
begun_fails node first rest Device own fails = absurd fails
begun_fails node first rest (Damaged place) own fails = base_free node first rest (Err place) own fails
begun_fails node first rest ConfigMismatch own fails = absurd fails
begun_fails node first rest Full own fails = absurd fails

pub first_fails : (node : Node) (first : Record) (rest : List Record) (error : JournalError) → (error ≢ Memory → own_fault node first ≡ Some error)
    → Reports error (base_in node (first ∷ rest))
first_fails node first rest Memory own = tt
first_fails node first rest Device own = base_fault node first rest Device (own (λ same. cc))
first_fails node first rest (Damaged place) own = base_fault node first rest (Damaged place) (own (λ same. cc))
first_fails node first rest ConfigMismatch own = base_fault node first rest ConfigMismatch (own (λ same. cc))
first_fails node first rest Full own = base_fault node first rest Full (own (λ same. cc))

-- ---- the numbers, the order and the votes

pub ordered : (node : Node) (areas : Areas) (tables : Tables) (found : IsReadAt node areas tables) (digests : List Digest)
    → ((state : State) → AreAtSound node tables state → digests ≡ state.order) → AreOrdered node areas digests
ordered node areas tables found digests is = record {
  base = found.base;
  events = found.events;
  read_as = found.read_as;
  are = is (after_all node found.base found.events) found.at;
}

pub summed : (node : Node) (areas : Areas) (tables : Tables) (records : List Record) (found : IsReadAt node areas tables) (summary : Summary) → stands_in areas ≡ Ok records
    → summary.events ≡ length (events_in records)
    → ((state : State) → AreAtSound node tables state → summary.order ≡ length state.order)
    → ((state : State) → AreAtSound node tables state → summary.round ≡ round_in node state)
    → ((state : State) → AreAtSound node tables state → summary.floor ≡ floor_in node state)
    → summary.checkpoint ≡ option_map (λ generation. (generation, side_in records)) (generation_in records) → Sums node areas summary
summed node areas tables records found summary is events order round floor checkpoint =
    let state = after_all node found.base found.events in
    let same : found.read_as.records ≡ records = records_are found.read_as.records records (sym found.read_as.stand ∙ is) in
    record {
      base = found.base;
      events = found.events;
      read_as = found.read_as;
      count = events ∙ ap (λ (l : List Record). length (events_in l)) (sym same) ∙ counted node (events_in found.read_as.records) found.events found.read_as.has;
      order = order state found.at;
      round = round state found.at;
      floor = floor state found.at;
      checkpoint = checkpoint ∙ ap (λ (l : List Record). option_map (λ generation. (generation, side_in l)) (generation_in l)) (sym same);
    }

pub voted : (node : Node) (areas : Areas) (records : List Record) (base state : State) (found : IsFoundAs node areas records base state) (kept votes : List Given) → AreKeptVotes node base kept
    → votes ≡ kept ++ filter_map (given_in node.charter) (events_in records) → AreVotes node areas votes
voted node areas records base state found kept votes of_base are = record {
  base = base;
  events = found.events;
  read_as = found.read_as;
  kept = kept;
  of_base = of_base;
  are = are ∙ ap (λ (l : List Given). kept ++ l)
      (votes_in node (events_in records) found.events (subst (λ (l : List Record). read_each node l ≡ each_some found.events) (ap events_in found.same) found.read_as.has));
}

pub map_both : {X Y Z : Type 0} (f : Y → Z) (g : X → Y) (xs : List X) → map (λ x. f (g x)) xs ≡ map f (map g xs)
map_both f g [] = refl
map_both f g (x ∷ xs) = λ i. f (g x) ∷ map_both f g xs i
