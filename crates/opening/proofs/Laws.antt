-- That what bytes are told as is what they stand for, both ways, and so in the world of all runs.
use Rattle.std.proofs.Common.{◌≡◌, ℕ, ◌*◌, ◌<◌, Bool, true, false, cond, ltb, List, [], ◌∷◌, ◌++◌, length, get_or}
use Rattle.std.proofs.Common.{map, drop, Option, Some, None, Result, Ok, Err, refl, sym, ap, ◌∙◌, subst, arith, length-append}
use Rattle.std.specs.Prelude.{All}
use Rattle.std.specs.Int.{w32, to_be_bytes}
use Rattle.std.specs.List.{flat_map}
use Rattle.std.specs.Str.{bytes_eq}
use Rattle.std.proofs.lemmas.Bool.{and_parts, and_from, ltb-true, lt-ltb}
use Rattle.std.proofs.lemmas.List.Elements.{All-nil, All-cons, All-head, All-tail, All-drop, All-weaker}
use Rattle.std.proofs.lemmas.Slice.Eq.{bytes_eq-Decides}
use Rattle.committee.specs.Charter.{Charter}
use Rattle.diskmodel.specs.Outcomes.{AreBytes}
use Rattle.journal.specs.Areas.{alone, stands_in}
use Rattle.journal.specs.Format.{stands}
use Rattle.journal.specs.declared.error.JournalError.{JournalError}
use Rattle.journal.specs.declared.error.JournalError.TheVariants.{Damaged}
use Rattle.journal.specs.declared.record.Record.{Record}
use Rattle.spec_machine.specs.After.{after_all, IsLegalAfter}
use Rattle.spec_machine.specs.Laws.{StartsFresh}
use Rattle.spec_machine.specs.Machine.{fresh}
use Rattle.spec_machine.specs.Sound.{IsSound}
use Rattle.spec_machine.proofs.AfterAll.{kept_is_sound, after_is_kept, legal_again}
use Rattle.spec_model.specs.Admitting.{IsTaken, IsLegal}
use Rattle.spec_model.specs.Giving.{kept}
use Rattle.spec_model.specs.Histories.{History}
use Rattle.spec_model.specs.Nodes.{Node, IsNode}
use Rattle.spec_model.specs.States.{State}
use Rattle.spec_records.specs.Records.{record_of, stakes_of, configuration_of, CanReport}
use Rattle.journal.specs.declared.version.Version.{Version}
use Rattle.journal.specs.declared.version.Version.TheVariants.{First, Second}
use Rattle.wire.specs.Fields as fields
use Rattle.wire.specs.declared.keys.Key.{Key}
use Rattle.spec_world.specs.Promise.{NothingTakenBack}
use Rattle.spec_world.specs.Runs.{AreKeys}
use Rattle.spec_world.specs.World.{bytes_of, IsJournal, own_configuration, BeginsAs, as_fresh, as_checkpoint, Holds, as_journal, as_empty}
use Rattle.opening.specs.Laws.{IsOfBytes, DecodedStandsFor, WhatStandsIsDecoded, WorldsAreDecoded}
use Rattle.opening.specs.Decoded.{IsText, is_alone, can_report, is_own, mismatch, first_fault, unless, read_events, read_journal, decoded}
use Rattle.journal.specs.Configuration.{stakes_size, shaped_version}
use Rattle.opening.proofs.Configured.{all_pass, all_passed, reports_of, decoded_of, shaped_is}
use Rattle.opening.proofs.Empty.{first_at_zero}
use Rattle.opening.proofs.GroupTexts.{OnlyGroups, stands_texts}
use Rattle.opening.proofs.Histories.{AreEvents, read_back, read_whole}
use Rattle.opening.proofs.Reporting.{by_version, fault_none, ok_decoded, journal_nil, journal_cons, decoded_records, decoded_damaged, bytes_same}

-- ---- the first record

-- a first record has no fault
record HasNoFault (node : Node) (first : Record) (events : List Record) : Type 0 where
  version : Version
  shape : shaped_version first.bytes ≡ Some version
  alone : is_alone events ≡ true
  reports : can_report version node.charter ≡ true
  own : first.bytes ≡ configuration_of version node.charter node.own

matched : (own : Bool) → mismatch own ≡ None → own ≡ true
matched true none = refl
matched false none = absurd (cc)

tests_passed : (alone : Bool) (shaped : Option Version) (own : Version → Bool) (place : ℕ) → by_version own (cond alone shaped None) place ≡ None
    → (version : Version) × (shaped ≡ Some version) × (alone ≡ true) × (own version ≡ true)
tests_passed true (Some version) own place is = (version, refl, refl, matched (own version) is)
tests_passed true None own place is = absurd (cc)
tests_passed false shaped own place is = absurd (cc)

same_bytes : (one other : List ℕ) → bytes_eq one other ≡ true → one ≡ other
same_bytes one other so = (bytes_eq-Decides one other).0 so

no_fault : (node : Node) (first : Record) (events : List Record) → first_fault node first events ≡ None → HasNoFault node first events
no_fault node first events none =
    let (version, shape, only, own) = tests_passed (is_alone events) (shaped_version first.bytes) (is_own node first.bytes) first.gate none in
    let configuration = configuration_of version node.charter node.own in
    let parts = and_parts (can_report version node.charter) (bytes_eq first.bytes configuration) own in
    record { version = version; shape = shape; alone = only; reports = parts.0; own = same_bytes first.bytes configuration parts.1 }

free : (node : Node) (first : Record) (events : List Record) → HasNoFault node first events → first_fault node first events ≡ None
free node first events is =
    let configuration = configuration_of is.version node.charter node.own in
    let same : bytes_eq first.bytes configuration ≡ true = ap (λ (l : List ℕ). bytes_eq first.bytes l) (sym is.own) ∙ bytes_same first.bytes in
    let own : is_own node first.bytes is.version ≡ true = and_from (can_report is.version node.charter) (bytes_eq first.bytes configuration) is.reports same in
    fault_none node first events is.version (is_own node first.bytes is.version) (λ i. cond (is.alone i) (is.shape i) None) refl own

-- ---- what bytes are told as

ok_is : (one other : State) → ◌≡◌ {A = Result State JournalError} (Ok one) (Ok other) → one ≡ other
ok_is one other same = cc

no_ok : (error : JournalError) (state : State) → ◌≡◌ {A = Result State JournalError} (Err error) (Ok state) → ⊥
no_ok error state same = cc

-- a reading after no fault gave a state
pub unless_ok : (fault : Option JournalError) (read : Result State ℕ) (state : State) → unless fault read ≡ Ok state → (fault ≡ None) × (read ≡ Ok state)
unless_ok (Some error) read state is = absurd (no_ok error state is)
unless_ok None (Ok found) state is = (refl, ap Ok (ok_is found state is))
unless_ok None (Err place) state is = absurd (no_ok (Damaged place) state is)

-- the empty history is legal, and the fresh state is sound
pub legal_empty : (node : Node) → IsNode node → IsLegal node []
legal_empty node sound = record { sound = sound; taken = All-nil (IsTaken node); new = refl }

pub fresh_sound : StartsFresh → (node : Node) → IsNode node → IsSound node (fresh node)
fresh_sound starts node sound = subst (IsSound node) (starts node) (kept_is_sound node [] (legal_empty node sound))

-- one disk stands for what its bytes do
pub alone_stands : (bytes : List ℕ) → stands_in (alone bytes) ≡ stands bytes
unfolding stands_in
alone_stands bytes = refl

-- the events of a journal come after its configuration, alone in the first group
held : StartsFresh → (node : Node) (bytes : List ℕ) (state : State) (first : Record) (records : List Record) (events : History) → IsNode node → stands bytes ≡ Ok (first ∷ records)
    → HasNoFault node first records → AreEvents node (fresh node) records events → state ≡ after_all node (fresh node) events → Holds node (alone bytes) state
held starts node bytes state first records events sound stands_for is are state_is = record {
  front = own_configuration is.version node ∷ [];
  in_first = 1;
  base = fresh node;
  begins = as_fresh is.version (reports_of is.version node.charter is.reports) refl refl refl;
  events = events;
  journal = record {
    records = first ∷ records;
    stands_for = alone_stands bytes ∙ stands_for;
    are = λ i. is.own i ∷ are.same i;
    first_gate = 0;
    first = All-cons (λ (one : Record). one.gate ≡ 0) first [] (first_at_zero bytes first records stands_for) (All-nil (λ (one : Record). one.gate ≡ 0));
    others = all_passed (λ (one : Record). ltb 0 one.gate) (λ one. 0 < one.gate) (λ one so. ltb-true 0 one.gate so) records is.alone;
  };
  legal = record { node_is = sound; sound = fresh_sound starts node sound; taken = are.taken; new = are.new };
  leads = sym state_is;
}

-- events that are read from the fresh state on are a legal history, of which the state after them is kept
read_history : StartsFresh → (node : Node) (state : State) (events : List Record) (history : History) → IsNode node → AreEvents node (fresh node) events history
    → state ≡ after_all node (fresh node) history → IsLegal node history × (kept node history ≡ state)
read_history starts node state events history sound are is =
    let empty = legal_empty node sound in
    let from : IsLegalAfter node (fresh node) history = record { node_is = sound; sound = fresh_sound starts node sound; taken = are.taken; new = are.new } in
    let legal : IsLegal node history = legal_again node [] history empty (subst (λ (s : State). IsLegalAfter node s history) (sym (starts node)) from) in
    (legal, sym (after_is_kept node [] history legal) ∙ ap (λ (s : State). after_all node s history) (starts node) ∙ sym is)

pub found_records : StartsFresh → (node : Node) (bytes : List ℕ) (state : State) (records : List Record) → IsNode node → All IsText (drop 1 records)
    → stands bytes ≡ Ok records → read_journal node records ≡ Ok state
    → IsOfBytes node bytes state
found_records starts node bytes state [] sound texts stands_for is =
    let same = ok_is (fresh node) state (sym (journal_nil node) ∙ is) in
    record { stands_for = as_empty (alone_stands bytes ∙ stands_for) (sym same); history = []; legal = legal_empty node sound; keeps = starts node ∙ same }
found_records starts node bytes state (first ∷ records) sound texts stands_for is =
    let found = unless_ok (first_fault node first records) (read_events node (fresh node) records) state (sym (journal_cons node first records) ∙ is) in
    let more = read_back node (fresh node) state records texts found.1 in
    let read = read_history starts node state records more.events sound more.are more.parts in
    record {
      stands_for = as_journal (held starts node bytes state first records more.events sound stands_for (no_fault node first records found.0) more.are more.parts);
      history = more.events;
      legal = read.0;
      keeps = read.1;
    }

found_by : StartsFresh → OnlyGroups → (node : Node) (bytes : List ℕ) (state : State) (read : Result (List Record) ℕ) → IsNode node → AreBytes bytes → stands bytes ≡ read
    → decoded node bytes ≡ Ok state → IsOfBytes node bytes state
found_by starts only node bytes state (Ok records) sound are stands_for is =
    found_records starts node bytes state records sound (All-drop IsText 1 records (stands_texts only bytes records are stands_for)) stands_for
    (sym (decoded_records node bytes records stands_for) ∙ is)
found_by starts only node bytes state (Err place) sound are stands_for is = absurd (no_ok (Damaged place) state (sym (decoded_damaged node bytes place stands_for) ∙ is))

pub decoded_stands_for : StartsFresh → OnlyGroups → DecodedStandsFor
decoded_stands_for starts only node bytes state sound are is = found_by starts only node bytes state (stands bytes) sound are refl is

-- ---- what stands is told

-- a key has 32 bytes
abbrev IsKey : Key → Type 0
IsKey key = fields.HasBytes 32 key.0

keys_long : (keys : List Key) → All IsKey keys → length (flat_map (λ key. key.0) keys) ≡ 32 * length keys
keys_long [] each = refl
keys_long (key ∷ keys) each =
    let first = (All-head IsKey key keys each).count_is in
    let rest = keys_long keys (All-tail IsKey key keys each) in
    omega (arith, first, rest, length-append key.0 (flat_map (λ (k : Key). k.0) keys))

each_long : (stakes : List ℕ) → length (flat_map (to_be_bytes w32) stakes) ≡ length stakes * 4
each_long [] = refl
each_long (stake ∷ stakes) = omega (arith, each_long stakes)

-- the stakes of a committee have their size
stakes_long : (version : Version) (charter : Charter) → length charter.stakes ≡ length charter.keys → length (stakes_of version charter.stakes) ≡ stakes_size version (length charter.keys)
stakes_long First charter staked = refl
stakes_long Second charter staked = each_long charter.stakes ∙ ap (λ (n : ℕ). n * 4) staked

pub configuration_shape : (version : Version) (node : Node) → IsNode node → AreKeys node → shaped_version (configuration_of version node.charter node.own) ≡ Some version
configuration_shape version node sound keys =
    let charter = node.charter in
    let long = keys_long charter.keys keys in
    let stakes = stakes_long version charter sound.charter.staked in
    let both = length-append (flat_map (λ (key : Key). key.0) charter.keys) (stakes_of version charter.stakes) in
    shaped_is version charter node.own (omega (arith, sound.charter.size)) (omega (arith, long, stakes, both))

reported_new : (node : Node) (bytes : List ℕ) (state : State) → stands bytes ≡ Ok [] → state ≡ fresh node → decoded node bytes ≡ Ok state
reported_new node bytes state none is = decoded_records node bytes [] none ∙ journal_nil node ∙ ap Ok (sym is)

decoded_held : (version : Version) (node : Node) (bytes : List ℕ) (records : List Record) (events : History) → AreKeys node → IsLegalAfter node (fresh node) events → stands bytes ≡ Ok records
    → bytes_of records ≡ own_configuration version node ∷ map record_of events → All (λ (one : Record). 0 < one.gate) (drop 1 records) → CanReport version node.charter
    → decoded node bytes ≡ Ok (after_all node (fresh node) events)
decoded_held version node bytes [] events keys legal stands_for are alone_in can = absurd (omega (arith, ap length are))
decoded_held version node bytes (first ∷ records) events keys legal stands_for are alone_in can =
    let own : first.bytes ≡ configuration_of version node.charter node.own = ap (λ (l : List (List ℕ)). get_or l 0 []) are in
    let after : AreEvents node (fresh node) records events = record { same = ap (λ (l : List (List ℕ)). drop 1 l) are; taken = legal.taken; new = legal.new } in
    let is : HasNoFault node first records = record {
      version = version;
      shape = ap shaped_version own ∙ configuration_shape version node legal.node_is keys;
      alone = all_pass (λ (one : Record). ltb 0 one.gate) (λ one. 0 < one.gate) (λ one so. lt-ltb 0 one.gate so) records alone_in;
      reports = decoded_of version node.charter can;
      own = own;
    } in
    decoded_records node bytes (first ∷ records) stands_for ∙ journal_cons node first records
    ∙ ok_decoded (first_fault node first records) (read_events node (fresh node) records) (after_all node (fresh node) events) (free node first records is)
    (read_whole node (fresh node) records events legal.node_is after)

-- a journal on one disk begins with its configuration, and no checkpoint
decoded_begun : (node : Node) (bytes : List ℕ) (front : List (List ℕ)) (in_first : ℕ) (base : State) (events : History) → AreKeys node → IsLegalAfter node base events
    → IsJournal (stands_in (alone bytes)) front in_first events → BeginsAs node (alone bytes) front in_first base → decoded node bytes ≡ Ok (after_all node base events)
decoded_begun node bytes front in_first base events keys legal is (as_fresh version can front_is first base_is) =
    let after : All (λ (one : Record). is.first_gate < one.gate) (drop 1 is.records) =
    subst (λ (n : ℕ). All (λ (one : Record). is.first_gate < one.gate) (drop n is.records)) first is.others in
    decoded_held version node bytes is.records events keys (subst (λ (s : State). IsLegalAfter node s events) base_is legal) (sym (alone_stands bytes) ∙ is.stands_for)
    (is.are ∙ ap (λ (l : List (List ℕ)). l ++ map record_of events) front_is)
    (All-weaker (λ (one : Record). is.first_gate < one.gate) (λ (one : Record). 0 < one.gate) (λ one less. omega (arith, less)) (drop 1 is.records) after)
    can
    ∙ ap (λ (s : State). Ok (after_all node s events)) (sym base_is)
decoded_begun node bytes front in_first base events keys legal is (as_checkpoint version generation kept_data two can written front_is first base_is) = absurd two

pub what_stands_is_decoded : WhatStandsIsDecoded
what_stands_is_decoded node bytes state keys (as_journal holds) =
    decoded_begun node bytes holds.front holds.in_first holds.base holds.events keys holds.legal holds.journal holds.begins ∙ ap Ok holds.leads
what_stands_is_decoded node bytes state keys (as_empty none is) = reported_new node bytes state (sym (alone_stands bytes) ∙ none) is

-- ---- the worlds

pub worlds_are_decoded : NothingTakenBack → WorldsAreDecoded
worlds_are_decoded kept_all node moves world bytes sound keys run may =
    let never = kept_all node moves world sound run in
    let (history, recovered, stands_for) = never.stands (alone bytes) may in
    record {
      history = history;
      is_decoded = what_stands_is_decoded node bytes (kept node history) keys stands_for;
      stands_for = stands_for;
      recovered = recovered;
    }
