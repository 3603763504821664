-- What holds of each world that a run leads to.
use Rattle.std.proofs.Common.{◌≡◌, ◌≢◌, ◌⊎◌, ℕ, suc, ◌+◌, ◌<◌, ◌≤◌, List, [], ◌∷◌, ◌++◌, length, take, drop, Option, Some, None, Result, Ok, Err, inl, inr, refl, ap, sym, ◌∙◌, subst, arith, append_assoc, length-take}
use Rattle.std.specs.Prelude.{All, true, false, is_some, IfSome, slice_get}
use Rattle.std.proofs.lemmas.List.{append-nil, take_at, drop_at, take-take}
use Rattle.std.proofs.lemmas.List.Elements.{All-nil, All-cons, All-take, All-drop}
use Rattle.diskmodel.specs.Outcomes.{State, AreBytes, CanLeave, after, state, all_durable}
use Rattle.diskmodel.proofs.Calls.{after_all-push}
use Rattle.journal.specs.Areas.{Areas, alone, pair_of, other_side, base_of, head_record, moved, reports, stands_at, stands_in, IsAtRest, IsOlder, IsOlderOrNew, rewrite_calls}
use Rattle.journal.specs.Format.{scan, walk, only_records, stands}
use Rattle.journal.specs.Journal.{EndsClosed, IsBeforeOrAfter}
use Rattle.journal.specs.declared.record.Record.{Record}
use Rattle.journal.specs.declared.version.Version.TheVariants as versions
use Rattle.journal.specs.declared.side.Side.{Side}
use Rattle.journal.specs.declared.side.Side.TheVariants.{First, Second}
use Rattle.journal.proofs.Stops.{repaired_cut}
use Rattle.journal.proofs.Reporting.{reports_long, reports_open, stands_any, at_rest_older, both_older, both_new, cuts_keep_reporting}
use Rattle.journal.proofs.Walks.{walk_open}
use Rattle.spec_checkpoint.specs.Meaning as checkpoint
use Rattle.spec_checkpoint.specs.Records.{state_records}
use Rattle.spec_machine.specs.Sound.{IsSound}
use Rattle.spec_machine.proofs.AfterAll.{kept_is_sound, after_none, legal_none}
use Rattle.spec_model.specs.States.{State as Kept}
use Rattle.spec_model.specs.Giving.{kept}
use Rattle.std.specs.Option.{option_map, option_map_or, option_and_then}
use Rattle.std.proofs.lemmas.Bool.{cond-false, le-ltb}
use Rattle.std.proofs.lemmas.Option.{none-some}
use Rattle.diskmodel.specs.declared.call.Call.{Call}
use Rattle.diskmodel.proofs.Calls.{durable_only}
use Rattle.spec_laws.proofs.Legal.{legal-begins}
use Rattle.spec_model.specs.Admitting.{IsTaken, IsLegal}
use Rattle.spec_model.specs.Histories.{History}
use Rattle.wire.specs.Lists.{Begins}
use Rattle.spec_model.specs.Nodes.{Node, IsNode}
use Rattle.spec_world.specs.World.{Phase, not_begun, Waiting, Given, World, Holds, events_of, taken_in, durable_in, undurable_in, first_of, group_in, content_in, call_for, next_call, next_spare_call, Spare, Rewriting, IsPair, IsCheckpointOf, as_checkpoint, own_configuration, MayLeave, between, inside, MayStop, of_one, of_pair, OpenedSpare, Opened, alone_on, areas_of, spare_on, run_on, IsOpenedSpare, IsOpened}
use Rattle.spec_world.proofs.Disks.{stage_of, stage_after, IsAt, FitsAsGroup, fits_in, first_fits, due_first, KeepsFront, keeps_front, leaves, called}
use Rattle.spec_world.proofs.Groups.{with_first, first_and_others}
use Rattle.spec_world.proofs.Recovering.{ok_is, same_at, journal_at, journal_same, holds_same, holds_more, journal_long}
use Rattle.spec_world.proofs.Rewriting.{keeps_reporting, get_inside, made_state, spare_leaves, made_more}
use Rattle.spec_world.proofs.Orders.{begins_same, begins_trans, begins_join, IsPut, IsEnded}

-- ---- the invariant

-- an output that waits ends the history at which it may go out
pub record IsDue (node : Node) (began accepted : History) (waiting : Waiting) : Type 0 where
  pub within : waiting.ticket ≤ length accepted
  pub put : IsPut node (began ++ take waiting.ticket accepted) waiting.output

-- what was given out ended a history that what is settled holds
pub record IsKept (node : Node) (settled : History) (given : Given) : Type 0 where
  pub begins : Begins given.history settled
  pub ended : IsEnded node given.history given.outgoing

-- ---- the disk that isn't read

-- the areas with these bytes of the disk that is read, and of two these of the other
abbrev pub areas_with : Option Spare → List ℕ → List ℕ → Areas
areas_with None live rest = alone live
areas_with (Some spare) live rest = pair_of spare.side live rest

abbrev pub side_of : Option Spare → Side
side_of None = First
side_of (Some spare) = spare.side

-- the other area is at rest, beside what the one that is read tells
pub record IsAtRestBeside (spare : Spare) (file rest : List ℕ) : Type 0 where
  pub reported : reports file ≡ Some (Some spare.generation)
  pub at_rest : IsAtRest spare.generation rest
  pub are_bytes : AreBytes rest

abbrev pub IsBeside : Option Spare → List ℕ → List ℕ → Type 0
IsBeside None file rest = Unit {0}
IsBeside (Some spare) file rest = IsAtRestBeside spare file rest

-- how far a rewriting is, to a checkpoint of this history; none is durable meanwhile, and no append has begun
pub record IsRewritingAt (node : Node) (history : History) (groups : List History) (durable : ℕ) (phase : Phase) (spare : Spare) (rewriting : Rewriting) (rest : List ℕ) : Type 0 where
  pub few : rewriting.made < 8
  pub disk : state spare.bytes_at_start spare.calls ≡ made_state rest rewriting.bytes rewriting.made
  pub checkpoint : IsCheckpointOf node (spare.generation + 1) (kept node history) rewriting.bytes
  pub none_durable : durable ≡ 0
  pub not_begun : phase ≡ not_begun
  pub some : 1 ≤ length groups

-- what the calls of the other disk come to: it is is_durable, or a rewriting is in flight; of one disk none is
abbrev pub IsSpareAt : Node → History → List History → ℕ → Phase → Option Spare → Option Rewriting → List ℕ → Type 0
IsSpareAt node history groups durable phase None None rest = Unit {0}
IsSpareAt node history groups durable phase None (Some rewriting) rest = ⊥
IsSpareAt node history groups durable phase (Some spare) None rest = state spare.bytes_at_start spare.calls ≡ all_durable rest
IsSpareAt node history groups durable phase (Some spare) (Some rewriting) rest = IsRewritingAt node history groups durable phase spare rewriting rest

-- the groups that are yet to be appended: those that aren't durable, or, during a rewriting, all but the first
abbrev pub to_append : Option Rewriting → ℕ → List History → List History
to_append None durable groups = drop durable groups
to_append (Some rewriting) durable groups = drop 1 groups

-- ---- the invariant of a world

pub record Stands (node : Node) (world : World) : Type 0 where
  pub legal : IsLegal node (world.began ++ world.accepted)
  pub taken : Begins (taken_in world) world.accepted
  pub within : world.durable ≤ length world.groups
  -- the file of the disk that is read from before the first group that isn't durable
  pub file : List ℕ
  pub ends_closed : EndsClosed file
  pub are_bytes : AreBytes file
  pub disk : IsAt (stage_of world.phase) (state world.bytes_at_start world.calls) file (group_in world)
  pub fits : All FitsAsGroup (to_append world.rewriting world.durable world.groups)
  pub idle : undurable_in world ≡ [] → world.phase ≡ not_begun
  -- the bytes of the other disk, from before a rewriting
  pub rest : List ℕ
  pub beside : IsBeside world.spare file rest
  pub spare : IsSpareAt node (world.began ++ (world.settled ++ first_of world.groups)) world.groups world.durable world.phase world.spare world.rewriting rest
  pub holds : Holds node (areas_with world.spare file rest) (kept node (world.began ++ durable_in world))
  pub waiting : All (IsDue node world.began world.accepted) world.waiting
  pub given : All (IsKept node (world.began ++ world.settled)) world.given

-- where no rewriting is in flight, the other disk doesn't depend on the groups
pub spare_same : (node : Node) (spare : Option Spare) (rewriting : Option Rewriting) (rest : List ℕ) (history history' : History) (groups groups' : List History)
    (durable durable' : ℕ) (phase phase' : Phase)
    → rewriting ≡ None → IsSpareAt node history groups durable phase spare rewriting rest → IsSpareAt node history' groups' durable' phase' spare rewriting rest
spare_same node None None rest history history' groups groups' durable durable' phase phase' none is = tt
spare_same node None (Some rewriting) rest history history' groups groups' durable durable' phase phase' none is = is
spare_same node (Some spare) None rest history history' groups groups' durable durable' phase phase' none is = is
spare_same node (Some spare) (Some rewriting) rest history history' groups groups' durable durable' phase phase' none is = absurd (none-some rewriting (sym none))

-- where a group is durable, or an append has begun, or no group is in flight, none is
pub none_rewritten : (node : Node) (spare : Option Spare) (rewriting : Option Rewriting) (rest : List ℕ) (history : History) (groups : List History) (durable : ℕ) (phase : Phase)
    → IsSpareAt node history groups durable phase spare rewriting rest → (1 ≤ durable) ⊎ (groups ≡ []) → rewriting ≡ None
none_rewritten node None None rest history groups durable phase is so = refl
none_rewritten node None (Some rewriting) rest history groups durable phase is so = absurd is
none_rewritten node (Some spare) None rest history groups durable phase is so = refl
none_rewritten node (Some spare) (Some rewriting) rest history groups durable phase is (inl some) = absurd (omega (arith, is.none_durable, some))
none_rewritten node (Some spare) (Some rewriting) rest history groups durable phase is (inr none) = absurd (omega (arith, is.some, ap length none))

-- one disk is never rewritten
pub none_alone : (node : Node) (spare : Option Spare) (rewriting : Option Rewriting) (rest : List ℕ) (history : History) (groups : List History) (durable : ℕ) (phase : Phase)
    → IsSpareAt node history groups durable phase spare rewriting rest → spare ≡ None → rewriting ≡ None
none_alone node None None rest history groups durable phase is none = refl
none_alone node None (Some rewriting) rest history groups durable phase is none = absurd is
none_alone node (Some spare) rewriting rest history groups durable phase is none = absurd (none-some spare (sym none))

-- ---- what a stop leaves

first_begins : (world : World) → Begins (with_first world) (taken_in world)
first_begins world = record { rest = events_of (drop 1 (undurable_in world)); parts = first_and_others world }

-- what is settled is durable, and what is durable was accepted
pub settled_durable : (world : World) → Begins world.settled (durable_in world)
settled_durable world = record { rest = events_of (take world.durable world.groups); parts = refl }

pub first_accepted : (node : Node) (world : World) → Stands node world → Begins (with_first world) world.accepted
first_accepted node world at = begins_trans (with_first world) (taken_in world) world.accepted (first_begins world) at.taken

-- what is settled was accepted
pub settled_accepted : (node : Node) (world : World) → Stands node world → Begins world.settled world.accepted
settled_accepted node world at = begins_trans world.settled (taken_in world) world.accepted (record { rest = events_of world.groups; parts = refl }) at.taken

pub durable_accepted : (node : Node) (world : World) → Stands node world → Begins (durable_in world) world.accepted
durable_accepted node world at =
    begins_trans (durable_in world) (with_first world) world.accepted (record { rest = first_of (undurable_in world); parts = refl }) (first_accepted node world at)

-- the events of the first group that isn't durable are taken ones
pub group_events : (node : Node) (world : World) → Stands node world → All (IsTaken node) (first_of (undurable_in world))
group_events node world at =
    let all : All (IsTaken node) world.accepted =
    subst (All (IsTaken node)) (drop_at world.began world.accepted (length world.began) refl) (All-drop (IsTaken node) (length world.began) (world.began ++ world.accepted) at.legal.taken) in
    let some = with_first world in
    let begins = first_accepted node world at in
    let front : take (length some) world.accepted ≡ some = ap (take (length some)) begins.parts ∙ take_at some begins.rest (length some) refl in
    let those : All (IsTaken node) some = subst (All (IsTaken node)) front (All-take (IsTaken node) (length some) world.accepted all) in
    subst (All (IsTaken node)) (drop_at (durable_in world) (first_of (undurable_in world)) (length (durable_in world)) refl) (All-drop (IsTaken node) (length (durable_in world)) some those)

-- ---- what is read

pub pair_is : (side : Side) (live rest : List ℕ) → IsPair (pair_of side live rest)
pair_is First live rest = tt
pair_is Second live rest = tt

pub pair_stays : (spare : Option Spare) (live rest also other : List ℕ) → IsPair (areas_with spare live rest) → IsPair (areas_with spare also other)
pair_stays None live rest also other is = is
pair_stays (Some spare) live rest also other is = pair_is spare.side also other

-- what both areas stand for is what the one that is read does, where the other one tells less
pub reads_live : (spare : Option Spare) (live other : List ℕ) → IfSome spare (λ s. (reports live ≡ Some (Some s.generation)) × IsOlder s.generation other)
    → stands_in (areas_with spare live other) ≡ stands_at (side_of spare) live
unfolding stands_in
reads_live None live other older = refl
reads_live (Some spare) live other older = both_older spare.side spare.generation live other older.0 older.1

pub beside_older : (spare : Option Spare) (file rest : List ℕ) → IsBeside spare file rest → IfSome spare (λ s. (reports file ≡ Some (Some s.generation)) × IsOlder s.generation rest)
beside_older None file rest is = tt
beside_older (Some spare) file rest is = (is.reported, at_rest_older spare.generation rest is.at_rest)

-- ---- what is left of the disk that is read

-- it stands for the records of the file, or for these with the next group, and tells the same
pub record LeavesLive (node : Node) (world : World) (at : Stands node world) (live : List ℕ) : Type 0 where
  pub stand : IsBeforeOrAfter at.file (group_in world) live
  pub keeps : KeepsFront at.file live
  pub are_bytes : AreBytes live

undurable_fit : (rewriting : Option Rewriting) (groups : List History) (durable : ℕ) → rewriting ≡ None → All FitsAsGroup (to_append rewriting durable groups) → All FitsAsGroup (drop durable groups)
undurable_fit None groups durable none fits = fits
undurable_fit (Some rewriting) groups durable none fits = absurd (none-some rewriting (sym none))

pub fit_to_write : (node : Node) (world : World) (at : Stands node world) → world.rewriting ≡ None → All FitsAsGroup (undurable_in world)
fit_to_write node world at none = undurable_fit world.rewriting world.groups world.durable none at.fits

-- the call that is due is that of the group, where no rewriting is in flight
pub next_is : (world : World) → world.rewriting ≡ None → next_call world ≡ call_for (undurable_in world) world.phase (content_in world)
next_is world none = ap (λ (r : Option Rewriting). option_map_or (λ rewriting. None) r (call_for (undurable_in world) world.phase (content_in world))) none

leaves_appended : (node : Node) (world : World) (at : Stands node world) (live : List ℕ) → world.rewriting ≡ None
    → MayLeave world.bytes_at_start world.calls (call_for (undurable_in world) world.phase (content_in world)) live → LeavesLive node world at live
leaves_appended node world at live none (between outcome) =
    let s = state world.bytes_at_start world.calls in
    let fits = first_fits (undurable_in world) world.phase (fit_to_write node world at none) at.idle in
    record {
      stand = leaves at.file at.ends_closed (group_in world) (stage_of world.phase) s live fits at.disk outcome;
      keeps = keeps_front at.file at.ends_closed (group_in world) (stage_of world.phase) s live at.disk outcome;
      are_bytes = outcome.are_bytes;
    }
leaves_appended node world at live none (inside call due outcome) =
    let s = state world.bytes_at_start world.calls in
    let first = due_first (undurable_in world) world.phase s.content call (fit_to_write node world at none) due in
    let now : CanLeave (after s call) live = subst (λ t. CanLeave t live) (after_all-push (all_durable world.bytes_at_start) world.calls call) outcome in
    let is = called at.file at.ends_closed (group_in world) world.phase s call first.0 at.disk first.1 in
    record {
      stand = leaves at.file at.ends_closed (group_in world) (stage_after world.phase) (after s call) live (fits_in (stage_after world.phase) (group_in world) first.0) is now;
      keeps = keeps_front at.file at.ends_closed (group_in world) (stage_after world.phase) (after s call) live is now;
      are_bytes = outcome.are_bytes;
    }

pub leaves_live : (node : Node) (world : World) (at : Stands node world) (live : List ℕ) → world.rewriting ≡ None → MayLeave world.bytes_at_start world.calls (next_call world) live
    → LeavesLive node world at live
leaves_live node world at live none leave =
    leaves_appended node world at live none (subst (λ (c : Option Call). MayLeave world.bytes_at_start world.calls c live) (next_is world none) leave)

-- the disk is the file where no append has begun
pub fresh_disk : (node : Node) (world : World) (at : Stands node world) → world.phase ≡ not_begun → state world.bytes_at_start world.calls ≡ all_durable at.file
fresh_disk node world at is = subst (λ (p : Phase). IsAt (stage_of p) (state world.bytes_at_start world.calls) at.file (group_in world)) is at.disk

-- a disk that is is_durable and has no call due leaves what it has
pub leaves_durable : (bytes : List ℕ) (calls : List Call) (next : Option Call) (file found : List ℕ) → next ≡ None → state bytes calls ≡ all_durable file
    → MayLeave bytes calls next found → found ≡ file
leaves_durable bytes calls next file found none is (between outcome) = durable_only file found (subst (λ (s : State). CanLeave s found) is outcome)
leaves_durable bytes calls next file found none is (inside call due outcome) = absurd (none-some call (sym none ∙ due))

-- a history that what is settled begins, and that begins what was accepted: it is what is durable, or that with the next group
pub record IsBetween (world : World) (history : History) : Type 0 where
  pub accepted : Begins history (world.began ++ world.accepted)
  pub settled : Begins (world.began ++ world.settled) history
  pub whole : (history ≡ world.began ++ durable_in world) ⊎ (history ≡ world.began ++ with_first world)

durable_between : (node : Node) (world : World) → Stands node world → IsBetween world (world.began ++ durable_in world)
durable_between node world at = record {
  accepted = begins_join world.began (durable_in world) world.accepted (durable_accepted node world at);
  settled = begins_join world.began world.settled (durable_in world) (settled_durable world);
  whole = inl refl;
}

pub first_between : (node : Node) (world : World) → Stands node world → IsBetween world (world.began ++ with_first world)
first_between node world at = record {
  accepted = begins_join world.began (with_first world) world.accepted (first_accepted node world at);
  settled = begins_join world.began world.settled (with_first world)
      (begins_trans world.settled (durable_in world) (with_first world) (settled_durable world) (record { rest = first_of (undurable_in world); parts = refl }));
  whole = inr refl;
}

-- what a stop leaves is a journal at the state of one such history, and can be opened
pub record IsLeft (node : Node) (world : World) (found : Areas) : Type 0 where
  pub history : History
  pub is_between : IsBetween world history
  pub holds : Holds node found (kept node history)
  pub on : Opened
  pub opened : IsOpened node on (kept node history)
  pub as_many : is_some on.spare ≡ is_some world.spare

pub legal_between : (node : Node) (world : World) (history : History) → Stands node world → IsBetween world history → IsLegal node history
legal_between node world history at is = legal-begins node history is.accepted.rest (subst (IsLegal node) is.accepted.parts at.legal)

-- what is settled is legal
pub settled_legal : (node : Node) (world : World) → Stands node world → IsLegal node (world.began ++ world.settled)
settled_legal node world at =
    let begins = begins_join world.began world.settled world.accepted (settled_accepted node world at) in
    legal-begins node (world.began ++ world.settled) begins.rest (subst (IsLegal node) begins.parts at.legal)

-- ---- openings

-- reading ends at a closed gate
read_of : (read : Result (List Record × ℕ) ℕ) (records : List Record) → only_records read ≡ Ok records → (gate : ℕ) × (read ≡ Ok (records, gate))
read_of (Ok found) records is = (found.1, λ i. Ok (ok_is found.0 records is i, found.1))
read_of (Err gate) records is = absurd cc

scanned : (file : List ℕ) (records : List Record) → stands file ≡ Ok records → (gate : ℕ) × (scan file ≡ Ok (records, gate))
unfolding stands
scanned file records is = read_of (scan file) records is

walked_long : (file : List ℕ) → 2 ≤ length file → scan file ≡ walk 0 0 file
unfolding scan
walked_long file long = cond-false _ _ _ (le-ltb (length file) 2 long)

-- an area after what lies after its closed gate is cut
pub record IsCutOff (file bytes : List ℕ) : Type 0 where
  pub ends_closed : EndsClosed bytes
  pub stand : stands bytes ≡ stands file
  pub reported : reports bytes ≡ reports file
  pub are_bytes : AreBytes bytes

pub cut_off : (file : List ℕ) (records : List Record) → 2 ≤ length file → stands file ≡ Ok records → AreBytes file → (bytes : List ℕ) × IsCutOff file bytes
cut_off file records long stand are =
    let found = scanned file records stand in
    let bytes = take (found.0 + 1) file in
    let repaired = repaired_cut file found.0 (records, found.1) long bytes refl in
    let size = length-take (found.0 + 1) file in (
      bytes,
      record {
        ends_closed = repaired.ends_closed;
        stand = repaired.records;
        reported = cuts_keep_reporting file bytes records found.0 long (sym (walked_long file long) ∙ found.1)
            (record { front = take-take (found.0 + 1) (found.0 + 1) file (omega arith); no_shorter = omega (arith, size); no_longer = omega (arith, size) });
        are_bytes = All-take (λ number. number < 256) (found.0 + 1) file are;
      },
    )

-- an area that isn't read, at rest
at_rest_of : (generation : ℕ) (other : List ℕ) → IsOlder generation other → AreBytes other → (bytes : List ℕ) × IsAtRest generation bytes × AreBytes bytes
at_rest_of generation other (inl none) are = (0 ∷ [], inl refl, All-cons (λ n. n < 256) 0 [] (omega arith) (All-nil (λ n. n < 256)))
at_rest_of generation other (inr lower) are = (other, inr lower, are)

-- one area
open_one : (node : Node) (found : List ℕ) (held_state : Kept) → Holds node (alone found) held_state → AreBytes found → (on : Opened) × IsOpened node on held_state × (is_some on.spare ≡ false)
unfolding stands_in
open_one node found held_state held are =
    let cut = cut_off found held.journal.records (journal_long node found held_state held) held.journal.stands_for are in (
      alone_on cut.0,
      record {
        holds = holds_same node (alone found) (alone cut.0) held_state held (λ is. is) cut.1.stand;
        ends_closed = cut.1.ends_closed;
        are_bytes = cut.1.are_bytes;
        spare = tt;
      },
      refl,
    )

-- two areas, of which the one that is read tells the greater generation
stands_read : (side : Side) (live : List ℕ) (records : List Record) → stands_at side live ≡ Ok records → (first : List Record) × (stands live ≡ Ok first)
stands_read First live records is = (records, is)
stands_read Second live records is = of_moved (stands live) is
  where
    of_moved : (read : Result (List Record) ℕ) → moved (base_of Second) read ≡ Ok records → (first : List Record) × (read ≡ Ok first)
    of_moved (Ok first) same = (first, refl)
    of_moved (Err gate) same = absurd cc

open_two : (node : Node) (side : Side) (generation : ℕ) (live other : List ℕ) (held_state : Kept) → Holds node (pair_of side live other) held_state → reports live ≡ Some (Some generation)
    → IsOlder generation other → AreBytes live → AreBytes other → (on : Opened) × IsOpened node on held_state × (is_some on.spare ≡ true)
open_two node side generation live other held_state held reported older are also =
    let reads = both_older side generation live other reported older in
    let read = stands_read side live held.journal.records (sym reads ∙ held.journal.stands_for) in
    let cut = cut_off live read.0 (reports_long live (Some generation) reported) read.1 are in
    let rest = at_rest_of generation other older also in
    let reported_now : reports cut.0 ≡ Some (Some generation) = cut.1.reported ∙ reported in (
      record { bytes = cut.0; spare = Some (record { bytes = rest.0; side = side; generation = generation }) },
      record {
        holds = holds_same node (pair_of side live other) (pair_of side cut.0 rest.0) held_state held (λ is. pair_is side cut.0 rest.0)
            (both_older side generation cut.0 rest.0 reported_now (at_rest_older generation rest.0 rest.1) ∙ same_at side live cut.0 cut.1.stand ∙ sym reads);
        ends_closed = cut.1.ends_closed;
        are_bytes = cut.1.are_bytes;
        spare = record { reported = reported_now; at_rest = rest.1; are_bytes = rest.2 };
      },
      refl,
    )

-- ---- checkpoints

pub checkpoint_holds : (node : Node) (areas : Areas) (side : Side) (generation : ℕ) (held_state : Kept) (bytes : List ℕ) → IsPair areas → stands_in areas ≡ stands_at side (1 ∷ bytes)
    → IsNode node → IsSound node held_state → IsCheckpointOf node generation held_state bytes → Holds node areas held_state
checkpoint_holds node areas side generation held_state bytes two reads sound held_sound is =
    let front = own_configuration versions.Second node ∷ head_record generation ∷ state_records is.kept in
    let same : held_state ≡ checkpoint.state_in node is.kept = sym is.is in
    record {
      front = front;
      in_first = 2;
      base = held_state;
      begins = as_checkpoint versions.Second generation is.kept two tt is.written refl refl same;
      events = [];
      journal = journal_same (stands_at side (1 ∷ bytes)) (stands_in areas) front 2 [] reads (journal_at side (1 ∷ bytes) front 2 [] is.journal);
      legal = legal_none node held_state sound held_sound;
      leads = after_none node held_state;
    }

-- an open gate may have any value
ends_any : (gate : ℕ) (bytes : List ℕ) → gate ≢ 0 → EndsClosed (1 ∷ bytes) → EndsClosed (gate ∷ bytes)
ends_any gate bytes is_open ends = record {
  records = ends.records;
  stands_for = stands_any gate 1 bytes is_open (λ one. omega arith) ∙ ends.stands_for;
  ends = walk_open 0 gate bytes is_open ∙ sym (walk_open 0 1 bytes (λ one. omega arith)) ∙ ends.ends;
  some = ends.some;
}

-- ---- what a stop leaves

-- one of two histories, opened on as many disks
left_as : (node : Node) (world : World) (found : Areas) (at : Stands node world)
    → Holds node found (kept node (world.began ++ durable_in world)) ⊎ Holds node found (kept node (world.began ++ with_first world))
    → ((held_state : Kept) → Holds node found held_state → (on : Opened) × IsOpened node on held_state × (is_some on.spare ≡ is_some world.spare)) → IsLeft node world found
left_as node world found at (inl held) opens =
    let history = world.began ++ durable_in world in
    let is = opens (kept node history) held in
    record { history = history; is_between = durable_between node world at; holds = held; on = is.0; opened = is.1; as_many = is.2 }
left_as node world found at (inr held) opens =
    let history = world.began ++ with_first world in
    let is = opens (kept node history) held in
    record { history = history; is_between = first_between node world at; holds = held; on = is.0; opened = is.1; as_many = is.2 }

-- beside another area that tells less
left_live : (node : Node) (world : World) (at : Stands node world) (live other : List ℕ) → LeavesLive node world at live
    → IfSome world.spare (λ s. (reports live ≡ Some (Some s.generation)) × IsOlder s.generation other)
    → Holds node (areas_with world.spare live other) (kept node (world.began ++ durable_in world)) ⊎ Holds node (areas_with world.spare live other) (kept node (world.began ++ with_first world))
left_live node world at live other is older =
    let spare = world.spare in
    let before = areas_with spare at.file at.rest in
    let now = areas_with spare live other in
    let reads = reads_live spare at.file at.rest (beside_older spare at.file at.rest at.beside) in
    let also = reads_live spare live other older in
    let more = first_of (undurable_in world) in
    let joined : (world.began ++ durable_in world) ++ more ≡ world.began ++ with_first world = append_assoc world.began (durable_in world) more in
    elim is.stand [
      | inl same ↦ inl (holds_same node before now (kept node (world.began ++ durable_in world)) at.holds (pair_stays spare at.file at.rest live other)
          (also ∙ same_at (side_of spare) at.file live same ∙ sym reads))
      | inr longer ↦ inr (subst (λ h. Holds node now (kept node h)) joined
          (holds_more node before now (side_of spare) at.file live (world.began ++ durable_in world) more at.holds (pair_stays spare at.file at.rest live other) reads also at.ends_closed longer
          (subst (IsLegal node) (sym joined) (legal_between node world (world.began ++ with_first world) at (first_between node world at)))))
    ]

left_one : (node : Node) (world : World) (found : List ℕ) (at : Stands node world) → world.spare ≡ None → MayLeave world.bytes_at_start world.calls (next_call world) found
    → IsLeft node world (alone found)
left_one node world found at none leave =
    let idle = none_alone node world.spare world.rewriting at.rest _ world.groups world.durable world.phase at.spare none in
    let is = leaves_live node world at found idle leave in
    let same : areas_with world.spare found [] ≡ alone found = ap (λ (s : Option Spare). areas_with s found []) none in
    let older : IfSome world.spare (λ s. (reports found ≡ Some (Some s.generation)) × IsOlder s.generation []) =
    subst (λ (s : Option Spare). IfSome s (λ t. (reports found ≡ Some (Some t.generation)) × IsOlder t.generation [])) (sym none) tt in
    left_as node world (alone found) at
    (subst (λ (a : Areas). Holds node a (kept node (world.began ++ durable_in world)) ⊎ Holds node a (kept node (world.began ++ with_first world))) same (left_live node world at found [] is older))
    (λ held_state held. let opened = open_one node found held_state held is.are_bytes in (opened.0, opened.1, opened.2 ∙ ap (λ (s : Option Spare). is_some s) (sym none)))

-- the bytes that a disk may leave
leave_bytes : (bytes : List ℕ) (calls : List Call) (next : Option Call) (found : List ℕ) → MayLeave bytes calls next found → AreBytes found
leave_bytes bytes calls next found (between outcome) = outcome.are_bytes
leave_bytes bytes calls next found (inside call due outcome) = outcome.are_bytes

-- what a rewriting leaves
leaves_rewritten : (node : Node) (history : History) (groups : List History) (durable : ℕ) (phase : Phase) (spare : Spare) (rewriting : Rewriting) (rest : List ℕ)
    → IsAtRest spare.generation rest → IsRewritingAt node history groups durable phase spare rewriting rest
    → (other : List ℕ) → MayLeave spare.bytes_at_start spare.calls (slice_get (rewrite_calls rewriting.bytes) rewriting.made) other
    → IsOlderOrNew spare.generation rewriting.bytes other
leaves_rewritten node history groups durable phase spare rewriting rest at_rest is other (between outcome) =
    spare_leaves rest rewriting.bytes spare.generation rewriting.made other (omega (arith, is.few)) at_rest (subst (λ (s : State). CanLeave s other) is.disk outcome)
leaves_rewritten node history groups durable phase spare rewriting rest at_rest is other (inside call due outcome) =
    let inside = get_inside (rewrite_calls rewriting.bytes) rewriting.made call due in
    let next = made_more rest rewriting.bytes rewriting.made (state spare.bytes_at_start spare.calls) call is.disk due in
    spare_leaves rest rewriting.bytes spare.generation (suc rewriting.made) other (omega (arith, inside)) at_rest
    (subst (λ (s : State). CanLeave s other) (after_all-push (all_durable spare.bytes_at_start) spare.calls call ∙ next) outcome)

module _ (node : Node) (world : World) (at : Stands node world) (spare : Spare) (is_spare : world.spare ≡ Some spare) (live other : List ℕ)
    (leave : MayLeave world.bytes_at_start world.calls (next_call world) live) (also : MayLeave spare.bytes_at_start spare.calls (next_spare_call world) other) where
  beside : IsAtRestBeside spare at.file at.rest
  beside = subst (λ (s : Option Spare). IsBeside s at.file at.rest) is_spare at.beside

  -- the live area is read
  older_left : LeavesLive node world at live → reports live ≡ Some (Some spare.generation) → IsOlder spare.generation other → IsLeft node world (pair_of spare.side live other)
  older_left is reported older =
      let same : areas_with world.spare live other ≡ pair_of spare.side live other = ap (λ (s : Option Spare). areas_with s live other) is_spare in
      let both : IfSome world.spare (λ s. (reports live ≡ Some (Some s.generation)) × IsOlder s.generation other) =
      subst (λ (s : Option Spare). IfSome s (λ t. (reports live ≡ Some (Some t.generation)) × IsOlder t.generation other)) (sym is_spare) (reported, older) in
      left_as node world (pair_of spare.side live other) at
      (subst (λ (a : Areas). Holds node a (kept node (world.began ++ durable_in world)) ⊎ Holds node a (kept node (world.began ++ with_first world))) same (left_live node world at live other is both))
      (λ held_state held.
      let are = leave_bytes spare.bytes_at_start spare.calls (next_spare_call world) other also in
      let opened = open_two node spare.side spare.generation live other held_state held reported older is.are_bytes are in
      (opened.0, opened.1, opened.2 ∙ ap (λ (s : Option Spare). is_some s) (sym is_spare)))

  left_pair : (rewriting : Option Rewriting) → world.rewriting ≡ rewriting
      → IsSpareAt node (world.began ++ (world.settled ++ first_of world.groups)) world.groups world.durable world.phase (Some spare) rewriting at.rest
      → IsLeft node world (pair_of spare.side live other)
  left_pair None none is_durable =
      let is = leaves_live node world at live none leave in
      let no_call : next_spare_call world ≡ None = ap (λ (r : Option Rewriting). option_and_then (λ one. slice_get (rewrite_calls one.bytes) one.made) r) none in
      let same : other ≡ at.rest = leaves_durable spare.bytes_at_start spare.calls (next_spare_call world) at.rest other no_call is_durable also in
      older_left is (keeps_reporting at.file live (Some spare.generation) at.ends_closed beside.reported is.keeps ∙ beside.reported)
      (subst (IsOlder spare.generation) (sym same) (at_rest_older spare.generation at.rest beside.at_rest))
  left_pair (Some rewriting) in_flight is =
      let no_call : next_call world ≡ None = ap (λ (r : Option Rewriting). option_map_or (λ one. None) r (call_for (undurable_in world) world.phase (content_in world))) in_flight in
      let fresh = fresh_disk node world at is.not_begun in
      let same : live ≡ at.file = leaves_durable world.bytes_at_start world.calls (next_call world) at.file live no_call fresh leave in
      let call : next_spare_call world ≡ slice_get (rewrite_calls rewriting.bytes) rewriting.made =
      ap (λ (r : Option Rewriting). option_and_then (λ one. slice_get (rewrite_calls one.bytes) one.made) r) in_flight in
      let left = leaves_rewritten node _ world.groups world.durable world.phase spare rewriting at.rest beside.at_rest is other
      (subst (λ (c : Option Call). MayLeave spare.bytes_at_start spare.calls c other) call also) in
      let reported : reports live ≡ Some (Some spare.generation) = ap reports same ∙ beside.reported in
      let live_bytes : AreBytes live = leave_bytes world.bytes_at_start world.calls (next_call world) live leave in
      elim left [
        | inl older ↦ older_left (record { stand = inl (ap stands same); keeps = subst (KeepsFront at.file) (sym same) (refl, omega arith); are_bytes = live_bytes }) reported older
        | inr new ↦ new_left rewriting is reported live_bytes (subst EndsClosed (sym same) at.ends_closed) new.0 new.1 new.2
      ]
    where
      new_left : (rewriting : Rewriting) → IsRewritingAt node (world.began ++ (world.settled ++ first_of world.groups)) world.groups world.durable world.phase spare rewriting at.rest
          → reports live ≡ Some (Some spare.generation) → AreBytes live → EndsClosed live → (gate : ℕ) → gate ≢ 0 → other ≡ gate ∷ rewriting.bytes → IsLeft node world (pair_of spare.side live other)
      new_left rewriting is reported live_bytes live_ends gate is_open new =
          let bytes = rewriting.bytes in
          let generation = spare.generation in
          let checkpoint = is.checkpoint in
          let side = other_side spare.side in
          let history = world.began ++ with_first world in
          let none : take world.durable world.groups ≡ [] = ap (λ (n : ℕ). take n world.groups) is.none_durable in
          let all : undurable_in world ≡ world.groups = ap (λ (n : ℕ). drop n world.groups) is.none_durable in
          let durable : durable_in world ≡ world.settled = ap (λ l. world.settled ++ events_of l) none ∙ append-nil world.settled in
          let same_history : world.began ++ (world.settled ++ first_of world.groups) ≡ history =
          ap (λ l. world.began ++ l) (λ i. sym durable i ++ first_of (sym all i)) in
          let reads : stands_in (pair_of spare.side live other) ≡ stands_at side (1 ∷ bytes) =
          ap (λ (l : List ℕ). stands_in (pair_of spare.side live l)) new ∙ both_new spare.side generation (generation + 1) gate live bytes reported checkpoint.reported (omega arith) is_open in
          let legal = legal_between node world history at (first_between node world at) in
          let held : Holds node (pair_of spare.side live other) (kept node history) =
          checkpoint_holds node (pair_of spare.side live other) side (generation + 1) (kept node history) bytes (pair_is spare.side live other) reads legal.sound (kept_is_sound node history legal)
          (subst (λ h. IsCheckpointOf node (generation + 1) (kept node h) bytes) same_history checkpoint) in
          let reported_new : reports (gate ∷ bytes) ≡ Some (Some (generation + 1)) = reports_open gate 1 bytes is_open (λ one. omega arith) ∙ checkpoint.reported in
          let at_rest : IsAtRest (generation + 1) live = inr (generation, reported, omega arith) in
          let bytes_are : AreBytes (gate ∷ bytes) = subst AreBytes new (leave_bytes spare.bytes_at_start spare.calls (next_spare_call world) other also) in
          record {
            history = history;
            is_between = first_between node world at;
            holds = held;
            on = record { bytes = gate ∷ bytes; spare = Some (record { bytes = live; side = side; generation = generation + 1 }) };
            opened = record {
              holds = holds_same node (pair_of spare.side live other) (pair_of side (gate ∷ bytes) live) (kept node history) held (λ two. pair_is side (gate ∷ bytes) live)
                  (both_older side (generation + 1) (gate ∷ bytes) live reported_new (at_rest_older (generation + 1) live at_rest)
                  ∙ same_at side (1 ∷ bytes) (gate ∷ bytes) (stands_any gate 1 bytes is_open (λ one. omega arith)) ∙ sym reads);
              ends_closed = ends_any gate bytes is_open checkpoint.ends_closed;
              are_bytes = bytes_are;
              spare = record { reported = reported_new; at_rest = at_rest; are_bytes = live_bytes };
            };
            as_many = ap (λ (s : Option Spare). is_some s) (sym is_spare);
          }

pub left : (node : Node) (world : World) (found : Areas) → Stands node world → MayStop world found → IsLeft node world found
left node world found at (of_one bytes none leave is) = subst (IsLeft node world) (sym is) (left_one node world bytes at none leave)
left node world found at (of_pair spare live other is_spare leave also is) =
    subst (IsLeft node world) (sym is)
    (left_pair node world at spare is_spare live other leave also world.rewriting refl
    (subst (λ (s : Option Spare). IsSpareAt node (world.began ++ (world.settled ++ first_of world.groups)) world.groups world.durable world.phase s world.rewriting at.rest) is_spare at.spare))

-- ---- a run begins

-- the bytes of the other disk
rest_bytes : Option OpenedSpare → List ℕ
rest_bytes None = []
rest_bytes (Some rest) = rest.bytes

begun_beside : (bytes : List ℕ) (rest : Option OpenedSpare) → IfSome rest (IsOpenedSpare bytes) → IsBeside (option_map spare_on rest) bytes (rest_bytes rest)
unfolding rest_bytes
begun_beside bytes None is = tt
begun_beside bytes (Some rest) is = record { reported = is.reported; at_rest = is.at_rest; are_bytes = is.are_bytes }

begun_spare : (node : Node) (history : History) (groups : List History) (durable : ℕ) (phase : Phase) (rest : Option OpenedSpare)
    → IsSpareAt node history groups durable phase (option_map spare_on rest) None (rest_bytes rest)
unfolding rest_bytes
begun_spare node history groups durable phase None = tt
begun_spare node history groups durable phase (Some rest) = refl

begun_areas : (bytes : List ℕ) (rest : Option OpenedSpare) → areas_of (record { bytes = bytes; spare = rest }) ≡ areas_with (option_map spare_on rest) bytes (rest_bytes rest)
unfolding rest_bytes
begun_areas bytes None = refl
begun_areas bytes (Some rest) = refl

pub begins_standing : (node : Node) (on : Opened) (began : History) (given : List Given) → IsLegal node began → IsOpened node on (kept node began) → All (IsKept node began) given
    → Stands node (run_on on began given)
begins_standing node on began given legal opened given_kept =
    let same = sym (append-nil began) in
    record {
      legal = subst (IsLegal node) same legal;
      taken = begins_same [];
      within = omega arith;
      file = on.bytes;
      ends_closed = opened.ends_closed;
      are_bytes = opened.are_bytes;
      disk = refl;
      fits = All-nil FitsAsGroup;
      idle = λ none. refl;
      rest = rest_bytes on.spare;
      beside = begun_beside on.bytes on.spare opened.spare;
      spare = begun_spare node (began ++ []) [] 0 not_begun on.spare;
      holds = subst (λ (a : Areas). Holds node a (kept node (began ++ []))) (begun_areas on.bytes on.spare) (subst (λ h. Holds node (areas_of on) (kept node h)) same opened.holds);
      waiting = All-nil (IsDue node began []);
      given = subst (λ h. All (IsKept node h) given) same given_kept;
    }

-- a run begins on as many disks as it was opened on
pub begun_many : (rest : Option OpenedSpare) → is_some (option_map spare_on rest) ≡ is_some rest
begun_many None = refl
begun_many (Some rest) = refl
