-- What an opening of two disks answers and leaves.
use Rattle.std.proofs.Common.{◌≡◌, ◌≢◌, ℕ, ◌<◌, inl, inr, List, [], ◌∷◌, Option, Some, None, Result, Ok, Err, refl, sym, ap, ◌∙◌, subst}
use Rattle.std.specs.Prelude.{All, ◌⊎◌, IsSome}
use Rattle.std.specs.Option.{option_map_or}
use Rattle.diskmodel.specs.Disk.{AtEachMoment, Device as Disks}
use Rattle.diskmodel.proofs.Clock.{weaker}
use Rattle.journal.specs.Areas.{Areas, alone, pair, pair_of, stands_in}
use Rattle.journal.specs.Journal.{disk_of, spare_of, IsAsOneOf}
use Rattle.journal.specs.Pairs.{two, spare_disk, side_in, generation_in, areas_of, areas_in, store_of}
use Rattle.journal.specs.Spares.{by_area}
use Rattle.journal.specs.Stores.{disks_of, faults_of_both, faults_in, IsChosenOf, OpensAtEachMoment}
use Rattle.journal.specs.declared.error.Failed.{Failed}
use Rattle.journal.specs.declared.error.JournalError.{JournalError}
use Rattle.journal.specs.declared.error.JournalError.TheVariants.{Memory, Device, Damaged, ConfigMismatch, Full}
use Rattle.journal.specs.declared.journal.Journal.{Journal}
use Rattle.journal.specs.declared.record.Record.{Record}
use Rattle.journal.specs.declared.side.Side.{Side}
use Rattle.journal.specs.declared.side.Side.TheVariants as sides
use Rattle.journal.specs.declared.spare.Spare.{Spare}
use Rattle.journal.specs.declared.store.Store.{Store}
use Rattle.journal.specs.declared.store.Store.TheVariants.{One, Two}
use Rattle.journal.specs.declared.version.Version.{Version}
use Rattle.journal.specs.declared.version.Version.TheVariants as versions
use Rattle.journal.proofs.Reporting.{both_stand_as_before}
use Rattle.sigface.specs.Scheme.{Scheme}
use Rattle.spec_machine.specs.Laws.{StartsFresh}
use Rattle.spec_model.specs.Nodes.{Node, IsNode}
use Rattle.spec_model.specs.States.{State}
use Rattle.spec_world.proofs.Recovering.{holds_same}
use Rattle.spec_world.specs.Runs.{AreKeys}
use Rattle.spec_world.specs.World.{IsPair, StandsFor, as_journal, as_empty}
use Rattle.admission.specs.declared.tables.Tables.{Tables}
use Rattle.validator.specs.Setting.{ConfigView, node_of}
use Rattle.validator.specs.Standing.{ValidatorView}
use Rattle.opening.specs.Finished.{done, gives_up, IsReady, IsGivenUp, at_records, at_renewal, IsFinished}
use Rattle.opening.specs.Laws.{IsLeftIn, AreLeftDecodedIn, KeepsAlone, IsNoRefusalOfBoth, IsUnchanged, IsOpeningOn, IsOpenedIn, StandsForIn, HoldsIn}
use Rattle.opening.specs.PairReplayed.{version_in}
use Rattle.opening.specs.Renewing.{KeepsStatesIn, IsFullOf, IsFullAt, IsReadOn, IsRenewed, IsPlaced}
use Rattle.opening.specs.Stages.{IsStage, InStages, IsDecodedAsBoth, IsDecodedThroughout}
use Rattle.opening.specs.Decoded.{IsText, StandsAt, Reports, read_pair, decoded_in}
use Rattle.opening.proofs.PairLaws.{found_in, areas_begin, what_stands_is_decoded_in}
use Rattle.opening.proofs.PairReporting.{decoded_pair_same, decoded_pair_records, decoded_pair_damaged}
use Rattle.opening.proofs.Renewals.{areas_pair, generation_decoded, stage}

-- ---- the disks

store_by : {D : Type 0} (device : Disks D) (live : D) (spare : Option (Spare D)) → IsSome spare
    → areas_in device (option_map_or (λ (s : Spare D). two (by_area s.side live s.disk)) spare (One live))
    ≡ option_map_or (λ (s : Spare D). pair_of s.side (device.content live) (device.content (option_map_or (λ (t : Spare D). t.disk) spare live))) spare (alone (device.content live))
store_by device live None some = absurd (cc some)
store_by device live (Some s) some = by_side s.side
  where
    by_side : (side : Side) → areas_in device (two (by_area side live s.disk)) ≡ pair_of side (device.content live) (device.content s.disk)
    by_side sides.First = refl
    by_side sides.Second = refl

two_by : {D : Type 0} (live : D) (spare : Option (Spare D)) → IsSome spare
    → option_map_or (λ (s : Spare D). two (by_area s.side live s.disk)) spare (One live)
    ≡ two (by_area (option_map_or (λ (s : Spare D). s.side) spare sides.First) live (option_map_or (λ (s : Spare D). s.disk) spare live))
two_by live None some = absurd (cc some)
two_by live (Some s) some = refl

-- a journal on two disks was opened on these
pub store_two : {D : Type 0} (journal : Journal D) → IsSome (spare_of journal) → store_of journal ≡ two (disks_of journal)
store_two journal some = two_by (disk_of journal) (spare_of journal) some

pub store_areas : {D : Type 0} (device : Disks D) (journal : Journal D) → IsSome (spare_of journal) → areas_in device (store_of journal) ≡ areas_of device journal
store_areas device journal some = store_by device (disk_of journal) (spare_of journal) some

-- ---- errors

-- what is told as a state is not refused
refusal_by : (error : JournalError) (state : State) (read : Result State JournalError) → read ≡ Ok state → (error ≢ Device → error ≢ Full → Reports error read) → IsNoRefusalOfBoth error
refusal_by Memory state read is reports = inl (inr refl)
refusal_by Device state read is reports = inl (inl refl)
refusal_by (Damaged place) state read is reports = absurd (clash (sym is ∙ reports (λ same. cc) (λ same. cc)))
  where
    clash : ◌≡◌ {A = Result State JournalError} (Ok state) (Err (Damaged place)) → ⊥
    clash same = cc
refusal_by ConfigMismatch state read is reports = absurd (clash (sym is ∙ reports (λ same. cc) (λ same. cc)))
  where
    clash : ◌≡◌ {A = Result State JournalError} (Ok state) (Err ConfigMismatch) → ⊥
    clash same = cc
refusal_by Full state read is reports = inr refl

opening_reports : (node : Node) (areas : Areas) (error : JournalError) → IsPair areas → ((place : ℕ) → error ≡ Damaged place → stands_in areas ≡ Err place) → error ≢ Full → error ≢ ConfigMismatch
    → error ≢ Device → Reports error (decoded_in node areas)
opening_reports node areas Memory is_two damaged full config device = tt
opening_reports node areas (Damaged place) is_two damaged full config device = decoded_pair_damaged node areas place is_two (damaged place refl)
opening_reports node areas Device is_two damaged full config device = absurd (device refl)
opening_reports node areas ConfigMismatch is_two damaged full config device = absurd (config refl)
opening_reports node areas Full is_two damaged full config device = absurd (full refl)

-- one of these is none that is read
renewal_reports : (error : JournalError) (read : Result State JournalError) → (error ≡ Device) ⊎ (error ≡ Memory) ⊎ (error ≡ Full) → error ≢ Device → error ≢ Full → Reports error read
renewal_reports error read is device full = by_error is
  where
    memory : error ≡ Memory → Reports error read
    memory same = subst (λ (e : JournalError). Reports e read) (sym same) tt

    by_error : (error ≡ Device) ⊎ (error ≡ Memory) ⊎ (error ≡ Full) → Reports error read
    by_error (inl same) = absurd (device same)
    by_error (inr (inl same)) = memory same
    by_error (inr (inr same)) = absurd (full same)

-- ---- what tables stand for

pub stands_for_in : StartsFresh → (node : Node) (areas : Areas) (records : List Record) (tables : Tables) → IsPair areas → IsNode node → All IsText records → stands_in areas ≡ Ok records
    → StandsAt node (decoded_in node areas) tables → StandsForIn node areas tables
stands_for_in starts node areas records tables is_two sound texts is at =
    let read = sym (decoded_pair_records node areas records is_two is) ∙ at.is_read in
    record {
      state = at.state;
      stands_for = (found_in starts node areas is_two sound records at.state texts is (λ first rest same. areas_begin areas is_two first rest (is ∙ ap Ok same)) read).stands_for;
      at = at.at;
    }

pub decoded_at : (node : Node) (areas : Areas) (records : List Record) (tables : Tables) → IsPair areas → stands_in areas ≡ Ok records → StandsAt node (read_pair node records) tables
    → StandsAt node (decoded_in node areas) tables
decoded_at node areas records tables is_two is at = record { state = at.state; is_read = decoded_pair_records node areas records is_two is ∙ at.is_read; at = at.at }

read_at : (node : Node) (one other : Result State JournalError) (tables : Tables) → one ≡ other → StandsAt node one tables → StandsAt node other tables
read_at node one other tables same at = record { state = at.state; is_read = sym same ∙ at.is_read; at = at.at }

pub reports_at : (node : Node) (areas : Areas) (records : List Record) (error : JournalError) → IsPair areas → stands_in areas ≡ Ok records → Reports error (read_pair node records)
    → Reports error (decoded_in node areas)
reports_at node areas records error is_two is reports = subst (Reports error) (sym (decoded_pair_records node areas records is_two is)) reports

-- areas that stand for the same records stand for the same states
stands_same : (node : Node) (one other : Areas) (state : State) → IsPair other → stands_in other ≡ stands_in one → StandsFor node one state → StandsFor node other state
stands_same node one other state is_two same (as_journal held) = as_journal (holds_same node one other state held (λ two_there. is_two) same)
stands_same node one other state is_two same (as_empty none is) = as_empty (same ∙ none) is

keeps_on : (node : Node) (one other later : Areas) → IsPair other → stands_in other ≡ stands_in one → KeepsStatesIn node other later → KeepsStatesIn node one later
keeps_on node one other later is_two same keeps state stands_for = keeps state (stands_same node one other state is_two same stands_for)

-- and there is one at which tables stand
holds_in : (node : Node) (before later : Areas) (tables : Tables) → StandsForIn node before tables → IsNode node → AreKeys node
    → decoded_in node later ≡ decoded_in node before → KeepsStatesIn node before later → HoldsIn node later tables
holds_in node before later tables stands_for sound keys same keeps = record {
  state = stands_for.state;
  decoded_as = same ∙ what_stands_is_decoded_in node before stands_for.state sound keys stands_for.stands_for;
  holds = keeps stands_for.state stands_for.stands_for;
  at = stands_for.at;
}

-- ---- what came of the records of a journal that is open

-- the version of its records is that of what it stands for
version_of : (read : Result (List Record) ℕ) (records others : List Record) (version : Option Version) → read ≡ Ok records → version ≡ version_in records
    → read ≡ Ok others → version ≡ version_in others
version_of read records others version is of also = of ∙ ap version_in (same records others (sym is ∙ also))
  where
    same : (one other : List Record) → ◌≡◌ {A = Result (List Record) ℕ} (Ok one) (Ok other) → one ≡ other
    same one other is_same = cc

-- of two disks nothing more is said of the records
keeps_two : {D : Type 0} (node : Node) (device : Disks D) (first second : D) (new : Store D) → IsDecodedThroughout node device (Two first second) new → KeepsAlone node device (Two first second) new
keeps_two node device first second (One left) is = absurd is
keeps_two node device first second (Two now also) is = tt

module _ {D : Type 0} (node : Node) (device : Disks D) (old new : Journal D) (version : Option Version)
    (has : (records : List Record) × (stands_in (areas_of device old) ≡ Ok records) × (version ≡ version_in records)) where
  pub placed_by : IsPlaced node device version old new → (records : List Record) → stands_in (areas_of device old) ≡ Ok records → IsPlaced node device (version_in records) old new
  placed_by placed records is = subst (λ (v : Option Version). IsPlaced node device v old new) (version_of (stands_in (areas_of device old)) has.0 records version has.1 has.2 is) placed

  pub first_by : (error : JournalError) → (error ≡ Full → version ≡ Some versions.First) → error ≡ Full → (records : List Record) → stands_in (areas_of device old) ≡ Ok records
      → version_in records ≡ Some versions.First
  first_by error first full records is = sym (version_of (stands_in (areas_of device old)) has.0 records version has.1 has.2 is) ∙ first full

-- ---- an opening

module _ {S D : Type 0} (scheme : Scheme S) (device : Disks D) (setting : ConfigView S) (first second : D) (left_decoded : AreLeftDecodedIn (node_of scheme setting)) where
  abbrev Given : Type 0
  Given = ValidatorView S × Journal D

  abbrev node : Node
  node = node_of scheme setting

  abbrev store : Store D
  store = Two first second

  abbrev before : Areas
  before = pair (device.content first) (device.content second)

  abbrev disks_in : Given → Store D
  disks_in = λ opened. store_of opened.1

  -- ---- what a stop leaves

  opened_stage : (now also : D) → AtEachMoment device first now (IsAsOneOf (device.outcome first)) → AtEachMoment device second also (IsAsOneOf (device.outcome second))
      → IsStage device (IsDecodedAsBoth node device (first, second)) (first, second) (now, also)
  opened_stage now also one other =
      stage device (IsDecodedAsBoth node device (first, second)) (first, second) (now, also) (IsAsOneOf (device.outcome first)) (IsAsOneOf (device.outcome second)) one other
      (λ a b left right.
      let both = both_stand_as_before (device.outcome first) (device.outcome second) a b left right in
      (both.0, both.1, both.2, both.3, decoded_pair_same node (pair a b) (pair both.0 both.1) tt tt both.4))

  throughout : (disk : Store D) → OpensAtEachMoment device store disk → IsDecodedThroughout node device store disk
  throughout (One left) at = at
  throughout (Two now also) at = ([], opened_stage now also at.0 at.1)

  unchanged_by : (disk : Store D) → OpensAtEachMoment device store disk → stands_in (areas_in device disk) ≡ stands_in before → IsUnchanged device store disk
  unchanged_by (One left) at same = at
  unchanged_by (Two now also) at same = same

  -- ---- the journal isn't opened

  open_fails : (failed : Failed JournalError (Store D)) → OpensAtEachMoment device store failed.disk → ((place : ℕ) → failed.error ≡ Damaged place → stands_in before ≡ Err place) → failed.error ≢ Full
      → failed.error ≢ ConfigMismatch → (failed.error ≢ Device → areas_in device failed.disk ≡ areas_in device store)
      → (failed.error ≡ Device → faults_in device store < faults_in device failed.disk) × (failed.error ≢ Device → faults_in device failed.disk ≡ faults_in device store)
      → IsOpeningOn {T = Given} node device disks_in store (Err failed)
  open_fails failed at damaged full config same cause =
      let reports = opening_reports node before failed.error tt damaged full config in
      record {
        reports = λ device_not full_not. reports device_not;
        full = λ is. absurd (full is);
        cause = (tt, cause);
        any_moment = throughout failed.disk at;
        keeps = keeps_two node device first second failed.disk (throughout failed.disk at);
        never_refused = λ left. let found = left_decoded before left in refusal_by failed.error found.0 (decoded_in node before) found.1 (λ device_not full_not. reports device_not);
        unchanged = λ other. unchanged_by failed.disk at (ap stands_in (same other));
      }

  not_opened : (failed : Failed JournalError (Store D)) → IsOpeningOn {T = Given} node device disks_in store (Err failed) → IsOpenedIn scheme device setting store (Err failed)
  not_opened failed opening = record {
    set = tt;
    stands = tt;
    same = tt;
    alive = tt;
    configured = tt;
    begun = tt;
    disks = tt;
    newest = tt;
    stands_for = tt;
    kept = tt;
    holds = tt;
    opening = opening;
  }

  pub open_failed : (failed : Failed JournalError (Store D)) → OpensAtEachMoment device store failed.disk → ((place : ℕ) → failed.error ≡ Damaged place → stands_in before ≡ Err place)
      → failed.error ≢ Full → failed.error ≢ ConfigMismatch → (failed.error ≢ Device → areas_in device failed.disk ≡ areas_in device store)
      → (failed.error ≡ Device → faults_in device store < faults_in device failed.disk) × (failed.error ≢ Device → faults_in device failed.disk ≡ faults_in device store)
      → IsOpenedIn scheme device setting store (Err failed)
  open_failed failed at damaged full config same cause = not_opened failed (open_fails failed at damaged full config same cause)

  -- ---- it was opened

  module _ (journal : Journal D) (some : IsSome (spare_of journal)) (at : OpensAtEachMoment device store (store_of journal)) (same : stands_in (areas_of device journal) ≡ stands_in before)
      (faults : faults_in device (store_of journal) ≡ faults_in device store) where
    decoded_same : decoded_in node (areas_of device journal) ≡ decoded_in node before
    decoded_same = ap (decoded_in node) (sym (store_areas device journal some)) ∙ decoded_pair_same node (areas_in device (store_of journal)) before (pair_there (store_of journal) at) tt
        (ap stands_in (store_areas device journal some) ∙ same)
      where
        pair_there : (disk : Store D) → OpensAtEachMoment device store disk → IsPair (areas_in device disk)
        pair_there (One left) opens = opens
        pair_there (Two now also) opens = tt

    unchanged_still : IsUnchanged device store (store_of journal)
    unchanged_still = unchanged_by (store_of journal) at (ap stands_in (store_areas device journal some) ∙ same)

    -- its records are at fault
    records_fail : (error : JournalError) (disk : Store D) → error ≢ Device → error ≢ Full → Reports error (decoded_in node (areas_of device journal)) → disk ≡ store_of journal
        → IsOpeningOn {T = Given} node device disks_in store (Err (record { error = error; disk = disk }))
    records_fail error disk device_not full_not reports disk_is =
        let reported = subst (Reports error) decoded_same reports in
        record {
          reports = λ one other. reported;
          full = λ is. absurd (full_not is);
          cause = (tt, ((λ is. absurd (device_not is)), (λ other. ap (faults_in device) disk_is ∙ faults)));
          any_moment = subst (IsDecodedThroughout node device store) (sym disk_is) (throughout (store_of journal) at);
          keeps = keeps_two node device first second disk (subst (IsDecodedThroughout node device store) (sym disk_is) (throughout (store_of journal) at));
          never_refused = λ left. let found = left_decoded before left in refusal_by error found.0 (decoded_in node before) found.1 (λ one other. reported);
          unchanged = λ other. subst (IsUnchanged device store) (sym disk_is) unchanged_still;
        }

    -- ---- and renewed

    module _ (here : device.outcome first (device.content first)) (there : device.outcome second (device.content second)) where
      module _ (new : Journal D) (result : Result (Unit {0}) JournalError) (is : IsRenewed node device journal result new) where
        stage_two : IsStage device (IsDecodedAsBoth node device (first, second)) (disks_of journal) (disks_of new)
        stage_two = record {
          first =
              weaker device (disks_of journal).0 (disks_of new).0 _ _ is.any_moment.first
              (λ a each b right. (device.content first, device.content second, here, there, each b right ∙ decoded_same));
          second =
              weaker device (disks_of journal).1 (disks_of new).1 _ _ is.any_moment.second
              (λ b each a left. (device.content first, device.content second, here, there, each a left ∙ decoded_same));
        }

        in_stages : InStages device (IsDecodedAsBoth node device (first, second)) (first, second) (disks_of new)
        in_stages = (disks_of journal ∷ [], (stage_one (store_of journal) (store_two journal some) at, stage_two))
          where
            stage_one : (disk : Store D) → disk ≡ two (disks_of journal) → OpensAtEachMoment device store disk
                → IsStage device (IsDecodedAsBoth node device (first, second)) (first, second) (disks_of journal)
            stage_one disk two_are opens =
                let moved = subst (OpensAtEachMoment device store) two_are opens in
                opened_stage (disks_of journal).0 (disks_of journal).1 moved.0 moved.1

        all_through : IsDecodedThroughout node device store (store_of new)
        all_through = subst (IsDecodedThroughout node device store) (sym (store_two new is.two)) in_stages

        sums : faults_of_both device (disks_of journal) ≡ faults_in device store
        sums = ap (faults_in device) (sym (store_two journal some)) ∙ faults

        sums_now : faults_in device (store_of new) ≡ faults_of_both device (disks_of new)
        sums_now = ap (faults_in device) (store_two new is.two)

      renewed_ok : (validator : ValidatorView S) (new : Journal D) → IsRenewed node device journal done new → IsOpeningOn node device disks_in store (Ok (validator, new))
      renewed_ok validator new is = record {
        reports = tt;
        full = tt;
        cause = (sums_now new done is ∙ is.cause.0 ∙ sums new done is, tt);
        any_moment = all_through new done is;
        keeps = keeps_two node device first second (store_of new) (all_through new done is);
        never_refused = tt;
        unchanged = tt;
      }

      renewed_err : (error : JournalError) (disk : Store D) (new : Journal D) → IsRenewed node device journal (gives_up error) new
          → (error ≡ Full → IsFullOf node (device.content first) (device.content second)) → disk ≡ store_of new
          → IsOpeningOn {T = Given} node device disks_in store (Err (record { error = error; disk = disk }))
      renewed_err error disk new is full disk_is =
          let now = ap (faults_in device) disk_is ∙ sums_now new (gives_up error) is in
          let then = sums new (gives_up error) is in
          let reports = renewal_reports error (decoded_in node before) is.errors in
          record {
            reports = reports;
            full = full;
            cause = (
              tt,
              (
                (λ same_error.
                    let more = is.cause.1.0 same_error in
                    subst (λ (n : ℕ). n < faults_in device disk) then (subst (λ (n : ℕ). faults_of_both device (disks_of journal) < n) (sym now) more)),
                (λ other. now ∙ is.cause.1.1 other ∙ then),
              ),
            );
            any_moment = subst (IsDecodedThroughout node device store) (sym disk_is) (all_through new (gives_up error) is);
            keeps = keeps_two node device first second disk (subst (IsDecodedThroughout node device store) (sym disk_is) (all_through new (gives_up error) is));
            never_refused = λ left. let found = left_decoded before left in refusal_by error found.0 (decoded_in node before) found.1 reports;
            unchanged = λ other.
                let kept : disk ≡ store_of journal = disk_is ∙ ap store_of (is.unchanged other) in
                subst (IsUnchanged device store) (sym kept) unchanged_still;
          }

      -- ---- what came of its records

      module _ (starts : StartsFresh) (sound : IsNode node) (keys : AreKeys node) (chosen : IsChosenOf device first second journal) (records : List Record) (texts : All IsText records)
          (stands_for : stands_in before ≡ Ok records) where
        stand : stands_in (areas_of device journal) ≡ Ok records
        stand = same ∙ stands_for

        -- where a journal in the first version has no room
        full_of : version_in records ≡ Some versions.First → IsFullAt node device journal → IsFullOf node (device.content first) (device.content second)
        full_of version full = record {
          records = records;
          stands_for = stands_for;
          version = version;
          side = side_in journal;
          generation = generation_in journal;
          chosen = chosen;
          state = full.state;
          is_decoded = sym decoded_same ∙ full.is_decoded;
          no_room = full.no_room;
        }

        module _ (validator : ValidatorView S) (new : Journal D) (ready : IsReady scheme device setting journal validator new) where
          read_on : IsReadOn node (device.content first) (device.content second) new
          read_on =
              let placed = ready.placed records stand in
              record {
                records = records;
                stands_for = stands_for;
                side = side_in journal;
                generation = generation_in journal;
                chosen = chosen;
                rewritten = λ version. let moved = placed.rewritten version in (moved.places.side, moved.places.generation);
                room = λ version. let moved = placed.rewritten version in (moved.room.state, sym decoded_same ∙ moved.room.is_decoded, moved.room.room);
                stays = λ other. let kept = placed.stays other in (kept.side, kept.generation);
              }

          stands : StandsAt node (decoded_in node before) validator.tables
          stands = read_at node (decoded_in node (areas_of device journal)) (decoded_in node before) validator.tables decoded_same ready.stands

          stands_at : StandsForIn node before validator.tables
          stands_at = stands_for_in starts node before records validator.tables tt sound texts stands_for stands

          keeps : KeepsStatesIn node before (areas_of device new)
          keeps = keeps_on node before (areas_of device journal) (areas_of device new) (areas_pair device journal (device.content (spare_disk journal)) some) same ready.is.kept

          decoded_then : decoded_in node (areas_of device new) ≡ decoded_in node before
          decoded_then = ready.is.same ∙ decoded_same

          finished_ok : IsOpenedIn scheme device setting store (Ok (validator, new))
          finished_ok = record {
            set = ready.set;
            stands = stands;
            same = decoded_then;
            alive = ready.is.alive;
            configured = ready.is.configured;
            begun = λ some_spare. generation_decoded device node new sound keys some_spare ready.is.alive ready.is.configured;
            disks = (ready.is.two, read_on);
            newest = λ some_spare. ready.is.newest;
            stands_for = stands_at;
            kept = keeps;
            holds = holds_in node before (areas_of device new) validator.tables stands_at sound keys decoded_then keeps;
            opening = renewed_ok validator new ready.is;
          }

        given_up : (failed : Failed JournalError (Store D)) → IsGivenUp node device journal failed → IsOpenedIn scheme device setting store (Err failed)
        given_up failed (at_records device_not full_not reports disk_is) = not_opened failed (records_fail failed.error failed.disk device_not full_not reports disk_is)
        given_up failed (at_renewal new is first_version disk_is) =
            not_opened failed (renewed_err failed.error failed.disk new is (λ full. full_of (first_version full records stand) (is.full full)) disk_is)

        pub finished : (result : Result Given (Failed JournalError (Store D))) → IsFinished scheme device setting journal result → IsOpenedIn scheme device setting store result
        finished (Ok opened) ready = finished_ok opened.0 opened.1 ready
        finished (Err failed) up = given_up failed up
