-- What a renewal leaves of a journal on two disks.
use Rattle.std.proofs.Common.{◌≡◌, ◌≢◌, ℕ, ◌+◌, ◌-◌, ◌^◌, ◌<◌, ◌≤◌, inl, inr, Bool, true, false, cond, List, []}
use Rattle.std.proofs.Common.{◌∷◌, ◌++◌, length, get_or, Option, Some, None, Result, Ok, Err, refl, sym, ap, ◌∙◌, subst, arith, append_assoc}
use Rattle.std.specs.Prelude.{All, ◌⊎◌, IsSome, IfSome, IfErr, OnOk}
use Rattle.std.specs.List.{flat_map}
use Rattle.std.specs.Option.{option_map, option_and_then, option_map_or}
use Rattle.std.proofs.lemmas.Bool.{cases_eq, cases_lt}
use Rattle.std.proofs.lemmas.List.{append-nil, map-append}
use Rattle.std.proofs.lemmas.List.Elements.{All-nil, All-cons, All-head, All-append}
use Rattle.diskmodel.proofs.Clock.{started, weaker}
use Rattle.diskmodel.specs.Disk.{LeavesOnly, AtEachMoment, ReportsFault, Device as Disks}
use Rattle.journal.specs.Areas.{Areas, alone, pair, pair_of, base_of, other_side, head_record, generation_of, reports, chosen, moved, stands_at, stands_in, IsOlder}
use Rattle.journal.specs.Configuration.{shaped_version}
use Rattle.journal.specs.Format.{sized_body, group_of, kept_at, kept, all_kept, walk, only_records, stands}
use Rattle.journal.specs.Journal.{disk_of, spare_of, IsAlive, IsAlivePair, IsNewPair}
use Rattle.journal.specs.Pairs.{spare_disk, side_in, generation_in, areas_with, areas_of, stands_as, StandsAsOrAfter, HaveChangedPlaces, HaveKeptPlaces}
use Rattle.journal.specs.Snapshot.{packed, packed_after, has_room, bytes_for}
use Rattle.journal.specs.Spares.{by_area}
use Rattle.journal.specs.Stores.{disks_of, faults_of_both}
use Rattle.journal.specs.declared.error.JournalError.{JournalError}
use Rattle.journal.specs.declared.error.JournalError.TheVariants.{Memory, Device, Full}
use Rattle.journal.specs.declared.journal.Journal.{Journal}
use Rattle.journal.specs.declared.layout.TheConstants.{MAX_JOURNAL_BYTES}
use Rattle.journal.specs.declared.record.Record.{Record}
use Rattle.journal.specs.declared.side.Side.{Side}
use Rattle.journal.specs.declared.side.Side.TheVariants.{First, Second}
use Rattle.journal.specs.declared.spare.Spare.{Spare}
use Rattle.journal.specs.declared.version.Version.{Version}
use Rattle.journal.specs.declared.version.Version.TheVariants as versions
use Rattle.journal.proofs.Reporting.{reports_short, reports_closed, reports_first, by_reporting, both_older, at_rest_older}
use Rattle.journal.proofs.Walks.{goes, walk_closed, stands_short}
use Rattle.spec_checkpoint.specs.Data.{Checkpoint, IsWritten}
use Rattle.spec_checkpoint.specs.Meaning.{state_in}
use Rattle.spec_checkpoint.specs.Records.{state_records}
use Rattle.spec_machine.specs.Machine.{fresh}
use Rattle.spec_machine.specs.Sound.{IsSound}
use Rattle.spec_machine.proofs.AfterAll.{after_none, legal_none}
use Rattle.spec_model.specs.Nodes.{Node, IsNode}
use Rattle.spec_model.specs.States.{State}
use Rattle.spec_world.proofs.Recovering.{bytes_of-kept}
use Rattle.spec_world.specs.Runs.{AreKeys}
use Rattle.spec_world.specs.World.{bytes_of, IsPair, own_configuration, as_fresh, as_checkpoint, Holds, StandsFor, as_journal, as_empty}
use Rattle.admission.specs.Standing.{OneState}
use Rattle.admission.specs.declared.tables.Tables.{Tables}
use Rattle.checkpoint.specs.Describes.{Describes}
use Rattle.opening.specs.Finished.{done, gives_up}
use Rattle.opening.specs.Renewing.{KeepsStatesIn, IsFullAt, HasRoomAt, IsNewest, IsRenewed}
use Rattle.opening.specs.Stages.{IsStage}
use Rattle.opening.specs.Decoded.{StandsAt, decoded_in, KeepsOrBegins}
use Rattle.opening.proofs.Empty.{scans_long, walk_open}
use Rattle.opening.proofs.FirstGroups.{walk_from}
use Rattle.opening.proofs.Laws.{configuration_shape}
use Rattle.opening.proofs.PairLaws.{own_free, own_by_bytes, checkpoint_decoded, two_are_decoded}
use Rattle.opening.proofs.PairReporting.{pair_none, pair_alone, decoded_pair_same, decoded_pair_records}

-- ---- the disks of a journal on two

module _ {D : Type 0} (device : Disks D) where
  with_spare : (spare : Option (Spare D)) (live left : List ℕ) → IsSome spare
      → option_map_or (λ s. pair_of s.side live left) spare (alone live) ≡ pair_of (option_map_or (λ (s : Spare D). s.side) spare First) live left
  with_spare None live left some = absurd (cc some)
  with_spare (Some s) live left some = refl

  -- the areas, by the side that is read
  pub areas_are : (journal : Journal D) (left : List ℕ) → IsSome (spare_of journal) → areas_with device journal left ≡ pair_of (side_in journal) (device.content (disk_of journal)) left
  areas_are journal left two = with_spare (spare_of journal) (device.content (disk_of journal)) left two

  side_pair : (side : Side) (live other : List ℕ) → IsPair (pair_of side live other)
  side_pair First live other = tt
  side_pair Second live other = tt

  pub areas_pair : (journal : Journal D) (left : List ℕ) → IsSome (spare_of journal) → IsPair (areas_with device journal left)
  areas_pair journal left two = subst IsPair (sym (areas_are journal left two)) (side_pair (side_in journal) (device.content (disk_of journal)) left)

  -- the other disk is at rest and durable, and the one that is read tells its generation, unless the journal is new
  pub record IsBeside (journal : Journal D) : Type 0 where
    pub durable : LeavesOnly (device.content (spare_disk journal)) (device.outcome (spare_disk journal))
    pub older : IsOlder (generation_in journal) (device.content (spare_disk journal))
    pub of_generation : (reports (device.content (disk_of journal)) ≡ Some (Some (generation_in journal)))
        ⊎ IsNewPair (device.content (disk_of journal)) (device.content (spare_disk journal)) (side_in journal) (generation_in journal)

  module _ (live : D) (spare : Option (Spare D)) (some : IsSome spare) (is : IfSome spare (IsAlivePair device live)) where
    abbrev rest : D
    rest = option_map_or (λ (s : Spare D). s.disk) spare live

    abbrev level : ℕ
    level = option_map_or (λ (s : Spare D). s.generation) spare 0

    abbrev on : Side
    on = option_map_or (λ (s : Spare D). s.side) spare First

    durable_by : LeavesOnly (device.content rest) (device.outcome rest)
    durable_by = elim spare as (λ o. IsSome o → IfSome o (IsAlivePair device live)
        → LeavesOnly (device.content (option_map_or (λ (s : Spare D). s.disk) o live)) (device.outcome (option_map_or (λ (s : Spare D). s.disk) o live))) [
          | None ↦ λ none _. absurd (cc none)
          | Some s ↦ λ _ pair. pair.durable
        ] some is

    older_by : IsOlder level (device.content rest)
    older_by = elim spare as (λ o. IsSome o → IfSome o (IsAlivePair device live)
        → IsOlder (option_map_or (λ (s : Spare D). s.generation) o 0) (device.content (option_map_or (λ (s : Spare D). s.disk) o live))) [
          | None ↦ λ none _. absurd (cc none)
          | Some s ↦ λ _ pair. at_rest_older s.generation (device.content s.disk) pair.at_rest
        ] some is

    generation_by : (reports (device.content live) ≡ Some (Some level)) ⊎ IsNewPair (device.content live) (device.content rest) on level
    generation_by = elim spare as (λ o. IsSome o → IfSome o (IsAlivePair device live)
        → (reports (device.content live) ≡ Some (Some (option_map_or (λ (s : Spare D). s.generation) o 0)))
        ⊎ IsNewPair (device.content live) (device.content (option_map_or (λ (s : Spare D). s.disk) o live)) (option_map_or (λ (s : Spare D). s.side) o First)
        (option_map_or (λ (s : Spare D). s.generation) o 0)) [
          | None ↦ λ none _. absurd (cc none)
          | Some s ↦ λ _ pair. pair.of_generation
        ] some is

  pub beside : (journal : Journal D) → IsAlive device journal → IsSome (spare_of journal) → IsBeside journal
  beside journal alive two = record {
    durable = durable_by (disk_of journal) (spare_of journal) two alive.pair;
    older = older_by (disk_of journal) (spare_of journal) two alive.pair;
    of_generation = generation_by (disk_of journal) (spare_of journal) two alive.pair;
  }

  -- ---- faults

  faults_by : (side : Side) (live other : D) → faults_of_both device (by_area side live other) ≡ device.faults live + device.faults other
  faults_by First live other = refl
  faults_by Second live other = omega arith

  fault_sum : {T E : Type 0} (error : E) (still before now both both_now : ℕ) (result : Result T E) → both ≡ still + before → both_now ≡ still + now → ReportsFault error before now result
      → ReportsFault error both both_now result
  fault_sum error still before now both both_now (Ok given) was is reports = (let same = reports.0 in omega (arith, was, is, same), tt)
  fault_sum error still before now both both_now (Err other) was is reports =
      (tt, ((λ same. let more = reports.1.0 same in omega (arith, was, is, more)), (λ not. let as_is = reports.1.1 not in omega (arith, was, is, as_is))))

  -- one of both has failed exactly where the one that was written has
  pub fault_of_one : {T E : Type 0} (error : E) (side : Side) (live spare now : D) (disks now_disks : D × D) (result : Result T E) → disks ≡ by_area side live spare → now_disks ≡ by_area side live now
      → ReportsFault error (device.faults spare) (device.faults now) result → ReportsFault error (faults_of_both device disks) (faults_of_both device now_disks) result
  fault_of_one error side live spare now disks now_disks result was is reports =
      fault_sum error (device.faults live) (device.faults spare) (device.faults now) (faults_of_both device disks) (faults_of_both device now_disks) result
      (ap (faults_of_both device) was ∙ faults_by side live spare) (ap (faults_of_both device) is ∙ faults_by side live now) reports

  pub fault_of_live : {T E : Type 0} (error : E) (side : Side) (live spare now : D) (disks now_disks : D × D) (result : Result T E) → disks ≡ by_area side live spare
      → now_disks ≡ by_area side now spare
      → ReportsFault error (device.faults live) (device.faults now) result → ReportsFault error (faults_of_both device disks) (faults_of_both device now_disks) result
  fault_of_live error side live spare now disks now_disks result was is reports =
      fault_sum error (device.faults spare) (device.faults live) (device.faults now) (faults_of_both device disks) (faults_of_both device now_disks) result
      (let sum = ap (faults_of_both device) was ∙ faults_by side live spare in omega (arith, sum)) (let sum = ap (faults_of_both device) is ∙ faults_by side now spare in omega (arith, sum)) reports

  -- ---- moments

  -- a disk that is still leaves what a read gives
  abbrev pub IsStill : D → Type 0
  IsStill disk = (c : List ℕ) → device.outcome_since disk (device.clock disk) c → c ≡ device.content disk

  -- each disk over its moments, where P holds of both together
  pub stage : (P : List ℕ → List ℕ → Type 0) (old new : D × D) (A B : List ℕ → Type 0) → AtEachMoment device old.0 new.0 A → AtEachMoment device old.1 new.1 B
      → ((one other : List ℕ) → A one → B other → P one other) → IsStage device P old new
  stage P old new A B first second both = record {
    first = weaker device old.0 new.0 (λ one. (other : List ℕ) → device.outcome_since new.1 (device.clock old.1) other → P one other) A first
        (λ one has other left. both one other has (second.each other left));
    second = weaker device old.1 new.1 (λ other. (one : List ℕ) → device.outcome_since new.0 (device.clock old.0) one → P one other) B second
        (λ other has one left. both one other (first.each one left) has);
  }

  module _ (P : Areas → Type 0) where
    abbrev OfBoth : List ℕ → List ℕ → Type 0
    OfBoth one other = P (pair one other)

    stays : (disk : D) → IsStill disk → AtEachMoment device disk disk (λ c. c ≡ device.content disk)
    stays disk still = started device disk (λ c. c ≡ device.content disk) still

    spare_by : (side : Side) (live spare now : D) → IsStill live → AtEachMoment device spare now (λ left. P (pair_of side (device.content live) left))
        → IsStage device OfBoth (by_area side live spare) (by_area side live now)
    spare_by First live spare now still at =
        stage OfBoth (live, spare) (live, now) (λ c. c ≡ device.content live) (λ left. P (pair (device.content live) left)) (stays live still) at
        (λ one other same has. subst (λ (l : List ℕ). P (pair l other)) (sym same) has)
    spare_by Second live spare now still at =
        stage OfBoth (spare, live) (now, live) (λ left. P (pair left (device.content live))) (λ c. c ≡ device.content live) at (stays live still)
        (λ one other has same. subst (λ (l : List ℕ). P (pair one l)) (sym same) has)

    -- the disk that isn't read is written
    pub stage_of_spare : (side : Side) (live spare now : D) (disks now_disks : D × D) → disks ≡ by_area side live spare → now_disks ≡ by_area side live now → IsStill live
        → AtEachMoment device spare now (λ left. P (pair_of side (device.content live) left)) → IsStage device OfBoth disks now_disks
    stage_of_spare side live spare now disks now_disks was is still at =
        subst (λ (d : D × D). IsStage device OfBoth d now_disks) (sym was) (subst (λ (d : D × D). IsStage device OfBoth (by_area side live spare) d) (sym is) (spare_by side live spare now still at))

    live_by : (side : Side) (live spare now : D) → IsStill spare → AtEachMoment device live now (λ left. P (pair_of side left (device.content spare)))
        → IsStage device OfBoth (by_area side live spare) (by_area side now spare)
    live_by First live spare now still at =
        stage OfBoth (live, spare) (now, spare) (λ left. P (pair left (device.content spare))) (λ c. c ≡ device.content spare) at (stays spare still)
        (λ one other has same. subst (λ (l : List ℕ). P (pair one l)) (sym same) has)
    live_by Second live spare now still at =
        stage OfBoth (spare, live) (spare, now) (λ c. c ≡ device.content spare) (λ left. P (pair (device.content spare) left)) (stays spare still) at
        (λ one other same has. subst (λ (l : List ℕ). P (pair l other)) (sym same) has)

    -- the disk that is read is
    pub stage_of_live : (side : Side) (live spare now : D) (disks now_disks : D × D) → disks ≡ by_area side live spare → now_disks ≡ by_area side now spare → IsStill spare
        → AtEachMoment device live now (λ left. P (pair_of side left (device.content spare))) → IsStage device OfBoth disks now_disks
    stage_of_live side live spare now disks now_disks was is still at =
        subst (λ (d : D × D). IsStage device OfBoth d now_disks) (sym was) (subst (λ (d : D × D). IsStage device OfBoth (by_area side live spare) d) (sym is) (live_by side live spare now still at))

    -- neither is
    pub stage_of_none : (side : Side) (live spare : D) (disks : D × D) → disks ≡ by_area side live spare → IsStill live → IsStill spare → P (pair_of side (device.content live) (device.content spare))
        → IsStage device OfBoth disks disks
    stage_of_none side live spare disks was still also here =
        stage_of_spare side live spare spare disks disks was was still
        (weaker device spare spare (λ left. P (pair_of side (device.content live) left)) (λ c. c ≡ device.content spare) (stays spare also)
        (λ left same. subst (λ (l : List ℕ). P (pair_of side (device.content live) l)) (sym same) here))

swapped_by : {D : Type 0} (side : Side) (one other : D) → by_area (other_side side) one other ≡ by_area side other one
swapped_by First one other = refl
swapped_by Second one other = refl

-- where both have changed places, they stand as before
pub disks_swapped : {D : Type 0} (side : Side) (old new : Journal D) → side ≡ side_in old → side_in new ≡ other_side (side_in old) → spare_disk new ≡ disk_of old
    → disks_of new ≡ by_area side (disk_of old) (disk_of new)
disks_swapped side old new side_is is other =
    (λ i. by_area (is i) (disk_of new) (other i)) ∙ swapped_by (side_in old) (disk_of new) (disk_of old) ∙ ap (λ (s : Side). by_area s (disk_of old) (disk_of new)) (sym side_is)

-- ---- a rewritten journal

all_bytes : (gate : ℕ) (groups : List (List (List ℕ))) → bytes_of (all_kept gate groups) ≡ flat_map (λ group. group) groups
all_bytes gate [] = refl
all_bytes gate (records ∷ groups) =
    map-append (λ (one : Record). one.bytes) (kept gate records) (all_kept (gate + 1 + length (sized_body records)) groups)
    ∙ (λ i. bytes_of-kept gate records i ++ all_bytes (gate + 1 + length (sized_body records)) groups i)

by_test : {A : Type 0} (P : A → Type 0) (b : Bool) (x y : A) → P x → P y → P (cond b x y)
by_test P true x y first second = first
by_test P false x y first second = second

all_packed_after : (group rest : List (List ℕ)) → flat_map (λ g. g) (packed_after group rest) ≡ group ++ rest
unfolding packed_after
all_packed_after group [] = refl
all_packed_after group (next ∷ rest) =
    by_test (λ (groups : List (List (List ℕ))). flat_map (λ g. g) groups ≡ group ++ next ∷ rest) (has_room group next) (packed_after (group ++ next ∷ []) rest) (group ∷ packed_after (next ∷ []) rest)
    (all_packed_after (group ++ next ∷ []) rest ∙ append_assoc group (next ∷ []) rest)
    (ap (λ (l : List (List ℕ)). group ++ l) (all_packed_after (next ∷ []) rest))

all_packed : (records : List (List ℕ)) → flat_map (λ g. g) (packed records) ≡ records
unfolding packed
all_packed [] = refl
all_packed (first ∷ rest) = all_packed_after (first ∷ []) rest

-- a gate after this place
abbrev IsAfter : ℕ → Record → Type 0
IsAfter place one = place < one.gate

kept_after : (place gate : ℕ) (records : List (List ℕ)) → place < gate → All (IsAfter place) (kept gate records)
kept_after place gate [] less = All-nil (IsAfter place)
kept_after place gate (bytes ∷ records) less = All-cons (IsAfter place) (kept_at gate bytes) (kept gate records) less (kept_after place gate records less)

all_after : (place gate : ℕ) (groups : List (List (List ℕ))) → place < gate → All (IsAfter place) (all_kept gate groups)
all_after place gate [] less = All-nil (IsAfter place)
all_after place gate (records ∷ groups) less =
    All-append (IsAfter place) (kept gate records) (all_kept (gate + 1 + length (sized_body records)) groups) (kept_after place gate records less)
    (all_after place (gate + 1 + length (sized_body records)) groups (omega (arith, less)))

module _ (node : Node) (areas : Areas) (two : IsPair areas) (sound : IsNode node) (keys : AreKeys node) where
  -- an area was rewritten to a checkpoint
  module _ (side : Side) (generation : ℕ) (c : Checkpoint) (written : IsWritten node c) (sound_state : IsSound node (state_in node c))
      (is : stands_in areas ≡ stands_as side generation (own_configuration versions.Second node ∷ state_records c)) where
    abbrev own : Record
    own = kept_at (base_of side) (own_configuration versions.Second node)

    abbrev head : Record
    head = kept_at (base_of side) (head_record generation)

    abbrev others : List Record
    others = all_kept (base_of side + 1 + length (sized_body (own_configuration versions.Second node ∷ head_record generation ∷ []))) (packed (state_records c))

    rows : bytes_of others ≡ state_records c
    rows = all_bytes _ (packed (state_records c)) ∙ all_packed (state_records c)

    pub decoded_rewritten : decoded_in node areas ≡ Ok (state_in node c)
    decoded_rewritten =
        decoded_pair_records node areas (own ∷ head ∷ others) two is
        ∙ checkpoint_decoded node own head others c [] keys (own_by_bytes node own versions.Second sound keys tt refl) refl (rows ∙ sym (append-nil (state_records c))) written
        (legal_none node (state_in node c) sound sound_state)
        ∙ ap Ok (after_none node (state_in node c))

    pub holds_rewritten : Holds node areas (state_in node c)
    holds_rewritten = record {
      front = own_configuration versions.Second node ∷ head_record generation ∷ state_records c;
      in_first = 2;
      base = state_in node c;
      begins = as_checkpoint versions.Second generation c two tt written refl refl refl;
      events = [];
      journal = record {
        records = own ∷ head ∷ others;
        stands_for = is;
        are = (λ i. own_configuration versions.Second node ∷ head_record generation ∷ rows i)
            ∙ sym (append-nil (own_configuration versions.Second node ∷ head_record generation ∷ state_records c));
        first_gate = base_of side;
        first = All-cons (λ (one : Record). one.gate ≡ base_of side) own (head ∷ []) refl
            (All-cons (λ (one : Record). one.gate ≡ base_of side) head [] refl (All-nil (λ (one : Record). one.gate ≡ base_of side)));
        others = all_after (base_of side) _ (packed (state_records c)) (omega arith);
      };
      legal = legal_none node (state_in node c) sound sound_state;
      leads = after_none node (state_in node c);
    }

  -- the first record is the configuration in the second version
  newest_by : (first own : Record) (rest others : List Record) → own.bytes ≡ own_configuration versions.Second node → ◌≡◌ {A = Result (List Record) ℕ} (Ok (own ∷ others)) (Ok (first ∷ rest))
      → shaped_version first.bytes ≡ Some versions.Second
  newest_by first own rest others bytes same =
      let is : own ≡ first = (cc same) in
      ap (λ (r : Record). shaped_version r.bytes) (sym is) ∙ ap shaped_version bytes ∙ configuration_shape versions.Second node sound keys

  pub newest_rewritten : (side : Side) (generation : ℕ) (state : List (List ℕ)) → stands_in areas ≡ stands_as side generation (own_configuration versions.Second node ∷ state) → IsNewest areas
  newest_rewritten side generation state is first rest also =
      newest_by first (kept_at (base_of side) (own_configuration versions.Second node)) rest _ refl (sym is ∙ also)

  pub newest_begun : (gate : ℕ) → stands_in areas ≡ Ok (kept_at gate (own_configuration versions.Second node) ∷ []) → IsNewest areas
  newest_begun gate is first rest also = newest_by first (kept_at gate (own_configuration versions.Second node)) rest [] refl (sym is ∙ also)

pub some_rewritten : (areas : Areas) (side : Side) (generation : ℕ) (configuration : List ℕ) (state : List (List ℕ)) → stands_in areas ≡ stands_as side generation (configuration ∷ state)
    → stands_in areas ≢ Ok []
some_rewritten areas side generation configuration state is none = no_record (sym is ∙ none)
  where
    no_record : stands_as side generation (configuration ∷ state) ≡ Ok [] → ⊥
    no_record same = cc

-- ---- a new pair

ok_same : (one other : List Record) → ◌≡◌ {A = Result (List Record) ℕ} (Ok one) (Ok other) → one ≡ other
ok_same one other same = cc

none_and_none : (one other : List ℕ) → reports one ≡ None → reports other ≡ None → stands_in (pair one other) ≡ Ok []
unfolding chosen
none_and_none one other first second = by_reporting one other None None first second

pub new_is_empty : (live spare : List ℕ) (side : Side) (generation : ℕ) → IsNewPair live spare side generation → stands_in (pair_of side live spare) ≡ Ok []
new_is_empty live spare First generation is =
    none_and_none live spare (reports_short live (omega (arith, ap length is.empty))) (reports_short spare (omega (arith, is.other_short)))
new_is_empty live spare Second generation is = absurd (other_side_is is.first)
  where
    other_side_is : Second ≡ First → ⊥
    other_side_is same = cc

-- a file that stands for no record tells nothing
pub reports_of_none : (left : List ℕ) → stands left ≡ Ok [] → reports left ≡ None
unfolding stands
reports_of_none left none = elim (cases_lt (length left) 2) [
  | inl short ↦ reports_short left short
  | inr long ↦ by_first left long none
]
  where
    by_read : (gate : ℕ) (rest : List ℕ) (read : Result (List Record × ℕ) ℕ) → gate ≢ 0 → walk 0 0 (gate ∷ rest) ≡ read → only_records read ≡ Ok [] → ⊥
    by_read gate rest (Ok (records, place)) is_open walked is =
        walk_open gate rest place is_open (walked ∙ ap (λ (l : List Record). Ok (l, place)) (ok_same records [] is))
    by_read gate rest (Err place) is_open walked is = cc

    by_first : (file : List ℕ) → 2 ≤ length file → stands file ≡ Ok [] → reports file ≡ None
    by_first [] long is = absurd (omega (arith, long))
    by_first (gate ∷ rest) long is = elim (cases_eq gate 0) [
      | inl closed ↦ reports_closed gate rest closed
      | inr is_open ↦ absurd (by_read gate rest (walk 0 0 (gate ∷ rest)) is_open refl (sym (ap only_records (scans_long (gate ∷ rest) long)) ∙ is))
    ]

-- one that stands for a configuration alone has the generation 0
one_of_group : (group : List (List ℕ)) (more : List Record) (own : List ℕ) → All (λ (one : Record). 1 ≤ one.gate) more → kept 0 group ++ more ≡ kept_at 0 own ∷ [] → group ≡ own ∷ []
one_of_group [] [] own above same = absurd (omega (arith, ap length same))
one_of_group [] (one ∷ more) own above same =
    let gate = ap (λ (l : List Record). (get_or l 0 one).gate) same in
    absurd (omega (arith, gate, All-head (λ (r : Record). 1 ≤ r.gate) one more above))
one_of_group (bytes ∷ []) more own above same = ap (λ (l : List Record). (get_or l 0 (kept_at 0 [])).bytes ∷ []) same
one_of_group (bytes ∷ other ∷ others) more own above same = absurd (omega (arith, ap length same))

pub reports_of_one : (left own : List ℕ) (version : Version) → stands left ≡ Ok (kept_at 0 own ∷ []) → shaped_version own ≡ Some version → reports left ≡ Some (Some 0)
unfolding stands generation_of
reports_of_one left own version is shape = elim (cases_lt (length left) 2) [
  | inl short ↦ absurd (some_record (sym (stands_short left short) ∙ is))
  | inr long ↦ by_first left long is
]
  where
    some_record : ◌≡◌ {A = Result (List Record) ℕ} (Ok []) (Ok (kept_at 0 own ∷ [])) → ⊥
    some_record same = cc

    generation_is : (group : List (List ℕ)) → group ≡ own ∷ [] → generation_of group ≡ Some 0
    generation_is group are = ap generation_of are ∙ ap (option_map (λ (v : Version). 0)) shape

    by_read : (gate : ℕ) (rest : List ℕ) (read : Result (List Record × ℕ) ℕ) → gate ≢ 0 → 1 ≤ length rest → walk 0 0 (gate ∷ rest) ≡ read → only_records read ≡ Ok (kept_at 0 own ∷ [])
        → reports (gate ∷ rest) ≡ Some (Some 0)
    by_read gate rest (Err place) is_open some walked found = absurd (cc)
    by_read gate rest (Ok (records, place)) is_open some walked found =
        let on = goes 0 gate rest (records, place) is_open walked in
        let above = walk_from rest 1 (4 + length on.body) on.more on.on in
        let group = one_of_group on.records on.more.0 own above (ap (λ (f : List Record × ℕ). f.0) (sym on.is) ∙ ok_same records (kept_at 0 own ∷ []) found) in
        reports_first gate rest is_open some
        ∙ ap Some (ap (option_and_then (λ body. option_and_then generation_of (group_of body))) on.at_body ∙ ap (option_and_then generation_of) on.is_group ∙ generation_is on.records group)

    by_first : (file : List ℕ) → 2 ≤ length file → stands file ≡ Ok (kept_at 0 own ∷ []) → reports file ≡ Some (Some 0)
    by_first [] long found = absurd (omega (arith, long))
    by_first (gate ∷ rest) long found = elim (cases_eq gate 0) [
      | inl closed ↦
          absurd (some_record (sym (ap only_records (scans_long (gate ∷ rest) long ∙ walk_closed 0 gate rest closed)) ∙ found))
      | inr is_open ↦ by_read gate rest (walk 0 0 (gate ∷ rest)) is_open (omega (arith, long)) refl (sym (ap only_records (scans_long (gate ∷ rest) long)) ∙ found)
    ]

-- what a stop leaves while the configuration is written to the first area
module _ (node : Node) (sound : IsNode node) (keys : AreKeys node) (left other : List ℕ) (short : length other ≡ 1) where
  abbrev own_row : List ℕ
  own_row = own_configuration versions.Second node

  pub begun_stands : stands left ≡ Ok (kept_at 0 own_row ∷ []) → stands_in (pair left other) ≡ Ok (kept_at 0 own_row ∷ [])
  begun_stands is =
      both_older First 0 left other (reports_of_one left own_row versions.Second is (configuration_shape versions.Second node sound keys)) (inl (reports_short other (omega (arith, short)))) ∙ is

  pub begun_decoded : (file : List ℕ) → stands file ≡ Ok [] → KeepsOrBegins versions.Second node file left → decoded_in node (pair left other) ≡ Ok (fresh node)
  begun_decoded file none (inl (records, before, now)) =
      let same = ok_same records [] (sym before ∙ none) in
      decoded_pair_records node (pair left other) [] tt (none_and_none left other (reports_of_none left (now ∙ ap Ok same)) (reports_short other (omega (arith, short)))) ∙ pair_none node
  begun_decoded file none (inr (also, is)) =
      let own = kept_at 0 own_row in
      decoded_pair_records node (pair left other) (own ∷ []) tt (begun_stands is)
      ∙ pair_alone node own (own_free node own (own_by_bytes node own versions.Second sound keys tt refl))

  -- it is a journal at the fresh state
  pub begun_holds : IsSound node (fresh node) → stands left ≡ Ok (kept_at 0 own_row ∷ []) → Holds node (pair left other) (fresh node)
  begun_holds fresh_sound is = record {
    front = own_row ∷ [];
    in_first = 1;
    base = fresh node;
    begins = as_fresh versions.Second tt refl refl refl;
    events = [];
    journal = record {
      records = kept_at 0 own_row ∷ [];
      stands_for = begun_stands is;
      are = refl;
      first_gate = 0;
      first = All-cons (λ (one : Record). one.gate ≡ 0) (kept_at 0 own_row) [] refl (All-nil (λ (one : Record). one.gate ≡ 0));
      others = All-nil (λ (one : Record). 0 < one.gate);
    };
    legal = legal_none node (fresh node) sound fresh_sound;
    leads = after_none node (fresh node);
  }

-- ---- a checkpoint of a validator whose journal is open

module _ {D : Type 0} (device : Disks D) (node : Node) (journal : Journal D) (sound : IsNode node) (keys : AreKeys node) (two : IsSome (spare_of journal)) (alive : IsAlive device journal)
    (some : stands_in (areas_of device journal) ≢ Ok []) where
  areas_now : IsPair (areas_of device journal)
  areas_now = areas_pair device journal (device.content (spare_disk journal)) two

  -- the area that is read has its first group
  pub generation_decoded : reports (device.content (disk_of journal)) ≡ Some (Some (generation_in journal))
  generation_decoded = elim (beside device journal alive two).of_generation [
    | inl reported ↦ reported
    | inr new ↦
        absurd (some (ap stands_in (areas_are device journal (device.content (spare_disk journal)) two)
        ∙ new_is_empty (device.content (disk_of journal)) (device.content (spare_disk journal)) (side_in journal) (generation_in journal) new))
  ]

  module _ (one_state : OneState) (tables : Tables) (snapshot : List (List ℕ)) (at : StandsAt node (decoded_in node (areas_of device journal)) tables) (of : Describes node tables snapshot) where
    state_is : at.state ≡ state_in node of.checkpoint
    state_is = one_state node tables at.state (state_in node of.checkpoint) at.at.sound at.at.at of.sound of.at

    reported_now : decoded_in node (areas_of device journal) ≡ Ok (state_in node of.checkpoint)
    reported_now = at.is_read ∙ ap Ok state_is

    -- areas that were rewritten
    module _ (areas : Areas) (pair_is : IsPair areas) (side : Side) (generation : ℕ) (is : stands_in areas ≡ stands_as side generation snapshot) where
      stands_rewritten : stands_in areas ≡ stands_as side generation (own_configuration versions.Second node ∷ state_records of.checkpoint)
      stands_rewritten = is ∙ ap (stands_as side generation) of.are

      pub rewritten_same : decoded_in node areas ≡ decoded_in node (areas_of device journal)
      rewritten_same = decoded_rewritten node areas pair_is sound keys side generation of.checkpoint of.written of.sound stands_rewritten ∙ sym reported_now

      pub rewritten_some : stands_in areas ≢ Ok []
      rewritten_some = some_rewritten areas side generation (own_configuration versions.Second node) (state_records of.checkpoint) stands_rewritten

      pub rewritten_newest : IsNewest areas
      rewritten_newest = newest_rewritten node areas pair_is sound keys side generation (state_records of.checkpoint) stands_rewritten

      pub rewritten_keeps : KeepsStatesIn node (areas_of device journal) areas
      rewritten_keeps state stands_for =
          let reported = two_are_decoded node (areas_of device journal) areas_now keys state stands_for in
          subst (Holds node areas) (same_state (state_in node of.checkpoint) state (sym reported_now ∙ reported))
          (holds_rewritten node areas pair_is sound keys side generation of.checkpoint of.written of.sound stands_rewritten)
        where
          same_state : (one other : State) → ◌≡◌ {A = Result State JournalError} (Ok one) (Ok other) → one ≡ other
          same_state one other same = cc

    -- what a stop leaves
    pub left_same : (left : List ℕ) → StandsAsOrAfter device journal snapshot left → decoded_in node (areas_with device journal left) ≡ decoded_in node (areas_of device journal)
    left_same left (inl same) = decoded_pair_same node (areas_with device journal left) (areas_of device journal) (areas_pair device journal left two) areas_now same
    left_same left (inr after) = rewritten_same (areas_with device journal left) (areas_pair device journal left two) (other_side (side_in journal)) (generation_in journal + 1) after

    -- and where there is no room for it
    pub full_at : (MAX_JOURNAL_BYTES < 1 + length (bytes_for (generation_in journal + 1) snapshot)) ⊎ (generation_in journal ≡ 2 ^ 64 - 1) → IsFullAt node device journal
    full_at full = record {
      state = at.state;
      is_decoded = at.is_read;
      no_room = record {
        checkpoint = of.checkpoint;
        written = of.written;
        is = sym state_is;
        full = subst (λ (l : List (List ℕ)). (MAX_JOURNAL_BYTES < 1 + length (bytes_for (generation_in journal + 1) l)) ⊎ (generation_in journal ≡ 2 ^ 64 - 1)) of.are full;
      };
    }

    -- or there is
    pub room_at : ¬ ((MAX_JOURNAL_BYTES < 1 + length (bytes_for (generation_in journal + 1) snapshot)) ⊎ (generation_in journal ≡ 2 ^ 64 - 1)) → HasRoomAt node device journal
    room_at fits = record {
      state = at.state;
      is_decoded = at.is_read;
      room = record {
        checkpoint = of.checkpoint;
        written = of.written;
        is = sym state_is;
        fits = subst (λ (l : List (List ℕ)). ¬ ((MAX_JOURNAL_BYTES < 1 + length (bytes_for (generation_in journal + 1) l)) ⊎ (generation_in journal ≡ 2 ^ 64 - 1))) of.are fits;
      };
    }

-- ---- answers

abbrev pub counts : ℕ → Result ℕ JournalError
counts generation = Ok generation

abbrev pub counts_none : JournalError → Result ℕ JournalError
counts_none error = Err error

-- ---- an empty journal gets its configuration

spare_kept : {D X : Type 0} (f : Spare D → X) (spare other : Option (Spare D)) (one two : X) → other ≡ spare → IsSome spare → option_map_or f other one ≡ option_map_or f spare two
spare_kept f None other one two same some = absurd (cc some)
spare_kept f (Some s) other one two same some = ap (λ (o : Option (Spare _)). option_map_or f o one) same

stands_by : (side : Side) (live : List ℕ) → stands_at side live ≡ Ok [] → stands live ≡ Ok []
stands_by First live none = none
stands_by Second live none = by_read (stands live) refl
  where
    by_read : (read : Result (List Record) ℕ) → stands live ≡ read → stands live ≡ Ok []
    by_read (Ok []) is = is
    by_read (Ok (one ∷ rest)) is = absurd (cc (sym (ap (moved 1099511627776) is) ∙ none))
    by_read (Err place) is = absurd (cc (sym (ap (moved 1099511627776) is) ∙ none))

module _ {D : Type 0} (device : Disks D) (node : Node) (journal : Journal D) (sound : IsNode node) (keys : AreKeys node) (two : IsSome (spare_of journal)) (alive : IsAlive device journal)
    (empty : stands_in (areas_of device journal) ≡ Ok []) where
  abbrev live : List ℕ
  live = device.content (disk_of journal)

  abbrev other : List ℕ
  other = device.content (spare_disk journal)

  now_empty : stands_in (pair_of (side_in journal) live other) ≡ Ok []
  now_empty = ap stands_in (sym (areas_are device journal other two)) ∙ empty

  -- neither area has a group
  new_pair : IsNewPair live other (side_in journal) (generation_in journal)
  new_pair = elim (beside device journal alive two).of_generation [
    | inr new ↦ new
    | inl reported ↦
        let older = (beside device journal alive two).older in
        let none = stands_by (side_in journal) live (sym (both_older (side_in journal) (generation_in journal) live other reported older) ∙ now_empty) in
        absurd (some_decoded (sym (reports_of_none live none) ∙ reported))
  ]
    where
      some_decoded : ◌≡◌ {A = Option (Option ℕ)} None (Some (Some (generation_in journal))) → ⊥
      some_decoded same = cc

  pub file_none : stands live ≡ Ok []
  file_none = stands_short live (omega (arith, ap length new_pair.empty))

  decoded_fresh : decoded_in node (areas_of device journal) ≡ Ok (fresh node)
  decoded_fresh = decoded_pair_records node (areas_of device journal) [] (areas_pair device journal other two) empty ∙ pair_none node

  -- whatever a stop leaves of the first area
  left_fresh : (left : List ℕ) → KeepsOrBegins versions.Second node live left → decoded_in node (pair_of (side_in journal) left other) ≡ decoded_in node (areas_of device journal)
  left_fresh left keeps =
      ap (λ (s : Side). decoded_in node (pair_of s left other)) new_pair.first
      ∙ begun_decoded node sound keys left other new_pair.other_short live file_none keeps ∙ sym decoded_fresh

  module _ (new : Journal D) (same : spare_of new ≡ spare_of journal) (keeps : AtEachMoment device (disk_of journal) (disk_of new) (KeepsOrBegins versions.Second node live))
      (only_now : (disk : D) (c : List ℕ) → device.outcome_since disk (device.clock disk) c → device.outcome disk c)
      (counts_now : (disk : D) (t : ℕ) (c : List ℕ) → t ≤ device.clock disk → device.outcome disk c → device.outcome_since disk t c)
      (is_outcome : (disk : D) → device.outcome disk (device.content disk)) where
    two_then : IsSome (spare_of new)
    two_then = subst (λ (o : Option (Spare D)). IsSome o) (sym same) two

    side_same : side_in new ≡ side_in journal
    side_same = spare_kept (λ (s : Spare D). s.side) (spare_of journal) (spare_of new) First First same two

    spare_same : spare_disk new ≡ spare_disk journal
    spare_same = spare_kept (λ (s : Spare D). s.disk) (spare_of journal) (spare_of new) (disk_of new) (disk_of journal) same two

    disks_then : disks_of new ≡ by_area (side_in journal) (disk_of new) (spare_disk journal)
    disks_then i = by_area (side_same i) (disk_of new) (spare_same i)

    still : IsStill device (spare_disk journal)
    still c left = (beside device journal alive two).durable c (only_now (spare_disk journal) c left)

    moments : IsStage device (λ one also. decoded_in node (pair one also) ≡ decoded_in node (areas_of device journal)) (disks_of journal) (disks_of new)
    moments =
        stage_of_live device (λ areas. decoded_in node areas ≡ decoded_in node (areas_of device journal)) (side_in journal) (disk_of journal) (spare_disk journal) (disk_of new)
        (disks_of journal) (disks_of new) refl disks_then still
        (weaker device (disk_of journal) (disk_of new) (λ left. decoded_in node (pair_of (side_in journal) left other) ≡ decoded_in node (areas_of device journal))
        (KeepsOrBegins versions.Second node live) keeps left_fresh)

    abbrev later : List ℕ
    later = device.content (disk_of new)

    keeps_then : KeepsOrBegins versions.Second node live later
    keeps_then = keeps.each later (counts_now (disk_of new) (device.clock (disk_of journal)) later keeps.later (is_outcome (disk_of new)))

    areas_then : areas_of device new ≡ pair later other
    areas_then =
        areas_are device new (device.content (spare_disk new)) two_then
        ∙ (λ i. pair_of ((side_same ∙ new_pair.first) i) later (device.content (spare_same i)))

    written_then : stands later ≢ Ok [] → stands later ≡ Ok (kept_at 0 (own_configuration versions.Second node) ∷ [])
    written_then some = by_kind keeps_then
      where
        by_kind : KeepsOrBegins versions.Second node live later → stands later ≡ Ok (kept_at 0 (own_configuration versions.Second node) ∷ [])
        by_kind (inl (records, before, now)) = absurd (some (now ∙ ap Ok (ok_same records [] (sym before ∙ file_none))))
        by_kind (inr (none, is)) = is

    pub begun_renews : IsSound node (fresh node) → IsAlive device new → stands later ≢ Ok [] → ReportsFault Device (device.faults (disk_of journal)) (device.faults (disk_of new)) done
        → IsRenewed {X = Unit {0}} node device journal (Ok tt) new
    begun_renews fresh_sound alive_then some cause =
        let is = ap stands_in areas_then ∙ begun_stands node sound keys later other new_pair.other_short (written_then some) in
        record {
          alive = alive_then;
          two = two_then;
          same = ap (decoded_in node) areas_then ∙ begun_decoded node sound keys later other new_pair.other_short live file_none keeps_then ∙ sym decoded_fresh;
          configured = λ none. some_record (sym is ∙ none);
          newest = newest_begun node (areas_of device new) (areas_pair device new (device.content (spare_disk new)) two_then) sound keys 0 is;
          kept = λ state stands_for.
              let reported = two_are_decoded node (areas_of device journal) (areas_pair device journal other two) keys state stands_for in
              subst (Holds node (areas_of device new)) (same_state (fresh node) state (sym decoded_fresh ∙ reported))
              (subst (λ (a : Areas). Holds node a (fresh node)) (sym areas_then) (begun_holds node sound keys later other new_pair.other_short fresh_sound (written_then some)));
          errors = tt;
          full = tt;
          cause = fault_of_live device Device (side_in journal) (disk_of journal) (spare_disk journal) (disk_of new) (disks_of journal) (disks_of new) done refl disks_then cause;
          unchanged = tt;
          any_moment = moments;
        }
      where
        some_record : ◌≡◌ {A = Result (List Record) ℕ} (Ok (kept_at 0 (own_configuration versions.Second node) ∷ [])) (Ok []) → ⊥
        some_record same_records = cc

        same_state : (one also : State) → ◌≡◌ {A = Result State JournalError} (Ok one) (Ok also) → one ≡ also
        same_state one also same_states = cc

    pub not_begun : (error : JournalError) → (error ≡ Device) ⊎ (error ≡ Memory) → (error ≡ Memory → new ≡ journal)
        → ReportsFault Device (device.faults (disk_of journal)) (device.faults (disk_of new)) (gives_up error) → IsRenewed {X = Unit {0}} node device journal (Err error) new
    not_begun error is unchanged cause = record {
      alive = tt;
      two = two_then;
      same = tt;
      configured = tt;
      newest = tt;
      kept = tt;
      errors = elim is [ inl device_is ↦ inl device_is | inr memory ↦ inr (inl memory) ];
      full = λ full_is. absurd (elim is [ inl device_is ↦ (clash_device (sym device_is ∙ full_is)) | inr memory ↦ clash_memory (sym memory ∙ full_is) ]);
      cause = fault_of_live device Device (side_in journal) (disk_of journal) (spare_disk journal) (disk_of new) (disks_of journal) (disks_of new) (gives_up error) refl disks_then cause;
      unchanged = λ other_error. elim is [ inl device_is ↦ absurd (other_error device_is) | inr memory ↦ unchanged memory ];
      any_moment = moments;
    }
      where
        clash_device : Device ≡ Full → ⊥
        clash_device same_errors = cc

        clash_memory : Memory ≡ Full → ⊥
        clash_memory same_errors = cc

-- ---- a journal in the first version is rewritten

module _ {D : Type 0} (device : Disks D) (node : Node) (journal new : Journal D) (two : IsSome (spare_of journal)) (alive : IsAlive device journal)
    (only_now : (disk : D) (c : List ℕ) → device.outcome_since disk (device.clock disk) c → device.outcome disk c) where
  live_still : IsStill device (disk_of journal)
  live_still c left = alive.durable c (only_now (disk_of journal) c left)

  rewritten_moments : (now : D) → disks_of new ≡ by_area (side_in journal) (disk_of journal) now
      → AtEachMoment device (spare_disk journal) now (λ left. decoded_in node (areas_with device journal left) ≡ decoded_in node (areas_of device journal))
      → IsStage device (λ one other. decoded_in node (pair one other) ≡ decoded_in node (areas_of device journal)) (disks_of journal) (disks_of new)
  rewritten_moments now disks at =
      stage_of_spare device (λ areas. decoded_in node areas ≡ decoded_in node (areas_of device journal)) (side_in journal) (disk_of journal) (spare_disk journal) now
      (disks_of journal) (disks_of new) refl disks live_still
      (weaker device (spare_disk journal) now (λ left. decoded_in node (pair_of (side_in journal) (device.content (disk_of journal)) left) ≡ decoded_in node (areas_of device journal))
      (λ left. decoded_in node (areas_with device journal left) ≡ decoded_in node (areas_of device journal)) at
      (λ left same. ap (decoded_in node) (sym (areas_are device journal left two)) ∙ same))

  pub migrated : (generation : ℕ) → IsAlive device new → HaveChangedPlaces journal new → decoded_in node (areas_of device new) ≡ decoded_in node (areas_of device journal)
      → stands_in (areas_of device new) ≢ Ok [] → IsNewest (areas_of device new) → KeepsStatesIn node (areas_of device journal) (areas_of device new)
      → AtEachMoment device (spare_disk journal) (disk_of new) (λ left. decoded_in node (areas_with device journal left) ≡ decoded_in node (areas_of device journal))
      → ReportsFault Device (device.faults (spare_disk journal)) (device.faults (disk_of new)) (counts generation)
      → IsRenewed {X = Unit {0}} node device journal (Ok tt) new
  migrated generation alive_then swapped same some newest states at cause =
      let disks = disks_swapped (side_in journal) journal new refl swapped.side swapped.spare in
      record {
        alive = alive_then;
        two = swapped.pair;
        same = same;
        configured = some;
        newest = newest;
        kept = states;
        errors = tt;
        full = tt;
        cause = fault_of_one device Device (side_in journal) (disk_of journal) (spare_disk journal) (disk_of new) (disks_of journal) (disks_of new) done refl disks (cause.0, tt);
        unchanged = tt;
        any_moment = rewritten_moments (disk_of new) disks at;
      }

  pub not_migrated : (error : JournalError) → HaveKeptPlaces journal new → disk_of new ≡ disk_of journal → (error ≡ Device) ⊎ (error ≡ Memory) ⊎ (error ≡ Full)
      → (error ≡ Full → IsFullAt node device journal) → (error ≢ Device → new ≡ journal)
      → AtEachMoment device (spare_disk journal) (spare_disk new) (λ left. decoded_in node (areas_with device journal left) ≡ decoded_in node (areas_of device journal))
      → ReportsFault Device (device.faults (spare_disk journal)) (device.faults (spare_disk new)) (counts_none error) → IsRenewed {X = Unit {0}} node device journal (Err error) new
  not_migrated error places untouched errors full unchanged at cause =
      let disks : disks_of new ≡ by_area (side_in journal) (disk_of journal) (spare_disk new) = (λ i. by_area (places.side i) (untouched i) (spare_disk new)) in
      record {
        alive = tt;
        two = places.pair;
        same = tt;
        configured = tt;
        newest = tt;
        kept = tt;
        errors = errors;
        full = full;
        cause = fault_of_one device Device (side_in journal) (disk_of journal) (spare_disk journal) (spare_disk new) (disks_of journal) (disks_of new) (gives_up error) refl disks (tt, cause.1);
        unchanged = unchanged;
        any_moment = rewritten_moments (spare_disk new) disks at;
      }

  -- ---- or it stays

  pub stays_renewed : stands_in (areas_of device journal) ≢ Ok [] → IsNewest (areas_of device journal) → IsStill device (spare_disk journal)
      → IsRenewed {X = Unit {0}} node device journal (Ok tt) journal
  stays_renewed some newest spare_still = record {
    alive = alive;
    two = two;
    same = refl;
    configured = some;
    newest = newest;
    kept = λ state stands_for. held state stands_for;
    errors = tt;
    full = tt;
    cause = (refl, tt);
    unchanged = tt;
    any_moment = stage_of_none device (λ areas. decoded_in node areas ≡ decoded_in node (areas_of device journal)) (side_in journal) (disk_of journal) (spare_disk journal)
        (disks_of journal) refl live_still spare_still
        (ap (decoded_in node) (sym (areas_are device journal (device.content (spare_disk journal)) two)));
  }
    where
      held : (state : State) → StandsFor node (areas_of device journal) state → Holds node (areas_of device journal) state
      held state (as_journal is) = is
      held state (as_empty none is) = absurd (some none)

-- ---- whatever writing the configuration answered

module _ {D : Type 0} (device : Disks D) (node : Node) (journal new : Journal D) (sound : IsNode node) (keys : AreKeys node) (fresh_is_sound : IsSound node (fresh node)) (two : IsSome
    (spare_of journal))
    (alive : IsAlive device journal) (empty : stands_in (areas_of device journal) ≡ Ok []) (same : spare_of new ≡ spare_of journal)
    (keeps : AtEachMoment device (disk_of journal) (disk_of new) (KeepsOrBegins versions.Second node (device.content (disk_of journal))))
    (only_now : (disk : D) (c : List ℕ) → device.outcome_since disk (device.clock disk) c → device.outcome disk c)
    (counts_now : (disk : D) (t : ℕ) (c : List ℕ) → t ≤ device.clock disk → device.outcome disk c → device.outcome_since disk t c)
    (is_outcome : (disk : D) → device.outcome disk (device.content disk)) where
  pub begun_any : (result : Result (Unit {0}) JournalError) → OnOk result (IsAlive device new) → OnOk result (stands (device.content (disk_of new)) ≢ Ok [])
      → ReportsFault Device (device.faults (disk_of journal)) (device.faults (disk_of new)) result → IfErr result (λ error. (error ≡ Device) ⊎ (error ≡ Memory))
      → IfErr result (λ error. error ≡ Memory → new ≡ journal)
      → IsRenewed node device journal result new
  begun_any (Ok given) alive_then some cause errors unchanged =
      begun_renews device node journal sound keys two alive empty new same keeps only_now counts_now is_outcome fresh_is_sound alive_then some cause
  begun_any (Err error) alive_then some cause errors unchanged =
      not_begun device node journal sound keys two alive empty new same keeps only_now counts_now is_outcome error errors unchanged cause

no_lack : (error : JournalError) → (error ≡ Device) ⊎ (error ≡ Memory) → error ≢ Full
no_lack error (inl device) full = cc
no_lack error (inr memory) full = cc

pub never_full : (result : Result (Unit {0}) JournalError) → IfErr result (λ error. (error ≡ Device) ⊎ (error ≡ Memory)) → IfErr result (λ error. error ≢ Full)
never_full (Ok given) errors = tt
never_full (Err error) errors = no_lack error errors
