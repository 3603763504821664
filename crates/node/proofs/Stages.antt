-- What a stop at any moment leaves of the disks of a journal, over several calls.
use Rattle.std.proofs.Common.{◌≡◌, ◌+◌, ◌≤◌, ℕ, List, [], ◌∷◌, ◌++◌, Option, Some, None, Result, Ok, Err, refl, sym, ap, ◌∙◌, subst, arith}
use Rattle.std.specs.Prelude.{IsSome, IfSome, OnOk, OnErr}
use Rattle.std.specs.Option.{option_map_or}
use Rattle.diskmodel.proofs.Clock.{started, weaker, joins}
use Rattle.diskmodel.specs.Disk.{AtEachMoment, Device, LeavesOnly, ReportsFault}
use Rattle.flusher.specs.Rounds.{areas_at}
use Rattle.journal.specs.Areas.{Areas, alone, pair, pair_of, other_side}
use Rattle.journal.specs.Journal.{disk_of, spare_of, IsAlivePair}
use Rattle.journal.specs.Pairs.{areas_in, areas_of, areas_with, side_in, spare_disk, store_of, two, rewritten_disk, untouched_disk, HaveChangedPlaces, HaveKeptPlaces}
use Rattle.journal.specs.Spares.{by_area}
use Rattle.journal.specs.Stores.{faults_in}
use Rattle.journal.specs.declared.journal.Journal.{Journal}
use Rattle.journal.specs.declared.side.Side.{Side}
use Rattle.journal.specs.declared.side.Side.TheVariants.{First, Second}
use Rattle.journal.specs.declared.spare.Spare.{Spare}
use Rattle.journal.specs.declared.store.Store.{Store}
use Rattle.journal.specs.declared.store.Store.TheVariants.{One, Two}
use Rattle.opening.specs.Stages.{IsStage, AreStages}
use Rattle.node.specs.Disks.{MayBeLeft, AtEachMomentOn}

module _ {D : Type 0} (device : Device D) where
  -- ---- stages

  stage_weaker : (P Q : List ℕ → List ℕ → Type 0) (old new : D × D) → IsStage device Q old new → ((one other : List ℕ) → Q one other → P one other) → IsStage device P old new
  stage_weaker P Q old new at less = record {
    first = weaker device old.0 new.0 (λ one. (other : List ℕ) → device.outcome_since new.1 (device.clock old.1) other → P one other) _ at.first
        (λ one has other left. less one other (has other left));
    second = weaker device old.1 new.1 (λ other. (one : List ℕ) → device.outcome_since new.0 (device.clock old.0) one → P one other) _ at.second
        (λ other has one left. less one other (has one left));
  }

  stages_weaker : (P Q : List ℕ → List ℕ → Type 0) (old : D × D) (states : List (D × D)) (new : D × D) → AreStages device Q old states new
      → ((one other : List ℕ) → Q one other → P one other) → AreStages device P old states new
  stages_weaker P Q old [] new at less = stage_weaker P Q old new at less
  stages_weaker P Q old (mid ∷ more) new at less = (stage_weaker P Q old mid at.0 less, stages_weaker P Q mid more new at.1 less)

  stages_join : (P : List ℕ → List ℕ → Type 0) (old : D × D) (states : List (D × D)) (mid : D × D) (more : List (D × D)) (new : D × D) → AreStages device P old states mid
      → AreStages device P mid more new → AreStages device P old (states ++ mid ∷ more) new
  stages_join P old [] mid more new first second = (first, second)
  stages_join P old (next ∷ states) mid more new first second = (first.0, stages_join P next states mid more new first.1 second)

  -- this moment is one of those from an earlier one on
  abbrev pub Counts : Type 0
  Counts = (one : D) (t : ℕ) (c : List ℕ) → t ≤ device.clock one → device.outcome one c → device.outcome_since one t c

  -- from this moment on there was no other
  abbrev pub Only : Type 0
  Only = (one : D) (c : List ℕ) → device.outcome_since one (device.clock one) c → device.outcome one c

  stage_end : Counts → (P : List ℕ → List ℕ → Type 0) (old new : D × D) → IsStage device P old new → (one other : List ℕ) → device.outcome new.0 one → device.outcome new.1 other → P one other
  stage_end counts P old new at one other first second =
      at.first.each one (counts new.0 (device.clock old.0) one at.first.later first) other (counts new.1 (device.clock old.1) other at.second.later second)

  stages_end : Counts → (P : List ℕ → List ℕ → Type 0) (old : D × D) (states : List (D × D)) (new : D × D) → AreStages device P old states new
      → (one other : List ℕ) → device.outcome new.0 one → device.outcome new.1 other → P one other
  stages_end counts P old [] new at = stage_end counts P old new at
  stages_end counts P old (mid ∷ more) new at = stages_end counts P mid more new at.1

  -- ---- the disks of a journal

  -- of which more holds
  pub on_weaker : (P Q : Areas → Type 0) (old new : Store D) → AtEachMomentOn device Q old new → ((areas : Areas) → Q areas → P areas) → AtEachMomentOn device P old new
  on_weaker P Q (One old) (One new) at less = weaker device old new (λ left. P (alone left)) (λ left. Q (alone left)) at (λ left. less (alone left))
  on_weaker P Q (Two first second) (Two now also) at less =
      (at.0, stages_weaker (λ one other. P (pair one other)) (λ one other. Q (pair one other)) (first, second) at.0 (now, also) at.1 (λ one other. less (pair one other)))
  on_weaker P Q (One old) (Two now also) at less = absurd at
  on_weaker P Q (Two first second) (One new) at less = absurd at

  -- calls more, of which each outcome has P too
  pub on_joins : (P Q : Areas → Type 0) (old mid new : Store D) → AtEachMomentOn device P old mid → AtEachMomentOn device Q mid new → ((areas : Areas) → Q areas → P areas)
      → AtEachMomentOn device P old new
  on_joins P Q (One old) (One mid) (One new) first second less = joins device old mid new (λ left. P (alone left)) (λ left. Q (alone left)) first second (λ left. less (alone left))
  on_joins P Q (Two a b) (Two c d) (Two e f) first second less = (
    first.0 ++ (c, d) ∷ second.0,
    stages_join (λ one other. P (pair one other)) (a, b) first.0 (c, d) second.0 (e, f) first.1
        (stages_weaker (λ one other. P (pair one other)) (λ one other. Q (pair one other)) (c, d) second.0 (e, f) second.1 (λ one other. less (pair one other))),
  )
  on_joins P Q (One old) (One mid) (Two e f) first second less = absurd second
  on_joins P Q (One old) (Two c d) new first second less = absurd first
  on_joins P Q (Two a b) (One mid) new first second less = absurd first
  on_joins P Q (Two a b) (Two c d) (One new) first second less = absurd second

  -- what a stop leaves at the end
  pub on_end : Counts → (P : Areas → Type 0) (old new : Store D) → AtEachMomentOn device P old new → (areas : Areas) → MayBeLeft device new areas → P areas
  on_end counts P (One old) (One new) at (alone left) may = at.each left (counts new (device.clock old) left at.later may)
  on_end counts P (Two first second) (Two now also) at (pair one other) may = stages_end counts (λ one other. P (pair one other)) (first, second) at.0 (now, also) at.1 one other may.0 may.1
  on_end counts P (One old) (One new) at (pair one other) may = absurd may
  on_end counts P (Two first second) (Two now also) at (alone left) may = absurd may
  on_end counts P (One old) (Two now also) at areas may = absurd at
  on_end counts P (Two first second) (One new) at areas may = absurd at

  -- ---- one call

  -- a disk that is still leaves what a read gives
  abbrev IsStill : D → Type 0
  IsStill disk = (c : List ℕ) → device.outcome_since disk (device.clock disk) c → c ≡ device.content disk

  pub still : Only → (disk : D) → LeavesOnly (device.content disk) (device.outcome disk) → IsStill disk
  still only disk durable c left = durable c (only disk c left)

  stays : (disk : D) → IsStill disk → AtEachMoment device disk disk (λ c. c ≡ device.content disk)
  stays disk is = started device disk (λ c. c ≡ device.content disk) is

  -- each disk over its moments, where P holds of both together
  stage : (P : List ℕ → List ℕ → Type 0) (old new : D × D) (A B : List ℕ → Type 0) → AtEachMoment device old.0 new.0 A → AtEachMoment device old.1 new.1 B
      → ((one other : List ℕ) → A one → B other → P one other) → IsStage device P old new
  stage P old new A B first second both = record {
    first = weaker device old.0 new.0 (λ one. (other : List ℕ) → device.outcome_since new.1 (device.clock old.1) other → P one other) A first
        (λ one has other left. both one other has (second.each other left));
    second = weaker device old.1 new.1 (λ other. (one : List ℕ) → device.outcome_since new.0 (device.clock old.0) one → P one other) B second
        (λ other has one left. both one other (first.each one left) has);
  }

  -- ---- where the disks are

  store_by : (disk : D) (spare : Option (Spare D)) → IsSome spare
      → option_map_or (λ s. two (by_area s.side disk s.disk)) spare (One disk)
      ≡ two (by_area (option_map_or (λ (s : Spare D). s.side) spare First) disk (option_map_or (λ (s : Spare D). s.disk) spare disk))
  store_by disk None some = absurd (cc some)
  store_by disk (Some s) some = refl

  store_is : (journal : Journal D) → IsSome (spare_of journal) → store_of journal ≡ two (by_area (side_in journal) (disk_of journal) (spare_disk journal))
  store_is journal some = store_by (disk_of journal) (spare_of journal) some

  with_spare : (spare : Option (Spare D)) (live left : List ℕ) → IsSome spare
      → option_map_or (λ s. pair_of s.side live left) spare (alone live) ≡ pair_of (option_map_or (λ (s : Spare D). s.side) spare First) live left
  with_spare None live left some = absurd (cc some)
  with_spare (Some s) live left some = refl

  areas_are : (journal : Journal D) (left : List ℕ) → IsSome (spare_of journal) → areas_with device journal left ≡ pair_of (side_in journal) (device.content (disk_of journal)) left
  areas_are journal left some = with_spare (spare_of journal) (device.content (disk_of journal)) left some

  swapped_by : (side : Side) (one other : D) → by_area (other_side side) one other ≡ by_area side other one
  swapped_by First one other = refl
  swapped_by Second one other = refl

  -- after a rewriting, whether they have changed places or not
  store_then : {T E : Type 0} (result : Result T E) (old new : Journal D) → OnOk result (HaveChangedPlaces old new) → OnErr result (HaveKeptPlaces old new)
      → untouched_disk result new ≡ disk_of old → store_of new ≡ two (by_area (side_in old) (disk_of old) (rewritten_disk result new))
  store_then (Ok given) old new changed kept untouched =
      store_is new changed.pair
      ∙ ap (λ (d : D × D). two d) ((λ i. by_area (changed.side i) (disk_of new) (changed.spare i)) ∙ swapped_by (side_in old) (disk_of new) (disk_of old))
  store_then (Err error) old new changed kept untouched =
      store_is new kept.pair ∙ ap (λ (d : D × D). two d) (λ i. by_area (kept.side i) (untouched i) (spare_disk new))

  areas_by : (side : Side) (live other : D) → areas_in device (two (by_area side live other)) ≡ pair_of side (device.content live) (device.content other)
  areas_by First live other = refl
  areas_by Second live other = refl

  areas_of_both : (disk : D) (spare : Option (Spare D))
      → areas_in device (option_map_or (λ s. two (by_area s.side disk s.disk)) spare (One disk))
      ≡ option_map_or (λ s. pair_of s.side (device.content disk) (device.content (option_map_or (λ (s : Spare D). s.disk) spare disk))) spare (alone (device.content disk))
  areas_of_both disk None = refl
  areas_of_both disk (Some s) = areas_by s.side disk s.disk

  -- what the disks of a journal have is what the journal has
  pub areas_there : (journal : Journal D) → areas_in device (store_of journal) ≡ areas_of device journal
  areas_there journal = areas_of_both (disk_of journal) (spare_of journal)

  -- ---- faults

  fault_sum : {T E : Type 0} (error : E) (rest before now both both_now : ℕ) (result : Result T E) → both ≡ rest + before → both_now ≡ rest + now → ReportsFault error before now result
      → ReportsFault error both both_now result
  fault_sum error rest before now both both_now (Ok given) was is reports = (let same = reports.0 in omega (arith, was, is, same), tt)
  fault_sum error rest before now both both_now (Err other) was is reports =
      (tt, ((λ same. let more = reports.1.0 same in omega (arith, was, is, more)), (λ not. let as_is = reports.1.1 not in omega (arith, was, is, as_is))))

  faults_two : (side : Side) (live other : D) → faults_in device (two (by_area side live other)) ≡ device.faults live + device.faults other
  faults_two First live other = refl
  faults_two Second live other = omega arith

  fault_by : {T E : Type 0} (error : E) (live now : D) (spare : Option (Spare D)) (result : Result T E) → ReportsFault error (device.faults live) (device.faults now) result
      → ReportsFault error (faults_in device (option_map_or (λ s. two (by_area s.side live s.disk)) spare (One live)))
      (faults_in device (option_map_or (λ s. two (by_area s.side now s.disk)) spare (One now))) result
  fault_by error live now None result reports = reports
  fault_by error live now (Some s) result reports =
      fault_sum error (device.faults s.disk) (device.faults live) (device.faults now) (faults_in device (two (by_area s.side live s.disk))) (faults_in device (two (by_area s.side now s.disk))) result
      (let sum = faults_two s.side live s.disk in omega (arith, sum)) (let sum = faults_two s.side now s.disk in omega (arith, sum)) reports

  -- one of the disks has failed exactly where the one that is read has
  pub fault_of_live : {T E : Type 0} (error : E) (old new : Journal D) (result : Result T E) → spare_of new ≡ spare_of old
      → ReportsFault error (device.faults (disk_of old)) (device.faults (disk_of new)) result → ReportsFault error (faults_in device (store_of old)) (faults_in device (store_of new)) result
  fault_of_live {T} {E} error old new result same reports =
      subst (λ (s : Option (Spare D)). ReportsFault error (faults_in device (store_of old))
      (faults_in device (option_map_or (λ spare. two (by_area spare.side (disk_of new) spare.disk)) s (One (disk_of new)))) result)
      (sym same) (fault_by error (disk_of old) (disk_of new) (spare_of old) result reports)

  -- or exactly where the other one has
  pub fault_of_spare : {T E : Type 0} (error : E) (result : Result T E) (old new : Journal D) → IsSome (spare_of old) → OnOk result (HaveChangedPlaces old new)
      → OnErr result (HaveKeptPlaces old new) → untouched_disk result new ≡ disk_of old
      → ReportsFault error (device.faults (spare_disk old)) (device.faults (rewritten_disk result new)) result
      → ReportsFault error (faults_in device (store_of old)) (faults_in device (store_of new)) result
  fault_of_spare error result old new some changed kept untouched reports =
      fault_sum error (device.faults (disk_of old)) (device.faults (spare_disk old)) (device.faults (rewritten_disk result new)) (faults_in device (store_of old))
      (faults_in device (store_of new)) result
      (ap (faults_in device) (store_is old some) ∙ faults_two (side_in old) (disk_of old) (spare_disk old))
      (ap (faults_in device) (store_then result old new changed kept untouched) ∙ faults_two (side_in old) (disk_of old) (rewritten_disk result new)) reports

  module _ (P : Areas → Type 0) where
    -- of two disks one is written
    by_side : (side : Side) (written then rest : D) → IsStill rest → AtEachMoment device written then (λ left. P (pair_of side left (device.content rest)))
        → AtEachMomentOn device P (two (by_area side written rest)) (two (by_area side then rest))
    by_side First written then rest is at = (
      [],
      stage (λ one other. P (pair one other)) (written, rest) (then, rest) (λ left. P (pair left (device.content rest))) (λ c. c ≡ device.content rest) at (stays rest is)
          (λ one other has same. subst (λ (l : List ℕ). P (pair one l)) (sym same) has),
    )
    by_side Second written then rest is at = (
      [],
      stage (λ one other. P (pair one other)) (rest, written) (rest, then) (λ c. c ≡ device.content rest) (λ left. P (pair (device.content rest) left)) (stays rest is) at
          (λ one other same has. subst (λ (l : List ℕ). P (pair l other)) (sym same) has),
    )

    live_moment : (live now : D) (spare : Option (Spare D)) → IfSome spare (λ s. IsStill s.disk)
        → AtEachMoment device live now (λ left. P (option_map_or (λ s. pair_of s.side left (device.content s.disk)) spare (alone left)))
        → AtEachMomentOn device P (option_map_or (λ s. two (by_area s.side live s.disk)) spare (One live)) (option_map_or (λ s. two (by_area s.side now s.disk)) spare (One now))
    live_moment live now None is at = at
    live_moment live now (Some s) is at = by_side s.side live now s.disk is at

    -- the disk that is read is written
    pub of_live : Only → (old new : Journal D) → IfSome (spare_of old) (IsAlivePair device (disk_of old)) → spare_of new ≡ spare_of old
        → AtEachMoment device (disk_of old) (disk_of new) (λ left. P (areas_at device old left)) → AtEachMomentOn device P (store_of old) (store_of new)
    of_live only old new alive same at =
        subst (λ (s : Option (Spare D)). AtEachMomentOn device P (store_of old) (option_map_or (λ spare. two (by_area spare.side (disk_of new) spare.disk)) s (One (disk_of new)))) (sym same)
        (live_moment (disk_of old) (disk_of new) (spare_of old) (durable_spare (spare_of old) alive) at)
      where
        durable_spare : (spare : Option (Spare D)) → IfSome spare (IsAlivePair device (disk_of old)) → IfSome spare (λ s. IsStill s.disk)
        durable_spare None is = tt
        durable_spare (Some s) is = still only s.disk is.durable

    -- of two disks the other one is
    by_other : (side : Side) (live written then : D) → IsStill live → AtEachMoment device written then (λ left. P (pair_of side (device.content live) left))
        → AtEachMomentOn device P (two (by_area side live written)) (two (by_area side live then))
    by_other First live written then is at = by_side Second written then live is at
    by_other Second live written then is at = by_side First written then live is at

    -- the disk that isn't read is written
    pub of_spare : {T E : Type 0} → Only → (result : Result T E) (old new : Journal D) → IsSome (spare_of old) → LeavesOnly (device.content (disk_of old)) (device.outcome (disk_of old))
        → OnOk result (HaveChangedPlaces old new) → OnErr result (HaveKeptPlaces old new) → untouched_disk result new ≡ disk_of old
        → AtEachMoment device (spare_disk old) (rewritten_disk result new) (λ left. P (areas_with device old left)) → AtEachMomentOn device P (store_of old) (store_of new)
    of_spare {T} {E} only result old new some durable changed kept untouched at =
        subst (λ (s : Store D). AtEachMomentOn device P s (store_of new)) (sym (store_is old some))
        (subst (λ (s : Store D). AtEachMomentOn device P (two (by_area (side_in old) (disk_of old) (spare_disk old))) s) (sym (store_then result old new changed kept untouched))
        (by_other (side_in old) (disk_of old) (spare_disk old) (rewritten_disk result new) (still only (disk_of old) durable)
        (weaker device (spare_disk old) (rewritten_disk result new) (λ left. P (pair_of (side_in old) (device.content (disk_of old)) left)) (λ left. P (areas_with device old left)) at
        (λ left. subst P (areas_are old left some)))))
