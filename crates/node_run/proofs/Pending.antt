-- Rounds until nothing is pending, and the checkpoints that are due after them.
use Rattle.std.proofs.Common.{◌≡◌, ◌<◌, ℕ, Bool, true, false, List, [], ◌∷◌, ◌++◌, Option, Some, None, Result, Ok, Err, refl, sym, ap, subst, ◌∙◌, inl, inr}
use Rattle.std.specs.Prelude.{◌⊎◌, ◌↔◌, IsErrOf, IsSome, IsTrue}
use Rattle.book.specs.declared.own.error.FlushError.{FlushError}
use Rattle.book.specs.declared.own.error.FlushError.TheVariants as flush
use Rattle.diskmodel.specs.Disk.{Device, ReportsFault}
use Rattle.flusher.specs.Rounds.{journal_of, is_down, settled_in, taken_in, GoesDown, KeepsEarlier}
use Rattle.flusher.specs.declared.flusher.Flusher.{Flusher}
use Rattle.journal.specs.Journal.{spare_of}
use Rattle.journal.specs.Pairs.{areas_of, store_of}
use Rattle.journal.specs.Stores.{faults_in}
use Rattle.journal.specs.declared.error.JournalError.{JournalError}
use Rattle.journal.specs.declared.error.JournalError.TheVariants as journal
use Rattle.node.specs.Callers.{RoundsView}
use Rattle.node.specs.Disks.{AtEachMomentOn}
use Rattle.node_io.specs.Endings.{first_of}
use Rattle.node_io.specs.declared.faults.Faults.{Faults}
use Rattle.node_seats.proofs.Beginnings.{begins_same, begins_trans}
use Rattle.node_seats.specs.declared.view.Marked.{Marked}
use Rattle.node_shared.specs.Home.{IsCheckpointAfter, NodeView}
use Rattle.sigface.specs.Scheme.{Scheme}
use Rattle.wire.specs.Lists.{Begins}
use Rattle.node_run.specs.Ends.{faults_after, ReportsRounds, ReportsJournal}
use Rattle.node_run.specs.Flushing.{FlushesOnce}
use Rattle.node_run.specs.Rewriting.{AreSteps, ByTheRule, FollowsWhereDue, Followed, HasCheckpoint, HasNoPlace, IsFullAt, LacksRoom, Point, Step, none_due, made, skipped, point_after, point_of, rule_after}
use Rattle.node_run.specs.Runs.{HoldsMore, LeavesSettled}
use Rattle.node_run.specs.Writing.{no_faults}
use Rattle.node_run.specs.declared.rule.Rule.{Rule}
use Rattle.node_run.proofs.Moments.{SoFar, keeps_so_far, keeps_on, leaves_on, ends_after}
use Rattle.node_run.proofs.Once.{error_in, was_up, is_up, memory_is_up}

-- ---- the steps of several rounds

steps_join : {D : Type 0} (device : Device D) (Made : Point D → Type 0) (rule : Rule) (memory : Bool) (first : Point D) (steps : List (Step D)) (mid_rule : Rule) (mid : Point D) (more : List (Step D))
    → (later : Rule) (last : Point D) → AreSteps device Made rule memory first steps mid_rule mid → AreSteps device Made mid_rule memory mid more later last
    → AreSteps device Made rule memory first (steps ++ more) later last
steps_join {D} device Made rule memory first [] mid_rule mid more later last here there =
    subst (λ (r : Rule). AreSteps device Made r memory first more later last) here.0 (subst (λ (p : Point D). AreSteps device Made mid_rule memory p more later last) here.1 there)
steps_join device Made rule memory first (step ∷ steps) mid_rule mid more later last here there =
    (here.0, steps_join device Made (rule_after device rule step) memory (point_after step) steps mid_rule mid more later last here.1 there)

by_rule_joins : {D : Type 0} (device : Device D) (Made : Point D → Type 0) (rule mid_rule later : Rule) (memory : Bool) (first mid last : Point D)
    → ByTheRule device Made rule memory first mid_rule mid
    → ByTheRule device Made mid_rule memory mid later last → ByTheRule device Made rule memory first later last
by_rule_joins device Made rule mid_rule later memory first mid last here there =
    (here.0 ++ there.0, steps_join device Made rule memory first here.0 mid_rule mid there.0 later last here.1 there.1)

-- steps after which a checkpoint may have been skipped are such steps where out of memory is reported too
follows_weaker : {D : Type 0} (device : Device D) (Made Other : Point D → Type 0) (rule : Rule) (memory more : Bool) (grown : Point D) (followed : Followed D)
    → ((point : Point D) → Made point → Other point) → (memory ≡ true → more ≡ true) → FollowsWhereDue device Made rule memory grown followed
    → FollowsWhereDue device Other rule more grown followed
follows_weaker device Made Other rule memory more grown none_due wider raised follows = follows
follows_weaker device Made Other rule memory more grown (made point) wider raised follows = (follows.0, follows.1, follows.2, wider point follows.3)
follows_weaker device Made Other rule memory more grown skipped wider raised follows = (follows.0, raised follows.1)

steps_weaker : {D : Type 0} (device : Device D) (Made Other : Point D → Type 0) (rule : Rule) (memory more : Bool) (first : Point D) (steps : List (Step D)) (later : Rule) (last : Point D)
    → ((point : Point D) → Made point → Other point) → (memory ≡ true → more ≡ true) → AreSteps device Made rule memory first steps later last
    → AreSteps device Other rule more first steps later last
steps_weaker device Made Other rule memory more first [] later last wider raised are = are
steps_weaker device Made Other rule memory more first (step ∷ steps) later last wider raised are = (
  record {
    round = are.0.round;
    follows = follows_weaker device Made Other rule memory more step.grown step.followed wider raised are.0.follows;
  },
  steps_weaker device Made Other (rule_after device rule step) memory more (point_after step) steps later last wider raised are.1,
)

pub by_rule_weaker : {D : Type 0} (device : Device D) (Made Other : Point D → Type 0) (rule later : Rule) (memory more : Bool) (first last : Point D)
    → ((point : Point D) → Made point → Other point) → (memory ≡ true → more ≡ true) → ByTheRule device Made rule memory first later last
    → ByTheRule device Other rule more first later last
by_rule_weaker device Made Other rule later memory more first last wider raised by =
    (by.0, steps_weaker device Made Other rule memory more first by.0 later last wider raised by.1)

-- ---- what has no room

-- what has no room somewhere has none there where more may have been skipped, and where checkpoints are of a wider kind
pub full_weaker : {D : Type 0} (device : Device D) (Made Other : Point D → Type 0) (Shows Wider : List Marked → List (List ℕ) → Type 0) (rule : Rule) (memory more : Bool) (first point : Point D)
    (taken : List Marked) → ((point : Point D) → Made point → Other point) → ((records : List (List ℕ)) → Shows taken records → Wider taken records) → (memory ≡ true → more ≡ true)
    → IsFullAt device Made Shows rule memory first point taken → IsFullAt device Other Wider rule more first point taken
full_weaker {D} device Made Other Shows Wider rule memory more first point taken wider showing raised full = record {
  last = full.last;
  last_rule = full.last_rule;
  by_rule = by_rule_weaker device Made Other rule full.last_rule memory more first full.last wider raised full.by_rule;
  alive = full.alive;
  lacks = by full.lacks;
}
  where
    by : LacksRoom device Shows full.last_rule full.last point taken → LacksRoom device Wider full.last_rule full.last point taken
    by (inl add) = inl add
    by (inr (round, due, rewrite)) = inr (
      round,
      due,
      record { pair = rewrite.pair; begins = rewrite.begins; records = rewrite.records; checkpoint = showing rewrite.records rewrite.checkpoint; full = rewrite.full },
    )

full_then : {D : Type 0} (device : Device D) (Made : Point D → Type 0) (Shows : List Marked → List (List ℕ) → Type 0) (rule mid_rule : Rule) (memory : Bool) (first mid point : Point D)
    (taken : List Marked) → ByTheRule device Made rule memory first mid_rule mid → IsFullAt device Made Shows mid_rule memory mid point taken → IsFullAt device Made Shows rule memory first point taken
full_then device Made Shows rule mid_rule memory first mid point taken so_far full = record {
  last = full.last;
  last_rule = full.last_rule;
  by_rule = by_rule_joins device Made rule mid_rule full.last_rule memory first mid full.last so_far full.by_rule;
  alive = full.alive;
  lacks = full.lacks;
}

-- what has no place after further rounds of a flusher
place_then : {S D : Type 0} (scheme : Scheme S) (device : Device D) (node : NodeView S) (rule mid_rule : Rule) (missed later_missed : Bool) (first mid : Point D) (now : Flusher D)
    → (missed ≡ true → later_missed ≡ true) → ByTheRule device (HasCheckpoint scheme device node) rule missed first mid_rule mid
    → HasNoPlace scheme device node mid_rule later_missed mid now → HasNoPlace scheme device node rule later_missed first now
place_then scheme device node rule mid_rule missed later_missed first mid now kept so_far full =
    let Made = HasCheckpoint scheme device node in
    full_then device Made (IsCheckpointAfter scheme node) rule mid_rule later_missed first mid (point_of now) (taken_in now)
    (by_rule_weaker device Made Made rule mid_rule missed later_missed first mid (λ point is. is) kept so_far) full

pub place_weaker : {S D : Type 0} (scheme : Scheme S) (device : Device D) (node : NodeView S) (rule : Rule) (missed later_missed : Bool) (first : Point D) (now : Flusher D)
    → (missed ≡ true → later_missed ≡ true) → HasNoPlace scheme device node rule missed first now → HasNoPlace scheme device node rule later_missed first now
place_weaker scheme device node rule missed later_missed first now kept full =
    let Made = HasCheckpoint scheme device node in
    let Shows = IsCheckpointAfter scheme node in
    full_weaker device Made Made Shows Shows rule missed later_missed first (point_of now) (taken_in now) (λ point is. is) (λ records is. is) kept full

-- ---- what is told

reports_failed : (first mid now : ℕ) (error : FlushError) → mid ≡ first → ReportsFault {T = ℕ} flush.Device mid now (Err error) → ReportsRounds first now (faults_after error).journal
reports_failed first mid now flush.Memory same reports = record {
  disk = record { device = λ is. absurd (cc); no_fault = λ other. reports.1.1 (λ is. let bad : flush.Memory ≡ flush.Device = is in cc) ∙ same };
  which = tt;
}
reports_failed first mid now flush.Device same reports = record {
  disk = record { device = λ is. subst (λ (n : ℕ). n < now) same (reports.1.0 refl); no_fault = λ other. absurd (other refl) };
  which = inl refl;
}
reports_failed first mid now flush.Full same reports = record {
  disk = record { device = λ is. absurd (cc); no_fault = λ other. reports.1.1 (λ is. let bad : flush.Full ≡ flush.Device = is in cc) ∙ same };
  which = inr refl;
}
reports_failed first mid now flush.Down same reports = record {
  disk = record { device = λ is. absurd (cc); no_fault = λ other. reports.1.1 (λ is. let bad : flush.Down ≡ flush.Device = is in cc) ∙ same };
  which = tt;
}

no_others : (error : FlushError) → ((faults_after error).output ≡ false) × ((faults_after error).input ≡ false)
no_others flush.Memory = (refl, refl)
no_others flush.Device = (refl, refl)
no_others flush.Full = (refl, refl)
no_others flush.Down = (refl, refl)

-- an error that isn't of a node which is down
error_is : (one other : FlushError) → ◌≡◌ {A = Result ℕ FlushError} (Err one) (Err other) → one ≡ other
error_is one other is = ap error_in is

fell : {D : Type 0} (before later : Flusher D) (error : FlushError) → is_down before ≡ false → GoesDown before later (Err error) → IsSome (faults_after error).journal ↔ IsTrue (is_down later)
fell before later flush.Memory up goes = ((λ some. absurd (cc)), (λ down. absurd (by (goes.nothing_else down))))
  where
    by : IsErrOf {T = ℕ} (Err flush.Memory) flush.Device ⊎ IsErrOf {T = ℕ} (Err flush.Memory) flush.Full ⊎ IsErrOf {T = ℕ} (Err flush.Memory) flush.Down → ⊥
    by (inl is) = let bad : flush.Memory ≡ flush.Device = error_is flush.Memory flush.Device is in cc
    by (inr (inl is)) = let bad : flush.Memory ≡ flush.Full = error_is flush.Memory flush.Full is in cc
    by (inr (inr is)) = let bad : flush.Memory ≡ flush.Down = error_is flush.Memory flush.Down is in cc
fell before later flush.Device up goes = ((λ some. goes.device refl), (λ down. refl))
fell before later flush.Full up goes = ((λ some. goes.full refl), (λ down. refl))
fell before later flush.Down up goes = absurd (let bad : true ≡ false = sym (goes.down.0 refl) ∙ up in cc)

-- what there is in the loop
pub record Looped {S D : Type 0} (scheme : Scheme S) (device : Device D) (rule now_rule : Rule) (missed : Bool) (first now : RoundsView S D) : Type 0 where
  pub faults : faults_in device (store_of (journal_of now.flusher)) ≡ faults_in device (store_of (journal_of first.flusher))
  pub down : is_down now.flusher ≡ is_down first.flusher
  pub seen : Begins first.seat.view.seen now.seat.view.seen
  pub stays : IsTrue (is_down first.flusher) → now.flusher ≡ first.flusher
  pub node : now.node ≡ first.node
  pub more : Begins (settled_in first.flusher) (settled_in now.flusher)
  pub so_far : SoFar scheme device first.node first.flusher now.flusher
  pub by_rule : ByTheRule device (HasCheckpoint scheme device first.node) rule missed (point_of first.flusher) now_rule (point_of now.flusher)
  pub pair : IsSome now_rule.every → IsSome (spare_of (journal_of now.flusher))

-- what is left, and reported
pub record Ended {S D : Type 0} (scheme : Scheme S) (device : Device D) (rule later_rule : Rule) (missed : Bool) (first later : RoundsView S D) (faults : Faults) : Type 0 where
  pub pair : IsSome later_rule.every → IsSome (spare_of (journal_of later.flusher))
  pub rounds : ReportsRounds (faults_in device (store_of (journal_of first.flusher))) (faults_in device (store_of (journal_of later.flusher))) faults.journal
  pub down : is_down first.flusher ≡ false → IsSome faults.journal ↔ IsTrue (is_down later.flusher)
  pub stays : IsTrue (is_down first.flusher) → (faults.journal ≡ None) × (later.flusher ≡ first.flusher)
  pub full : is_down first.flusher ≡ false → faults.journal ≡ Some journal.Full → HasNoPlace scheme device first.node rule missed (point_of first.flusher) later.flusher
  pub by_rule : is_down first.flusher ≡ false → faults.journal ≡ None → ByTheRule device (HasCheckpoint scheme device first.node) rule missed (point_of first.flusher) later_rule
      (point_of later.flusher)
  pub seen : Begins first.seat.view.seen later.seat.view.seen
  pub all : is_down later.flusher ≡ false → faults.memory ≡ false → Begins first.seat.view.seen (settled_in later.flusher)
  pub memory : faults.memory ≡ true → taken_in later.flusher ≡ settled_in later.flusher
  pub others : (faults.output ≡ false) × (faults.input ≡ false)
  pub node : later.node ≡ first.node
  pub more : Begins (settled_in first.flusher) (settled_in later.flusher)
  pub earlier : is_down later.flusher ≡ false
      → KeepsEarlier scheme first.node (settled_in first.flusher) (settled_in later.flusher) (areas_of device (journal_of first.flusher)) (areas_of device (journal_of later.flusher))
  pub any_moment : is_down first.flusher ≡ false
      → AtEachMomentOn device (HoldsMore scheme first.node (settled_in first.flusher) (areas_of device (journal_of first.flusher)))
      (store_of (journal_of first.flusher)) (store_of (journal_of later.flusher))
  pub at_end : is_down first.flusher ≡ false → LeavesSettled scheme device first.node first.flusher (settled_in later.flusher) (store_of (journal_of later.flusher))

pub loop_begins : {S D : Type 0} (scheme : Scheme S) (device : Device D) (rule : Rule) (missed : Bool) (first : RoundsView S D)
    → (IsSome rule.every → IsSome (spare_of (journal_of first.flusher))) → Looped scheme device rule rule missed first first
loop_begins scheme device rule missed first pair = record {
  faults = refl;
  down = refl;
  seen = begins_same first.seat.view.seen;
  stays = λ down. refl;
  node = refl;
  more = begins_same (settled_in first.flusher);
  so_far = inl refl;
  by_rule = ([], (refl, refl));
  pair = pair;
}

module _ {S D : Type 0} (scheme : Scheme S) (device : Device D) (rule now_rule later_rule : Rule) (missed later_missed : Bool) (kept : missed ≡ true → later_missed ≡ true)
    (first now later : RoundsView S D) (loop : Looped scheme device rule now_rule missed first now) where
  -- all so far was brought by the rule, and so is what comes now, unless the node went down
  by_rule_then : (next : RoundsView S D)
      → (is_down next.flusher ≡ false → ByTheRule device (HasCheckpoint scheme device now.node) now_rule later_missed (point_of now.flusher) later_rule (point_of next.flusher))
      → is_down next.flusher ≡ false → ByTheRule device (HasCheckpoint scheme device first.node) rule later_missed (point_of first.flusher) later_rule (point_of next.flusher)
  by_rule_then next by up =
      let Made = HasCheckpoint scheme device first.node in
      by_rule_joins device Made rule now_rule later_rule later_missed (point_of first.flusher) (point_of now.flusher) (point_of next.flusher)
      (by_rule_weaker device Made Made rule now_rule missed later_missed (point_of first.flusher) (point_of now.flusher) (λ point is. is) kept loop.by_rule)
      (subst (λ (n : NodeView S). ByTheRule device (HasCheckpoint scheme device n) now_rule later_missed (point_of now.flusher) later_rule (point_of next.flusher)) loop.node (by up))

  -- a round more, and the checkpoint after it
  pub looped : (count : ℕ) → FlushesOnce scheme device now_rule later_rule later_missed now later (Ok count) → Looped scheme device rule later_rule later_missed first later
  looped count once =
      let up = was_up now.flusher later.flusher count once.down in
      let still = is_up now.flusher later.flusher count once.down in
      record {
        faults = once.cause.0 ∙ loop.faults;
        down = still ∙ sym up ∙ loop.down;
        seen = begins_trans first.seat.view.seen now.seat.view.seen later.seat.view.seen loop.seen once.seen;
        stays = λ down. absurd (let bad : false ≡ true = sym up ∙ loop.down ∙ down in cc);
        node = once.node ∙ loop.node;
        more = begins_trans (settled_in first.flusher) (settled_in now.flusher) (settled_in later.flusher) loop.more once.more;
        so_far = inr (
          leaves_on scheme device first.node now.node first.flusher now.flusher later.flusher loop.node loop.more loop.so_far (once.any_moment up),
          keeps_on scheme device first.node now.node first.flusher now.flusher later.flusher loop.node
              (keeps_so_far scheme device first.node first.flusher now.flusher loop.so_far) (once.earlier still),
        );
        by_rule = by_rule_then later once.by_rule still;
        pair = once.pair loop.pair;
      }

  -- nothing was pending
  pub ended_well : FlushesOnce scheme device now_rule later_rule later_missed now later (Ok 0) → Ended scheme device rule later_rule later_missed first later no_faults
  ended_well once =
      let next = looped 0 once in
      let still = is_up now.flusher later.flusher 0 once.down in
      record {
        pair = next.pair;
        rounds = record { disk = record { device = λ is. absurd (cc); no_fault = λ other. next.faults }; which = tt };
        down = λ up. ((λ some. absurd (cc)), (λ down. absurd (let bad : false ≡ true = sym still ∙ down in cc)));
        stays = λ down. (refl, next.stays down);
        full = λ up is. absurd (cc);
        by_rule = λ up none. next.by_rule;
        seen = next.seen;
        all = λ up fine. begins_trans first.seat.view.seen now.seat.view.seen (settled_in later.flusher) loop.seen (once.nothing refl);
        memory = λ bad. absurd (let clash : false ≡ true = bad in cc);
        others = (refl, refl);
        node = next.node;
        more = next.more;
        earlier = λ up. keeps_so_far scheme device first.node first.flusher later.flusher next.so_far;
        any_moment = λ up. leaves_on scheme device first.node now.node first.flusher now.flusher later.flusher loop.node loop.more loop.so_far (once.any_moment (loop.down ∙ up));
        at_end = λ up. ends_after scheme device first.node now.node first.flusher now.flusher later.flusher loop.node loop.more loop.so_far (once.at_end refl (loop.down ∙ up));
      }

  -- a fault came
  pub ended_by : (error : FlushError) → FlushesOnce scheme device now_rule later_rule later_missed now later (Err error)
      → Ended scheme device rule later_rule later_missed first later (faults_after error)
  ended_by error once = record {
    pair = once.pair loop.pair;
    rounds = reports_failed (faults_in device (store_of (journal_of first.flusher))) (faults_in device (store_of (journal_of now.flusher))) (faults_in device (store_of (journal_of later.flusher)))
        error loop.faults once.cause;
    down = λ up. fell now.flusher later.flusher error (loop.down ∙ up) once.down;
    stays = λ down. stayed error once.down (loop.down ∙ down) (loop.stays down);
    full = λ up is. no_place error once.full is;
    by_rule = λ up none. by_rule_then later once.by_rule (still_up error once.down (loop.down ∙ up) none);
    seen = begins_trans first.seat.view.seen now.seat.view.seen later.seat.view.seen loop.seen once.seen;
    all = λ up fine. never_up error once.down up fine;
    memory = λ lacks. none_taken error (λ is. (once.memory is).2) lacks;
    others = no_others error;
    node = once.node ∙ loop.node;
    more = begins_trans (settled_in first.flusher) (settled_in now.flusher) (settled_in later.flusher) loop.more once.more;
    earlier = λ up. keeps_on scheme device first.node now.node first.flusher now.flusher later.flusher loop.node
        (keeps_so_far scheme device first.node first.flusher now.flusher loop.so_far) (once.earlier up);
    any_moment = λ up. leaves_on scheme device first.node now.node first.flusher now.flusher later.flusher loop.node loop.more loop.so_far (once.any_moment (loop.down ∙ up));
    at_end = λ up. ends_after scheme device first.node now.node first.flusher now.flusher later.flusher loop.node loop.more loop.so_far (once.at_end tt (loop.down ∙ up));
  }
    where
      stayed : (it : FlushError) → GoesDown now.flusher later.flusher (Err it) → is_down now.flusher ≡ true → now.flusher ≡ first.flusher
          → ((faults_after it).journal ≡ None) × (later.flusher ≡ first.flusher)
      stayed flush.Memory goes down same = absurd (let bad : flush.Memory ≡ flush.Down = error_is flush.Memory flush.Down (goes.down.1 down) in cc)
      stayed flush.Device goes down same = absurd (let bad : flush.Device ≡ flush.Down = error_is flush.Device flush.Down (goes.down.1 down) in cc)
      stayed flush.Full goes down same = absurd (let bad : flush.Full ≡ flush.Down = error_is flush.Full flush.Down (goes.down.1 down) in cc)
      stayed flush.Down goes down same = (refl, goes.same refl ∙ same)

      no_place : (it : FlushError) → (IsErrOf {T = ℕ} (Err it) flush.Full → HasNoPlace scheme device now.node now_rule later_missed (point_of now.flusher) later.flusher)
          → (faults_after it).journal ≡ Some journal.Full → HasNoPlace scheme device first.node rule later_missed (point_of first.flusher) later.flusher
      no_place flush.Memory full is = absurd (cc)
      no_place flush.Device full is = absurd (let bad : ◌≡◌ {A = Option JournalError} (Some journal.Device) (Some journal.Full) = is in cc)
      no_place flush.Full full is = place_then scheme device first.node rule now_rule missed later_missed (point_of first.flusher) (point_of now.flusher) later.flusher kept loop.by_rule
          (subst (λ (n : NodeView S). HasNoPlace scheme device n now_rule later_missed (point_of now.flusher) later.flusher) loop.node (full refl))
      no_place flush.Down full is = absurd (cc)

      still_up : (it : FlushError) → GoesDown now.flusher later.flusher (Err it) → is_down now.flusher ≡ false → (faults_after it).journal ≡ None → is_down later.flusher ≡ false
      still_up flush.Memory goes up none = memory_is_up now.flusher later.flusher goes
      still_up flush.Device goes up none = absurd (let bad : ◌≡◌ {A = Option JournalError} (Some journal.Device) None = none in cc)
      still_up flush.Full goes up none = absurd (let bad : ◌≡◌ {A = Option JournalError} (Some journal.Full) None = none in cc)
      still_up flush.Down goes up none = absurd (let bad : true ≡ false = sym (goes.down.0 refl) ∙ up in cc)

      never_up : (it : FlushError) → GoesDown now.flusher later.flusher (Err it) → is_down later.flusher ≡ false → (faults_after it).memory ≡ false
          → Begins first.seat.view.seen (settled_in later.flusher)
      never_up flush.Memory goes up fine = absurd (let bad : true ≡ false = fine in cc)
      never_up flush.Device goes up fine = absurd (let bad : true ≡ false = sym (goes.device refl) ∙ up in cc)
      never_up flush.Full goes up fine = absurd (let bad : true ≡ false = sym (goes.full refl) ∙ up in cc)
      never_up flush.Down goes up fine = absurd (let bad : true ≡ false = sym (goes.down.0 refl) ∙ ap (λ (f : Flusher D). is_down f) (sym (goes.same refl)) ∙ up in cc)

      none_taken : (it : FlushError) → (IsErrOf {T = ℕ} (Err it) flush.Memory → taken_in later.flusher ≡ settled_in later.flusher) → (faults_after it).memory ≡ true
          → taken_in later.flusher ≡ settled_in later.flusher
      none_taken flush.Memory none lacks = none refl
      none_taken flush.Device none lacks = absurd (let bad : false ≡ true = lacks in cc)
      none_taken flush.Full none lacks = absurd (let bad : false ≡ true = lacks in cc)
      none_taken flush.Down none lacks = absurd (let bad : false ≡ true = lacks in cc)

-- ---- over all bells

pub none_of_both : (one other : Option JournalError) → first_of one other ≡ None → (one ≡ None) × (other ≡ None)
none_of_both None other none = (refl, none)
none_of_both (Some journal.Memory) None none = absurd (let bad : ◌≡◌ {A = Option JournalError} (Some journal.Memory) None = none in cc)
none_of_both (Some journal.Memory) (Some other) none = absurd (let bad : ◌≡◌ {A = Option JournalError} (Some other) None = none in cc)
none_of_both (Some journal.Device) other none = absurd (let bad : ◌≡◌ {A = Option JournalError} (Some journal.Device) None = none in cc)
none_of_both (Some (journal.Damaged place)) other none = absurd (let bad : ◌≡◌ {A = Option JournalError} (Some (journal.Damaged place)) None = none in cc)
none_of_both (Some journal.ConfigMismatch) other none = absurd (let bad : ◌≡◌ {A = Option JournalError} (Some journal.ConfigMismatch) None = none in cc)
none_of_both (Some journal.Full) other none = absurd (let bad : ◌≡◌ {A = Option JournalError} (Some journal.Full) None = none in cc)

-- where nothing was reported, the node is up
up_so_far : (first mid : ℕ) (was down : Bool) (fault : Option JournalError) (Lacks : Type 0) → ReportsJournal first mid was down fault Lacks → was ≡ false → fault ≡ None → down ≡ false
up_so_far first mid was false fault Lacks reported up none = refl
up_so_far first mid was true fault Lacks reported up none = absurd (let bad : false ≡ true = subst (λ (f : Option JournalError). IsSome f) none (reported.reported up refl) in cc)

-- all was brought by the rule before, and is then
pub by_rule_on : {D : Type 0} (device : Device D) (Made : Point D → Type 0) (rule mid_rule later : Rule) (first mid now : Flusher D) (Lacks : Type 0) (faults more all : Faults)
    (missed later_missed : Bool)
    (at_first at_mid : ℕ)
    → ReportsJournal at_first at_mid (is_down first) (is_down mid) faults.journal Lacks
    → (is_down first ≡ false → faults.journal ≡ None → ByTheRule device Made rule missed (point_of first) mid_rule (point_of mid))
    → (is_down mid ≡ false → more.journal ≡ None → ByTheRule device Made mid_rule later_missed (point_of mid) later (point_of now))
    → (missed ≡ true → later_missed ≡ true) → all.journal ≡ first_of faults.journal more.journal
    → is_down first ≡ false → all.journal ≡ None → ByTheRule device Made rule later_missed (point_of first) later (point_of now)
by_rule_on device Made rule mid_rule later first mid now Lacks faults more all missed later_missed at_first at_mid reported before after kept journal_is up none =
    let both = none_of_both faults.journal more.journal (sym journal_is ∙ none) in
    by_rule_joins device Made rule mid_rule later later_missed (point_of first) (point_of mid) (point_of now)
    (by_rule_weaker device Made Made rule mid_rule missed later_missed (point_of first) (point_of mid) (λ point is. is) kept (before up both.0))
    (after (up_so_far at_first at_mid (is_down first) (is_down mid) faults.journal Lacks reported up both.0) both.1)

-- nothing was told of a node that is up
none_while_up : (fault : Option JournalError) (down : Bool) → (IsSome fault → IsTrue down) → down ≡ false → fault ≡ None
none_while_up None down fell up = refl
none_while_up (Some error) down fell up = absurd (let bad : true ≡ false = sym (fell refl) ∙ up in cc)

-- what has no place after the rounds of one bell more
pub no_place_on : {S D : Type 0} (scheme : Scheme S) (device : Device D) (node : NodeView S) (rule mid_rule : Rule) (first mid now : Flusher D) (missed later_missed : Bool)
    (fault : Option JournalError) (at_first at_mid : ℕ) (Lacks : Type 0)
    → ReportsJournal at_first at_mid (is_down first) (is_down mid) fault Lacks → (is_down mid ≡ false → is_down first ≡ false)
    → (is_down first ≡ false → fault ≡ None → ByTheRule device (HasCheckpoint scheme device node) rule missed (point_of first) mid_rule (point_of mid)) → (missed ≡ true → later_missed ≡ true)
    → is_down mid ≡ false → HasNoPlace scheme device node mid_rule later_missed (point_of mid) now → HasNoPlace scheme device node rule later_missed (point_of first) now
no_place_on scheme device node rule mid_rule first mid now missed later_missed fault at_first at_mid Lacks reported was_up so_far kept up full =
    place_then scheme device node rule mid_rule missed later_missed (point_of first) (point_of mid) now kept
    (so_far (was_up up) (none_while_up fault (is_down mid) reported.fell up)) full

-- a node that is up was so before
pub up_before : {D : Type 0} (first mid now : Flusher D) → (is_down mid ≡ false → is_down first ≡ false) → (IsTrue (is_down mid) → now ≡ mid) → is_down now ≡ false → is_down first ≡ false
up_before first mid now before stays up = before (by (is_down mid) refl)
  where
    by : (down : Bool) → is_down mid ≡ down → is_down mid ≡ false
    by false is = is
    by true is = ap (λ (f : Flusher _). is_down f) (sym (stays is)) ∙ up

-- what is told of a journal, where less is meant by that it is full
pub reports_weaker : (first now : ℕ) (was down : Bool) (fault : Option JournalError) (Lacks More : Type 0) → (Lacks → More) → ReportsJournal first now was down fault Lacks
    → ReportsJournal first now was down fault More
reports_weaker first now was down fault Lacks More weaker reports = record {
  fell = reports.fell;
  reported = reports.reported;
  full = λ is. weaker (reports.full is);
  rounds = reports.rounds;
}
