-- A round, and the checkpoint that is due after it.
use Rattle.std.proofs.Common.{◌≡◌, ◌+◌, ◌<◌, ℕ, zero, suc, Bool, true, false, List, [], ◌∷◌, length, Result, Ok, Err, refl, sym, ap, subst, ◌∙◌, inl, inr, arith}
use Rattle.std.specs.Prelude.{◌⊎◌, IfOk, IsErrOf, IsSome, IsTrue, OnErr, OnOk}
use Rattle.book.specs.declared.own.error.FlushError.{FlushError}
use Rattle.book.specs.declared.own.error.FlushError.TheVariants as flush
use Rattle.diskmodel.specs.Disk.{Device, ReportsFault}
use Rattle.flusher.specs.Rounds.{journal_of, is_down, settled_in, taken_in, AddsSettled, GoesDown, HasNoRoom, IsAtCheckpoint, IsGroupOf, IsReportedOf, KeepsEarlier, TakesAndSettles, TakesLongest, ReportsRoom}
use Rattle.flusher.specs.declared.flusher.Flusher.{Flusher}
use Rattle.journal.specs.Format.{FitsGroup}
use Rattle.journal.specs.Journal.{disk_of, spare_of, IsAlive}
use Rattle.journal.specs.Pairs.{areas_of, store_of, HaveChangedPlaces}
use Rattle.journal.specs.Stores.{faults_in}
use Rattle.journal.specs.declared.journal.Journal.{Journal}
use Rattle.node.specs.Callers.{RoundsView}
use Rattle.node.specs.Rounds.{Flushes}
use Rattle.node.proofs.Stages.{Counts}
use Rattle.node_seats.proofs.Beginnings.{begins_same, begins_trans}
use Rattle.node_seats.specs.declared.view.Marked.{Marked}
use Rattle.node_shared.specs.Home.{IsCheckpointAfter, NodeView}
use Rattle.sigface.specs.Scheme.{Scheme}
use Rattle.wire.specs.Lists.{Begins}
use Rattle.node_run.specs.Flushing.{IsOver, FlushesOnce}
use Rattle.node_run.specs.Rewriting.{length_in, point_of, IsDue, BringsGroup, HasNoRoomToAdd, HasNoRoomToRewrite, IsOneStep, IsRound, HasCheckpoint, RewritesWhereDue, Step, none_due, made, skipped, counted_from, ByTheRule, without_number}
use Rattle.node_run.specs.declared.rule.Rule.{Rule}
use Rattle.node_run.proofs.Flushed.{nothing_left, settles_none, never_ok, stays_up}
use Rattle.node_run.proofs.Moments.{begins_taken, ok_is_up, keeps_on, round_on, ends_on, fails_on, SoFar, Leaves}

-- ---- what is answered

false_or_true : (down : Bool) → (IsTrue down → ⊥) → down ≡ false
false_or_true false not_down = refl
false_or_true true not_down = absurd (not_down refl)

-- a call that ends well is of a node that is up
pub was_up : {D : Type 0} (before later : Flusher D) (count : ℕ) → GoesDown before later (Ok count) → is_down before ≡ false
was_up before later count goes = false_or_true (is_down before) (never_ok (Ok count) count (is_down before) refl goes.down)

-- and leaves it so
pub is_up : {D : Type 0} (before later : Flusher D) (count : ℕ) → GoesDown before later (Ok count) → is_down later ≡ false
is_up before later count goes = stays_up (Ok count) count (is_down before) (is_down later) refl goes.down goes.nothing_else ∙ was_up before later count goes

-- such a call answers so
goes_ok : {D : Type 0} (before later : Flusher D) (count : ℕ) → is_down before ≡ false → is_down later ≡ false → GoesDown before later (Ok count)
goes_ok before later count up still = record {
  down = ((λ bad. absurd (let clash : IsErrOf {T = ℕ} (Ok count) flush.Down = bad in cc)), (λ down. absurd (let bad : true ≡ false = sym down ∙ up in cc)));
  same = λ bad. absurd (let clash : IsErrOf {T = ℕ} (Ok count) flush.Down = bad in cc);
  device = λ bad. absurd (let clash : IsErrOf {T = ℕ} (Ok count) flush.Device = bad in cc);
  full = λ bad. absurd (let clash : IsErrOf {T = ℕ} (Ok count) flush.Full = bad in cc);
  nothing_else = λ down. absurd (let bad : true ≡ false = sym down ∙ still in cc);
}

-- a call after one that ended well fails as it fails alone
goes_err : {D : Type 0} (before mid later : Flusher D) (error : FlushError) → is_down before ≡ false → is_down mid ≡ false → GoesDown mid later (Err error) → GoesDown before later (Err error)
goes_err before mid later error up still goes = record {
  down = ((λ is. absurd (let bad : true ≡ false = sym (goes.down.0 is) ∙ still in cc)), (λ down. absurd (let bad : true ≡ false = sym down ∙ up in cc)));
  same = λ is. absurd (let bad : true ≡ false = sym (goes.down.0 is) ∙ still in cc);
  device = goes.device;
  full = goes.full;
  nothing_else = goes.nothing_else;
}

abbrev pub error_in : Result ℕ FlushError → FlushError
error_in (Ok count) = flush.Memory
error_in (Err error) = error

abbrev count_in : Result ℕ FlushError → ℕ
count_in (Ok count) = count
count_in (Err error) = 0

-- what a round answers that brought so many records, and the checkpoint after it
abbrev answer_of : ℕ → Result ℕ FlushError → Result ℕ FlushError
answer_of count (Ok generation) = Ok count
answer_of count (Err error) = Err error

abbrev pub with_count : ℕ → Result (Unit {0}) FlushError → Result ℕ FlushError
with_count count (Ok none) = Ok count
with_count count (Err error) = Err error

same_answer : (count : ℕ) (answer : Result ℕ FlushError) → answer_of count answer ≡ with_count count (without_number answer)
same_answer count (Ok generation) = refl
same_answer count (Err error) = refl

-- one that has no room is of a node that is up
full_is_up : {D : Type 0} (before later : Flusher D) (round : Result ℕ FlushError) → GoesDown before later round → IsErrOf round flush.Full → is_down before ≡ false
full_is_up before later round goes full = false_or_true (is_down before) (λ down. let bad : flush.Full ≡ flush.Down = ap error_in (sym full ∙ goes.down.1 down) in cc)

-- one for which memory was refused leaves the node up
pub memory_is_up : {D : Type 0} (before later : Flusher D) → GoesDown before later (Err flush.Memory) → is_down later ≡ false
memory_is_up before later goes = false_or_true (is_down later) (λ down. by (goes.nothing_else down))
  where
    by : IsErrOf {T = ℕ} (Err flush.Memory) flush.Device ⊎ IsErrOf {T = ℕ} (Err flush.Memory) flush.Full ⊎ IsErrOf {T = ℕ} (Err flush.Memory) flush.Down → ⊥
    by (inl is) = let bad : flush.Memory ≡ flush.Device = ap error_in is in cc
    by (inr (inl is)) = let bad : flush.Memory ≡ flush.Full = ap error_in is in cc
    by (inr (inr is)) = let bad : flush.Memory ≡ flush.Down = ap error_in is in cc

abbrev unit_error_in : Result (Unit {0}) FlushError → FlushError
unit_error_in (Ok none) = flush.Memory
unit_error_in (Err error) = error

-- which a checkpoint answers as it is told
was_memory : (answer : Result ℕ FlushError) → ◌≡◌ {A = Result (Unit {0}) FlushError} (Err flush.Memory) (without_number answer) → answer ≡ Err flush.Memory
was_memory (Ok generation) is = absurd (let bad : ◌≡◌ {A = Result (Unit {0}) FlushError} (Err flush.Memory) (Ok tt) = is in cc)
was_memory (Err error) is = ap (λ (r : Result (Unit {0}) FlushError). let it : Result ℕ FlushError = Err (unit_error_in r) in it) (sym is)

-- ---- what is brought

more_than : (count old new : ℕ) → (count ≡ 0 → ⊥) → new ≡ old + count → old < new
more_than zero old new some is = absurd (some refl)
more_than (suc n) old new some is = omega (arith, is)

never_more : (old new : List Marked) → length old < length new → new ≡ old → ⊥
never_more old new more is = let bad : length old < length old = subst (λ (l : List Marked). length old < length l) is more in omega (arith, bad)

some_group : (settled all taken : List Marked) → length settled < length taken → ((all ≡ settled) × (taken ≡ settled)) ⊎ IsGroupOf settled all taken → IsGroupOf settled all taken
some_group settled all taken more (inl none) = absurd (never_more settled taken more none.1)
some_group settled all taken more (inr group) = group

-- what was taken is one group more than what was settled
one_group : (seen settled taken : List Marked) → length settled < length taken → TakesLongest seen settled taken → BringsGroup settled taken
one_group seen settled taken more longest =
    let group = some_group settled longest.all taken more longest.takes in
    record { begins = longest.begins; fits = subst FitsGroup group.is group.longest.fits }

-- a round that ends well and brings something brings a group
brings_group : (seen settled taken later : List Marked) (count : ℕ) → (count ≡ 0 → ⊥)
    → IsErrOf {T = ℕ} (Ok count) flush.Down ⊎ IsErrOf {T = ℕ} (Ok count) flush.Memory ⊎ TakesLongest seen settled taken
    → length taken ≡ length settled + count → later ≡ taken → BringsGroup settled later
brings_group seen settled taken later count some (inl down) size is = absurd (let bad : IsErrOf {T = ℕ} (Ok count) flush.Down = down in cc)
brings_group seen settled taken later count some (inr (inl memory)) size is = absurd (let bad : IsErrOf {T = ℕ} (Ok count) flush.Memory = memory in cc)
brings_group seen settled taken later count some (inr (inr longest)) size is =
    subst (BringsGroup settled) (sym is) (one_group seen settled taken (more_than count (length settled) (length taken) some size) longest)

-- one that has no room took a group
took_group : (seen settled taken : List Marked) (round : Result ℕ FlushError) → round ≡ Err flush.Full
    → IsErrOf round flush.Down ⊎ IsErrOf round flush.Memory ⊎ TakesLongest seen settled taken → length settled < length taken → BringsGroup settled taken
took_group seen settled taken round full (inl down) more = absurd (let bad : flush.Full ≡ flush.Down = ap error_in (sym full ∙ down) in cc)
took_group seen settled taken round full (inr (inl memory)) more = absurd (let bad : flush.Full ≡ flush.Memory = ap error_in (sym full ∙ memory) in cc)
took_group seen settled taken round full (inr (inr longest)) more = one_group seen settled taken more longest

-- what isn't 0 is above it
positive : (n : ℕ) → (n ≡ 0 → ⊥) → 0 < n
positive zero some = absurd (some refl)
positive (suc n) some = omega arith

-- a round or a checkpoint that fails for another reason than want of memory leaves the node down
fails_down : {D : Type 0} (before later : Flusher D) (error : FlushError) → (error ≡ flush.Memory → ⊥) → GoesDown before later (Err error) → is_down later ≡ false → ⊥
fails_down before later flush.Memory other goes up = other refl
fails_down before later flush.Device other goes up = let bad : true ≡ false = sym (goes.device refl) ∙ up in cc
fails_down before later flush.Full other goes up = let bad : true ≡ false = sym (goes.full refl) ∙ up in cc
fails_down before later flush.Down other goes up = let bad : true ≡ false = sym (goes.down.0 refl) ∙ ap (λ (f : Flusher _). is_down f) (sym (goes.same refl)) ∙ up in cc

same_points : {D : Type 0} (one other : Flusher D) → journal_of one ≡ journal_of other → settled_in one ≡ settled_in other → point_of one ≡ point_of other
same_points one other journal settled = λ i. record { journal = journal i; settled = settled i }

reports_after : (first mid now : ℕ) (error : FlushError) → mid ≡ first → ReportsFault {T = ℕ} flush.Device mid now (Err error) → ReportsFault {T = ℕ} flush.Device first now (Err error)
reports_after first mid now error same reports =
    (tt, ((λ is. subst (λ (n : ℕ). n < now) same (reports.1.0 is)), (λ not_that. reports.1.1 not_that ∙ same)))

module _ {S D : Type 0} (scheme : Scheme S) (device : Device D) (counts : Counts device) (rule : Rule) (missed : Bool) (before : RoundsView S D) where
  abbrev There : RoundsView S D → RoundsView S D → Type 0
  There first later = KeepsEarlier scheme first.node (settled_in first.flusher) (settled_in later.flusher) (areas_of device (journal_of first.flusher)) (areas_of device (journal_of later.flusher))

  -- what a round settles
  settles_more : (later : RoundsView S D) (round : Result ℕ FlushError) → Flushes scheme device before.node before.flusher later.flusher round
      → (IsErrOf round flush.Down → ⊥) → Begins (settled_in before.flusher) (settled_in later.flusher)
  settles_more later (Ok count) flushes up =
      subst (Begins (settled_in before.flusher)) (sym flushes.settled) (begins_taken (settled_in before.flusher) (taken_in later.flusher) (Ok count) up flushes.takes)
  settles_more later (Err error) flushes up = subst (Begins (settled_in before.flusher)) (sym flushes.not_settled) (begins_same (settled_in before.flusher))

  -- the same of a node that may be down
  settles_any : (later : RoundsView S D) (round : Result ℕ FlushError) → Flushes scheme device before.node before.flusher later.flusher round
      → Begins (settled_in before.flusher) (settled_in later.flusher)
  settles_any later (Ok count) flushes = settles_more later (Ok count) flushes (ok_is_up (Ok count) count refl)
  settles_any later (Err error) flushes = subst (Begins (settled_in before.flusher)) (sym flushes.not_settled) (begins_same (settled_in before.flusher))

  -- a round after which nothing is to be done
  pub once_over : (later : RoundsView S D) (round : Result ℕ FlushError) → IsOver round → later.node ≡ before.node → GoesDown before.flusher later.flusher round
      → IsReportedOf before.seat later.seat round → TakesAndSettles before.seat later.seat before.flusher later.flusher round → ReportsRoom device before.flusher later.flusher round
      → Flushes scheme device before.node before.flusher later.flusher round → IfOk round (λ count. count ≡ 0 → journal_of later.flusher ≡ journal_of before.flusher)
      → (is_down before.flusher ≡ false → IsAlive device (journal_of before.flusher)) → FlushesOnce scheme device rule rule missed before later round
  once_over later round over node down reported settles room flushes nothing alive = record {
    node = node;
    seen = reported.more;
    more = settles_any later round flushes;
    down = down;
    cause = flushes.cause;
    full = λ full. record {
      last = point_of before.flusher;
      last_rule = rule;
      by_rule = ([], (refl, refl));
      alive = subst (IsAlive device) (sym (room.same full)) (alive (full_is_up before.flusher later.flusher round down full));
      lacks = inl (same_points later.flusher before.flusher (room.same full) (as_settled full), no_room full);
    };
    nothing = λ is. nothing_left before.seat.view.seen before.seat.view.seen (settled_in before.flusher) (taken_in later.flusher) (settled_in later.flusher) round is
        (begins_same before.seat.view.seen) settles.takes settles.size settles.settled;
    memory = λ is.
        let same = subst (λ (it : Result ℕ FlushError). OnErr it (settled_in later.flusher ≡ settled_in before.flusher)) is flushes.not_settled in
        ((flushes.memory is).0, same, (flushes.memory is).1 ∙ sym same);
    count = counted round over nothing flushes settles.size settles.settled;
    earlier = there round down flushes;
    any_moment = λ up. round_on scheme device before.node before.node before.flusher before.flusher later.flusher round refl (still up) (begins_same (settled_in before.flusher)) flushes (inl refl);
    at_end = λ done up. ends_on scheme device counts before.node before.node before.flusher before.flusher later.flusher round refl (still up)
        (begins_same (settled_in before.flusher)) flushes (inl refl)
        (settles_no_more round over (still up) flushes settles.size settles.settled);
    by_rule = by round over nothing down flushes settles.size settles.settled;
    pair = λ some is. flushes.disks.1 (some is);
  }
    where
      still : is_down before.flusher ≡ false → IsErrOf round flush.Down → ⊥
      still up is = let bad : true ≡ false = sym (down.down.0 is) ∙ up in cc

      as_settled : IsErrOf round flush.Full → settled_in later.flusher ≡ settled_in before.flusher
      as_settled full = subst (λ (it : Result ℕ FlushError). OnErr it (settled_in later.flusher ≡ settled_in before.flusher)) full flushes.not_settled

      no_room : IsErrOf round flush.Full → HasNoRoomToAdd device (point_of later.flusher) (taken_in later.flusher)
      no_room full =
          let lacks = (room.full (full_is_up before.flusher later.flusher round down full)).0 full in
          record {
            group = subst (λ (l : List Marked). BringsGroup l (taken_in later.flusher)) (sym (as_settled full))
                (took_group before.seat.view.seen (settled_in before.flusher) (taken_in later.flusher) round full settles.takes lacks.some);
            room = subst (λ (l : List Marked). HasNoRoom (device.content (disk_of (journal_of later.flusher))) l (taken_in later.flusher)) (sym (as_settled full))
                (subst (λ (j : Journal D). HasNoRoom (device.content (disk_of j)) (settled_in before.flusher) (taken_in later.flusher)) (sym (room.same full)) lacks);
          }

      there : (it : Result ℕ FlushError) → GoesDown before.flusher later.flusher it → Flushes scheme device before.node before.flusher later.flusher it → is_down later.flusher ≡ false
          → There before later
      there (Ok count) goes flushed up = flushed.earlier
      there (Err error) goes flushed up = fails_on scheme device before.node before.flusher later.flusher (Err error) error refl up goes flushed

      settles_no_more : (it : Result ℕ FlushError) → IsOver it → (IsErrOf it flush.Down → ⊥) → Flushes scheme device before.node before.flusher later.flusher it
          → IfOk it (λ count. length (taken_in later.flusher) ≡ length (settled_in before.flusher) + count) → OnOk it (settled_in later.flusher ≡ taken_in later.flusher)
          → settled_in later.flusher ≡ settled_in before.flusher
      settles_no_more (Ok count) none up flushed size all =
          settles_none (settled_in before.flusher) (taken_in later.flusher) (settled_in later.flusher) (Ok count) (ap (λ (n : ℕ). Ok n) none)
          (begins_taken (settled_in before.flusher) (taken_in later.flusher) (Ok count) up flushed.takes) size all
      settles_no_more (Err error) none up flushed size all = flushed.not_settled

      counted : (it : Result ℕ FlushError) → IsOver it → IfOk it (λ count. count ≡ 0 → journal_of later.flusher ≡ journal_of before.flusher)
          → Flushes scheme device before.node before.flusher later.flusher it → IfOk it (λ count. length (taken_in later.flusher) ≡ length (settled_in before.flusher) + count)
          → OnOk it (settled_in later.flusher ≡ taken_in later.flusher)
          → IfOk it (λ count. IsOneStep device (HasCheckpoint scheme device before.node) rule missed (point_of before.flusher) count rule (point_of later.flusher))
      counted (Ok count) none same flushed size all =
          let settled = settles_no_more (Ok count) none (ok_is_up (Ok count) count refl) flushed size all in
          inl (none, refl, same_points later.flusher before.flusher (same none) settled)
      counted (Err error) none same flushed size all = tt

      by_memory : (error : FlushError) → GoesDown before.flusher later.flusher (Err error) → Flushes scheme device before.node before.flusher later.flusher (Err error)
          → is_down later.flusher ≡ false → journal_of later.flusher ≡ journal_of before.flusher
      by_memory flush.Memory goes flushed up = (flushed.memory refl).0
      by_memory flush.Device goes flushed up = absurd (fails_down before.flusher later.flusher flush.Device (λ is. let bad : flush.Device ≡ flush.Memory = is in cc) goes up)
      by_memory flush.Full goes flushed up = absurd (fails_down before.flusher later.flusher flush.Full (λ is. let bad : flush.Full ≡ flush.Memory = is in cc) goes up)
      by_memory flush.Down goes flushed up = absurd (fails_down before.flusher later.flusher flush.Down (λ is. let bad : flush.Down ≡ flush.Memory = is in cc) goes up)

      by : (it : Result ℕ FlushError) → IsOver it → IfOk it (λ count. count ≡ 0 → journal_of later.flusher ≡ journal_of before.flusher)
          → GoesDown before.flusher later.flusher it → Flushes scheme device before.node before.flusher later.flusher it
          → IfOk it (λ count. length (taken_in later.flusher) ≡ length (settled_in before.flusher) + count) → OnOk it (settled_in later.flusher ≡ taken_in later.flusher)
          → is_down later.flusher ≡ false → ByTheRule device (HasCheckpoint scheme device before.node) rule missed (point_of before.flusher) rule (point_of later.flusher)
      by (Ok count) none same goes flushed size all = λ up.
          let settled = settles_no_more (Ok count) none (ok_is_up (Ok count) count refl) flushed size all in
          ([], (refl, same_points later.flusher before.flusher (same none) settled))
      by (Err error) none same goes flushed size all = λ up. ([], (refl, same_points later.flusher before.flusher (by_memory error goes flushed up) flushed.not_settled))

  -- a round that brought something, and then a checkpoint if one is due
  module _ (mid later : RoundsView S D) (later_rule : Rule) (count : ℕ) (node : mid.node ≡ before.node) (goes : GoesDown before.flusher mid.flusher (Ok count))
      (seen : Begins before.seat.view.seen mid.seat.view.seen) (settles : TakesAndSettles before.seat mid.seat before.flusher mid.flusher (Ok count))
      (flushes : Flushes scheme device before.node before.flusher mid.flusher (Ok count))
      (same_area : spare_of (journal_of mid.flusher) ≡ spare_of (journal_of before.flusher)) (adds : 0 < count → AddsSettled device before.flusher mid.flusher) where
    up : is_down before.flusher ≡ false
    up = was_up before.flusher mid.flusher count goes

    still_up : is_down mid.flusher ≡ false
    still_up = is_up before.flusher mid.flusher count goes

    more : Begins (settled_in before.flusher) (settled_in mid.flusher)
    more = settles_any mid (Ok count) flushes

    so_far : SoFar scheme device before.node before.flusher mid.flusher
    so_far = inr (
      round_on scheme device before.node before.node before.flusher before.flusher mid.flusher (Ok count) refl (ok_is_up (Ok count) count refl)
          (begins_same (settled_in before.flusher)) flushes (inl refl),
      flushes.earlier,
    )

    brings : (count ≡ 0 → ⊥) → BringsGroup (settled_in before.flusher) (settled_in mid.flusher)
    brings some = brings_group before.seat.view.seen (settled_in before.flusher) (taken_in mid.flusher) (settled_in mid.flusher) count some settles.takes settles.size settles.settled

    by_round : (count ≡ 0 → ⊥) → IsRound device (point_of before.flusher) (point_of mid.flusher)
    by_round some = record { adds = adds (positive count some); same_area = same_area; brings = brings some }

    size : length (settled_in mid.flusher) ≡ length (settled_in before.flusher) + count
    size = subst (λ (l : List Marked). length l ≡ length (settled_in before.flusher) + count) (sym settles.settled) settles.size

    has_checkpoint : IsAtCheckpoint scheme device mid.node later.flusher → HasCheckpoint scheme device before.node (point_of later.flusher)
    has_checkpoint writes = record {
      records = writes.records;
      checkpoint = subst (λ (n : NodeView S). IsCheckpointAfter scheme n (settled_in later.flusher) writes.records) node writes.checkpoint;
      content = writes.content;
    }

    some_spare : (IsSome rule.every → IsSome (spare_of (journal_of before.flusher))) → IsSome rule.every → IsSome (spare_of (journal_of mid.flusher))
    some_spare pair is = flushes.disks.1 (pair is)

    -- none is due
    once_alone : (IsDue rule (length_in device (journal_of mid.flusher)) → ⊥) → (count ≡ 0 → ⊥) → FlushesOnce scheme device rule rule missed before mid (Ok count)
    once_alone not_due some = record {
      node = node;
      seen = seen;
      more = more;
      down = goes;
      cause = flushes.cause;
      full = λ bad. absurd (let clash : IsErrOf {T = ℕ} (Ok count) flush.Full = bad in cc);
      nothing = λ is. absurd (some (ap count_in is));
      memory = λ bad. absurd (let clash : IsErrOf {T = ℕ} (Ok count) flush.Memory = bad in cc);
      count = inr (record { grown = point_of mid.flusher; followed = none_due }, record { round = by_round some; follows = not_due }, size, refl, refl);
      earlier = λ _. flushes.earlier;
      any_moment = λ _. leaves_of so_far;
      at_end = λ none _. absurd (some none);
      by_rule = λ _. (
        record { grown = point_of mid.flusher; followed = none_due } ∷ [],
        (
          record { round = by_round some; follows = not_due },
          (refl, refl),
        ),
      );
      pair = some_spare;
    }
      where
        leaves_of : SoFar scheme device before.node before.flusher mid.flusher → Leaves scheme device before.node before.flusher mid.flusher
        leaves_of (inl same) = round_on scheme device before.node before.node before.flusher before.flusher mid.flusher (Ok count) refl (ok_is_up (Ok count) count refl)
            (begins_same (settled_in before.flusher)) flushes (inl refl)
        leaves_of (inr leaves) = leaves.0

    -- one was due, and was taken, or failed for another reason than that memory was refused
    once_checkpoint : (answer : Result ℕ FlushError) → (answer ≡ Err flush.Memory → ⊥) → (count ≡ 0 → ⊥) → IsDue rule (length_in device (journal_of mid.flusher))
        → later.node ≡ mid.node → GoesDown mid.flusher later.flusher answer
        → IsReportedOf mid.seat later.seat answer → Flushes scheme device mid.node mid.flusher later.flusher answer → OnOk answer (HaveChangedPlaces (journal_of mid.flusher)
        (journal_of later.flusher))
        → OnOk answer (IsAtCheckpoint scheme device mid.node later.flusher) → OnOk answer (later_rule ≡ counted_from device rule (journal_of later.flusher)) → OnErr answer (later_rule ≡ rule)
        → (IsErrOf answer flush.Full
        → (journal_of later.flusher ≡ journal_of mid.flusher) × IsAlive device (journal_of later.flusher)
        × HasNoRoomToRewrite (IsCheckpointAfter scheme mid.node) (point_of later.flusher) (taken_in later.flusher))
        → FlushesOnce scheme device rule later_rule missed before later (answer_of count answer)
    once_checkpoint (Ok generation) not_memory some due later_node later_goes reported taken swapped writes counted kept full =
        let later_up = is_up mid.flusher later.flusher generation later_goes in
        let no_down = ok_is_up (Ok generation) generation refl in
        let more_later = subst (Begins (settled_in mid.flusher)) (sym taken.settled) (begins_taken (settled_in mid.flusher) (taken_in later.flusher) (Ok generation) no_down taken.takes) in
        record {
          node = later_node ∙ node;
          seen = begins_trans before.seat.view.seen mid.seat.view.seen later.seat.view.seen seen reported.more;
          more = begins_trans (settled_in before.flusher) (settled_in mid.flusher) (settled_in later.flusher) more more_later;
          down = goes_ok before.flusher later.flusher count up later_up;
          cause = (taken.cause.0 ∙ flushes.cause.0, tt);
          full = λ bad. absurd (let clash : IsErrOf {T = ℕ} (Ok count) flush.Full = bad in cc);
          nothing = λ is. absurd (some (ap count_in is));
          memory = λ bad. absurd (let clash : IsErrOf {T = ℕ} (Ok count) flush.Memory = bad in cc);
          count = inr (
            record { grown = point_of mid.flusher; followed = made (point_of later.flusher) },
            record { round = by_round some; follows = (due, swapped, more_later, has_checkpoint writes) },
            size,
            counted,
            refl,
          );
          earlier = λ _. keeps_on scheme device before.node mid.node before.flusher mid.flusher later.flusher node flushes.earlier taken.earlier;
          any_moment = λ _. round_on scheme device before.node mid.node before.flusher mid.flusher later.flusher (Ok generation) node no_down more taken so_far;
          at_end = λ none _. absurd (some none);
          by_rule = λ _.
              let step : Step D = record { grown = point_of mid.flusher; followed = made (point_of later.flusher) } in
              (step ∷ [], (record { round = by_round some; follows = (due, swapped, more_later, has_checkpoint writes) }, (counted, refl)));
          pair = λ pair is. taken.disks.1 (some_spare pair (subst (λ (r : Rule). IsSome r.every) counted is));
        }
    once_checkpoint (Err error) not_memory some due later_node later_goes reported taken swapped writes counted kept full =
        let no_down : IsErrOf {T = ℕ} (Err error) flush.Down → ⊥ = λ is. (let bad : true ≡ false = sym (later_goes.down.0 is) ∙ still_up in cc) in
        record {
          node = later_node ∙ node;
          seen = begins_trans before.seat.view.seen mid.seat.view.seen later.seat.view.seen seen reported.more;
          more = subst (Begins (settled_in before.flusher)) (sym taken.not_settled) more;
          down = goes_err before.flusher mid.flusher later.flusher error up still_up later_goes;
          cause = reports_after (faults_in device (store_of (journal_of before.flusher))) (faults_in device (store_of (journal_of mid.flusher)))
              (faults_in device (store_of (journal_of later.flusher))) error flushes.cause.0 taken.cause;
          full = λ is.
              let it = full is in
              record {
                last = point_of before.flusher;
                last_rule = rule;
                by_rule = ([], (refl, refl));
                alive = it.1;
                lacks = inr (
                  subst (IsRound device (point_of before.flusher)) (sym (same_points later.flusher mid.flusher it.0 taken.not_settled)) (by_round some),
                  subst (λ (j : Journal D). IsDue rule (length_in device j)) (sym it.0) due,
                  subst (λ (n : NodeView S). HasNoRoomToRewrite (IsCheckpointAfter scheme n) (point_of later.flusher) (taken_in later.flusher)) node it.2,
                );
              };
          nothing = λ is. absurd (let bad : ◌≡◌ {A = Result ℕ FlushError} (Err error) (Ok 0) = is in cc);
          memory = λ is. absurd (not_memory is);
          count = tt;
          earlier = λ later_up. keeps_on scheme device before.node mid.node before.flusher mid.flusher later.flusher node flushes.earlier
              (fails_on scheme device mid.node mid.flusher later.flusher (Err error) error refl later_up later_goes taken);
          any_moment = λ _. round_on scheme device before.node mid.node before.flusher mid.flusher later.flusher (Err error) node no_down more taken so_far;
          at_end = λ _ _. ends_on scheme device counts before.node mid.node before.flusher mid.flusher later.flusher (Err error) node no_down more taken so_far taken.not_settled;
          by_rule = λ later_up. absurd (fails_down mid.flusher later.flusher error (λ is. not_memory (ap (λ (e : FlushError). Err e) is)) later_goes later_up);
          pair = λ pair is. taken.disks.1 (some_spare pair (subst (λ (r : Rule). IsSome r.every) kept is));
        }

    -- one was due, and memory was refused for it
    once_missed : (count ≡ 0 → ⊥) → IsDue rule (length_in device (journal_of mid.flusher)) → later.node ≡ mid.node → GoesDown mid.flusher later.flusher (Err flush.Memory)
        → IsReportedOf mid.seat later.seat (Err flush.Memory)
        → Flushes scheme device mid.node mid.flusher later.flusher (Err flush.Memory) → later_rule ≡ rule → missed ≡ true → FlushesOnce scheme device rule later_rule missed before later (Ok count)
    once_missed some due later_node later_goes reported taken kept marked =
        let later_up = memory_is_up mid.flusher later.flusher later_goes in
        let no_down : IsErrOf {T = ℕ} (Err flush.Memory) flush.Down → ⊥ = λ is. (let bad : flush.Memory ≡ flush.Down = ap error_in is in cc) in
        record {
          node = later_node ∙ node;
          seen = begins_trans before.seat.view.seen mid.seat.view.seen later.seat.view.seen seen reported.more;
          more = subst (Begins (settled_in before.flusher)) (sym taken.not_settled) more;
          down = goes_ok before.flusher later.flusher count up later_up;
          cause = (taken.cause.1.1 (λ is. let bad : flush.Memory ≡ flush.Device = is in cc) ∙ flushes.cause.0, tt);
          full = λ bad. absurd (let clash : IsErrOf {T = ℕ} (Ok count) flush.Full = bad in cc);
          nothing = λ is. absurd (some (ap count_in is));
          memory = λ bad. absurd (let clash : IsErrOf {T = ℕ} (Ok count) flush.Memory = bad in cc);
          count = inr (
            record { grown = point_of mid.flusher; followed = skipped },
            record { round = by_round some; follows = (due, marked) },
            size,
            kept,
            same_points later.flusher mid.flusher (taken.memory refl).0 taken.not_settled,
          );
          earlier = λ _. keeps_on scheme device before.node mid.node before.flusher mid.flusher later.flusher node flushes.earlier
              (fails_on scheme device mid.node mid.flusher later.flusher (Err flush.Memory) flush.Memory refl later_up later_goes taken);
          any_moment = λ _. round_on scheme device before.node mid.node before.flusher mid.flusher later.flusher (Err flush.Memory) node no_down more taken so_far;
          at_end = λ none _. absurd (some none);
          by_rule = λ _.
              let step : Step D = record { grown = point_of mid.flusher; followed = skipped } in
              let same = same_points later.flusher mid.flusher (taken.memory refl).0 taken.not_settled in
              (step ∷ [], (record { round = by_round some; follows = (due, marked) }, (kept, same)));
          pair = λ pair is. taken.disks.1 (some_spare pair (subst (λ (r : Rule). IsSome r.every) kept is));
        }

    pub once_both : (result : Result (Unit {0}) FlushError) → (result ≡ Err flush.Memory → ⊥) → (count ≡ 0 → ⊥) → RewritesWhereDue scheme device rule later_rule mid later result
        → FlushesOnce scheme device rule later_rule missed before later (with_count count result)
    once_both result not_memory some (inl (due, it)) =
        subst (λ (r : Result (Unit {0}) FlushError). FlushesOnce scheme device rule later_rule missed before later (with_count count r)) (sym it.answered)
        (subst (FlushesOnce scheme device rule later_rule missed before later) (same_answer count it.answer)
        (once_checkpoint it.answer (λ is. not_memory (it.answered ∙ ap without_number is)) some due it.node it.down it.reported it.flushes it.swapped it.writes it.counts it.keeps it.full))
    once_both result not_memory some (inr (not_due, ok, same, same_rule)) =
        subst (λ (r : Result (Unit {0}) FlushError). FlushesOnce scheme device rule later_rule missed before later (with_count count r)) (sym ok)
        (subst (λ (l : RoundsView S D). FlushesOnce scheme device rule later_rule missed before l (Ok count)) (sym same)
        (subst (λ (r : Rule). FlushesOnce scheme device rule r missed before mid (Ok count)) (sym same_rule) (once_alone not_due some)))

    pub once_without : (result : Result (Unit {0}) FlushError) → result ≡ Err flush.Memory → missed ≡ true → (count ≡ 0 → ⊥) → RewritesWhereDue scheme device rule later_rule mid later result
        → FlushesOnce scheme device rule later_rule missed before later (Ok count)
    once_without result memory marked some (inl (due, it)) =
        let same = was_memory it.answer (sym memory ∙ it.answered) in
        once_missed some due it.node (subst (GoesDown mid.flusher later.flusher) same it.down) (subst (IsReportedOf mid.seat later.seat) same it.reported)
        (subst (Flushes scheme device mid.node mid.flusher later.flusher) same it.flushes) (subst (λ (a : Result ℕ FlushError). OnErr a (later_rule ≡ rule)) same it.keeps) marked
    once_without result memory marked some (inr it) = absurd (let bad : ◌≡◌ {A = Result (Unit {0}) FlushError} (Err flush.Memory) (Ok tt) = sym memory ∙ it.1 in cc)
