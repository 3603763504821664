-- What the calls of a desk answer, in its world.
use Rattle.std.proofs.Common.{◌≡◌, ◌≢◌, ◌⊎◌, ℕ, ◌+◌, ◌^◌, ◌<◌, Bool, true, false, inl, inr, List, [], ◌∷◌, length, take, arith, Result, Ok, Err, refl, sym, ap, ◌∙◌, subst}
use Rattle.std.specs.Prelude.{IfOk, IfErr, OnOk, OnErr, IsErrOf, IsSome, IsTrue, ◌↔◌, Option, Some, None, IfSome, is_some, drop, if◌then◌else◌}
use Rattle.std.proofs.lemmas.Bool.{cases_Bool}
use Rattle.book.specs.Book as book
use Rattle.book.specs.Checkpoints.{Checkpoints, FailsToRewrite, FindsNoRoomToRewrite, GoesDownRewriting, StandsAsOrForAll}
use Rattle.book.specs.InFlight.{Flushes, FindsNoRoom, FailsWithRoom, IsWithOrWithout}
use Rattle.book.specs.Queue.{settled_head}
use Rattle.book.specs.Steps as steps
use Rattle.book.specs.declared.book.Receipt.{Receipt}
use Rattle.book.specs.declared.own.error.FlushError.{FlushError}
use Rattle.book.specs.declared.own.error.FlushError.TheVariants as errors
use Rattle.journal.specs.Areas.{Areas}
use Rattle.journal.specs.Journal.{disk_of, spare_of, IsAlive}
use Rattle.journal.specs.Pairs.{HaveKeptPlaces, generation_in, rewritten_disk, untouched_disk}
use Rattle.journal.specs.declared.journal.Journal.{Journal}
use Rattle.spec_model.specs.Nodes.{Node}
use Rattle.spec_model.specs.Words.{Event, Output}
use Rattle.header.specs.declared.refusal.Refusal.{Refusal}
use Rattle.header.specs.declared.refusal.Refusal.TheVariants as refusals
use Rattle.spec_machine.specs.After.{after_all}
use Rattle.spec_model.specs.Giving.{kept as kept_in}
use Rattle.spec_model.specs.Histories.{History}
use Rattle.spec_world.specs.World.{World, taken_in}
use Rattle.spec_world.specs.Runs.{AreKeys, SnapshotsAreCheckpoints}
use Rattle.spec_world.specs.Steps.{accept, take_to, device_call, settle, release, read_order, take_all}
use Rattle.desk.specs.Desk.{DeskView, IsSound, IsLeft}
use Rattle.desk.specs.Disks.{AreReadAs}
use Rattle.desk.specs.AtWorld.{IsAt, LeadsTo, CheckpointsAt}
use Rattle.desk.proofs.Checkpoints.{checkpoints, goes_down as takes_all}
use Rattle.desk.proofs.Found.{none_taken}
use Rattle.desk.proofs.Reading.{durable_beside, left_beside}
use Rattle.desk.proofs.Standing.{read_either, left_durable}
use Rattle.desk.proofs.Worlds.{accepts, releases, reads, flushes, goes_down}
use Rattle.diskmodel.specs.Disk.{Device}

not_true : (b : Bool) → (b ≡ true → ⊥) → b ≡ false
not_true b never = elim (cases_Bool b) [ inl so ↦ absurd (never so) | inr off ↦ off ]

-- only a desk that is up answers otherwise than Down
pub up_where : {T : Type 0} (answer : Result T Refusal) (down : Bool) → (IsErrOf answer refusals.Down ↔ IsTrue down) → (IsErrOf answer refusals.Down → ⊥) → down ≡ false
up_where answer down same never = not_true down (λ so. never (same.1 so))

module _ {S D : Type 0} (node : Node) (device : Device D) (before later : DeskView S D) where
  pub accept_step : steps.AcceptIsAStep S → (event : Event) (answer : Result Receipt Refusal) → (IsErrOf answer refusals.Down ↔ IsTrue before.book.down)
      → IfOk answer (λ receipt. receipt.new ≡ true → book.TakesNew node before.book later.book event) → IfOk answer (λ receipt. receipt.new ≡ false → book.TakesKnown node before.book later.book event)
      → later.journal ≡ before.journal → OnOk answer ((world : World) → IsAt node device world before → LeadsTo node device world (accept event ∷ []) later)
  accept_step law event (Err error) down new known same = tt
  accept_step law event (Ok receipt) down new known same = λ world is.
      let up : before.book.down ≡ false = not_true before.book.down (λ so. let bad = down.1 so in absurd cc) in
      elim (cases_Bool receipt.new) [
        | inl so ↦ (let takes = new so in accepts node device world before is up law later event (inl takes) (takes.down ∙ up) same)
        | inr off ↦ (let takes = known off in accepts node device world before is up law later event (inr takes) (ap (λ (b : book.BookView S). b.down) takes.is ∙ up) same)
      ]

  pub release_step : steps.ReleaseIsAStep S → (answer : Option Output) → answer ≡ book.releasable before.book → later.book
      ≡ (if is_some answer then record before.book { queue = drop 1 before.book.queue } else before.book)
      → ((run : book.Run) → book.Stands node run before.book → book.Stands node run later.book) → later.journal ≡ before.journal
      → IfSome answer (λ output. (world : World) → IsAt node device world before → (ticket : ℕ) × LeadsTo node device world (release (record { ticket = ticket; output = output }) ∷ []) later)
  release_step law None is queue stands same = tt
  release_step law (Some output) is queue stands same = λ world at.
      let up : before.book.down ≡ false = not_true before.book.down (λ so. none_down before.book so output (sym is)) in
      releases node device world before at up law later output (sym is) queue stands same
    where
      none_down : (b : book.BookView S) → b.down ≡ true → (o : Output) → book.releasable b ≡ Some o → ⊥
      none_down b so o may = let none : ◌≡◌ {A = Option Output} None (Some o) = sym (ap (λ (d : Bool). if d then None else settled_head b.settled b.queue) so) ∙ may in cc

  pub flush_steps : steps.FlushIsSteps S → before.book.down ≡ false → IsSound device before → spare_of later.journal ≡ spare_of before.journal → (answer : Result ℕ FlushError)
      → IfOk answer (λ count. before.book.pending ≢ [] → Flushes node before.book later.book (device.content (disk_of before.journal))
      (device.content (disk_of later.journal)) count) → OnOk answer (IsAlive device later.journal)
      → IfOk answer (λ count. before.book.pending ≢ [] → (world : World) → IsAt node device world before
      → LeadsTo node device world (take_to (length world.settled + count) ∷ device_call ∷ device_call ∷ device_call ∷ device_call ∷ settle ∷ []) later)
  flush_steps law up sound spare (Err error) flushed alive = tt
  flush_steps law up sound spare (Ok count) flushed alive = λ some world is.
      flushes node device world before is up (sound.alive up) (sound.begun up) later spare law (device.content (disk_of before.journal))
      (device.content (disk_of later.journal)) count refl refl (flushed some) alive

  pub flush_fails : steps.FailIsAStep S → before.book.down ≡ false → IsSound device before → spare_of later.journal ≡ spare_of before.journal → (answer : Result ℕ FlushError)
      → (IsErrOf answer errors.Full → FindsNoRoom node before.book later.book (device.content (disk_of before.journal)))
      → (IsErrOf answer errors.Full → later.journal ≡ before.journal)
      → (IsErrOf answer errors.Device → FailsWithRoom node before.book later.book (device.content (disk_of before.journal)))
      → ((bytes : List ℕ) → device.outcome (disk_of later.journal) bytes → IsWithOrWithout before.book.pending (device.content (disk_of before.journal)) bytes)
      → IfErr answer (λ error. (error ≡ errors.Full) ⊎ (error ≡ errors.Device) → (world : World) → IsAt node device world before → (count : ℕ) × LeadsTo node device world (take_to count ∷ []) later)
  flush_fails law up sound spare (Ok count) full same fails left = tt
  flush_fails law up sound spare (Err error) full same fails left = fails_as
    where
      fails_as : (error ≡ errors.Full) ⊎ (error ≡ errors.Device) → (world : World) → IsAt node device world before → (count : ℕ) × LeadsTo node device world (take_to count ∷ []) later
      fails_as (inl is_full) world is =
          let found = full (ap (λ (e : FlushError). Err e) is_full) in
          let kept = same (ap (λ (e : FlushError). Err e) is_full) in
          let run = steps.run_of node world in
          let left = subst (IsLeft node device run) (sym kept) (left_durable node device run before.journal (is.is_of.up up).read_as (sound.alive up)) in
          goes_down node device world before is up (sound.alive up) (sound.begun up) later spare law found.0 (λ areas may.
          elim (left areas may) [
            | inl so ↦ inl so
            | inr with_it ↦ inl (subst (λ (l : History). AreReadAs node areas (after_all node (kept_in node world.began) l)) (none_taken world (is.idle up)) with_it)
          ])
      fails_as (inr is_device) world is =
          let found = fails (ap (λ (e : FlushError). Err e) is_device) in
          goes_down node device world before is up (sound.alive up) (sound.begun up) later spare law found.0 (λ areas may.
          let one = left_beside device later.journal (spare_of before.journal) areas spare (durable_beside device before.journal (sound.alive up)) may in
          let either = read_either node device world before.book before.journal is.is_of_world (is.is_of.up up) (sound.alive up) (sound.begun up) found.0.group
          later.book.pending found.0.takes one.live (left one.live one.may) in
          subst (λ (a : Areas). AreReadAs node a (book.settled_in node (steps.run_of node world))
          ⊎ AreReadAs node a (after_all node (kept_in node world.began) (take (length (taken_in world) + length found.0.group) world.accepted))) (sym one.are) either)

  -- ---- a checkpoint

  pub checkpoint_steps : steps.CheckpointIsSteps S → before.book.down ≡ false → IsSome (spare_of before.journal) → (answer : Result ℕ FlushError)
      → IfOk answer (λ generation. Checkpoints node device before.book later.book before.journal later.journal) → OnOk answer (IsAlive device later.journal)
      → IfOk answer (λ generation. generation < 2 ^ 64) → IfOk answer (λ generation. generation ≡ generation_in later.journal)
      → OnOk answer (AreKeys node → (world : World) → IsAt node device world before → CheckpointsAt node device world later)
  checkpoint_steps law up two (Err error) made alive fits answer = tt
  checkpoint_steps law up two (Ok generation) made alive fits answer = λ keys world is.
      checkpoints node device world before is up two later law made alive keys (omega (arith, fits, answer, made.swapped.generation))

  pub checkpoint_fails : steps.TakeAllIsAStep S → SnapshotsAreCheckpoints → before.book.down ≡ false → IsSound device before → IsSome (spare_of before.journal) → (answer : Result ℕ FlushError)
      → (IsErrOf answer errors.Full → FindsNoRoomToRewrite node before.book later.book before.journal) → (IsErrOf answer errors.Device → FailsToRewrite node before.book later.book before.journal)
      → untouched_disk answer later.journal ≡ disk_of before.journal → OnErr answer (HaveKeptPlaces before.journal later.journal)
      → ((left : List ℕ) → device.outcome (rewritten_disk answer later.journal) left → StandsAsOrForAll node device before.book before.journal left)
      → IfErr answer (λ error. (error ≡ errors.Full) ⊎ (error ≡ errors.Device) → AreKeys node → generation_in before.journal + 1 < 2 ^ 64 → (world : World) → IsAt node device world before
      → (bytes : List ℕ) × LeadsTo node device world (take_all bytes ∷ []) later)
  checkpoint_fails law written up sound two (Ok generation) full fails untouched places left = tt
  checkpoint_fails law written up sound two (Err error) full fails untouched places left = fails_as
    where
      as_down : GoesDownRewriting node before.book later.book → AreKeys node → generation_in before.journal + 1 < 2 ^ 64 → (world : World) → IsAt node device world before
          → (bytes : List ℕ) × LeadsTo node device world (take_all bytes ∷ []) later
      as_down down keys fits world is = takes_all node device world before is up two later law written down (sound.alive up) untouched places left keys fits

      fails_as : (error ≡ errors.Full) ⊎ (error ≡ errors.Device) → AreKeys node → generation_in before.journal + 1 < 2 ^ 64 → (world : World) → IsAt node device world before
          → (bytes : List ℕ) × LeadsTo node device world (take_all bytes ∷ []) later
      fails_as (inl is_full) = as_down (full (ap (λ (e : FlushError). Err e) is_full)).0
      fails_as (inr is_device) = as_down (fails (ap (λ (e : FlushError). Err e) is_device)).0

-- at Ok a journal is alive
pub alive_at_ok : {D : Type 0} (device : Device D) (journal : Journal D) (answer : Result ℕ FlushError) → IsErrOf answer errors.Device ⊎ IsAlive device journal
    → OnOk answer (IsAlive device journal)
alive_at_ok device journal (Err error) either = tt
alive_at_ok device journal (Ok count) (inl failed) = absurd cc
alive_at_ok device journal (Ok count) (inr alive) = alive

-- the settled order was read
pub order_step : {S D T : Type 0} (node : Node) (device : Device D) (desk : DeskView S D) (answer : Result T Refusal) → (IsErrOf answer refusals.Down ↔ IsTrue desk.book.down)
    → OnOk answer ((world : World) → IsAt node device world desk → LeadsTo node device world (read_order ∷ []) desk)
order_step node device desk (Err error) down = tt
order_step {S} {D} {T} node device desk (Ok digests) down = λ world is. reads node device world desk is (not_true desk.book.down (λ so. let bad = down.1 so in absurd cc))
