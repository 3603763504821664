-- What a stop leaves of a desk is found again in its world.
use Rattle.std.proofs.Common.{◌≡◌, ◌⊎◌, false, inl, inr, List, [], ◌++◌, refl, subst}
use Rattle.std.proofs.lemmas.Bool.{cases_Bool}
use Rattle.book.specs.Book as book
use Rattle.book.specs.Steps as steps
use Rattle.diskmodel.specs.Disk.{Device}
use Rattle.journal.specs.Areas.{Areas}
use Rattle.spec_machine.specs.After.{after_all}
use Rattle.spec_model.specs.Giving.{kept as kept_in}
use Rattle.spec_model.specs.Histories.{History}
use Rattle.spec_model.specs.Nodes.{Node}
use Rattle.spec_world.specs.Runs.{device_calls, spare_calls}
use Rattle.spec_world.specs.Steps.{Move, Leads}
use Rattle.spec_world.specs.World.{World, taken_in}
use Rattle.desk.specs.AtWorld.{HasTaken, HasTakenAll, HasInFlight, a_group, a_checkpoint, IsAt}
use Rattle.desk.specs.Desk.{DeskView, taken_in as taken_state}
use Rattle.desk.specs.Disks.{AreReadAs, MayLeave}
use Rattle.desk.proofs.Found.{none_taken, IsFoundAgain, idle_found, taken_found, taken_all_found, calls_four, calls_eight}
use Rattle.desk.proofs.Standing.{IsWithin, within, settled_within}

-- at once, or after the device calls of what was in flight
pub record IsFoundAfter (node : Node) (world : World) (areas : Areas) : Type 0 where
  pub calls : List Move
  pub are : (calls ≡ []) ⊎ (calls ≡ device_calls 4) ⊎ (calls ≡ spare_calls 8)
  pub next : World
  pub leads : Leads node world calls next
  pub history : History
  pub found : IsFoundAgain node next history
  pub reads : AreReadAs node areas (kept_in node history)

module _ {S D : Type 0} (node : Node) (device : Device D) (world : World) (before : DeskView S D) (is : IsAt node device world before) (areas : Areas)
    (may : MayLeave device before.journal areas) where
  abbrev run : book.Run
  run = steps.run_of node world

  taken : IsWithin node world (taken_in world)
  taken = within node world before.book is.is_of_world (taken_in world) is.is_of_world.stands.taken_begins

  at_once : AreReadAs node areas (book.settled_in node run) → IsFoundAgain node world (world.began ++ world.settled) → IsFoundAfter node world areas
  at_once reads again = record {
    calls = [];
    are = inl refl;
    next = world;
    leads = refl;
    history = world.began ++ world.settled;
    found = again;
    reads = subst (AreReadAs node areas) (settled_within node world before.book is.is_of_world).keeps reads;
  }

  with_all : AreReadAs node areas (taken_state node run) → AreReadAs node areas (kept_in node (world.began ++ taken_in world))
  with_all = subst (AreReadAs node areas) taken.keeps

  by_group : HasTaken node world → IsFoundAfter node world areas
  by_group has = elim (is.is_of.left areas may) [
    | inl so ↦ at_once so (taken_found node is.moves world is.sound is.run has)
    | inr with_it ↦
        let four = calls_four node is.moves world is.sound is.run has in
        record { calls = device_calls 4; are = inr (inl refl); next = four.next; leads = four.leads; history = world.began ++ taken_in world; found = four.found; reads = with_all with_it }
  ]

  by_checkpoint : HasTakenAll node world → IsFoundAfter node world areas
  by_checkpoint has = elim (is.is_of.left areas may) [
    | inl so ↦ at_once so (taken_all_found node is.moves world is.sound is.run has)
    | inr with_it ↦
        let eight = calls_eight node is.moves world is.sound is.run has in
        record { calls = spare_calls 8; are = inr (inr refl); next = eight.next; leads = eight.leads; history = world.began ++ taken_in world; found = eight.found; reads = with_all with_it }
  ]

  pub stop_found : IsFoundAfter node world areas
  stop_found = elim (cases_Bool before.book.down) [ inl so ↦ by_flight (is.in_flight so) | inr off ↦ up off ]
    where
      by_flight : HasInFlight node world before.journal → IsFoundAfter node world areas
      by_flight (a_group has) = by_group has
      by_flight (a_checkpoint two has) = by_checkpoint has

      up : before.book.down ≡ false → IsFoundAfter node world areas
      up off =
          let idle = is.idle off in
          let again = idle_found node is.moves world is.sound is.run idle in
          elim (is.is_of.left areas may) [
            | inl so ↦ at_once so again
            | inr with_it ↦ at_once (subst (λ (l : History). AreReadAs node areas (after_all node (kept_in node world.began) l)) (none_taken world idle) with_it) again
          ]
