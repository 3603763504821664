-- What an opening of one disk answers and leaves, said as of one disk or of two.
use Rattle.std.proofs.Common.{◌≡◌, ◌≢◌, ◌<◌, ℕ, inl, List, [], Option, Some, None, Result, Ok, Err, sym, ap, ◌∙◌, subst}
use Rattle.std.specs.Prelude.{◌⊎◌, IsSome}
use Rattle.std.specs.Option.{option_map_or}
use Rattle.diskmodel.specs.Disk.{AtEachMoment, Device as Disks}
use Rattle.journal.specs.Areas.{Areas, alone, pair_of, stands_in}
use Rattle.journal.specs.Format.{stands}
use Rattle.journal.specs.Journal.{disk_of, spare_of, IsAlive, IsClosedUp}
use Rattle.journal.specs.Pairs.{two, spare_disk, areas_of, store_of}
use Rattle.journal.specs.Spares.{by_area}
use Rattle.journal.specs.Stores.{faults_in}
use Rattle.journal.specs.declared.error.Failed.{Failed}
use Rattle.journal.specs.declared.error.JournalError.{JournalError}
use Rattle.journal.specs.declared.error.JournalError.TheVariants.{Device}
use Rattle.journal.specs.declared.journal.Journal.{Journal}
use Rattle.journal.specs.declared.spare.Spare.{Spare}
use Rattle.journal.specs.declared.store.Store.{Store}
use Rattle.journal.specs.declared.store.Store.TheVariants.{One}
use Rattle.sigface.specs.Scheme.{Scheme}
use Rattle.spec_model.specs.Giving.{kept}
use Rattle.spec_model.specs.Nodes.{Node}
use Rattle.spec_world.specs.World.{Holds}
use Rattle.validator.specs.Setting.{ConfigView, node_of}
use Rattle.validator.specs.Standing.{ValidatorView}
use Rattle.opening.specs.Laws.{StandsForAt, HoldsAt, KeepsStates, KeepsAlone, IsOpening, IsOpeningOn, IsOpenedIn}
use Rattle.opening.specs.Renewing.{KeepsStatesIn}
use Rattle.opening.specs.Stages.{IsDecodedThroughout}
use Rattle.opening.specs.Decoded.{decoded, decoded_in, StandsAt}
use Rattle.opening.proofs.Laws.{alone_stands}

areas_by : {D : Type 0} (device : Disks D) (live : D) (spare : Option (Spare D)) → spare ≡ None
    → option_map_or (λ (s : Spare D). pair_of s.side (device.content live) (device.content (option_map_or (λ (t : Spare D). t.disk) spare live))) spare (alone (device.content live))
    ≡ alone (device.content live)
areas_by {D} device live spare none =
    ap (λ (o : Option (Spare D)). option_map_or (λ (s : Spare D). pair_of s.side (device.content live) (device.content (option_map_or (λ (t : Spare D). t.disk) spare live))) o
    (alone (device.content live))) none

-- a journal on one disk
areas_alone : {D : Type 0} (device : Disks D) (journal : Journal D) → spare_of journal ≡ None → areas_of device journal ≡ alone (device.content (disk_of journal))
areas_alone device journal none = areas_by device (disk_of journal) (spare_of journal) none

store_alone : {D : Type 0} (journal : Journal D) → spare_of journal ≡ None → store_of journal ≡ One (disk_of journal)
store_alone {D} journal none = ap (λ (o : Option (Spare D)). option_map_or (λ (s : Spare D). two (by_area s.side (disk_of journal) s.disk)) o (One (disk_of journal))) none

not_two : {D : Type 0} (spare : Option (Spare D)) → spare ≡ None → IsSome spare → ⊥
not_two {D} None none some = cc some
not_two {D} (Some s) none some = clash none
  where
    clash : ◌≡◌ {A = Option (Spare D)} (Some s) None → ⊥
    clash same = cc

module _ {S D : Type 0} (scheme : Scheme S) (device : Disks D) (setting : ConfigView S) (disk : D) where
  abbrev Given : Type 0
  Given = ValidatorView S × Journal D

  abbrev node : Node
  node = node_of scheme setting

  pub alone_opened : (validator : ValidatorView S) (journal : Journal D) → validator.setting ≡ setting → StandsAt node (decoded node (device.content disk)) validator.tables
      → decoded node (device.content (disk_of journal)) ≡ decoded node (device.content disk) → IsAlive device journal → stands (device.content (disk_of journal)) ≢ Ok []
      → spare_of journal ≡ None → StandsForAt node (device.content disk) validator.tables → KeepsStates node (device.content disk) (device.content (disk_of journal))
      → HoldsAt node (device.content (disk_of journal)) validator.tables → IsOpening {T = Given} node device (λ opened. disk_of opened.1) disk (Ok (validator, journal))
      → IsOpenedIn scheme device setting (One disk) (Ok (validator, journal))
  alone_opened validator journal set at same alive some none stands_for keeps held opening =
      let areas = areas_alone device journal none in
      let store = store_alone journal none in
      record {
        set = set;
        stands = at;
        same = ap (decoded_in node) areas ∙ same;
        alive = alive;
        configured = λ empty. some (sym (alone_stands (device.content (disk_of journal))) ∙ ap stands_in (sym areas) ∙ empty);
        begun = λ is. absurd (not_two (spare_of journal) none is);
        disks = none;
        newest = λ is. absurd (not_two (spare_of journal) none is);
        stands_for = record { state = kept node stands_for.history; stands_for = stands_for.stands_for; at = stands_for.at };
        kept = subst (λ (a : Areas). KeepsStatesIn node (alone (device.content disk)) a) (sym areas) keeps;
        holds = record {
          state = kept node held.history;
          decoded_as = ap (decoded_in node) areas ∙ held.decoded_as;
          holds = subst (λ (a : Areas). Holds node a (kept node held.history)) (sym areas) held.holds;
          at = held.at;
        };
        opening = record {
          reports = tt;
          full = tt;
          cause = (ap (faults_in device) store ∙ opening.cause.0, tt);
          any_moment = subst (IsDecodedThroughout node device (One disk)) (sym store) opening.any_moment;
          keeps = subst (KeepsAlone node device (One disk)) (sym store) opening.keeps;
          never_refused = tt;
          unchanged = tt;
        };
      }

  pub alone_failed : (failed : Failed JournalError D) → IsOpening {T = Given} node device (λ opened. disk_of opened.1) disk (Err failed)
      → (failed.error ≢ Device → (device.content failed.disk ≡ device.content disk) ⊎ IsClosedUp (device.content disk) (device.content failed.disk))
      → IsOpenedIn scheme device setting (One disk) (Err (record { error = failed.error; disk = One failed.disk }))
  alone_failed failed opening unchanged = record {
    set = tt;
    stands = tt;
    same = tt;
    alive = tt;
    configured = tt;
    begun = tt;
    disks = tt;
    newest = tt;
    stands_for = tt;
    kept = tt;
    holds = tt;
    opening = record {
      reports = λ device_not full_not. opening.reports device_not;
      full = λ is. absurd (opening.never_full is);
      cause = (tt, opening.cause.1);
      any_moment = opening.any_moment;
      keeps = opening.keeps;
      never_refused = λ left. inl (opening.never_refused (record { moves = left.moves; world = left.world; run = left.run; may_stop = left.may_stop }));
      unchanged = unchanged;
    };
  }
