-- What a journal on two disks tells by its first group.
use Rattle.std.proofs.Common.{◌≡◌, inl, inr, ℕ, ◌≤◌, List, [], ◌∷◌, length, Option, Some, None, refl, ap, ◌∙◌, arith}
use Rattle.std.specs.Prelude.{IsSome, IfSome}
use Rattle.std.specs.Option.{option_map, option_map_or}
use Rattle.diskmodel.specs.Disk.{Device}
use Rattle.journal.specs.declared.journal.Journal.{Journal}
use Rattle.journal.specs.declared.spare.Spare.{Spare}
use Rattle.journal.specs.declared.version.Version.{Version}
use Rattle.journal.specs.Configuration.{shaped_version}
use Rattle.journal.specs.Areas.{generation_of, reports}
use Rattle.journal.specs.Journal.{disk_of, spare_of, IsAlive, IsAlivePair}
use Rattle.journal.specs.Pairs.{generation_in}

nobody : (X : Type 0) → IsSome {T = X} None → ⊥
nobody X some = absurd cc

-- one that has more than a closed gate tells its generation
begun_of : {D : Type 0} (device : Device D) (live : D) (spare : Option (Spare D)) → IfSome spare (IsAlivePair device live) → IsSome spare
    → 2 ≤ length (device.content live) → reports (device.content live) ≡ Some (Some (option_map_or (λ (s : Spare D). s.generation) spare 0))
begun_of {D} device live None pair some long = absurd (nobody (Spare D) some)
begun_of device live (Some spare) pair some long = elim pair.of_generation [
  | inl reported ↦ reported
  | inr new ↦ absurd (omega (arith, long, ap length new.empty))
]

pub begun : {D : Type 0} (device : Device D) (journal : Journal D) → IsAlive device journal → IsSome (spare_of journal)
    → 2 ≤ length (device.content (disk_of journal)) → reports (device.content (disk_of journal)) ≡ Some (Some (generation_in journal))
begun device journal alive some long = begun_of device (disk_of journal) (spare_of journal) alive.pair some long

-- a configuration alone is of generation 0
alone_of : (found : Option Version) → IsSome found → option_map {U = ℕ} (λ (version : Version). 0) found ≡ Some 0
alone_of None some = absurd (nobody Version some)
alone_of (Some version) some = refl

pub alone : (group : List (List ℕ)) (configuration : List ℕ) → IsSome (shaped_version configuration) → group ≡ configuration ∷ [] → generation_of group ≡ Some 0
unfolding generation_of
alone group configuration some is = ap generation_of is ∙ alone_of (shaped_version configuration) some
