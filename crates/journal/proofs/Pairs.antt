-- What an append leaves of a journal on two disks.
use Rattle.std.proofs.Common.{◌≡◌, inl, inr, ℕ, ◌-◌, List, [], ◌∷◌, ◌++◌, length, take, Option, Some, None, refl, sym, ap, ◌∙◌, arith}
use Rattle.std.specs.Prelude.{IsSome, IfSome}
use Rattle.std.proofs.lemmas.List.{take_at}
use Rattle.diskmodel.specs.Disk.{Device}
use Rattle.journal.specs.declared.spare.Spare.{Spare}
use Rattle.journal.specs.Format.{FitsGroup, group_bytes, file_with}
use Rattle.journal.specs.Areas.{generation_of, reports}
use Rattle.journal.specs.Journal.{EndsClosed, IsAlivePair}
use Rattle.journal.proofs.Stops.{closed}
use Rattle.journal.proofs.Reporting.{reports_long, reports_stays}
use Rattle.journal.proofs.Packing.{reports_group}

-- a group more changes nothing in what a file tells
pub reports_with : (file : List ℕ) (group : List (List ℕ)) (reported : Option ℕ) → EndsClosed file → reports file ≡ Some reported → reports (file_with file group) ≡ reports file
reports_with file group reported ends is =
    let p = closed file ends in
    let front_is : take (length file - 1) file ≡ p.front =
    ap (λ (l : List ℕ). take (length file - 1) l) p.file_is ∙ take_at p.front (0 ∷ []) (length file - 1) (omega (arith, p.size)) in
    ap (λ (l : List ℕ). reports (l ++ 1 ∷ group_bytes group)) front_is
    ∙ reports_stays p.front [] (1 ∷ group_bytes group) p.records (omega (arith, p.size, reports_long file reported is)) (omega arith) p.found
    ∙ ap reports (sym p.file_is)

-- the first group of a file says what it tells
pub reports_begun : (file : List ℕ) (group : List (List ℕ)) → FitsGroup group → file ≡ 0 ∷ [] → reports (file_with file group) ≡ Some (generation_of group)
reports_begun file group fits empty =
    ap (λ (l : List ℕ). reports (file_with l group)) empty ∙ reports_group 1 group (0 ∷ []) (λ one. omega arith) fits (omega arith)

module _ {D : Type 0} (device : Device D) (old new : D) (group : List (List ℕ)) (fits : FitsGroup group) (ends : EndsClosed (device.content old))
    (content : device.content new ≡ file_with (device.content old) group) where
  still_pair : (spare : Spare D) → (device.content old ≡ 0 ∷ [] → generation_of group ≡ Some 0) → IsAlivePair device old spare → IsAlivePair device new spare
  still_pair spare first pair = record {
    of_generation = inl (elim pair.of_generation [
      | inl reported ↦ ap reports content ∙ reports_with (device.content old) group (Some spare.generation) ends reported ∙ reported
      | inr begun ↦ ap reports content ∙ reports_begun (device.content old) group fits begun.empty ∙ ap Some (first begun.empty ∙ ap Some (sym begun.lowest))
    ]);
    at_rest = pair.at_rest;
    durable = pair.durable;
  }

  -- the pair goes on
  pub pair_goes_on : (spare : Option (Spare D)) → (IsSome spare → device.content old ≡ 0 ∷ [] → generation_of group ≡ Some 0)
      → IfSome spare (IsAlivePair device old) → IfSome spare (IsAlivePair device new)
  pair_goes_on None first pair = tt
  pair_goes_on (Some spare) first pair = still_pair spare (first refl) pair
