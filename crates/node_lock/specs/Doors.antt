-- A lock as contracts see it.
use Rattle.std.specs.Prelude.{refl}
use Rattle.std.specs.Coded.{Coded, code_by, coded×}
use Rattle.atomic_table.specs.Seated.{TableId, table_id_coded}

-- what contracts see of a lock: which one it is, and the key with which it was made
pub record LockView (K : Type 0) : Type 0 where
  pub id : TableId
  pub key : K

-- how a lock's view is encoded for the prover: as the pair of identity and key
abbrev pub coded_door : {K : Type 0} → Coded K → Coded (LockView K)
coded_door key = code_by (TableId × _) (coded× table_id_coded key) (λ door. (door.id, door.key)) (λ pair. record { id = pair.0; key = pair.1 }) (λ _. refl)
