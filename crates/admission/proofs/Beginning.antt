-- Empty tables have what the fresh state has.
use Rattle.std.proofs.Common.{refl}
use Rattle.std.specs.FinMap.{get-empty}
use Rattle.votebook.specs.Slot.{slot_of, slot_cmp}
use Rattle.admission.specs.Laws.{StartsEmpty}

pub starts_empty : StartsEmpty
starts_empty node = record {
  batches = λ seed. record { charter = refl; own = refl; batches = refl; acked = λ digest member. refl; named = λ digest. refl };
  votes = record { others = λ author round apart. get-empty slot_cmp (slot_of author round); own = λ author round mine. get-empty slot_cmp (slot_of author round) };
}
