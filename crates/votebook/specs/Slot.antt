-- Slots (a slot is a round and an author), ordered by round and then by author.
use Rattle.std.specs.Prelude.{ℕ, List, refl}
use Rattle.std.specs.declared.cmp.Ordering.{Ordering}
use Rattle.std.specs.Ordering.{nat_cmp, ordering_then}
use Rattle.std.specs.Coded.{Coded, code_by, coded×, coded_ℕ, coded_list}
use Rattle.wire.specs.declared.keys.Author.{Author}
use Rattle.wire.specs.declared.keys.Digest.{Digest}
use Rattle.votebook.specs.declared.slot.Slot.{Slot}

abbrev pub slot_cmp : Slot → Slot → Ordering
slot_cmp a b = ordering_then (nat_cmp a.round b.round) (nat_cmp a.author b.author)

-- how a slot is encoded for the prover: as the pair of round and author
abbrev pub coded_slot : Coded Slot
coded_slot = code_by (ℕ × ℕ) (coded× coded_ℕ coded_ℕ) (λ s. (s.round, s.author)) (λ p. record { round = p.0; author = p.1 }) (λ _. refl)

-- how a digest is encoded for the prover: as its bytes
abbrev pub coded_digest : Coded Digest
coded_digest = code_by (List ℕ) (coded_list coded_ℕ) (λ d. d.0) (λ bytes. record { 0 = bytes }) (λ _. refl)

-- the slot of this author and round
abbrev pub slot_of : Author → ℕ → Slot
slot_of author round = record { round = round; author = author.0 }
