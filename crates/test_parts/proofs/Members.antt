-- Two committees of as many members, each with the same key and the same stake, are the same in these.
use Rattle.std.proofs.Common.{◌≡◌, ℕ, ◌<◌, List, length, get_or, slice_get, sym, subst, ◌∙◌}
use Rattle.std.proofs.lemmas.List.{same_lists}
use Rattle.std.proofs.lemmas.Option.{get_or_from_slice_get, slice_get-get_or}
use Rattle.committee.specs.Charter.{Charter, IsCharter}
use Rattle.test_parts.specs.Accords.{IsSameMember}

-- lists of one length that have the same at each place are the same
same_at_each : {X : Type 0} (one other : List X) → length one ≡ length other
    → ((k : ℕ) → k < length one → slice_get one k ≡ slice_get other k) → one ≡ other
same_at_each one other long same =
    same_lists one other long
    (λ k d within. get_or_from_slice_get one k (get_or other k d) d
    (same k within ∙ slice_get-get_or other k d (subst (λ n. k < n) long within)))

-- the keys and the stakes are the same where each number has the same in both
pub members : (one other : Charter) → IsCharter one → IsCharter other → length one.keys ≡ length other.keys
    → ((k : ℕ) → k < length one.keys → IsSameMember one other k) → (one.keys ≡ other.keys) × (one.stakes ≡ other.stakes)
members one other sound also long each = (
  same_at_each one.keys other.keys long (λ k within. (each k within).key),
  same_at_each one.stakes other.stakes (sound.staked ∙ long ∙ sym also.staked) (λ k within. (each k (subst (λ n. k < n) sound.staked within)).stake),
)
