-- Keys that were looked at so far, of a committee.
use Rattle.std.proofs.Common.{◌≡◌, ℕ, zero, suc, ◌+◌, List, [], ◌∷◌, take, Some, subst, sym, arith}
use Rattle.std.specs.Prelude.{All, slice_get}
use Rattle.std.proofs.lemmas.List.Elements.{All-nil, All-cons, All-head, All-tail}
use Rattle.std.proofs.lemmas.Option.{same_Some}
use Rattle.wire.specs.declared.keys.Key.{Key}

-- what holds of each key so far, and of one more
more_hold : (P : Key → Type 0) (keys : List Key) (m : ℕ) (key : Key) → slice_get keys m ≡ Some key → P key → All P (take m keys) → All P (take (suc m) keys)
more_hold P [] m key is holds all = absurd (cc)
more_hold P (first ∷ keys) zero key is holds all = All-cons P first [] (subst P (sym (same_Some first key is)) holds) (All-nil P)
more_hold P (first ∷ keys) (suc m) key is holds all =
    All-cons P first (take (suc m) keys) (All-head P first (take m keys) all) (more_hold P keys m key is holds (All-tail P first (take m keys) all))

pub one_more : (P : Key → Type 0) (keys : List Key) (m : ℕ) (key : Key) → slice_get keys m ≡ Some key → P key → All P (take m keys) → All P (take (m + 1) keys)
one_more P keys m key is holds all = let same : suc m ≡ m + 1 = omega arith in subst (λ (n : ℕ). All P (take n keys)) same (more_hold P keys m key is holds all)
