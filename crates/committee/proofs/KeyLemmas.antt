-- The bytes that pairs of digits stand for, place by place, and keys that differ.
use Rattle.std.proofs.Common.{◌≡◌, ℕ, suc, zero, ◌+◌, ◌*◌, ◌<◌, false, List, [], ◌∷◌, length, get_or, refl, ap, ◌∙◌, sym, arith}
use Rattle.std.proofs.lemmas.List.{same_lists}
use Rattle.std.proofs.lemmas.Grind.{get_or_default_zero}
use Rattle.std.proofs.lemmas.List.Folds.{list_any_at}
use Rattle.std.specs.List.{list_any}
use Rattle.std.proofs.lemmas.List.Kept.{AllPairs-cons}
use Rattle.std.proofs.lemmas.Bool.{false≢true, or_parts}
use Rattle.std.proofs.lemmas.Cmp.{nat_list_eq_equiv}
use Rattle.std.specs.Str.{bytes_eq}
use Rattle.std.specs.Prelude.{◌≢◌, AllPairs}
use Rattle.wire.specs.declared.keys.Key.{Key}
use Rattle.committee.specs.Keys.{digit_value, bytes_of, repeats}

pub length-bytes_of : (n : ℕ) (text : List ℕ) → length text ≡ 2 * n → length (bytes_of text) ≡ n
length-bytes_of zero [] h = refl
length-bytes_of zero (a ∷ text) h = absurd (omega arith)
length-bytes_of (suc n) [] h = absurd (omega arith)
length-bytes_of (suc n) (a ∷ []) h = absurd (omega arith)
length-bytes_of (suc n) (a ∷ b ∷ text) h = ap suc (length-bytes_of n text (omega arith))

pub bytes_of-at : (text : List ℕ) (k : ℕ) → 2 * k + 1 < length text → get_or (bytes_of text) k 0 ≡ 16 * digit_value (get_or text (2 * k) 0) + digit_value (get_or text (2 * k + 1) 0)
bytes_of-at [] k h = absurd (omega arith)
bytes_of-at (a ∷ []) k h = absurd (omega arith)
bytes_of-at (a ∷ b ∷ text) zero h = refl
bytes_of-at (a ∷ b ∷ text) (suc k) h =
    let one : 2 * suc k ≡ suc (suc (2 * k)) = omega arith in
    let two : 2 * suc k + 1 ≡ suc (suc (2 * k + 1)) = omega arith in
    rw (two, one) (bytes_of-at text k (omega arith))

-- bytes of which each is that of its pair of digits
pub are_bytes_of : (n : ℕ) (text bytes : List ℕ) → length text ≡ 2 * n → length bytes ≡ n
    → ((k : ℕ) → k < n → get_or bytes k 0 ≡ 16 * digit_value (get_or text (2 * k) 0) + digit_value (get_or text (2 * k + 1) 0))
    → bytes ≡ bytes_of text
are_bytes_of n text bytes whole count each =
    let same : length (bytes_of text) ≡ n = length-bytes_of n text whole in
    same_lists bytes (bytes_of text) (omega arith) (λ k d h.
    let here : k < length (bytes_of text) = omega arith in
    get_or_default_zero bytes k d h ∙ each k (omega arith) ∙ sym (bytes_of-at text k (omega arith)) ∙ sym (get_or_default_zero (bytes_of text) k d here))

-- keys of which none stands there twice differ from one another
pub distinct-keys : (keys : List Key) → repeats keys ≡ false → AllPairs (λ one other. one ≢ other) keys
distinct-keys [] h = λ i j d before within. absurd (omega arith)
distinct-keys (key ∷ keys) h =
    let parts = or_parts (list_any (λ other. bytes_eq other.0 key.0) keys) (repeats keys) h in
    AllPairs-cons (λ one other. one ≢ other) key keys
    (λ k d within same. false≢true (sym parts.0 ∙ list_any_at (λ other. bytes_eq other.0 key.0) keys k d within (rw (← same) (nat_list_eq_equiv.refl key.0))))
    (distinct-keys keys parts.1)
