-- Two different groups never have the same bytes.
use Rattle.std.specs.Prelude.{◌≡◌, ℕ, ◌+◌, ◌<◌, ◌≤◌, ◌^◌, List, [], ◌∷◌, ◌++◌, length, take, drop}
use Rattle.std.specs.Int.{w32, from_be_bytes}
use Rattle.std.proofs.Common.{refl, sym, ◌∙◌, ap, subst, arith}
use Rattle.std.proofs.Props.{props}
use Rattle.std.proofs.lemmas.List.{take_at, drop_at, append_cancel_right}
use Rattle.std.proofs.lemmas.List.Sums.{sum_by-cons}
use Rattle.std.proofs.lemmas.Nat.{from_be_bytes-to_be_bytes_4}
use Rattle.journal.specs.declared.layout.TheConstants.{CLOSED, LENGTH_BYTES, MAX_GROUP_BYTES}
use Rattle.journal.specs.Format.{FitsGroup, body_len, body_bytes, sized_body, group_bytes, IsGroup}

-- two different lists of records never have the same body
pub same_body : (a b : List (List ℕ)) → body_len a ≤ MAX_GROUP_BYTES → body_len b ≤ MAX_GROUP_BYTES → body_bytes a ≡ body_bytes b → a ≡ b
same_body [] [] short_a short_b same = refl
same_body [] (s ∷ b) short_a short_b same = absurd (omega (arith, ap length same))
same_body (r ∷ a) [] short_a short_b same = absurd (omega (arith, ap length same))
same_body (r ∷ a) (s ∷ b) short_a short_b same =
    let sum_a = sum_by-cons (λ bytes. LENGTH_BYTES + length bytes) r a in
    let sum_b = sum_by-cons (λ bytes. LENGTH_BYTES + length bytes) s b in
    let small_r : length r < 2 ^ 32 = omega (arith, sum_a) in
    let small_s : length s < 2 ^ 32 = omega (arith, sum_b) in
    let long : length s ≡ length r = sym (from_be_bytes-to_be_bytes_4 (length s) small_s)
    ∙ ap (λ (l : List ℕ). from_be_bytes w32 (take LENGTH_BYTES l)) (sym same) ∙ from_be_bytes-to_be_bytes_4 (length r) small_r in
    let after : r ++ body_bytes a ≡ s ++ body_bytes b = ap (drop LENGTH_BYTES) same in
    let first : r ≡ s = sym (take_at r (body_bytes a) (length r) refl) ∙ ap (take (length r)) after ∙ take_at s (body_bytes b) (length r) long in
    let others : body_bytes a ≡ body_bytes b = sym (drop_at r (body_bytes a) (length r) refl) ∙ ap (drop (length r)) after ∙ drop_at s (body_bytes b) (length r) long in
    let rest : a ≡ b = same_body a b (omega (arith, sum_a)) (omega (arith, sum_b)) others in
    (λ i. first i ∷ rest i)

same_records : (a b : List (List ℕ)) → FitsGroup a → FitsGroup b → group_bytes a ≡ group_bytes b → a ≡ b
same_records a b fits_a fits_b same = same_body a b fits_a.not_long fits_b.not_long (ap (drop LENGTH_BYTES) (append_cancel_right (sized_body a) (sized_body b) (CLOSED ∷ []) same))

module _ (bytes : List ℕ) (count : ℕ) where
  -- what `IsGroup` says of the records of a group
  abbrev Said : List (List ℕ) → Type 0
  Said records = FitsGroup records × (bytes ≡ group_bytes records) × (count ≡ length records)

  said_once : (records : List (List ℕ)) → IsProp (Said records)
  said_once records = hlevel props

  abbrev made : (records : List (List ℕ)) → Said records → IsGroup bytes count
  made records said = record { records = records; fits = said.0; written = said.1; counts = said.2 }

  made_once : (a b : List (List ℕ)) → a ≡ b → (p : Said a) (q : Said b) → made a p ≡ made b q
  made_once a b same p q = subst (λ (r : List (List ℕ)). (s : Said r) → made a p ≡ made r s) same (λ s. ap (made a) (said_once a p s)) q

  -- bytes are those of at most one group: there is at most one proof of `IsGroup` for them
  pub one_group : IsProp (IsGroup bytes count)
  one_group x y = made_once x.records y.records (same_records x.records y.records x.fits y.fits (sym x.written ∙ y.written)) (x.fits, x.written, x.counts) (y.fits, y.written, y.counts)

  -- if bytes were made of certain records, then the group that has these bytes has those records
  pub records_are : (group : IsGroup bytes count) (records : List (List ℕ)) → FitsGroup records → bytes ≡ group_bytes records → group.records ≡ records
  records_are group records fits written = same_records group.records records group.fits fits (sym group.written ∙ written)
