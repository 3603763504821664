-- Lists with one more element at the end.
use Rattle.std.proofs.Common.{◌≡◌, List, [], ◌∷◌, ◌++◌, length, take, drop, get_or, length-append, ap, sym, ◌∙◌, arith}
use Rattle.std.proofs.Math.Seq.{take-append_seam, drop-append_seam}

-- where two such lists are one, so are their beginnings and their last elements
pub same_last : {X : Type 0} (xs ys : List X) (x y : X) → xs ++ x ∷ [] ≡ ys ++ y ∷ [] → (xs ≡ ys) × (x ≡ y)
same_last xs ys x y h =
    let len : length xs ≡ length ys = omega (arith, length-append xs (x ∷ []), length-append ys (y ∷ []), ap length h) in
    let first : xs ≡ ys = sym (take-append_seam xs (x ∷ [])) ∙ ap (take (length xs)) h ∙ ap (λ n. take n (ys ++ y ∷ [])) len ∙ take-append_seam ys (y ∷ []) in
    let second : x ∷ [] ≡ y ∷ [] = sym (drop-append_seam xs (x ∷ [])) ∙ ap (drop (length xs)) h ∙ ap (λ n. drop n (ys ++ y ∷ [])) len ∙ drop-append_seam ys (y ∷ []) in
    (first, ap (λ l. get_or l 0 x) second)
