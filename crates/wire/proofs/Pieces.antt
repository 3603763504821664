-- Lists that are put piece by piece.
use Rattle.std.proofs.Common.{◌≡◌, ℕ, ◌+◌, ◌<◌, List, ◌++◌, length, take, get_or, ap, sym, ◌∙◌, append_assoc, subst, arith, inl, inr, ◌≤◌}
use Rattle.std.specs.List.{flat_map}
use Rattle.std.proofs.lemmas.Bool.{cases_lt}
use Rattle.std.proofs.lemmas.List.{take_more, flat_map_more, get_or_default, take_all}

-- after what was there and the count stand the pieces so far, and then those with one more
pub one_more : {X : Type 0} (piece_of : X → List ℕ) (front count before later : List ℕ) (list : List X) (index : ℕ) (other : X) → index < length list
    → before ≡ front ++ (count ++ flat_map piece_of (take index list)) → later ≡ before ++ piece_of (get_or list index other) → later ≡ front ++ (count ++ flat_map piece_of (take (index + 1) list))
one_more piece_of front count before later list index other within so_far put =
    let piece = piece_of (get_or list index other) in
    put ∙ ap (λ l. l ++ piece) so_far ∙ append_assoc front (count ++ flat_map piece_of (take index list)) piece
    ∙ ap (λ l. front ++ l) (flat_map_more piece_of count (take index list) (get_or list index other) ∙ ap (λ l. count ++ flat_map piece_of l) (sym (take_more list index other within)))

-- what holds of each piece so far, and of one more
pub each_more : {X : Type 0} (P : X → Type 0) (list : List X) (index : ℕ) (other : X) → index < length list → ((k : ℕ) (x : X) → k < index → P (get_or list k x)) → P (get_or list index other)
    → (k : ℕ) (x : X) → k < index + 1 → P (get_or list k x)
each_more P list index other within each here k x below =
    elim (cases_lt k index) [
      | inl before ↦ each k x before
      | inr past ↦
          let last : index ≡ k = omega (arith, past, below) in
          subst (λ i. P (get_or list i x)) last (subst P (get_or_default list index other x within) here)
    ]

-- after the last piece all stand there
pub all_put : {X : Type 0} (piece_of : X → List ℕ) (front count later : List ℕ) (list : List X) (index : ℕ) → length list ≤ index → later ≡ front ++ (count ++ flat_map piece_of (take index list))
    → later ≡ front ++ (count ++ flat_map piece_of list)
all_put piece_of front count later list index past so_far = so_far ∙ ap (λ l. front ++ (count ++ flat_map piece_of l)) (take_all index list past)
