-- Records that come one after the other.
use Rattle.std.proofs.Common.{◌≡◌, ℕ, ◌+◌, ◌<◌, ◌≤◌, List, [], ◌∷◌, ◌++◌, length, take, drop, get_or, Vec, Global, sym, ap, ◌∙◌}
use Rattle.std.proofs.lemmas.List.{take_more, take_all, drop_more, take-append-drop, map-append}
use Rattle.journal.specs.Format.{contents}

joined : (one other : List (Vec ℕ Global)) → contents (one ++ other) ≡ contents one ++ contents other
joined one other = map-append (λ (row : Vec ℕ Global). row.items) one other

-- one record more
pub rows_more : (rows : List (Vec ℕ Global)) (i : ℕ) (row : Vec ℕ Global) → i < length rows → row ≡ get_or rows i row → contents (take (i + 1) rows) ≡ contents (take i rows) ++ row.items ∷ []
rows_more rows i row within is =
    ap contents (take_more rows i row within ∙ ap (λ (r : Vec ℕ Global). take i rows ++ r ∷ []) (sym is)) ∙ joined (take i rows) (row ∷ [])

-- all of them: those that came, one, and the rest
pub rows_split : (rows : List (Vec ℕ Global)) (i : ℕ) (row : Vec ℕ Global) → i < length rows → row ≡ get_or rows i row
    → contents rows ≡ contents (take i rows) ++ row.items ∷ contents (drop (i + 1) rows)
rows_split rows i row within is =
    ap contents (sym (take-append-drop i rows) ∙ ap (λ (l : List (Vec ℕ Global)). take i rows ++ l) (drop_more rows i row within ∙ ap (λ (r : Vec ℕ Global). r ∷ drop (i + 1) rows) (sym is)))
    ∙ joined (take i rows) (row ∷ drop (i + 1) rows)

pub rows_all : (rows : List (Vec ℕ Global)) (i : ℕ) → length rows ≤ i → contents (take i rows) ≡ contents rows
rows_all rows i past = ap contents (take_all i rows past)
