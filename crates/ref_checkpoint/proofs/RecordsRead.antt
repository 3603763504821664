-- One record more that is read, or that is at fault.
use Rattle.std.proofs.Common.{◌≡◌, ℕ, ◌+◌, ◌-◌, ◌<◌, ◌≤◌, true, false, List, [], ◌∷◌, length, get_or, drop, Vec, Global, Ok, Err, Some, None, refl, sym, ap, ◌∙◌}
use Rattle.std.proofs.lemmas.List.{drop_more, drop_all}
use Rattle.spec_model.specs.Nodes.{Node}
use Rattle.spec_checkpoint.specs.Data.{Checkpoint}
use Rattle.spec_checkpoint.specs.Reading.{is_cut_short, kind_of, with_record, read_from}
use Rattle.ref_checkpoint.specs.Lists.{contents}

pub rows_more : (records : List (Vec ℕ Global)) (i : ℕ) (row : Vec ℕ Global) → i < length records → row ≡ get_or records i row → contents (drop i records) ≡ row.items ∷ contents (drop (i + 1) records)
rows_more records i row within is =
    ap contents (drop_more records i row within) ∙ ap (λ (one : Vec ℕ Global). one.items ∷ contents (drop (i + 1) records)) (sym is)

pub rows_end : (records : List (Vec ℕ Global)) (i : ℕ) → length records ≤ i → contents (drop i records) ≡ []
rows_end records i past = ap contents (drop_all i records past)

pub read_end : (node : Node) (place : ℕ) (so_far : Checkpoint) → read_from node place so_far [] ≡ Ok so_far
unfolding read_from
read_end node place so_far = refl

pub read_cut : (node : Node) (place : ℕ) (so_far : Checkpoint) (row : List ℕ) (rest : List (List ℕ)) → is_cut_short so_far (kind_of row) ≡ true
    → read_from node place so_far (row ∷ rest) ≡ Err (place - 1)
unfolding read_from
read_cut node place so_far row rest short = rw short refl

pub read_none : (node : Node) (place : ℕ) (so_far : Checkpoint) (row : List ℕ) (rest : List (List ℕ)) → is_cut_short so_far (kind_of row) ≡ false → with_record node so_far row ≡ None
    → read_from node place so_far (row ∷ rest) ≡ Err place
unfolding read_from
read_none node place so_far row rest uncut none = rw (uncut, none) refl

pub read_next : (node : Node) (place : ℕ) (so_far next : Checkpoint) (row : List ℕ) (rest : List (List ℕ)) → is_cut_short so_far (kind_of row) ≡ false → with_record node so_far row ≡ Some next
    → read_from node place so_far (row ∷ rest) ≡ read_from node (place + 1) next rest
unfolding read_from
read_next node place so_far next row rest uncut some = rw (uncut, some) refl
