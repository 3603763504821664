-- Tests that are put one after the other.
use Rattle.std.proofs.Common.{◌≡◌, ℕ, ◌+◌, ◌<◌, ◌≤◌, Bool, true, List, [], ◌∷◌, ◌++◌, length, map, take, drop, get_or, append_assoc, refl, sym, ap, ◌∙◌, arith}
use Rattle.std.specs.List.{range_with_len}
use Rattle.std.proofs.lemmas.List.{take_more, drop_more, drop_all, append-nil, map-append}
use Rattle.std.proofs.lemmas.List.FromFn.{map-range_with_len_more}
use Rattle.spec_checkpoint.specs.Data.{KeptBatch}
use Rattle.spec_checkpoint.specs.Faults.{is_batch_sound, batch_tests, piece_tests}
use Rattle.spec_model.specs.Nodes.{Node}

-- the test of one piece more
pub piece_test_more : {X : Type 0} (piece_at : ℕ → X) (i : ℕ) (before tests start : List Bool) → tests ≡ before ++ true ∷ []
    → before ≡ start ++ piece_tests (map piece_at (range_with_len 0 i)) → tests ≡ start ++ piece_tests (map piece_at (range_with_len 0 (i + 1)))
piece_test_more piece_at i before tests start put same =
    put ∙ ap (λ (l : List Bool). l ++ true ∷ []) same ∙ append_assoc start (piece_tests (map piece_at (range_with_len 0 i))) (true ∷ [])
    ∙ ap (λ (l : List Bool). start ++ l)
    (sym (ap piece_tests (map-range_with_len_more piece_at 0 i i (omega arith)) ∙ map-append (λ piece. true) (map piece_at (range_with_len 0 i)) (piece_at i ∷ [])))

-- the test of one batch more
batch_step : (node : Node) (before rest : List KeptBatch) (kept : KeptBatch) → batch_tests node before (kept ∷ rest) ≡ is_batch_sound node before kept ∷ batch_tests node (before ++ kept ∷ []) rest
unfolding batch_tests
batch_step node before rest kept = refl

batch_end : (node : Node) (before : List KeptBatch) → batch_tests node before [] ≡ []
unfolding batch_tests
batch_end node before = refl

pub batch_test_more : (node : Node) (batches : List KeptBatch) (i : ℕ) (kept : KeptBatch) (so_far tests all : List Bool) (sound : Bool) → i < length batches → kept ≡ get_or batches i kept
    → tests ≡ so_far ++ sound ∷ [] → sound ≡ is_batch_sound node (take i batches) kept
    → so_far ++ batch_tests node (take i batches) (drop i batches) ≡ all → tests ++ batch_tests node (take (i + 1) batches) (drop (i + 1) batches) ≡ all
batch_test_more node batches i kept so_far tests all sound within at put is same =
    let rest = drop (i + 1) batches in
    let left : drop i batches ≡ kept ∷ rest = drop_more batches i kept within ∙ ap (λ (k : KeptBatch). k ∷ rest) (sym at) in
    let taken : take (i + 1) batches ≡ take i batches ++ kept ∷ [] = take_more batches i kept within ∙ ap (λ (k : KeptBatch). take i batches ++ k ∷ []) (sym at) in
    ap (λ (l : List Bool). l ++ batch_tests node (take (i + 1) batches) rest) put
    ∙ append_assoc so_far (sound ∷ []) (batch_tests node (take (i + 1) batches) rest)
    ∙ ap (λ (b : Bool). so_far ++ b ∷ batch_tests node (take (i + 1) batches) rest) is
    ∙ ap (λ (l : List KeptBatch). so_far ++ is_batch_sound node (take i batches) kept ∷ batch_tests node l rest) taken
    ∙ ap (λ (l : List Bool). so_far ++ l) (sym (batch_step node (take i batches) rest kept))
    ∙ ap (λ (l : List KeptBatch). so_far ++ batch_tests node (take i batches) l) (sym left)
    ∙ same

-- and none more
pub batch_tests_done : (node : Node) (batches : List KeptBatch) (i : ℕ) (so_far all : List Bool) → length batches ≤ i
    → so_far ++ batch_tests node (take i batches) (drop i batches) ≡ all → so_far ≡ all
batch_tests_done node batches i so_far all past same =
    sym (append-nil so_far) ∙ ap (λ (l : List Bool). so_far ++ l) (sym (ap (batch_tests node (take i batches)) (drop_all i batches past) ∙ batch_end node (take i batches))) ∙ same

-- the test of one element more
pub test_more : {X : Type 0} (test : X → Bool) (xs : List X) (i : ℕ) (x : X) (so_far tests start : List Bool) (sound : Bool) → i < length xs → x ≡ get_or xs i x → tests ≡ so_far ++ sound ∷ []
    → sound ≡ test x → so_far ≡ start ++ map test (take i xs) → tests ≡ start ++ map test (take (i + 1) xs)
test_more test xs i x so_far tests start sound within at put is same =
    put ∙ ap (λ (l : List Bool). l ++ sound ∷ []) same ∙ append_assoc start (map test (take i xs)) (sound ∷ []) ∙ ap (λ (b : Bool). start ++ (map test (take i xs) ++ b ∷ [])) is
    ∙ ap (λ (l : List Bool). start ++ l) (sym (ap (map test) (take_more xs i x within) ∙ map-append test (take i xs) (get_or xs i x ∷ []) ∙ ap (λ y. map test (take i xs) ++ test y ∷ []) (sym at)))
