-- The first test that fails, as tests are made one by one.
use Rattle.std.proofs.Common.{◌≡◌, ℕ, ◌+◌, ◌<◌, ◌≤◌, Bool, true, false, List, [], ◌∷◌, ◌++◌, length, map, take, drop, get_or, Some, append_assoc, refl, sym, ap, ◌∙◌, arith}
use Rattle.std.specs.Prelude.{not, option_map}
use Rattle.std.specs.List.{position_from}
use Rattle.std.specs.Option.{option_or}
use Rattle.std.proofs.lemmas.List.{drop_more, take_more, length-take, length-map, map-append, take-append-drop, take_all, append-nil}
use Rattle.spec_model.specs.Nodes.{Node}
use Rattle.spec_checkpoint.specs.Data.{KeptBatch}
use Rattle.spec_checkpoint.specs.Faults.{is_batch_sound, batch_tests}
use Rattle.spec_checkpoint.specs.Loading.{at_record}
use Rattle.checkpoint.specs.Judging.{NoneFails, ReportsFirst}
use Rattle.checkpoint.specs.declared.error.LoadError.TheVariants.{Unsound}

-- ---- lists in turn

-- what came so far, the next one, and the rest
pub split : {X : Type 0} (all done : List X) (next : X) → done ≡ take (length done) all → length done < length all → next ≡ get_or all (length done) next
    → all ≡ done ++ next ∷ drop (length done + 1) all
split all done next front within is =
    sym (take-append-drop (length done) all)
    ∙ ap (λ l. l ++ drop (length done) all) (sym front)
    ∙ ap (λ l. done ++ l) (drop_more all (length done) next within ∙ ap (λ x. x ∷ drop (length done + 1) all) (sym is))

-- the next one of a list, after those that came so far
pub record IsTurn {X : Type 0} (all done : List X) (next : X) : Type 0 where
  pub front : done ≡ take (length done) all
  pub within : length done < length all
  pub is : next ≡ get_or all (length done) next

split_at : {X : Type 0} (all done : List X) (next : X) → IsTurn all done next → all ≡ done ++ next ∷ drop (length done + 1) all
split_at all done next turn = split all done next turn.front turn.within turn.is

-- ---- tests

pub first_of_two : (tests more : List Bool) (k : ℕ) → position_from not k (tests ++ more) ≡ option_or (position_from not k tests) (position_from not (k + length tests) more)
first_of_two [] more k = let same : k ≡ k + 0 = omega arith in ap (λ n. position_from not n more) same
first_of_two (true ∷ tests) more k =
    let same : k + 1 + length tests ≡ k + length (true ∷ tests) = omega arith in
    first_of_two tests more (k + 1) ∙ ap (λ n. option_or (position_from not (k + 1) tests) (position_from not n more)) same
first_of_two (false ∷ tests) more k = refl

none_more : (k : ℕ) (tests : List Bool) (sound : Bool) → NoneFails k tests → sound ≡ true → NoneFails k (tests ++ sound ∷ [])
none_more k tests sound none is =
    first_of_two tests (sound ∷ []) k ∙ ap (λ o. option_or o (position_from not (k + length tests) (sound ∷ []))) none
    ∙ ap (λ b. position_from not (k + length tests) (b ∷ [])) is

first_here : (k : ℕ) (tests rest : List Bool) (sound : Bool) → NoneFails k tests → sound ≡ false → position_from not k (tests ++ sound ∷ rest) ≡ Some (k + length tests)
first_here k tests rest sound none is =
    first_of_two tests (sound ∷ rest) k ∙ ap (λ o. option_or o (position_from not (k + length tests) (sound ∷ rest))) none
    ∙ ap (λ b. position_from not (k + length tests) (b ∷ rest)) is

-- ---- a test of each

pub fine_more : {X : Type 0} (test : X → Bool) (k : ℕ) (done : List X) (next : X) → NoneFails k (map test done) → test next ≡ true → NoneFails k (map test (done ++ next ∷ []))
fine_more test k done next none is = ap (position_from not k) (map-append test done (next ∷ [])) ∙ none_more k (map test done) (test next) none is

pub fault_here : {X : Type 0} (test : X → Bool) (k : ℕ) (all done rest : List X) (next : X) → all ≡ done ++ next ∷ rest → NoneFails k (map test done) → test next ≡ false
    → position_from not k (map test all) ≡ Some (k + length done)
fault_here test k all done rest next is none off =
    ap (λ l. position_from not k (map test l)) is ∙ ap (position_from not k) (map-append test done (next ∷ rest))
    ∙ first_here k (map test done) (map test rest) (test next) none off ∙ ap (λ n. Some (k + n)) (length-map done test)

-- so of one in turn
pub turn_fault : {X : Type 0} (test : X → Bool) (k : ℕ) (all done : List X) (next : X) (place : ℕ) → IsTurn all done next → NoneFails k (map test done) → test next ≡ false → place ≡ k + length done
    → ReportsFirst k (map test all) (Unsound place)
turn_fault test k all done next place turn none off is =
    λ apart. ap (option_map at_record) (fault_here test k all done (drop (length done + 1) all) next (split_at all done next turn) none off ∙ ap (λ n. Some n) (sym is))

-- so of the elements of a slice
pub slice_fine : {X : Type 0} (test : X → Bool) (k : ℕ) (xs : List X) (i : ℕ) (x : X) → i < length xs → x ≡ get_or xs i x → NoneFails k (map test (take i xs)) → test x ≡ true
    → NoneFails k (map test (take (i + 1) xs))
slice_fine test k xs i x within at none is =
    ap (λ l. position_from not k (map test l)) (take_more xs i x within ∙ ap (λ y. take i xs ++ y ∷ []) (sym at)) ∙ fine_more test k (take i xs) x none is

pub slice_fault : {X : Type 0} (test : X → Bool) (k : ℕ) (xs : List X) (i : ℕ) (x : X) (place : ℕ) → i < length xs → x ≡ get_or xs i x → NoneFails k (map test (take i xs)) → test x ≡ false
    → place ≡ k + i → position_from not k (map test xs) ≡ Some place
slice_fault test k xs i x place within at none off is =
    let long = length-take i xs in
    let short : length (take i xs) ≡ i = omega (arith, long, within) in
    fault_here test k xs (take i xs) (drop (i + 1) xs) x (sym (take-append-drop i xs) ∙ ap (λ l. take i xs ++ l) (drop_more xs i x within ∙ ap (λ y. y ∷ drop (i + 1) xs) (sym at))) none off
    ∙ ap (λ n. Some (k + n)) short ∙ ap (λ n. Some n) (sym is)

pub slice_end : {X : Type 0} (test : X → Bool) (k : ℕ) (xs : List X) (i : ℕ) → length xs ≤ i → NoneFails k (map test (take i xs)) → NoneFails k (map test xs)
slice_end test k xs i past none = ap (λ l. position_from not k (map test l)) (sym (take_all i xs past)) ∙ none

pub slice_fine_by : {X : Type 0} (test : X → Bool) (k : ℕ) (xs : List X) (i : ℕ) (d : X) (sound : Bool) → i < length xs → NoneFails k (map test (take i xs)) → sound ≡ test (get_or xs i d)
    → sound ≡ true
    → NoneFails k (map test (take (i + 1) xs))
slice_fine_by test k xs i d sound within none same is =
    ap (λ l. position_from not k (map test l)) (take_more xs i d within) ∙ fine_more test k (take i xs) (get_or xs i d) none (sym same ∙ is)

pub slice_fault_by : {X : Type 0} (test : X → Bool) (k : ℕ) (xs : List X) (i : ℕ) (d : X) (sound : Bool) (place : ℕ) → i < length xs → NoneFails k (map test (take i xs)) → sound ≡ test
    (get_or xs i d) → sound ≡ false
    → place ≡ k + i → position_from not k (map test xs) ≡ Some place
slice_fault_by test k xs i d sound place within none same off is =
    let long = length-take i xs in
    let short : length (take i xs) ≡ i = omega (arith, long, within) in
    fault_here test k xs (take i xs) (drop (i + 1) xs) (get_or xs i d) (sym (take-append-drop i xs) ∙ ap (λ l. take i xs ++ l) (drop_more xs i d within)) none (sym same ∙ off)
    ∙ ap (λ n. Some (k + n)) short ∙ ap (λ n. Some n) (sym is)

-- tests of what is made of each
pub mapped : {X Y : Type 0} (test : Y → Bool) (make : X → Y) (xs : List X) → map test (map make xs) ≡ map (λ x. test (make x)) xs
mapped test make [] = refl
mapped test make (x ∷ xs) = ap (λ l. test (make x) ∷ l) (mapped test make xs)

-- ---- those of batches

batch_none : (node : Node) (before : List KeptBatch) → batch_tests node before [] ≡ []
unfolding batch_tests
batch_none node before = refl

batch_step : (node : Node) (before rest : List KeptBatch) (kept : KeptBatch) → batch_tests node before (kept ∷ rest) ≡ is_batch_sound node before kept ∷ batch_tests node (before ++ kept ∷ []) rest
unfolding batch_tests
batch_step node before rest kept = refl

batches_on : (node : Node) (before xs ys : List KeptBatch) → batch_tests node before (xs ++ ys) ≡ batch_tests node before xs ++ batch_tests node (before ++ xs) ys
batches_on node before [] ys =
    ap (λ l. batch_tests node l ys) (sym (append-nil before)) ∙ ap (λ l. l ++ batch_tests node (before ++ []) ys) (sym (batch_none node before))
batches_on node before (x ∷ xs) ys =
    batch_step node before (xs ++ ys) x
    ∙ ap (λ l. is_batch_sound node before x ∷ l) (batches_on node (before ++ x ∷ []) xs ys)
    ∙ ap (λ l. is_batch_sound node before x ∷ (batch_tests node (before ++ x ∷ []) xs ++ batch_tests node l ys)) (append_assoc before (x ∷ []) xs)
    ∙ ap (λ l. l ++ batch_tests node (before ++ x ∷ xs) ys) (sym (batch_step node before xs x))

pub tests_long : (node : Node) (before xs : List KeptBatch) → length (batch_tests node before xs) ≡ length xs
tests_long node before [] = ap (λ (l : List Bool). length l) (batch_none node before)
tests_long node before (x ∷ xs) =
    let rest = tests_long node (before ++ x ∷ []) xs in
    let one : length (is_batch_sound node before x ∷ batch_tests node (before ++ x ∷ []) xs) ≡ length (x ∷ xs) = omega (arith, rest) in
    ap (λ (l : List Bool). length l) (batch_step node before xs x) ∙ one

pub batch_fine : (node : Node) (k : ℕ) (done : List KeptBatch) (next : KeptBatch) → NoneFails k (batch_tests node [] done) → is_batch_sound node done next ≡ true
    → NoneFails k (batch_tests node [] (done ++ next ∷ []))
batch_fine node k done next none is =
    ap (position_from not k) (batches_on node [] done (next ∷ []) ∙ ap (λ l. batch_tests node [] done ++ l) (batch_step node done [] next ∙ ap (λ l. is_batch_sound node done next ∷ l)
    (batch_none node (done ++ next ∷ []))))
    ∙ none_more k (batch_tests node [] done) (is_batch_sound node done next) none is

pub batch_fault : (node : Node) (k : ℕ) (all done rest : List KeptBatch) (next : KeptBatch) → all ≡ done ++ next ∷ rest → NoneFails k (batch_tests node [] done) → is_batch_sound node done next ≡ false
    → position_from not k (batch_tests node [] all) ≡ Some (k + length done)
batch_fault node k all done rest next is none off =
    ap (λ l. position_from not k (batch_tests node [] l)) is
    ∙ ap (position_from not k) (batches_on node [] done (next ∷ rest) ∙ ap (λ l. batch_tests node [] done ++ l) (batch_step node done rest next))
    ∙ first_here k (batch_tests node [] done) (batch_tests node (done ++ next ∷ []) rest) (is_batch_sound node done next) none off
    ∙ ap (λ n. Some (k + n)) (tests_long node [] done)

pub batch_turn : (node : Node) (k : ℕ) (all done : List KeptBatch) (next : KeptBatch) (place : ℕ) → IsTurn all done next → NoneFails k (batch_tests node [] done) → is_batch_sound node done next
    ≡ false
    → place ≡ k + length done → ReportsFirst k (batch_tests node [] all) (Unsound place)
batch_turn node k all done next place turn none off is =
    λ apart. ap (option_map at_record) (batch_fault node k all done (drop (length done + 1) all) next (split_at all done next turn) none off ∙ ap (λ n. Some n) (sym is))

pub batches_begin : (node : Node) (k : ℕ) → NoneFails k (batch_tests node [] [])
batches_begin node k = ap (position_from not k) (batch_none node [])
