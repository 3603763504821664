-- The certificates above the genesis, one by one.
use Rattle.std.proofs.Common.{◌≡◌, ℕ, ◌+◌, ◌<◌, ◌≤◌, ◌^◌, Bool, true, false, cond, List, [], ◌∷◌, ◌++◌, length, map, Option, Some, None, ap, sym, ◌∙◌, arith, take, slice_get}
use Rattle.std.specs.Prelude.{All, filter}
use Rattle.std.specs.List.{flat_map}
use Rattle.std.proofs.lemmas.List.{map-append, append-nil, length-map, take_all}
use Rattle.std.proofs.lemmas.List.Concat.{length-flat_map}
use Rattle.std.proofs.lemmas.List.Elements.{All-weaker, filter-append}
use Rattle.std.proofs.lemmas.List.Sums.{sum_by-le}
use Rattle.dag.specs.Graph.{DagView, IsGraph, Placed, certificates_in, held_in, size_in}
use Rattle.spec_model.specs.Words.{Certificate, Digest}
use Rattle.checkpoint.specs.Parts.{above_genesis, digested, is_above}
use Rattle.checkpoint.proofs.Copied.{one_more}

more : (all : List Certificate) (n : ℕ) (c : Certificate) → slice_get all n ≡ Some c
    → map digested (filter is_above (take (n + 1) all)) ≡ map digested (filter is_above (take n all)) ++ map digested (cond (is_above c) (c ∷ []) [])
more all n c is =
    ap (λ l. map digested (filter is_above l)) (one_more all n c is) ∙ ap (map digested) (filter-append is_above (take n all) (c ∷ []))
    ∙ map-append digested (filter is_above (take n all)) (cond (is_above c) (c ∷ []) [])

pub above_more : (all : List Certificate) (n : ℕ) (c : Certificate) (made : Certificate × Digest) → slice_get all n ≡ Some c → made ≡ digested c → is_above c ≡ true
    → map digested (filter is_above (take n all)) ++ made ∷ [] ≡ map digested (filter is_above (take (n + 1) all))
above_more all n c made is same above =
    ap (λ x. map digested (filter is_above (take n all)) ++ x ∷ []) same
    ∙ sym (more all n c is ∙ ap (λ (b : Bool). map digested (filter is_above (take n all)) ++ map digested (cond b (c ∷ []) [])) above)

pub genesis_more : (all : List Certificate) (n : ℕ) (c : Certificate) → slice_get all n ≡ Some c → is_above c ≡ false
    → map digested (filter is_above (take n all)) ≡ map digested (filter is_above (take (n + 1) all))
genesis_more all n c is below =
    sym (more all n c is ∙ ap (λ (b : Bool). map digested (filter is_above (take n all)) ++ map digested (cond b (c ∷ []) [])) below
    ∙ append-nil (map digested (filter is_above (take n all))))

-- ---- how many there are

held_few : (row : List (Option Placed)) → length (held_in row) ≤ length row
held_few [] = omega arith
held_few (None ∷ row) = omega (arith, held_few row)
held_few (Some placed ∷ row) = omega (arith, held_few row)

-- a committee's members have fewer certificates, in all rounds that there are
pub certificates_few : (graph : DagView) → IsGraph graph → length (certificates_in graph) < 2 ^ 63
certificates_few graph is =
    let rounds = graph.rounds in
    let Few : List (Option Placed) → Type 0 = λ row. length (held_in row) ≤ 32 in
    let each : All Few rounds = All-weaker (λ row. length row ≡ size_in graph) Few (λ row full. omega (arith, held_few row, full, is.charter.size)) rounds is.full in
    let all = length-map (flat_map held_in rounds) (λ (placed : Placed). placed.certificate) in
    omega (arith, all, length-flat_map held_in rounds, sum_by-le (λ row. length (held_in row)) 32 rounds each, is.few)

-- so a list up to so many places is all of them
pub all_above : (graph : DagView) (place : ℕ) → IsGraph graph → 2 ^ 63 ≤ place → map digested (filter is_above (take place (certificates_in graph))) ≡ above_genesis graph
all_above graph place is past =
    ap (λ (l : List Certificate). map digested (filter is_above l)) (take_all place (certificates_in graph) (omega (arith, certificates_few graph is, past)))
