-- The certificates of a DAG in their order: they rise, and each slot has the one that is found for it.
use Rattle.std.proofs.Common.{◌≡◌, ◌≢◌, ℕ, zero, suc, ◌+◌, ◌-◌, ◌<◌, ◌≤◌, Bool, true, false, List, [], ◌∷◌}
use Rattle.std.proofs.Common.{◌++◌, map, length, get_or, Option, Some, None, inl, inr, refl, ap, sym, ◌∙◌, subst, arith, slice_get}
use Rattle.std.specs.Prelude.{◌==◌, ◌&&◌, ◌||◌, nat_lt, nat_le, All, AllPairs, find, option_map, option_and_then}
use Rattle.std.specs.List.{flat_map}
use Rattle.std.specs.Option.{option_or}
use Rattle.std.proofs.lemmas.Bool.{cases_lt}
use Rattle.std.proofs.lemmas.Grind.{common_steps}
use Rattle.std.proofs.lemmas.List.{map-append}
use Rattle.std.proofs.lemmas.List.Elements.{All-cons, All-append}
use Rattle.std.proofs.lemmas.List.Folds.{find-append}
use Rattle.std.proofs.lemmas.List.Kept.{AllPairs-cons}
use Rattle.spec_laws.proofs.Votes.{slot_is}
use Rattle.spec_model.specs.Slots.{is_of_slot}
use Rattle.spec_model.specs.Words.{Certificate}
use Rattle.dag.specs.Graph.{DagView, IsGraph, Placed, certificates_in, held_in, slots_in}

abbrev pub Row : Type 0
Row = List (Option Placed)

abbrev pub certificate_of : Placed → Certificate
certificate_of placed = placed.certificate

abbrev pub in_row : Row → List Certificate
in_row row = map certificate_of (held_in row)

abbrev pub in_rows : List Row → List Certificate
in_rows rows = map certificate_of (flat_map held_in rows)

in_rows-cons : (row : Row) (rows : List Row) → in_rows (row ∷ rows) ≡ in_row row ++ in_rows rows
in_rows-cons row rows = map-append certificate_of (held_in row) (flat_map held_in rows)

-- ---- lists

pairs-append : {X : Type 0} (R : X → X → Type 0) (xs ys : List X) → AllPairs R xs → AllPairs R ys
    → ((i j : ℕ) (d e : X) → i < length xs → j < length ys → R (get_or xs i d) (get_or ys j e)) → AllPairs R (xs ++ ys)
pairs-append R [] ys first second across = second
pairs-append R (x ∷ xs) ys first second across =
    AllPairs-cons R x (xs ++ ys)
    (All-append (R x) xs ys (λ i d within. first 0 (suc i) d (omega arith) (omega (arith, within))) (λ j e within. across 0 j x e (omega arith) within))
    (pairs-append R xs ys (λ i j d less within. first (suc i) (suc j) d (omega (arith, less)) (omega (arith, within))) second
    (λ i j d e within inside. across (suc i) j d e (omega (arith, within)) inside))

none_found : {X : Type 0} (test : X → Bool) (xs : List X) → All (λ x. test x ≡ false) xs → find test xs ≡ None
none_found test [] all = refl
none_found test (x ∷ xs) all =
    let first : test x ≡ false = all 0 x (omega arith) in
    rw first (none_found test xs (λ i d within. all (suc i) d (omega (arith, within))))

-- ---- one row

-- what it holds is of a round, and of authors from one on
abbrev pub OfRow : ℕ → ℕ → Row → Type 0
OfRow round first row = (k : ℕ) (p : Placed) → slice_get row k ≡ Some (Some p) → (p.certificate.header.round ≡ round) × (p.certificate.header.author.0 ≡ first + k)

row-tail : (round first : ℕ) (slot : Option Placed) (row : Row) → OfRow round first (slot ∷ row) → OfRow round (first + 1) row
row-tail round first slot row of = λ k p is. let at = of (suc k) p is in let author = at.1 in (at.0, omega (arith, author))

row-all : (round first : ℕ) (row : Row) → OfRow round first row → All (λ c. (c.header.round ≡ round) × (first ≤ c.header.author.0)) (in_row row)
row-all round first [] of = λ i d within. absurd (omega (arith, within))
row-all round first (None ∷ row) of = λ i d within. let x = row-all round (first + 1) row (row-tail round first None row of) i d within in let least = x.1 in (x.0, omega (arith, least))
row-all round first (Some p ∷ row) of =
    All-cons (λ (c : Certificate). (c.header.round ≡ round) × (first ≤ c.header.author.0)) p.certificate (in_row row)
    (let at = of 0 p refl in let author = at.1 in (at.0, omega (arith, author)))
    (λ i d within. let x = row-all round (first + 1) row (row-tail round first (Some p) row of) i d within in let least = x.1 in (x.0, omega (arith, least)))

-- one comes before another, by round and then by author
abbrev pub comes_first : Certificate → Certificate → Bool
comes_first one other =
    nat_lt one.header.round other.header.round || ((one.header.round == other.header.round) && nat_lt one.header.author.0 other.header.author.0)

before-by : (one other : Certificate) → one.header.round ≡ other.header.round → one.header.author.0 < other.header.author.0 → comes_first one other ≡ true
before-by one other same less = grind (arith, same, less, common_steps)

before-round : (one other : Certificate) → one.header.round < other.header.round → comes_first one other ≡ true
before-round one other less = grind (arith, less, common_steps)

row-pairs : (round first : ℕ) (row : Row) → OfRow round first row → AllPairs (λ one other. comes_first one other ≡ true) (in_row row)
row-pairs round first [] of = λ i j d less within. absurd (omega (arith, within))
row-pairs round first (None ∷ row) of = row-pairs round (first + 1) row (row-tail round first None row of)
row-pairs round first (Some p ∷ row) of =
    let rest = row-tail round first (Some p) row of in
    let at = of 0 p refl in
    let author = at.1 in
    AllPairs-cons (λ (one other : Certificate). comes_first one other ≡ true) p.certificate (in_row row)
    (λ i d within. let x = row-all round (first + 1) row rest i d within in let least = x.1 in before-by p.certificate (get_or (in_row row) i d) (at.0 ∙ sym x.0) (omega (arith, author, least)))
    (row-pairs round (first + 1) row rest)

-- ---- rows

abbrev pub OfRows : ℕ → List Row → Type 0
OfRows first rows = (i : ℕ) (row : Row) → slice_get rows i ≡ Some row → OfRow (first + i) 0 row

rows-first : (first : ℕ) (row : Row) (rows : List Row) → OfRows first (row ∷ rows) → OfRow first 0 row
rows-first first row rows of = λ k p is. let at = of 0 row refl k p is in let round = at.0 in (omega (arith, round), at.1)

rows-tail : (first : ℕ) (row : Row) (rows : List Row) → OfRows first (row ∷ rows) → OfRows (first + 1) rows
rows-tail first row rows of = λ i r is k p at. let x = of (suc i) r is k p at in let round = x.0 in (omega (arith, round), x.1)

rows-all : (first : ℕ) (rows : List Row) → OfRows first rows → All (λ c. first ≤ c.header.round) (in_rows rows)
rows-all first [] of = λ i d within. absurd (omega (arith, within))
rows-all first (row ∷ rows) of =
    subst (All (λ (c : Certificate). first ≤ c.header.round)) (sym (in_rows-cons row rows))
    (All-append (λ (c : Certificate). first ≤ c.header.round) (in_row row) (in_rows rows)
    (λ i d within. let x = row-all first 0 row (rows-first first row rows of) i d within in let round = x.0 in omega (arith, round))
    (λ i d within. let least = rows-all (first + 1) rows (rows-tail first row rows of) i d within in omega (arith, least)))

rows-pairs : (first : ℕ) (rows : List Row) → OfRows first rows → AllPairs (λ one other. comes_first one other ≡ true) (in_rows rows)
rows-pairs first [] of = λ i j d less within. absurd (omega (arith, within))
rows-pairs first (row ∷ rows) of =
    let here = rows-first first row rows of in
    let later = rows-tail first row rows of in
    subst (AllPairs (λ (one other : Certificate). comes_first one other ≡ true)) (sym (in_rows-cons row rows))
    (pairs-append (λ (one other : Certificate). comes_first one other ≡ true) (in_row row) (in_rows rows) (row-pairs first 0 row here) (rows-pairs (first + 1) rows later)
    (λ i j d e within inside.
    let x = row-all first 0 row here i d within in
    let round = x.0 in
    let least = rows-all (first + 1) rows later j e inside in
    before-round (get_or (in_row row) i d) (get_or (in_rows rows) j e) (omega (arith, round, least))))

-- ---- what is found for a slot

abbrev pub at : ℕ → ℕ → Certificate → Bool
at round author c = is_of_slot round author c.header

other_round : (round author : ℕ) (c : Certificate) → c.header.round ≢ round → at round author c ≡ false
other_round round author c apart = grind (arith, apart, common_steps)

other_author : (round author : ℕ) (c : Certificate) → c.header.author.0 ≢ author → at round author c ≡ false
other_author round author c apart = grind (arith, apart, common_steps)

its_own : (round author : ℕ) (c : Certificate) → c.header.round ≡ round → c.header.author.0 ≡ author → at round author c ≡ true
its_own round author c same by = grind (arith, same, by, common_steps)

abbrev pub slot_in : Row → ℕ → Option Certificate
slot_in row author = option_map certificate_of (option_and_then (λ held. held) (slice_get row author))

row-find : (round first : ℕ) (row : Row) → OfRow round first row → (k author : ℕ) → author ≡ first + k → find (at round author) (in_row row) ≡ slot_in row k
row-find round first [] of k author is = refl
row-find round first (None ∷ row) of zero author is =
    none_found (at round author) (in_row row)
    (λ i d within. let x = row-all round (first + 1) row (row-tail round first None row of) i d within in let least = x.1 in other_author round author
    (get_or (in_row row) i d) (λ same. omega (arith, same, is, least)))
row-find round first (None ∷ row) of (suc k) author is = row-find round (first + 1) row (row-tail round first None row of) k author (omega (arith, is))
row-find round first (Some p ∷ row) of zero author is =
    let here = of 0 p refl in
    let by = here.1 in
    let own = its_own round author p.certificate here.0 (omega (arith, by, is)) in
    rw own refl
row-find round first (Some p ∷ row) of (suc k) author is =
    let here = of 0 p refl in
    let by = here.1 in
    let apart = other_author round author p.certificate (λ same. omega (arith, by, is, same)) in
    rw apart (row-find round (first + 1) row (row-tail round first (Some p) row of) k author (omega (arith, is)))

or_none : {X : Type 0} (o : Option X) → option_or o None ≡ o
or_none (Some x) = refl
or_none None = refl

rows-find : (first : ℕ) (rows : List Row) → OfRows first rows → (i round author : ℕ) → round ≡ first + i
    → find (at round author) (in_rows rows) ≡ option_map certificate_of (option_and_then (λ row. option_and_then (λ held. held) (slice_get row author)) (slice_get rows i))
rows-find first [] of i round author is = refl
rows-find first (row ∷ rows) of zero round author is =
    let here = rows-first first row rows of in
    let same : first ≡ round = omega (arith, is) in
    ap (find (at round author)) (in_rows-cons row rows) ∙ find-append (at round author) (in_row row) (in_rows rows)
    ∙ ap (option_or (find (at round author) (in_row row))) (none_found (at round author) (in_rows rows)
    (λ j e inside. let least = rows-all (first + 1) rows (rows-tail first row rows of) j e inside in other_round round author (get_or (in_rows rows) j e) (λ eq. omega (arith, eq, is, least))))
    ∙ or_none (find (at round author) (in_row row)) ∙ row-find round 0 row (subst (λ (r : ℕ). OfRow r 0 row) same here) author author (omega arith)
rows-find first (row ∷ rows) of (suc i) round author is =
    let here = rows-first first row rows of in
    ap (find (at round author)) (in_rows-cons row rows) ∙ find-append (at round author) (in_row row) (in_rows rows)
    ∙ ap (λ o. option_or o (find (at round author) (in_rows rows))) (none_found (at round author) (in_row row)
    (λ j e inside. let x = row-all first 0 row here j e inside in let of_it = x.0 in other_round round author (get_or (in_row row) j e) (λ eq. omega (arith, eq, is, of_it))))
    ∙ rows-find (first + 1) rows (rows-tail first row rows of) i round author (omega (arith, is))

-- ---- a DAG

of_graph : (graph : DagView) → IsGraph graph → OfRows graph.floor graph.rounds
of_graph graph is i row there k p held =
    let placed : slots_in graph (graph.floor + i) k ≡ Some p.certificate =
    let high : nat_le graph.floor (graph.floor + i) ≡ true = grind (arith, common_steps) in
    let place : graph.floor + i - graph.floor ≡ i = omega arith in
    rw high (rw place (rw there (rw held refl))) in
    let slot = slot_is (graph.floor + i) k p.certificate.header (is.placed (graph.floor + i) k p.certificate placed) in
    let author = slot.1 in
    (slot.0, omega (arith, author))

pub they_rise : (graph : DagView) → IsGraph graph → AllPairs (λ one other. comes_first one other ≡ true) (certificates_in graph)
they_rise graph is = rows-pairs graph.floor graph.rounds (of_graph graph is)

pub found_in : (graph : DagView) → IsGraph graph → (round author : ℕ) → find (at round author) (certificates_in graph) ≡ slots_in graph round author
found_in graph is round author =
    let of = of_graph graph is in
    elim (cases_lt round graph.floor) [
      | inl low ↦
          let below : nat_le graph.floor round ≡ false = grind (arith, low, common_steps) in
          none_found (at round author) (certificates_in graph) (λ j e inside. let least = rows-all graph.floor graph.rounds of j e inside in other_round round author
          (get_or (certificates_in graph) j e) (λ eq. omega (arith, eq, low, least)))
          ∙ sym (rw below refl)
      | inr high ↦
          let above : nat_le graph.floor round ≡ true = grind (arith, high, common_steps) in
          rows-find graph.floor graph.rounds of (round - graph.floor) round author (omega (arith, high)) ∙ sym (rw above refl)
    ]
