-- Where the records of a file stand.
use Rattle.std.proofs.Common.{◌≡◌, ℕ, zero, suc, ◌+◌, ◌<◌, ◌≤◌, inl, inr, List, [], ◌∷◌, length, Result, Ok, Err, refl, sym, ap, ◌∙◌, subst, arith, length-append}
use Rattle.std.specs.Prelude.{All}
use Rattle.std.proofs.lemmas.Bool.{cases_eq, cases_lt}
use Rattle.std.proofs.lemmas.List.Elements.{All-nil, All-cons, All-append}
use Rattle.journal.specs.Format.{kept, kept_at, walk, stands, only_records, in_turn, IsDamagedAt}
use Rattle.journal.specs.declared.record.Record.{Record}
use Rattle.journal.proofs.Walks.{Found, closed_is, goes, stands_short}
use Rattle.opening.proofs.Empty.{scans_long}

stands_is : (file : List ℕ) → 2 ≤ length file → stands file ≡ only_records (walk 0 0 file)
unfolding stands
stands_is file long = ap only_records (scans_long file long)

-- ---- places

-- a record stands below this place
abbrev pub IsBelow : ℕ → Record → Type 0
IsBelow place one = one.gate < place

group_below : (gate place : ℕ) (group : List (List ℕ)) → gate < place → All (IsBelow place) (kept gate group)
group_below gate place [] less = All-nil (IsBelow place)
group_below gate place (bytes ∷ group) less = All-cons (IsBelow place) (kept_at gate bytes) (kept gate group) less (group_below gate place group less)

walk_below : (bytes : List ℕ) (place passed : ℕ) (found : Found) → walk place passed bytes ≡ Ok found → All (IsBelow (place + length bytes)) found.0
unfolding walk
walk_below [] place passed found walked =
    let is : found ≡ ([], place) = cc in
    subst (λ (f : Found). All (IsBelow (place + 0)) f.0) (sym is) (All-nil (IsBelow (place + 0)))
walk_below (b ∷ rest) place (suc k) found walked =
    let same : place + 1 + length rest ≡ place + suc (length rest) = omega arith in
    subst (λ (n : ℕ). All (IsBelow n) found.0) same (walk_below rest (place + 1) k found walked)
walk_below (b ∷ rest) place zero found walked =
    let end = place + suc (length rest) in
    elim (cases_eq b 0) [
      | inl shut ↦ subst (λ (f : Found). All (IsBelow end) f.0) (sym (closed_is place b rest found shut walked)) (All-nil (IsBelow end))
      | inr is_open ↦
          let on = goes place b rest found is_open walked in
          let same : place + 1 + length rest ≡ end = omega arith in
          let more = subst (λ (n : ℕ). All (IsBelow n) on.more.0) same (walk_below rest (place + 1) (4 + length on.body) on.more on.on) in
          subst (λ (f : Found). All (IsBelow end) f.0) (sym on.is)
          (All-append (IsBelow end) (kept place on.records) on.more.0 (group_below place end on.records (omega arith)) more)
    ]

-- the same records
same_records : (one other : List Record) → ◌≡◌ {A = Result (List Record) ℕ} (Ok one) (Ok other) → one ≡ other
same_records one other is = cc

no_records : (place : ℕ) (records : List Record) → ◌≡◌ {A = Result (List Record) ℕ} (Err place) (Ok records) → ⊥
no_records place records is = cc

records_below : (file : List ℕ) (records : List Record) (walked : Result Found ℕ) → walk 0 0 file ≡ walked → only_records walked ≡ Ok records → All (IsBelow (length file)) records
records_below file records (Err place) walked is = absurd (no_records place records is)
records_below file records (Ok found) walked is =
    let zero_more : 0 + length file ≡ length file = omega arith in
    let below = subst (λ (n : ℕ). All (IsBelow n) found.0) zero_more (walk_below file 0 0 found walked) in
    subst (All (IsBelow (length file))) (same_records found.0 records is) below

-- the records of a file stand below its end
pub stands_below : (file : List ℕ) (records : List Record) → stands file ≡ Ok records → All (IsBelow (length file)) records
stands_below file records is = elim (cases_lt (length file) 2) [
  | inl short ↦ subst (All (IsBelow (length file))) (same_records [] records (sym (stands_short file short) ∙ is)) (All-nil (IsBelow (length file)))
  | inr long ↦ records_below file records (walk 0 0 file) refl (sym (stands_is file long) ∙ is)
]

-- and so does the gate without a whole group after it
pub damaged_below : (bytes : List ℕ) (place : ℕ) → IsDamagedAt bytes place → place < length bytes
damaged_below bytes place damaged =
    omega (arith, damaged.here, ap length damaged.written, length-append (in_turn damaged.groups) (damaged.gate ∷ damaged.after))
