-- What an area tells by what it stands for: the records of its first group are those whose gate is the first byte.
use Rattle.std.proofs.Common.{◌≡◌, inl, inr, ℕ, zero, suc, ◌+◌, ◌<◌, ◌≤◌, List, [], ◌∷◌, ◌++◌, length, Option, Some, Result, Ok, Err, refl, sym, ap, ◌∙◌, subst, arith, length-append, eqb, ltb, cond}
use Rattle.std.specs.Prelude.{All, if◌then◌else◌, ◌==◌}
use Rattle.std.specs.Option.{option_and_then}
use Rattle.std.proofs.lemmas.Bool.{cases_lt, cases_eq, cond-false, le-ltb, ne_eqb}
use Rattle.std.proofs.lemmas.List.Elements.{All-nil, All-cons, All-append, All-head, All-weaker}
use Rattle.journal.specs.Areas.{generation_of, reports}
use Rattle.journal.specs.Format.{group_of, kept_at, kept, walk, scan, stands, only_records}
use Rattle.journal.specs.declared.record.Record.{Record}
use Rattle.journal.proofs.Reporting.{reports_first}
use Rattle.journal.proofs.Walks.{Found, goes, closed_is, body_stands, stands_short}
use Rattle.spec_world.proofs.Recovering.{ok_is}

-- ---- gates don't stand before where a walk began

abbrev IsNotBefore : ℕ → Record → Type 0
IsNotBefore place one = place ≤ one.gate

kept_not_before : (place gate : ℕ) (group : List (List ℕ)) → place ≤ gate → All (IsNotBefore place) (kept gate group)
kept_not_before place gate [] less = All-nil (IsNotBefore place)
kept_not_before place gate (bytes ∷ group) less = All-cons (IsNotBefore place) (kept_at gate bytes) (kept gate group) less (kept_not_before place gate group less)

walk_not_before : (bytes : List ℕ) (place passed : ℕ) (found : Found) → walk place passed bytes ≡ Ok found → All (IsNotBefore place) found.0
unfolding walk
walk_not_before [] place passed found walked =
    let is : found ≡ ([], place) = cc in
    subst (λ (f : Found). All (IsNotBefore place) f.0) (sym is) (All-nil (IsNotBefore place))
walk_not_before (b ∷ rest) place (suc k) found walked =
    All-weaker (IsNotBefore (place + 1)) (IsNotBefore place) (λ one less. omega (arith, less)) found.0 (walk_not_before rest (place + 1) k found walked)
walk_not_before (b ∷ rest) place zero found walked = elim (cases_eq b 0) [
  | inl shut ↦ subst (λ (f : Found). All (IsNotBefore place) f.0) (sym (closed_is place b rest found shut walked)) (All-nil (IsNotBefore place))
  | inr is_open ↦
      let on = goes place b rest found is_open walked in
      let more = walk_not_before rest (place + 1) (4 + length on.body) on.more on.on in
      subst (λ (f : Found). All (IsNotBefore place) f.0) (sym on.is)
      (All-append (IsNotBefore place) (kept place on.records) on.more.0 (kept_not_before place place on.records (omega arith))
      (All-weaker (IsNotBefore (place + 1)) (IsNotBefore place) (λ one less. omega (arith, less)) on.more.0 more))
]

-- ---- the first group

-- the bytes of the records at the front whose gate is the first byte
abbrev at_zero : List Record → List (List ℕ)
at_zero [] = []
at_zero (one ∷ rest) = if one.gate == 0 then one.bytes ∷ at_zero rest else []

abbrev pub IsAfterFirst : Record → Type 0
IsAfterFirst one = 0 < one.gate

none_at_zero : (records : List Record) → All IsAfterFirst records → at_zero records ≡ []
none_at_zero [] all = refl
none_at_zero (one ∷ rest) all =
    let less = All-head IsAfterFirst one rest all in
    cond-false (eqb one.gate 0) (one.bytes ∷ at_zero rest) [] (ne_eqb one.gate 0 (λ zero_is. omega (arith, less)))

kept_at_zero : (group : List (List ℕ)) (more : List Record) → All IsAfterFirst more → at_zero (kept 0 group ++ more) ≡ group
kept_at_zero [] more all = none_at_zero more all
kept_at_zero (bytes ∷ group) more all = ap (λ (l : List (List ℕ)). bytes ∷ l) (kept_at_zero group more all)

more_at_zero : (records more : List Record) → All IsAfterFirst more → at_zero (records ++ more) ≡ at_zero records
more_at_zero [] more all = none_at_zero more all
more_at_zero (one ∷ rest) more all =
    ap (λ (l : List (List ℕ)). cond (eqb one.gate 0) (one.bytes ∷ l) []) (more_at_zero rest more all)

-- what a walk finds first
reported_by_walk : (file : List ℕ) (found : Found) → walk 0 0 file ≡ Ok found → 1 ≤ length found.0 → reports file ≡ Some (generation_of (at_zero found.0))
unfolding walk
reported_by_walk [] found walked some =
    let is : found ≡ ([], 0) = cc in
    absurd (omega (arith, some, ap (λ (f : Found). length f.0) is))
reported_by_walk (gate ∷ rest) found walked some = elim (cases_eq gate 0) [
  | inl shut ↦ absurd (omega (arith, some, ap (λ (f : Found). length f.0) (closed_is 0 gate rest found shut walked)))
  | inr is_open ↦
      let on = goes 0 gate rest found is_open walked in
      let inside = (body_stands rest on.body on.at_body).inside in
      let more = walk_not_before rest (0 + 1) (4 + length on.body) on.more on.on in
      let first : at_zero found.0 ≡ on.records =
      ap (λ (f : Found). at_zero f.0) on.is
      ∙ kept_at_zero on.records on.more.0 (All-weaker (IsNotBefore (0 + 1)) IsAfterFirst (λ one less. omega (arith, less)) on.more.0 more) in
      reports_first gate rest is_open (omega (arith, inside))
      ∙ ap (λ (o : Option (List ℕ)). Some (option_and_then (λ body. option_and_then generation_of (group_of body)) o)) on.at_body
      ∙ ap (λ (o : Option (List (List ℕ))). Some (option_and_then generation_of o)) on.is_group
      ∙ ap (λ (l : List (List ℕ)). Some (generation_of l)) (sym first)
]

-- what stands for records was walked
record WalkedTo (file : List ℕ) (records : List Record) : Type 0 where
  found : Found
  walked : walk 0 0 file ≡ Ok found
  is : found.0 ≡ records

walked_to : (file : List ℕ) (records : List Record) → stands file ≡ Ok records → 2 ≤ length file → WalkedTo file records
unfolding stands scan
walked_to file records is long =
    by_walk (walk 0 0 file) refl (sym (ap only_records (cond-false (ltb (length file) 2) (Ok ([], 0)) (walk 0 0 file) (le-ltb (length file) 2 long))) ∙ is)
  where
    by_walk : (found : Result Found ℕ) → walk 0 0 file ≡ found → only_records found ≡ Ok records → WalkedTo file records
    by_walk (Ok found) walked same = record { found = found; walked = walked; is = ok_is found.0 records same }
    by_walk (Err place) walked same = absurd (cc)

-- an area that stands for a record tells what the first of them say
reported_by : (file : List ℕ) (records : List Record) → stands file ≡ Ok records → 1 ≤ length records → reports file ≡ Some (generation_of (at_zero records))
reported_by file records is some = elim (cases_lt (length file) 2) [
  | inl short ↦ absurd (omega (arith, some, ap length (ok_is records [] (sym is ∙ stands_short file short))))
  | inr long ↦
      let it = walked_to file records is long in
      reported_by_walk file it.found it.walked (omega (arith, some, ap length it.is)) ∙ ap (λ (l : List Record). Some (generation_of (at_zero l))) it.is
]

-- so one that stands for these records and more in later groups tells the same
pub reports_as : (file left : List ℕ) (records more : List Record) → stands file ≡ Ok records → stands left ≡ Ok (records ++ more) → 1 ≤ length records → All IsAfterFirst more
    → reports left ≡ reports file
reports_as file left records more is also some after =
    reported_by left (records ++ more) also (omega (arith, some, length-append records more))
    ∙ ap (λ (l : List (List ℕ)). Some (generation_of l)) (more_at_zero records more after)
    ∙ sym (reported_by file records is some)
