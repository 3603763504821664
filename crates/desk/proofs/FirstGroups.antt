-- What an area tells is said by the records for which it stands.
use Rattle.std.proofs.Common.{◌≡◌, inl, inr, ℕ, zero, suc, ◌+◌, ◌<◌, ◌≤◌, List, [], ◌∷◌, ◌++◌, length, Option, Some, Result, Ok, Err, refl, sym, ap, ◌∙◌, subst, arith, ltb, append_assoc}
use Rattle.std.specs.Prelude.{All}
use Rattle.std.specs.Option.{option_and_then}
use Rattle.std.proofs.lemmas.Bool.{cases_eq, le-ltb, cond-false}
use Rattle.std.proofs.lemmas.List.Elements.{All-nil, All-cons, All-append, All-head, All-weaker}
use Rattle.journal.specs.Areas.{generation_of, reports}
use Rattle.journal.specs.Format.{body_at, group_of, kept_at, kept, walk, scan, only_records, stands}
use Rattle.journal.specs.declared.record.Record.{Record}
use Rattle.journal.proofs.Reporting.{reports_first}
use Rattle.journal.proofs.Walks.{Found, goes, closed_is, stands_short}

-- a gate at this place or after it
abbrev IsFrom : ℕ → Record → Type 0
IsFrom place one = place ≤ one.gate

-- a gate after the first one
abbrev pub IsLater : Record → Type 0
IsLater one = 0 < one.gate

kept_from : (place gate : ℕ) (group : List (List ℕ)) → place ≤ gate → All (IsFrom place) (kept gate group)
kept_from place gate [] less = All-nil (IsFrom place)
kept_from place gate (bytes ∷ group) less = All-cons (IsFrom place) (kept_at gate bytes) (kept gate group) less (kept_from place gate group less)

-- the gates that a walk finds
walk_from : (bytes : List ℕ) (place passed : ℕ) (found : Found) → walk place passed bytes ≡ Ok found → All (IsFrom place) found.0
unfolding walk
walk_from [] place passed found walked =
    let is : found ≡ ([], place) = cc in
    subst (λ (f : Found). All (IsFrom place) f.0) (sym is) (All-nil (IsFrom place))
walk_from (b ∷ rest) place (suc k) found walked =
    All-weaker (IsFrom (place + 1)) (IsFrom place) (λ one less. omega (arith, less)) found.0 (walk_from rest (place + 1) k found walked)
walk_from (b ∷ rest) place zero found walked = elim (cases_eq b 0) [
  | inl shut ↦ subst (λ (f : Found). All (IsFrom place) f.0) (sym (closed_is place b rest found shut walked)) (All-nil (IsFrom place))
  | inr is_open ↦
      let on = goes place b rest found is_open walked in
      let more = walk_from rest (place + 1) (4 + length on.body) on.more on.on in
      subst (λ (f : Found). All (IsFrom place) f.0) (sym on.is)
      (All-append (IsFrom place) (kept place on.records) on.more.0 (kept_from place place on.records (omega arith))
      (All-weaker (IsFrom (place + 1)) (IsFrom place) (λ one less. omega (arith, less)) on.more.0 more))
]

-- the first group of an area, and what it tells by that
record HasFirstGroup (file : List ℕ) (records : List Record) : Type 0 where
  group : List (List ℕ)
  later : List Record
  reported : reports file ≡ Some (generation_of group)
  are : records ≡ kept 0 group ++ later
  after : All IsLater later

-- a file that stands for records is walked
walked_of : (file : List ℕ) (records : List Record) → 2 ≤ length file → stands file ≡ Ok records → (found : Found) × (walk 0 0 file ≡ Ok found) × (found.0 ≡ records)
unfolding stands scan
walked_of file records long is =
    of_walk (walk 0 0 file) (sym (ap only_records (cond-false (ltb (length file) 2) (Ok ([], 0)) (walk 0 0 file) (le-ltb (length file) 2 long))) ∙ is)
  where
    of_walk : (r : Result Found ℕ) → only_records r ≡ Ok records → (found : Found) × (r ≡ Ok found) × (found.0 ≡ records)
    of_walk (Ok found) same = (found, refl, cc)
    of_walk (Err place) same = absurd cc

decoded_group : (bytes body : List ℕ) (group : List (List ℕ)) → body_at bytes ≡ Some body → group_of body ≡ Some group
    → option_and_then (λ (b : List ℕ). option_and_then generation_of (group_of b)) (body_at bytes) ≡ generation_of group
decoded_group bytes body group at_body is_group =
    ap (λ (o : Option (List ℕ)). option_and_then (λ (b : List ℕ). option_and_then generation_of (group_of b)) o) at_body
    ∙ ap (λ (o : Option (List (List ℕ))). option_and_then generation_of o) is_group

same_records : (one other : List Record) → ◌≡◌ {A = Result (List Record) ℕ} (Ok one) (Ok other) → one ≡ other
same_records one other same = cc

-- a file of one byte at most has none
none_short : (file : List ℕ) (records : List Record) → length file < 2 → stands file ≡ Ok records → 1 ≤ length records → ⊥
none_short file records short is some = omega (arith, some, ap length (same_records [] records (sym (stands_short file short) ∙ is)))

first_group : (file : List ℕ) (records : List Record) → stands file ≡ Ok records → 1 ≤ length records → HasFirstGroup file records
first_group [] records is some = absurd (none_short [] records (omega arith) is some)
first_group (gate ∷ []) records is some = absurd (none_short (gate ∷ []) records (omega arith) is some)
first_group (gate ∷ byte ∷ rest) records is some =
    let walked = walked_of (gate ∷ byte ∷ rest) records (omega arith) is in
    elim (cases_eq gate 0) [
      | inl shut ↦ absurd (omega (arith, some, ap length (sym walked.2 ∙ ap (λ (f : Found). f.0) (closed_is 0 gate (byte ∷ rest) walked.0 shut walked.1))))
      | inr is_open ↦
          let on = goes 0 gate (byte ∷ rest) walked.0 is_open walked.1 in
          record {
            group = on.records;
            later = on.more.0;
            reported = reports_first gate (byte ∷ rest) is_open (omega arith) ∙ ap Some (decoded_group (byte ∷ rest) on.body on.records on.at_body on.is_group);
            are = sym walked.2 ∙ ap (λ (f : Found). f.0) on.is;
            after = All-weaker (IsFrom 1) IsLater (λ one less. omega (arith, less)) on.more.0 (walk_from (byte ∷ rest) 1 (4 + length on.body) on.more on.on);
          }
    ]

-- records with a later gate begin none with the first gate
none_first : (bytes : List ℕ) (records later : List Record) → All IsLater later → later ≡ kept_at 0 bytes ∷ records → ⊥
none_first bytes records later after same = let first = All-head IsLater (kept_at 0 bytes) records (subst (All IsLater) same after) in omega (arith, first)

first_of : (one other : Record) (p q : List Record) → one ∷ p ≡ other ∷ q → one ≡ other
first_of one other p q same = cc

rest_of : (one other : Record) (p q : List Record) → one ∷ p ≡ other ∷ q → p ≡ q
rest_of one other p q same = cc

-- so a list of records has one first group
one_first : (one other : List (List ℕ)) (p q : List Record) → All IsLater p → All IsLater q → kept 0 one ++ p ≡ kept 0 other ++ q → one ≡ other
one_first [] [] p q after also same = refl
one_first [] (bytes ∷ other) p q after also same = absurd (none_first bytes (kept 0 other ++ q) p after same)
one_first (bytes ∷ one) [] p q after also same = absurd (none_first bytes (kept 0 one ++ p) q also (sym same))
one_first (bytes ∷ one) (more ∷ other) p q after also same =
    let head : bytes ≡ more = ap (λ (r : Record). r.bytes) (first_of (kept_at 0 bytes) (kept_at 0 more) (kept 0 one ++ p) (kept 0 other ++ q) same) in
    let tail : one ≡ other = one_first one other p q after also (rest_of (kept_at 0 bytes) (kept_at 0 more) (kept 0 one ++ p) (kept 0 other ++ q) same) in
    (λ i. head i ∷ tail i)

-- Areas tell the same of which one stands for the records of the other, or for these with later ones.
pub reports_alike : (file left : List ℕ) (records more : List Record) → stands file ≡ Ok records → stands left ≡ Ok (records ++ more) → 1 ≤ length records → All IsLater more
    → reports left ≡ reports file
reports_alike file left records more is also some after =
    let one = first_group file records is some in
    let other = first_group left (records ++ more) also (long records some) in
    let parts : kept 0 one.group ++ (one.later ++ more) ≡ kept 0 other.group ++ other.later =
    sym (append_assoc (kept 0 one.group) one.later more) ∙ ap (λ (l : List Record). l ++ more) (sym one.are) ∙ other.are in
    let same : one.group ≡ other.group = one_first one.group other.group (one.later ++ more) other.later (All-append IsLater one.later more one.after after) other.after parts in
    other.reported ∙ ap (λ (g : List (List ℕ)). Some (generation_of g)) (sym same) ∙ sym one.reported
  where
    long : (l : List Record) → 1 ≤ length l → 1 ≤ length (l ++ more)
    long [] none = absurd (omega (arith, none))
    long (r ∷ l) some = omega arith
