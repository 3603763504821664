-- That the first record of a journal stands in a group at place 0, and that a journal without records ends there, so that the
-- configuration's group fits after it.
use Rattle.std.proofs.Common.{◌≡◌, ◌≢◌, ℕ, ◌+◌, ◌-◌, ◌<◌, ◌≤◌, inl, inr, Bool, true, false, cond, eqb, ltb, List, [], ◌∷◌, ◌++◌, length, get_or, Option}
use Rattle.std.proofs.Common.{Some, None, Result, Ok, Err, refl, sym, ap, ◌∙◌, arith, length-append}
use Rattle.std.specs.Option.{option_map, option_and_then, option_map_or}
use Rattle.std.proofs.lemmas.Bool.{cases_eq, cases_lt, le-ltb, ne_eqb, cond-false}
use Rattle.journal.specs.Format.{group_bytes, split_record, records_after, records_of, group_of, body_at, kept_at, kept, with_front, walk, scan, only_records, stands}
use Rattle.journal.specs.Journal.{with_group, EndsClosed, IsBeforeOrAfter}
use Rattle.journal.specs.declared.layout.TheConstants.{MAX_GROUP_RECORDS, MAX_JOURNAL_BYTES}
use Rattle.journal.specs.declared.record.Record.{Record}
use Rattle.journal.proofs.Walks.{walk_closed, body_stands, goes, stands_short}
use Rattle.spec_model.specs.Nodes.{Node}
use Rattle.spec_records.specs.Records.{configuration_of}
use Rattle.journal.specs.declared.version.Version.{Version}
use Rattle.opening.specs.Decoded.{KeepsOrBegins}

abbrev Found : Type 0
Found = List Record × ℕ

-- a record and others are some
some_more : (first : List ℕ) (others : Option (List (List ℕ))) → option_map (λ rest. first ∷ rest) others ≡ Some [] → ⊥
some_more first None is = cc
some_more first (Some rest) is = cc

some_first : (parts : Option (List ℕ × List ℕ)) (more : (List ℕ × List ℕ) → Option (List (List ℕ))) → option_and_then (λ p. option_map (λ rest. p.0 ∷ rest) (more p)) parts ≡ Some [] → ⊥
some_first None more is = cc
some_first (Some p) more is = some_more p.0 (more p) is

-- a body of some bytes has a record
records_some : (byte : ℕ) (rest : List ℕ) → records_of (byte ∷ rest) ≡ Some [] → ⊥
unfolding records_after
records_some byte rest is = some_first (split_record (byte ∷ rest)) (λ p. records_after (3 + length p.0) rest) is

too_many : (b : Bool) (r : List ℕ) (rs : List (List ℕ)) → ◌≡◌ {A = Option (List (List ℕ))} (cond b None (Some (r ∷ rs))) (Some []) → ⊥
too_many true r rs is = cc
too_many false r rs is = cc

within_limit : (records : Option (List (List ℕ))) → option_and_then (λ r. cond (ltb MAX_GROUP_RECORDS (length r)) None (Some r)) records ≡ Some [] → records ≡ Some []
within_limit None is = absurd (cc)
within_limit (Some []) is = refl
within_limit (Some (r ∷ rs)) is = absurd (too_many (ltb MAX_GROUP_RECORDS (length (r ∷ rs))) r rs is)

group_some : (body : List ℕ) → 1 ≤ length body → group_of body ≡ Some [] → ⊥
unfolding group_of
group_some [] some is = omega arith
group_some (byte ∷ rest) some is = records_some byte rest (within_limit (records_of (byte ∷ rest)) is)

-- the records that were found, and the place
abbrev firsts : Result Found ℕ → List Record
firsts (Ok found) = found.0
firsts (Err gate) = []

abbrev place_of : Result Found ℕ → ℕ
place_of (Ok found) = found.1
place_of (Err gate) = gate

none_there : (one : Record) (rest : List Record) → one ∷ rest ≡ [] → ⊥
none_there one rest is = cc

ok_is : (one other : List Record) → ◌≡◌ {A = Result (List Record) ℕ} (Ok one) (Ok other) → one ≡ other
ok_is one other same = cc

-- what an open gate gives has a record
front_some : (records : List (List ℕ)) (after : Result Found ℕ) (place : ℕ) → with_front (kept 0 records) after ≡ Ok ([], place) → records ≡ []
front_some records (Err gate) place is = absurd (cc)
front_some [] (Ok found) place is = refl
front_some (r ∷ rs) (Ok found) place is = absurd (none_there (kept_at 0 r) (kept 0 rs ++ found.0) (ap firsts is))

in_group : (group : Option (List (List ℕ))) (after : Result Found ℕ) (place : ℕ) → option_map_or (λ records. with_front (kept 0 records) after) group (Err 0) ≡ Ok ([], place) → group ≡ Some []
in_group None after place is = absurd (cc)
in_group (Some records) after place is = ap Some (front_some records after place is)

in_body : (body : Option (List ℕ)) (after : List ℕ → Result Found ℕ) (place : ℕ) → ((b : List ℕ) → body ≡ Some b → 1 ≤ length b)
    → option_map_or (λ b. option_map_or (λ records. with_front (kept 0 records) (after b)) (group_of b) (Err 0)) body (Err 0) ≡ Ok ([], place) → ⊥
in_body None after place long is = cc
in_body (Some b) after place long is = group_some b (long b refl) (in_group (group_of b) (after b) place is)

pub walk_open : (gate : ℕ) (rest : List ℕ) (place : ℕ) → gate ≢ 0 → walk 0 0 (gate ∷ rest) ≡ Ok ([], place) → ⊥
unfolding walk
walk_open gate rest place other is =
    in_body (body_at rest) (λ b. walk 1 (4 + length b) rest) place
    (λ b found. let s = body_stands rest b found in omega (arith, s.some, s.long))
    (sym (cond-false (eqb gate 0) (Ok ([], 0)) _ (ne_eqb gate 0 other)) ∙ is)

-- a file of two bytes or more is read from its front
pub scans_long : (file : List ℕ) → 2 ≤ length file → scan file ≡ walk 0 0 file
unfolding scan
scans_long file long = cond-false (ltb (length file) 2) (Ok ([], 0)) (walk 0 0 file) (le-ltb (length file) 2 long)

-- ---- the first record

first_kept : (one first : Record) (records : List (List ℕ)) (more rest : List Record) → 1 ≤ length records → kept 0 records ++ more ≡ first ∷ rest → first.gate ≡ 0
first_kept one first [] more rest some is = absurd (omega (arith, some))
first_kept one first (bytes ∷ records) more rest some is = ap (λ (l : List Record). (get_or l 0 one).gate) (sym is)

some_in : (records : List (List ℕ)) → (records ≡ [] → ⊥) → 1 ≤ length records
some_in [] none = absurd (none refl)
some_in (one ∷ records) none = omega arith

walk_first : (file : List ℕ) (first : Record) (rest : List Record) (place : ℕ) → walk 0 0 file ≡ Ok (first ∷ rest, place) → first.gate ≡ 0
unfolding walk
walk_first [] first rest place is = absurd (none_there first rest (ap firsts (sym is)))
walk_first (gate ∷ bytes) first rest place is =
    elim (cases_eq gate 0) [
      | inl closed ↦ absurd (none_there first rest (ap firsts (sym is ∙ walk_closed 0 gate bytes closed)))
      | inr other ↦
          let on = goes 0 gate bytes (first ∷ rest, place) other is in
          let long = body_stands bytes on.body on.at_body in
          let some = some_in on.records (λ none. group_some on.body (omega (arith, long.some, long.long)) (on.is_group ∙ ap Some none)) in
          first_kept first first on.records on.more.0 rest some (ap (λ (found : Found). found.0) (sym on.is))
    ]

first_in : (found : Result Found ℕ) (file : List ℕ) (first : Record) (rest : List Record) → walk 0 0 file ≡ found → only_records found ≡ Ok (first ∷ rest) → first.gate ≡ 0
first_in (Ok (records, place)) file first rest walked is = walk_first file first rest place (walked ∙ ap (λ (l : List Record). Ok (l, place)) (ok_is records (first ∷ rest) is))
first_in (Err gate) file first rest walked is = absurd (cc)

-- it stands in a group whose gate is at place 0
pub first_at_zero : (file : List ℕ) (first : Record) (rest : List Record) → stands file ≡ Ok (first ∷ rest) → first.gate ≡ 0
unfolding stands scan
first_at_zero file first rest is = elim (cases_lt (length file) 2) [
  | inl short ↦ absurd (none_there first rest (sym (ok_is [] (first ∷ rest) (sym (stands_short file short) ∙ is))))
  | inr long ↦ first_in (walk 0 0 file) file first rest refl (sym (ap only_records (cond-false (ltb (length file) 2) (Ok ([], 0)) (walk 0 0 file) (le-ltb (length file) 2 long))) ∙ is)
]

-- ---- no record

walk_none : (gate : ℕ) (rest : List ℕ) (place : ℕ) → walk 0 0 (gate ∷ rest) ≡ Ok ([], place) → place ≡ 0
walk_none gate rest place is =
    elim (cases_eq gate 0) [
      | inl closed ↦ ap place_of (sym is ∙ walk_closed 0 gate rest closed)
      | inr other ↦ absurd (walk_open gate rest place other is)
    ]

one_byte : (file : List ℕ) → walk 0 0 file ≡ Ok ([], length file - 1) → 0 < length file → length file ≡ 1
one_byte [] ends some = absurd (omega arith)
one_byte (gate ∷ rest) ends some = let place = walk_none gate rest (length (gate ∷ rest) - 1) ends in omega (arith, place)

-- a file that ends closed and stands for no record is one byte long
pub empty_length : (file : List ℕ) → EndsClosed file → stands file ≡ Ok [] → length file ≡ 1
empty_length file ends none =
    let records : ends.records ≡ [] = ok_is ends.records [] (sym ends.stands_for ∙ none) in
    one_byte file (ends.ends ∙ ap (λ (r : List Record). Ok (r, length file - 1)) records) ends.some

group_length : (bytes : List ℕ) → length (group_bytes (bytes ∷ [])) ≡ 9 + length bytes
group_length bytes = omega (arith, length-append (bytes ++ []) (0 ∷ []), length-append bytes [])

-- so that a short record's group fits after it
pub never_full : (file : List ℕ) (record_bytes : List ℕ) → EndsClosed file → stands file ≡ Ok [] → length record_bytes ≤ 1130
    → MAX_JOURNAL_BYTES < length file + length (group_bytes (record_bytes ∷ [])) → ⊥
never_full file record_bytes ends none short full =
    omega (arith, full, empty_length file ends none, group_length record_bytes, short)

-- what a stop leaves while a first record is added to it
pub begins_with : (version : Version) (node : Node) (file left : List ℕ) → EndsClosed file → stands file ≡ Ok []
    → IsBeforeOrAfter file (configuration_of version node.charter node.own ∷ []) left → KeepsOrBegins version node file left
begins_with version node file left ends none (inl same) = inl ([], none, same ∙ none)
begins_with version node file left ends none (inr with_it) =
    let configuration = configuration_of version node.charter node.own in
    let gate : length file - 1 ≡ 0 = omega (arith, empty_length file ends none) in
    inr (none, with_it ∙ ap (with_group (length file - 1) (configuration ∷ [])) none ∙ ap (λ (place : ℕ). Ok (kept_at place configuration ∷ [])) gate)
