-- The first group of the area that is read of two: a configuration, alone or with a head, and all that follows comes after it.
use Rattle.std.proofs.Common.{◌≡◌, ◌≢◌, ℕ, zero, suc, ◌+◌, ◌<◌, ◌≤◌, inl, inr, Bool, true, false, cond, eqb, ltb, List, []}
use Rattle.std.proofs.Common.{◌∷◌, ◌++◌, length, get_or, map, drop, Option, Some, None, Result, Ok, Err, refl, sym, ap, ◌∙◌, subst, arith}
use Rattle.std.specs.Prelude.{All, not, ◌⊎◌}
use Rattle.std.specs.Int.{w64, from_be_bytes, to_be_bytes}
use Rattle.std.specs.Option.{option_and_then}
use Rattle.std.proofs.lemmas.Bool.{cases_eq, eq-eqb, ne_eqb}
use Rattle.std.proofs.lemmas.List.Elements.{All-nil, All-cons, All-append, All-map, All-weaker}
use Rattle.std.proofs.lemmas.Nat.{be_bytes_8}
use Rattle.diskmodel.specs.Outcomes.{AreBytes}
use Rattle.journal.specs.Areas.{pair, head_record, unless_zero, head_in, generation_of, first_generation, reports, base_of, chosen, moved, moved_by, stands_at, read_from, stands_in}
use Rattle.journal.specs.Configuration.{shaped_version}
use Rattle.journal.specs.Format.{group_of, body_at, kept_at, kept, walk, stands}
use Rattle.journal.specs.declared.record.Record.{Record}
use Rattle.journal.specs.declared.side.Side.{Side}
use Rattle.journal.specs.declared.side.Side.TheVariants.{First, Second}
use Rattle.journal.specs.declared.version.Version.{Version}
use Rattle.journal.proofs.Stops.{scan_ok, scan_err}
use Rattle.journal.proofs.Reporting.{gate_open, reports_long, reports_first, by_reporting}
use Rattle.journal.proofs.Walks.{goes, closed_is}
use Rattle.spec_world.proofs.Recovering.{at_side}
use Rattle.opening.specs.Decoded.{IsText}
use Rattle.opening.proofs.Empty.{scans_long}
use Rattle.opening.proofs.EventRecords.{each_byte}
use Rattle.opening.proofs.GroupTexts.{OnlyGroups, stands_texts}
use Rattle.wire_read.proofs.Steps.{IsBytes-drop}

abbrev pub Found : Type 0
Found = List Record × ℕ

-- ---- gates

-- a gate at this place or after it
abbrev pub IsFrom : ℕ → Record → Type 0
IsFrom place one = place ≤ one.gate

kept_from : (gate place : ℕ) (group : List (List ℕ)) → place ≤ gate → All (IsFrom place) (kept gate group)
kept_from gate place [] below = All-nil (IsFrom place)
kept_from gate place (bytes ∷ group) below = All-cons (IsFrom place) (kept_at gate bytes) (kept gate group) below (kept_from gate place group below)

-- what is found from a place on stands there or after it
pub walk_from : (bytes : List ℕ) (place passed : ℕ) (found : Found) → walk place passed bytes ≡ Ok found → All (IsFrom place) found.0
unfolding walk
walk_from [] place passed found walked =
    let is : found ≡ ([], place) = cc in
    subst (λ (f : Found). All (IsFrom place) f.0) (sym is) (All-nil (IsFrom place))
walk_from (b ∷ rest) place (suc k) found walked =
    All-weaker (IsFrom (place + 1)) (IsFrom place) (λ one more. omega (arith, more)) found.0 (walk_from rest (place + 1) k found walked)
walk_from (b ∷ rest) place zero found walked = elim (cases_eq b 0) [
  | inl shut ↦ subst (λ (f : Found). All (IsFrom place) f.0) (sym (closed_is place b rest found shut walked)) (All-nil (IsFrom place))
  | inr is_open ↦
      let on = goes place b rest found is_open walked in
      let more = walk_from rest (place + 1) (4 + length on.body) on.more on.on in
      subst (λ (f : Found). All (IsFrom place) f.0) (sym on.is)
      (All-append (IsFrom place) (kept place on.records) on.more.0 (kept_from place place on.records (omega arith))
      (All-weaker (IsFrom (place + 1)) (IsFrom place) (λ one above. omega (arith, above)) on.more.0 more))
]

-- ---- the first group

-- a record after this one's group
abbrev pub IsAfterFirst : Record → Record → Type 0
IsAfterFirst first one = first.gate < one.gate

-- the record after the first is a head in its group, or comes after it
pub data BeginsWith (first : Record) (rest : List Record) : Type 0 where
  with_head : (head : Record) (more : List Record) (generation : ℕ) → rest ≡ head ∷ more → head.gate ≡ first.gate → head_in head.bytes ≡ Some generation
      → All (IsAfterFirst first) more → BeginsWith first rest
  without_head : All (IsAfterFirst first) rest → BeginsWith first rest

-- what a first group is that has a generation
some_version : {X : Type 0} (version : Option Version) (f : Version → Option X) (x : X) → option_and_then f version ≡ Some x → (v : Version) × (version ≡ Some v) × (f v ≡ Some x)
some_version None f x is = absurd (cc)
some_version (Some v) f x is = (v, refl, is)

-- the records of an area, from one byte after its first gate on
record Begins (records : List Record) (group : List (List ℕ)) (generation : ℕ) : Type 0 where
  more : List Record
  are : records ≡ kept 0 group ++ more
  after : All (IsFrom 1) more
  is_group : generation_of group ≡ Some generation

and_then_is : {X Y : Type 0} (found : Option X) (f : X → Option Y) (y : Y) (x : X) → option_and_then f found ≡ Some y → found ≡ Some x → f x ≡ Some y
and_then_is found f y x is some = sym (ap (option_and_then f) some) ∙ is

opened : (gate : ℕ) (bytes : List ℕ) (generation : ℕ) (found : Found) → gate ≢ 0 → first_generation bytes ≡ Some generation → walk 0 0 (gate ∷ bytes) ≡ Ok found
    → (group : List (List ℕ)) × Begins found.0 group generation
opened gate bytes generation found is_open is walked =
    let on = goes 0 gate bytes found is_open walked in
    let of_body = and_then_is (body_at bytes) (λ body. option_and_then generation_of (group_of body)) generation on.body is on.at_body in (
      on.records,
      record {
        more = on.more.0;
        are = ap (λ (f : Found). f.0) on.is;
        after = walk_from bytes 1 (4 + length on.body) on.more on.on;
        is_group = and_then_is (group_of on.body) generation_of generation on.records of_body on.is_group;
      },
    )

some_same : (one other : ℕ) (reported : Option ℕ) → ◌≡◌ {A = Option (Option ℕ)} (Some reported) (Some (Some other)) → reported ≡ Some other
some_same one other reported is = cc

found_by : (file : List ℕ) (generation : ℕ) (records : List Record) (read : Result Found ℕ) → reports file ≡ Some (Some generation) → stands file ≡ Ok records → walk 0 0 file ≡ read
    → (group : List (List ℕ)) × Begins records group generation
found_by file generation records (Err place) reported is walked = absurd (no_walk (sym is ∙ (scan_err file place (scans_long file (reports_long file (Some generation) reported) ∙ walked))))
  where
    no_walk : ◌≡◌ {A = Result (List Record) ℕ} (Ok records) (Err place) → ⊥
    no_walk same = cc
found_by [] generation records (Ok found) reported is walked = absurd (omega (arith, reports_long [] (Some generation) reported))
found_by (gate ∷ bytes) generation records (Ok found) reported is walked =
    let is_open = gate_open gate bytes (Some generation) reported in
    let long = reports_long (gate ∷ bytes) (Some generation) reported in
    let first = some_same 0 generation (first_generation bytes) (sym (reports_first gate bytes is_open (omega (arith, long))) ∙ reported) in
    let same : found.0 ≡ records = ok_same found.0 records (sym (scan_ok (gate ∷ bytes) found (scans_long (gate ∷ bytes) long ∙ walked)) ∙ is) in
    let at = opened gate bytes generation found is_open first walked in
    (at.0, subst (λ (l : List Record). Begins l at.0 generation) same at.1)
  where
    ok_same : (one other : List Record) → ◌≡◌ {A = Result (List Record) ℕ} (Ok one) (Ok other) → one ≡ other
    ok_same one other same = cc

-- what a generation says of its group
by_group : (group : List (List ℕ)) (more : List Record) (generation : ℕ) (first : Record) (rest : List Record) → generation_of group ≡ Some generation → All (IsFrom 1) more
    → kept 0 group ++ more ≡ first ∷ rest → BeginsWith first rest
unfolding generation_of
by_group [] more generation first rest is after same = absurd (cc)
by_group (configuration ∷ []) more generation first rest is after same =
    let at : first.gate ≡ 0 = ap (λ (l : List Record). (get_or l 0 first).gate) (sym same) in
    let others : more ≡ rest = ap (λ (l : List Record). drop 1 l) same in
    without_head (subst (All (IsAfterFirst first)) others (All-weaker (IsFrom 1) (IsAfterFirst first) (λ one above. omega (arith, above, at)) more after))
by_group (configuration ∷ head ∷ []) more generation first rest is after same =
    let at : first.gate ≡ 0 = ap (λ (l : List Record). (get_or l 0 first).gate) (sym same) in
    let others : kept_at 0 head ∷ more ≡ rest = ap (λ (l : List Record). drop 1 l) same in
    let version = some_version (shaped_version configuration) (λ version. head_in head) generation is in
    with_head (kept_at 0 head) more generation (sym others) (sym at) version.2
    (All-weaker (IsFrom 1) (IsAfterFirst first) (λ one above. omega (arith, above, at)) more after)
by_group (configuration ∷ head ∷ other ∷ others) more generation first rest is after same = absurd (cc)

-- ---- the side that is read

moved_begins : (base : ℕ) (records rest : List Record) (first : Record) → map (moved_by base) records ≡ first ∷ rest
    → ((one : Record) (others : List Record) → records ≡ one ∷ others → BeginsWith one others) → BeginsWith first rest
moved_begins base [] rest first same begins = absurd (cc)
moved_begins base (one ∷ others) rest first same begins = by_kind (begins one others refl)
  where
    first_is : moved_by base one ≡ first
    first_is = ap (λ (l : List Record). get_or l 0 first) same

    rest_is : map (moved_by base) others ≡ rest
    rest_is = ap (λ (l : List Record). drop 1 l) same

    gate_is : base + one.gate ≡ first.gate
    gate_is = ap (λ (r : Record). r.gate) first_is

    all_moved : (l : List Record) → All (IsAfterFirst one) l → All (IsAfterFirst first) (map (moved_by base) l)
    all_moved l all = All-map (IsAfterFirst first) (moved_by base) l
        (All-weaker (IsAfterFirst one) (λ (r : Record). first.gate < base + r.gate) (λ r above. omega (arith, above, gate_is)) l all)

    by_kind : BeginsWith one others → BeginsWith first rest
    by_kind (with_head head more generation are shares is after) =
        with_head (moved_by base head) (map (moved_by base) more) generation (sym rest_is ∙ ap (map (moved_by base)) are)
        (ap (λ (g : ℕ). base + g) shares ∙ gate_is) is (all_moved more after)
    by_kind (without_head after) = without_head (subst (All (IsAfterFirst first)) rest_is (all_moved others after))

side_begins : (side : Side) (live : List ℕ) (generation : ℕ) (first : Record) (rest : List Record) → reports live ≡ Some (Some generation) → stands_at side live ≡ Ok (first ∷ rest)
    → BeginsWith first rest
side_begins side live generation first rest reported is = by_read (stands live) refl
  where
    ok_same : (one other : List Record) → ◌≡◌ {A = Result (List Record) ℕ} (Ok one) (Ok other) → one ≡ other
    ok_same one other same = cc

    no_ok : (place : ℕ) → ◌≡◌ {A = Result (List Record) ℕ} (Err place) (Ok (first ∷ rest)) → ⊥
    no_ok place same = cc

    failed_at : (s : Side) (place : ℕ) → stands live ≡ Err place → stands_at s live ≡ Err (base_of s + place) ⊎ (stands_at s live ≡ Err place)
    failed_at First place failed = inr failed
    failed_at Second place failed = inl (ap (moved (base_of Second)) failed)

    by_read : (read : Result (List Record) ℕ) → stands live ≡ read → BeginsWith first rest
    by_read (Err place) failed = elim (failed_at side place failed) [
      | inl so ↦ absurd (no_ok (base_of side + place) (sym so ∙ is))
      | inr so ↦ absurd (no_ok place (sym so ∙ is))
    ]
    by_read (Ok records) found =
        let same = ok_same (map (moved_by (base_of side)) records) (first ∷ rest) (sym (at_side side live records found) ∙ is) in
        let at = found_by live generation records (walk 0 0 live) reported found refl in
        moved_begins (base_of side) records rest first same
        (λ one others are. by_group at.0 at.1.more generation one others at.1.is_group at.1.after (sym at.1.are ∙ are))

-- which of two areas is read
pub data IsReadOf (one other : List ℕ) (records : List Record) : Type 0 where
  of_none : records ≡ [] → IsReadOf one other records
  of_first : (generation : ℕ) → reports one ≡ Some (Some generation) → stands_at First one ≡ Ok records → IsReadOf one other records
  of_second : (generation : ℕ) → reports other ≡ Some (Some generation) → stands_at Second other ≡ Ok records → IsReadOf one other records

pub read_of : (one other : List ℕ) (records : List Record) → stands_in (pair one other) ≡ Ok records → IsReadOf one other records
unfolding chosen
read_of one other records is = by_tellings (reports one) (reports other) refl refl
  where
    ok_same : (l : List Record) → ◌≡◌ {A = Result (List Record) ℕ} (Ok l) (Ok records) → records ≡ l
    ok_same l same = cc

    no_ok : (place : ℕ) → ◌≡◌ {A = Result (List Record) ℕ} (Err place) (Ok records) → ⊥
    no_ok place same = cc

    by_tellings : (reported also : Option (Option ℕ)) → reports one ≡ reported → reports other ≡ also → IsReadOf one other records
    by_tellings None None a b = of_none (ok_same [] (sym (by_reporting one other None None a b) ∙ is))
    by_tellings (Some None) also a b = absurd (no_ok _ (sym (by_reporting one other (Some None) also a b) ∙ is))
    by_tellings None (Some None) a b = absurd (no_ok _ (sym (by_reporting one other None (Some None) a b) ∙ is))
    by_tellings (Some (Some g)) (Some None) a b = absurd (no_ok _ (sym (by_reporting one other (Some (Some g)) (Some None) a b) ∙ is))
    by_tellings (Some (Some g)) None a b = of_first g a (sym (by_reporting one other (Some (Some g)) None a b) ∙ is)
    by_tellings None (Some (Some g)) a b = of_second g b (sym (by_reporting one other None (Some (Some g)) a b) ∙ is)
    by_tellings (Some (Some g)) (Some (Some h)) a b = by_same (eqb g h) (ltb h g) (sym (by_reporting one other (Some (Some g)) (Some (Some h)) a b) ∙ is)
      where
        by_same : (same less : Bool) → read_from one other (cond same (Err 1099511627776) (cond less (Ok (Some First)) (Ok (Some Second)))) ≡ Ok records → IsReadOf one other records
        by_same true less so = absurd (no_ok _ so)
        by_same false true so = of_first g a so
        by_same false false so = of_second h b so

-- the first group of two areas that stand for records
pub begins_with : (one other : List ℕ) (first : Record) (rest : List Record) → stands_in (pair one other) ≡ Ok (first ∷ rest) → BeginsWith first rest
begins_with one other first rest is = by_side (read_of one other (first ∷ rest) is)
  where
    by_side : IsReadOf one other (first ∷ rest) → BeginsWith first rest
    by_side (of_none none) = absurd (cc none)
    by_side (of_first g reported stand) = side_begins First one g first rest reported stand
    by_side (of_second g reported stand) = side_begins Second other g first rest reported stand

-- ---- bytes

-- the records of two areas of bytes are bytes
pub pair_texts : OnlyGroups → (one other : List ℕ) (records : List Record) → AreBytes one → AreBytes other → stands_in (pair one other) ≡ Ok records → All IsText records
pair_texts only one other records are also is = by_side (read_of one other records is)
  where
    moved_texts : (base : ℕ) (l : List Record) → All IsText l → All IsText (map (moved_by base) l)
    moved_texts base l all = All-map IsText (moved_by base) l all

    ok_same : (l : List Record) → ◌≡◌ {A = Result (List Record) ℕ} (Ok l) (Ok records) → l ≡ records
    ok_same l same = cc

    moved_by_read : (read : Result (List Record) ℕ) → stands other ≡ read → moved (base_of Second) read ≡ Ok records → All IsText records
    moved_by_read (Ok l) stand so = subst (All IsText) (ok_same (map (moved_by (base_of Second)) l) so) (moved_texts (base_of Second) l (stands_texts only other l also stand))
    moved_by_read (Err place) stand so = absurd (cc)

    by_side : IsReadOf one other records → All IsText records
    by_side (of_none none) = subst (All IsText) (sym none) (All-nil IsText)
    by_side (of_first g reported stand) = stands_texts only one records are stand
    by_side (of_second g reported stand) = moved_by_read (stands other) refl stand

-- ---- the head

zero_tested : (number generation : ℕ) → unless_zero number ≡ Some generation → number ≡ generation
zero_tested number generation is = elim (cases_eq number 0) [
  | inl same ↦ absurd (none_some (sym (ap (λ (n : ℕ). cond (eqb n 0) None (Some n)) same) ∙ is))
  | inr other ↦ some_is (sym (ap (λ (b : Bool). cond b None (Some number)) (ne_eqb number 0 other)) ∙ is)
]
  where
    none_some : ◌≡◌ {A = Option ℕ} None (Some generation) → ⊥
    none_some same = cc

    some_is : Some number ≡ Some generation → number ≡ generation
    some_is same = cc

-- a record that is read as a head is that of its generation
pub head_written : (bytes : List ℕ) (generation : ℕ) → AreBytes bytes → head_in bytes ≡ Some generation → bytes ≡ head_record generation
unfolding head_in
head_written [] generation are is = absurd (cc)
head_written (kind ∷ bytes) generation are is = elim (cases_eq (length (kind ∷ bytes)) 9) [
  | inr other ↦ absurd (none_some (sym (by_length (ne_eqb (length (kind ∷ bytes)) 9 other)) ∙ is))
  | inl long ↦ elim (cases_eq kind 2) [
    | inr other ↦ absurd (none_some (sym (by_length (eq-eqb (length (kind ∷ bytes)) 9 long) ∙ by_kind (ne_eqb kind 2 other)) ∙ is))
    | inl head ↦
        let number = zero_tested (from_be_bytes w64 bytes) generation (sym (by_length (eq-eqb (length (kind ∷ bytes)) 9 long) ∙ by_kind (eq-eqb kind 2 head)) ∙ is) in
        let text : to_be_bytes w64 generation ≡ bytes = be_bytes_8 bytes generation (omega (arith, long)) (IsBytes-drop 1 (kind ∷ bytes) (each_byte (kind ∷ bytes) are)) (sym number) in
        (λ i. head i ∷ sym text i)
  ]
]
  where
    none_some : ◌≡◌ {A = Option ℕ} None (Some generation) → ⊥
    none_some same = cc

    by_length : {b : Bool} → eqb (length (kind ∷ bytes)) 9 ≡ b
        → head_in (kind ∷ bytes) ≡ cond (not b) None (cond (not (eqb kind 2)) None (unless_zero (from_be_bytes w64 bytes)))
    by_length e = ap (λ (b : Bool). cond (not b) None (cond (not (eqb kind 2)) None (unless_zero (from_be_bytes w64 bytes)))) e

    by_kind : {b : Bool} → eqb kind 2 ≡ b → cond (not true) None (cond (not (eqb kind 2)) None (unless_zero (from_be_bytes w64 bytes)))
        ≡ cond (not b) None (unless_zero (from_be_bytes w64 bytes))
    by_kind e = ap (λ (b : Bool). cond (not b) None (unless_zero (from_be_bytes w64 bytes))) e
