-- How a walk over the groups of a file goes.
use Rattle.std.proofs.Common.{◌≡◌, ◌≢◌, inl, inr, ℕ, zero, suc, ◌+◌, ◌-◌, ◌<◌, ◌≤◌, List, [], ◌∷◌, ◌++◌, length, take, drop, Option, Some, None}
use Rattle.std.proofs.Common.{Result, Ok, Err, refl, sym, ◌∙◌, ap, arith, append_assoc, length-append, length-drop, eqb, ltb, leb}
use Rattle.std.specs.Int.{w32, from_be_bytes}
use Rattle.std.specs.Option.{option_map_or}
use Rattle.std.proofs.lemmas.List.{drop-drop, take_at, drop_at, append-nil, length-take-le, take-append-le, drop-append-le}
use Rattle.std.proofs.lemmas.Bool.{cases_eq, cases_lt, ltb-false, le-ltb, lt-ltb, leb-false, lt-leb, eqb-false, ne_eqb, eq-eqb, cond-true, cond-false}
use Rattle.std.proofs.lemmas.Option.{same_Some}
use Rattle.journal.specs.declared.record.Record.{Record}
use Rattle.journal.specs.Format.{FitsGroup, body_len, body_bytes, group_bytes, length_field, group_of, body_at, kept, with_front, walk, scan, only_records, stands}
use Rattle.journal.proofs.Bytes.{passed_test, length-body, field_is, not_empty, group_read}

abbrev pub Found : Type 0
Found = List Record × ℕ

pub with_front-nil : (r : Result Found ℕ) → with_front [] r ≡ r
with_front-nil (Ok found) = refl
with_front-nil (Err gate) = refl

pub with_front-append : (a b : List Record) (r : Result Found ℕ) → with_front (a ++ b) r ≡ with_front a (with_front b r)
with_front-append a b (Ok found) = ap (λ (l : List Record). Ok (l, found.1)) (append_assoc a b found.0)
with_front-append a b (Err gate) = refl

with_front_ok : (front : List Record) (r : Result Found ℕ) (found : Found) → with_front front r ≡ Ok found → (more : Found) × (r ≡ Ok more) × (found ≡ (front ++ more.0, more.1))
with_front_ok front (Ok more) found is = (more, refl, (cc))
with_front_ok front (Err gate) found is = absurd (cc)

map_or_ok : {A : Type 0} (f : A → Result Found ℕ) (o : Option A) (place : ℕ) (found : Found) → option_map_or f o (Err place) ≡ Ok found → (x : A) × (o ≡ Some x) × (f x ≡ Ok found)
map_or_ok f None place found is = absurd (cc)
map_or_ok f (Some x) place found is = (x, refl, is)

-- passing over bytes is walking from after them
pub walk-skip : (place passed : ℕ) (bytes : List ℕ) → passed ≤ length bytes → walk place passed bytes ≡ walk (place + passed) 0 (drop passed bytes)
unfolding walk
walk-skip place zero bytes fits = let same : place ≡ place + 0 = omega arith in ap (λ (p : ℕ). walk p 0 bytes) same
walk-skip place (suc k) [] fits = absurd (omega arith)
walk-skip place (suc k) (b ∷ rest) fits =
    let same : place + 1 + k ≡ place + suc k = omega arith in
    walk-skip (place + 1) k rest (omega arith) ∙ ap (λ (p : ℕ). walk p 0 (drop k rest)) same

-- what stands after an open gate
abbrev pub opened : ℕ → List ℕ → Result Found ℕ
opened place rest = option_map_or (λ body. option_map_or (λ records. with_front (kept place records) (walk (place + 1) (4 + length body) rest)) (group_of body) (Err place)) (body_at rest) (Err place)

pub walk_closed : (place gate : ℕ) (rest : List ℕ) → gate ≡ 0 → walk place 0 (gate ∷ rest) ≡ Ok ([], place)
unfolding walk
walk_closed place gate rest is = cond-true (eqb gate 0) (Ok ([], place)) (opened place rest) (eq-eqb gate 0 is)

pub walk_open : (place gate : ℕ) (rest : List ℕ) → gate ≢ 0 → walk place 0 (gate ∷ rest) ≡ opened place rest
unfolding walk
walk_open place gate rest is = cond-false (eqb gate 0) (Ok ([], place)) (opened place rest) (ne_eqb gate 0 is)

pub walk_no_body : (place gate : ℕ) (rest : List ℕ) → gate ≢ 0 → body_at rest ≡ None → walk place 0 (gate ∷ rest) ≡ Err place
walk_no_body place gate rest is none =
    walk_open place gate rest is
    ∙ ap (λ (o : Option (List ℕ)). option_map_or
    (λ body. option_map_or (λ records. with_front (kept place records) (walk (place + 1) (4 + length body) rest)) (group_of body) (Err place)) o
    (Err place)) none

pub walk_no_group : (place gate : ℕ) (rest body : List ℕ) → gate ≢ 0 → body_at rest ≡ Some body → group_of body ≡ None → walk place 0 (gate ∷ rest) ≡ Err place
walk_no_group place gate rest body is at_body none =
    walk_open place gate rest is
    ∙ ap (λ (o : Option (List ℕ)). option_map_or
    (λ body. option_map_or (λ records. with_front (kept place records) (walk (place + 1) (4 + length body) rest)) (group_of body) (Err place)) o
    (Err place)) at_body
    ∙ ap (λ (o : Option (List (List ℕ))). option_map_or (λ records. with_front (kept place records) (walk (place + 1) (4 + length body) rest)) o (Err place)) none

walk_on : (place gate : ℕ) (rest body : List ℕ) (records : List (List ℕ)) → gate ≢ 0 → body_at rest ≡ Some body → group_of body ≡ Some records
    → walk place 0 (gate ∷ rest) ≡ with_front (kept place records) (walk (place + 1) (4 + length body) rest)
walk_on place gate rest body records is at_body is_group =
    walk_open place gate rest is
    ∙ ap (λ (o : Option (List ℕ)). option_map_or
    (λ body. option_map_or (λ records. with_front (kept place records) (walk (place + 1) (4 + length body) rest)) (group_of body) (Err place)) o
    (Err place)) at_body
    ∙ ap (λ (o : Option (List (List ℕ))). option_map_or (λ records. with_front (kept place records) (walk (place + 1) (4 + length body) rest)) o (Err place)) is_group

-- where a body stands
pub record Stands (rest body : List ℕ) : Type 0 where
  pub some : 1 ≤ length_field rest
  pub not_long : length_field rest ≤ 4194304
  pub inside : 4 + length body < length rest
  pub is_body : body ≡ take (length_field rest) (drop 4 rest)
  pub long : length body ≡ length_field rest

pub body_stands : (rest body : List ℕ) → body_at rest ≡ Some body → Stands rest body
unfolding body_at
body_stands rest body is =
    let n = length_field rest in
    let first = passed_test _ _ _ is in
    let second = passed_test _ _ _ first.1 in
    let third = passed_test _ _ _ second.1 in
    let fourth = passed_test _ _ _ third.1 in
    let header : 4 ≤ length rest = ltb-false (length rest) 4 first.0 in
    let not_zero : n ≢ 0 = eqb-false n 0 second.0 in
    let not_long : n ≤ 4194304 = ltb-false 4194304 n third.0 in
    let room : n < length rest - 4 = leb-false (length rest - 4) n fourth.0 in
    let is_body : body ≡ take n (drop 4 rest) = sym (same_Some _ _ fourth.1) in
    let fits : n ≤ length (drop 4 rest) = omega (arith, length-drop 4 rest) in
    let long : length body ≡ n = ap length is_body ∙ length-take-le n (drop 4 rest) fits in
    record { some = omega arith; not_long = not_long; inside = omega arith; is_body = is_body; long = long }

pub body_from : (rest : List ℕ) (n : ℕ) → length_field rest ≡ n → 1 ≤ n → n ≤ 4194304 → 4 + n < length rest → body_at rest ≡ Some (take n (drop 4 rest))
unfolding body_at
body_from rest n is some not_long inside =
    let m = length_field rest in
    cond-false (ltb (length rest) 4) None _ (le-ltb (length rest) 4 (omega arith))
    ∙ cond-false (eqb m 0) None _ (ne_eqb m 0 (λ zero_is. omega arith))
    ∙ cond-false (ltb 4194304 m) None _ (le-ltb 4194304 m (omega arith))
    ∙ cond-false (leb (length rest - 4) m) None _ (lt-leb (length rest - 4) m (omega arith))
    ∙ ap (λ (k : ℕ). Some (take k (drop 4 rest))) is

-- another end leaves the body as it was
pub body_same : (front old new body : List ℕ) → body_at (front ++ old) ≡ Some body → 4 + length body ≤ length front → 1 ≤ length new → body_at (front ++ new) ≡ Some body
body_same front old new body is within some =
    let before = body_stands (front ++ old) body is in
    let n = length body in
    let take_old : take 4 (front ++ old) ≡ take 4 front = take-append-le 4 front old (omega arith) in
    let take_new : take 4 (front ++ new) ≡ take 4 front = take-append-le 4 front new (omega arith) in
    let field : length_field (front ++ new) ≡ n = ap (λ (l : List ℕ). from_be_bytes w32 l) (take_new ∙ sym take_old) ∙ sym before.long in
    let drop_old : drop 4 (front ++ old) ≡ drop 4 front ++ old = drop-append-le 4 front old (omega arith) in
    let drop_new : drop 4 (front ++ new) ≡ drop 4 front ++ new = drop-append-le 4 front new (omega arith) in
    let room : n ≤ length (drop 4 front) = omega (arith, length-drop 4 front) in
    let body_old : body ≡ take n (drop 4 front) =
    before.is_body ∙ (λ i. take (sym before.long i) (drop_old i)) ∙ take-append-le n (drop 4 front) old room in
    let body_new : take n (drop 4 (front ++ new)) ≡ take n (drop 4 front) =
    ap (λ (l : List ℕ). take n l) drop_new ∙ take-append-le n (drop 4 front) new room in
    body_from (front ++ new) n field (omega (arith, before.some, before.long)) (omega (arith, before.not_long, before.long))
    (omega (arith, length-append front new)) ∙ ap Some (body_new ∙ sym body_old)

-- a walk goes on after a whole group
pub walk_group : (place gate : ℕ) (rest body : List ℕ) (records : List (List ℕ)) → gate ≢ 0 → body_at rest ≡ Some body → group_of body ≡ Some records
    → walk place 0 (gate ∷ rest) ≡ with_front (kept place records) (walk (place + (5 + length body)) 0 (drop (4 + length body) rest))
walk_group place gate rest body records is at_body is_group =
    let inside = (body_stands rest body at_body).inside in
    let same : place + 1 + (4 + length body) ≡ place + (5 + length body) = omega arith in
    walk_on place gate rest body records is at_body is_group
    ∙ ap (λ (r : Result Found ℕ). with_front (kept place records) r) (walk-skip (place + 1) (4 + length body) rest (omega arith) ∙ ap (λ (p : ℕ). walk p 0 (drop (4 + length body) rest)) same)

-- what an open gate that counts has after it
pub record Goes (place : ℕ) (rest : List ℕ) (found : Found) : Type 0 where
  pub body : List ℕ
  pub records : List (List ℕ)
  pub more : Found
  pub at_body : body_at rest ≡ Some body
  pub is_group : group_of body ≡ Some records
  pub on : walk (place + 1) (4 + length body) rest ≡ Ok more
  pub is : found ≡ (kept place records ++ more.0, more.1)

pub goes : (place gate : ℕ) (rest : List ℕ) (found : Found) → gate ≢ 0 → walk place 0 (gate ∷ rest) ≡ Ok found → Goes place rest found
goes place gate rest found is walked =
    let first = map_or_ok (λ body. option_map_or (λ records. with_front (kept place records) (walk (place + 1) (4 + length body) rest))
    (group_of body) (Err place)) (body_at rest) place found (sym (walk_open place gate rest is) ∙ walked) in
    let second = map_or_ok (λ records. with_front (kept place records) (walk (place + 1) (4 + length first.0) rest)) (group_of first.0) place found first.2 in
    let third = with_front_ok (kept place second.0) (walk (place + 1) (4 + length first.0) rest) found second.2 in
    record { body = first.0; records = second.0; more = third.0; at_body = first.1; is_group = second.1; on = third.1; is = third.2 }

pub closed_is : (place gate : ℕ) (rest : List ℕ) (found : Found) → gate ≡ 0 → walk place 0 (gate ∷ rest) ≡ Ok found → found ≡ ([], place)
closed_is place gate rest found is walked = same_ok (sym (walk_closed place gate rest is) ∙ walked)
  where
    same_ok : ◌≡◌ {A = Result Found ℕ} (Ok ([], place)) (Ok found) → found ≡ ([], place)
    same_ok both = cc

-- a walk doesn't end before it began
pub walk_later : (bytes : List ℕ) (place passed : ℕ) (found : Found) → walk place passed bytes ≡ Ok found → place ≤ found.1
unfolding walk
walk_later [] place passed found walked = let is : found ≡ ([], place) = cc in omega (arith, ap (λ (f : Found). f.1) is)
walk_later (b ∷ rest) place (suc k) found walked = let later = walk_later rest (place + 1) k found walked in omega arith
walk_later (b ∷ rest) place zero found walked = elim (cases_eq b 0) [
  | inl shut ↦ omega (arith, ap (λ (f : Found). f.1) (closed_is place b rest found shut walked))
  | inr is_open ↦
      let on = goes place b rest found is_open walked in
      let later = walk_later rest (place + 1) (4 + length on.body) on.more on.on in
      omega (arith, ap (λ (f : Found). f.1) on.is)
]

-- and ends at a closed gate
pub record Ended (place : ℕ) (bytes : List ℕ) (gate : ℕ) : Type 0 where
  pub front : List ℕ
  pub after : List ℕ
  pub split : bytes ≡ front ++ 0 ∷ after
  pub at_gate : gate ≡ place + length front

pub walk_ended : (bytes : List ℕ) (place passed : ℕ) (found : Found) → walk place passed bytes ≡ Ok found → passed < length bytes → Ended place bytes found.1
unfolding walk
walk_ended [] place passed found walked within = absurd (omega arith)
walk_ended (b ∷ rest) place (suc k) found walked within =
    let more = walk_ended rest (place + 1) k found walked (omega arith) in
    record { front = b ∷ more.front; after = more.after; split = ap (λ (l : List ℕ). b ∷ l) more.split; at_gate = omega (arith, more.at_gate) }
walk_ended (b ∷ rest) place zero found walked within = elim (cases_eq b 0) [
  | inl shut ↦ record { front = []; after = rest; split = ap (λ (g : ℕ). g ∷ rest) shut; at_gate = omega (arith, ap (λ (f : Found). f.1) (closed_is place b rest found shut walked)) }
  | inr is_open ↦
      let on = goes place b rest found is_open walked in
      let more = walk_ended rest (place + 1) (4 + length on.body) on.more on.on (body_stands rest on.body on.at_body).inside in
      record { front = b ∷ more.front; after = more.after; split = ap (λ (l : List ℕ). b ∷ l) more.split; at_gate = omega (arith, more.at_gate, ap (λ (f : Found). f.1) on.is) }
]

-- Another end in the place of that which begins with the closed gate: the walk comes there with the same records.
pub walk_swap : (front : List ℕ) (place passed : ℕ) (old new : List ℕ) (found : Found) → walk place passed (front ++ old) ≡ Ok found → found.1 ≡ place + length front → 1 ≤ length old → 1 ≤ length new
    → walk place passed (front ++ new) ≡ with_front found.0 (walk (place + length front) 0 new)
unfolding walk
walk_swap [] place passed [] new found walked ends some more = absurd (omega arith)
walk_swap [] place (suc k) (b ∷ old) new found walked ends some more = let later = walk_later old (place + 1) k found walked in absurd (omega arith)
walk_swap [] place zero (b ∷ old) new found walked ends some more = elim (cases_eq b 0) [
  | inl shut ↦
      let is = closed_is place b old found shut walked in
      let same : place ≡ place + 0 = omega arith in
      ap (λ (p : ℕ). walk p 0 new) same ∙ sym (with_front-nil (walk (place + 0) 0 new)) ∙ ap (λ (f : Found). with_front f.0 (walk (place + 0) 0 new)) (sym is)
  | inr is_open ↦
      let on = goes place b old found is_open walked in
      let later = walk_later old (place + 1) (4 + length on.body) on.more on.on in
      absurd (omega (arith, ap (λ (f : Found). f.1) on.is))
]
walk_swap (b ∷ front) place (suc k) old new found walked ends some more =
    let same : place + 1 + length front ≡ place + length (b ∷ front) = omega arith in
    walk_swap front (place + 1) k old new found walked (omega arith) some more ∙ ap (λ (p : ℕ). with_front found.0 (walk p 0 new)) same
walk_swap (b ∷ front) place zero old new found walked ends some more = elim (cases_eq b 0) [
  | inl shut ↦ absurd (omega (arith, ap (λ (f : Found). f.1) (closed_is place b (front ++ old) found shut walked)))
  | inr is_open ↦
      let on = goes place b (front ++ old) found is_open walked in
      let inside = (body_stands (front ++ old) on.body on.at_body).inside in
      let later = walk_later (drop (4 + length on.body) (front ++ old)) (place + 1 + (4 + length on.body)) 0 on.more
      (sym (walk-skip (place + 1) (4 + length on.body) (front ++ old) (omega arith)) ∙ on.on) in
      let end_is : found.1 ≡ on.more.1 = ap (λ (f : Found). f.1) on.is in
      let at_body = body_same front old new on.body on.at_body (omega arith) more in
      let same : place + 1 + length front ≡ place + length (b ∷ front) = omega arith in
      walk_on place b (front ++ new) on.body on.records is_open at_body on.is_group
      ∙ ap (λ (r : Result Found ℕ). with_front (kept place on.records) r)
      (walk_swap front (place + 1) (4 + length on.body) old new on.more on.on (omega arith) some more ∙ ap (λ (p : ℕ). with_front on.more.0 (walk p 0 new)) same)
      ∙ sym (with_front-append (kept place on.records) on.more.0 (walk (place + length (b ∷ front)) 0 new))
      ∙ ap (λ (f : Found). with_front f.0 (walk (place + length (b ∷ front)) 0 new)) (sym on.is)
]

-- whatever stands after the closed gate
pub walk_after : (front old new : List ℕ) (found : Found) → walk 0 0 (front ++ 0 ∷ old) ≡ Ok found → found.1 ≡ length front → walk 0 0 (front ++ 0 ∷ new) ≡ Ok found
walk_after front old new found walked ends =
    walk_swap front 0 0 (0 ∷ old) (0 ∷ new) found walked (omega arith) (omega arith) (omega arith)
    ∙ ap (λ (r : Result Found ℕ). with_front found.0 r) (walk_closed (0 + length front) 0 new refl)
    ∙ (λ i. Ok (append-nil found.0 i, at_end i))
  where
    at_end : 0 + length front ≡ found.1
    at_end = omega arith

nothing_short : (file : List ℕ) (found : Found) → length file < 2 → walk 0 0 file ≡ Ok found → found.0 ≡ []
unfolding walk
nothing_short [] found short walked = let is : found ≡ ([], 0) = cc in ap (λ (f : Found). f.0) is
nothing_short (b ∷ c ∷ rest) found short walked = absurd (omega arith)
nothing_short (b ∷ []) found short walked = elim (cases_eq b 0) [
  | inl shut ↦ ap (λ (f : Found). f.0) (closed_is 0 b [] found shut walked)
  | inr is_open ↦ let on = goes 0 b [] found is_open walked in absurd (omega (arith, (body_stands [] on.body on.at_body).inside))
]

-- a walk from the front gives what the file stands for
pub stands_walk : (file : List ℕ) (found : Found) → walk 0 0 file ≡ Ok found → stands file ≡ Ok found.0
unfolding stands scan
stands_walk file found walked = elim (cases_lt (length file) 2) [
  | inl short ↦ ap only_records (cond-true (ltb (length file) 2) (Ok ([], 0)) (walk 0 0 file) (lt-ltb (length file) 2 short)) ∙ ap Ok (sym (nothing_short file found short walked))
  | inr long ↦ ap only_records (cond-false (ltb (length file) 2) (Ok ([], 0)) (walk 0 0 file) (le-ltb (length file) 2 long) ∙ walked)
]

pub stands_short : (file : List ℕ) → length file < 2 → stands file ≡ Ok []
unfolding stands scan
stands_short file short = ap only_records (cond-true (ltb (length file) 2) (Ok ([], 0)) (walk 0 0 file) (lt-ltb (length file) 2 short))

-- a group that is written is read
pub walk_written : (place gate : ℕ) (records : List (List ℕ)) → gate ≢ 0 → FitsGroup records → walk place 0 (gate ∷ group_bytes records) ≡ Ok (kept place records, place + (5 + body_len records))
walk_written place gate records is_open fits =
    let bytes = group_bytes records in
    let body = body_bytes records in
    let n = body_len records in
    let long : length body ≡ n = length-body records in
    let field : length_field bytes ≡ n = field_is records fits in
    let after : drop 4 bytes ≡ body ++ 0 ∷ [] = refl in
    let size : length bytes ≡ 4 + (n + 1) = omega (arith, length-append body (0 ∷ [])) in
    let at_body : body_at bytes ≡ Some body = body_from bytes n field (not_empty records fits) fits.not_long (omega arith) ∙ ap Some (take_at body (0 ∷ []) n long) in
    let end_is : drop (4 + length body) bytes ≡ 0 ∷ [] = sym (drop-drop (length body) 4 bytes) ∙ drop_at body (0 ∷ []) (length body) refl in
    walk_group place gate bytes body records is_open at_body (group_read records fits)
    ∙ ap (λ (l : List ℕ). with_front (kept place records) (walk (place + (5 + length body)) 0 l)) end_is
    ∙ ap (λ (r : Result Found ℕ). with_front (kept place records) r) (walk_closed (place + (5 + length body)) 0 [] refl)
    ∙ (λ i. Ok (append-nil (kept place records) i, place + (5 + long i)))
