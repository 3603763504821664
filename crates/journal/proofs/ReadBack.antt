-- Which bytes are read as groups, and which as damaged.
use Rattle.std.proofs.Common.{◌≡◌, ◌≢◌, ◌↔◌, inl, inr, cond, ℕ, zero, suc, ◌+◌, ◌<◌, ◌≤◌, List, [], ◌∷◌, ◌++◌, length, take, drop, get_or, Option}
use Rattle.std.proofs.Common.{Some, None, Result, Ok, Err, refl, sym, ◌∙◌, ap, subst, arith, append_assoc, length-append, length-drop}
use Rattle.std.proofs.Common.{take-append-drop, ltb}
use Rattle.std.specs.Int.{w32, to_be_bytes}
use Rattle.std.specs.List.{All}
use Rattle.std.specs.Option.{option_map, option_and_then}
use Rattle.std.proofs.lemmas.List.{drop-drop, drop_at, length-take-le, get_or_past}
use Rattle.std.proofs.lemmas.List.Elements.{All-nil, All-cons, All-take, All-drop, All-tail, All-get_or}
use Rattle.std.proofs.lemmas.Nat.{be_bytes_4}
use Rattle.std.proofs.lemmas.Bool.{cases_eq, cases_lt, ltb-false, le-ltb, cond-false}
use Rattle.std.proofs.lemmas.Option.{same_Some, none-some}
use Rattle.diskmodel.specs.Outcomes.{AreBytes}
use Rattle.journal.specs.declared.record.Record.{Record}
use Rattle.journal.specs.Format.{FitsGroup, body_len, record_bytes, body_bytes, sized_body, Gated, IsOpen, with_gate, in_turn, length_field}
use Rattle.journal.specs.Format.{split_record, records_of, group_of, body_at, kept, all_kept, with_front, walk, scan, only_records, stands}
use Rattle.journal.specs.Format.{AreGroups, HasGroup, IsDamagedAt}
use Rattle.journal.proofs.Bytes.{Splits, splits, passed_test, length-body, group_read, records_nil, records_none, records_some}
use Rattle.journal.proofs.Walks.{Found, walk_closed, walk_no_body, walk_no_group, walk_group, body_stands, stands_short}
use Rattle.journal.proofs.Written.{their_records, body_here, walk_in_turn, length-sized}

each_byte : (bytes : List ℕ) → AreBytes bytes → (i : ℕ) → get_or bytes i 0 < 256
each_byte bytes are_bytes i = elim (cases_lt i (length bytes)) [
  | inl inside ↦ All-get_or (λ number. number < 256) bytes i 0 inside are_bytes
  | inr past ↦ omega (arith, get_or_past bytes i 0 past)
]

-- a length field is the bytes of its number
field_back : (bytes : List ℕ) → 4 ≤ length bytes → AreBytes bytes → to_be_bytes w32 (length_field bytes) ≡ take 4 bytes
field_back bytes long are_bytes = be_bytes_4 (take 4 bytes) (length_field bytes) (length-take-le 4 bytes long) (each_byte (take 4 bytes) (All-take (λ number. number < 256) 4 bytes are_bytes)) refl

-- a record that is read is written so
record_back : (bytes front after : List ℕ) → AreBytes bytes → Splits bytes front after → bytes ≡ record_bytes front ++ after
record_back bytes front after are_bytes parts =
    let n = length_field bytes in
    let rest = drop 4 bytes in
    let field : take 4 bytes ≡ to_be_bytes w32 (length front) = sym (field_back bytes parts.header are_bytes) ∙ ap (to_be_bytes w32) (sym parts.long) in
    let end_is : drop n rest ≡ after = drop-drop n 4 bytes ∙ ap (λ (k : ℕ). drop (4 + k) bytes) (sym parts.long) ∙ sym parts.is_after in
    sym (take-append-drop 4 bytes)
    ∙ ap (λ (l : List ℕ). take 4 bytes ++ l) (sym (take-append-drop n rest))
    ∙ (λ i. field i ++ (sym parts.is_front i ++ end_is i))

first_of_map : (front : List ℕ) (o : Option (List (List ℕ))) (records : List (List ℕ)) → option_map (λ others. front ∷ others) o ≡ Some records
    → (others : List (List ℕ)) × (o ≡ Some others) × (records ≡ front ∷ others)
first_of_map front None records is = absurd (cc)
first_of_map front (Some others) records is = (others, refl, sym (same_Some _ _ is))

-- a body that is read is written so, if this holds of those that are shorter
abbrev Whole : ℕ → Type 0
Whole n = (bytes : List ℕ) (records : List (List ℕ)) → length bytes ≤ n → AreBytes bytes → records_of bytes ≡ Some records → bytes ≡ body_bytes records

body_next : (n : ℕ) → Whole n → (bytes : List ℕ) (records : List (List ℕ)) → length bytes ≤ suc n → AreBytes bytes → bytes ≢ [] → records_of bytes ≡ Some records
    → (o : Option (List ℕ × List ℕ)) → split_record bytes ≡ o → bytes ≡ body_bytes records
body_next n shorter bytes records short are_bytes some is None split = absurd (none-some records (sym (records_none bytes some split) ∙ is))
body_next n shorter bytes records short are_bytes some is (Some parts) split =
    let read = splits bytes parts split in
    let more = first_of_map parts.0 (records_of parts.1) records (sym (records_some bytes parts split) ∙ is) in
    let fewer : length parts.1 ≤ n = omega (arith, read.header, ap length read.is_after, length-drop (4 + length parts.0) bytes) in
    let are : AreBytes parts.1 = subst AreBytes (sym read.is_after) (All-drop (λ number. number < 256) (4 + length parts.0) bytes are_bytes) in
    record_back bytes parts.0 parts.1 are_bytes read
    ∙ ap (λ (l : List ℕ). record_bytes parts.0 ++ l) (shorter parts.1 more.0 fewer are more.1)
    ∙ ap body_bytes (sym more.2)

body_back : (n : ℕ) → Whole n
body_back n [] records short are_bytes is = ap body_bytes (same_Some _ _ (sym records_nil ∙ is))
body_back zero (b ∷ rest) records short are_bytes is = absurd (omega arith)
body_back (suc n) (b ∷ rest) records short are_bytes is = body_next n (body_back n) (b ∷ rest) records short are_bytes (λ none. omega (arith, ap length none)) is (split_record (b ∷ rest)) refl

within : (o : Option (List (List ℕ))) (records : List (List ℕ)) → option_and_then (λ found. cond (ltb 1024 (length found)) None (Some found)) o
    ≡ Some records → (o ≡ Some records) × (length records ≤ 1024)
within None records is = absurd (none-some records is)
within (Some found) records is =
    let test = passed_test _ _ _ is in
    let same : found ≡ records = same_Some _ _ test.1 in
    let few : length found ≤ 1024 = ltb-false 1024 (length found) test.0 in
    (ap Some same, omega (arith, ap length same))

group_within : (body : List ℕ) (records : List (List ℕ)) → group_of body ≡ Some records → (records_of body ≡ Some records) × (length records ≤ 1024)
unfolding group_of
group_within body records is = within (records_of body) records is

some_records : (records : List (List ℕ)) → 1 ≤ length (body_bytes records) → 1 ≤ length records
some_records [] some = absurd (omega arith)
some_records (record_is ∷ records) some = omega arith

-- a group that is read, with what is after it
record Back (rest body : List ℕ) (records : List (List ℕ)) : Type 0 where
  fits : FitsGroup records
  split : rest ≡ sized_body records ++ drop (4 + length body) rest
  long : 5 + length body ≡ 1 + length (sized_body records)
  some : 1 ≤ length (drop (4 + length body) rest)

group_back : (rest body : List ℕ) (records : List (List ℕ)) → AreBytes rest → body_at rest ≡ Some body → group_of body ≡ Some records → Back rest body records
group_back rest body records are_bytes at_body is_group =
    let n = length_field rest in
    let at = body_stands rest body at_body in
    let read = group_within body records is_group in
    let are : AreBytes body = subst AreBytes (sym at.is_body) (All-take (λ number. number < 256) n (drop 4 rest) (All-drop (λ number. number < 256) 4 rest are_bytes)) in
    let written : body ≡ body_bytes records = body_back (length body) body records (omega arith) are read.0 in
    let size : body_len records ≡ n = omega (arith, ap length written, length-body records, at.long) in
    let field : take 4 rest ≡ to_be_bytes w32 (body_len records) = sym (field_back rest (omega (arith, at.inside)) are_bytes) ∙ ap (to_be_bytes w32) (sym size) in
    let end_is : drop n (drop 4 rest) ≡ drop (4 + length body) rest = drop-drop n 4 rest ∙ ap (λ (k : ℕ). drop (4 + k) rest) (sym at.long) in
    record {
      fits = record {
        some = some_records records (omega (arith, ap length written, at.long, at.some));
        not_many = read.1;
        not_long = omega (arith, at.not_long);
      };
      split = sym (take-append-drop 4 rest)
          ∙ ap (λ (l : List ℕ). take 4 rest ++ l) (sym (take-append-drop n (drop 4 rest)))
          ∙ (λ i. field i ++ ((sym at.is_body ∙ written) i ++ end_is i));
      long = omega (arith, ap length written, length-sized records);
      some = omega (arith, at.inside, length-drop (4 + length body) rest);
    }

-- where no body is read there is no group
no_body : (rest : List ℕ) → body_at rest ≡ None → ¬ HasGroup rest
no_body rest none has = none-some (body_bytes has.records) (sym none ∙ ap body_at has.written ∙ body_here has.records (has.next ∷ has.rest) has.fits (omega arith))

no_whole : (rest body : List ℕ) → body_at rest ≡ Some body → group_of body ≡ None → ¬ HasGroup rest
no_whole rest body at_body none has =
    let here : body_at rest ≡ Some (body_bytes has.records) = ap body_at has.written ∙ body_here has.records (has.next ∷ has.rest) has.fits (omega arith) in
    let same : body ≡ body_bytes has.records = same_Some _ _ (sym at_body ∙ here) in
    none-some has.records (sym none ∙ ap group_of same ∙ group_read has.records has.fits)

-- groups after open gates that end at a closed one
record Closes (place : ℕ) (bytes : List ℕ) (found : Found) : Type 0 where
  groups : List Gated
  after : List ℕ
  all_open : All IsOpen groups
  written : bytes ≡ in_turn groups ++ 0 ∷ after
  found_is : found.0 ≡ all_kept place (their_records groups)

-- groups after open gates, and an open gate with no group after it
record Breaks (place : ℕ) (bytes : List ℕ) (at : ℕ) : Type 0 where
  groups : List Gated
  gate : ℕ
  after : List ℕ
  all_open : All IsOpen groups
  written : bytes ≡ in_turn groups ++ gate ∷ after
  here : at ≡ place + length (in_turn groups)
  not_closed : gate ≢ 0
  no_group : ¬ HasGroup after

-- what a walk that gave this has found
abbrev Walked : ℕ → List ℕ → Result Found ℕ → Type 0
Walked place bytes (Ok found) = Closes place bytes found
Walked place bytes (Err at) = Breaks place bytes at

module _ (place gate : ℕ) (records : List (List ℕ)) (rest after : List ℕ) (is_open : gate ≢ 0) (fits : FitsGroup records) (split : rest ≡ sized_body records ++ after) where
  abbrev group : Gated
  group = record { gate = gate; records = records }

  joined : (groups : List Gated) (others : List ℕ) → after ≡ in_turn groups ++ others → gate ∷ rest ≡ in_turn (group ∷ groups) ++ others
  joined groups others is =
      ap (λ (l : List ℕ). gate ∷ l) (split ∙ ap (λ (l : List ℕ). sized_body records ++ l) is)
      ∙ sym (append_assoc (with_gate group) (in_turn groups) others)

  -- with one group more before it
  longer : (next : ℕ) → next ≡ place + 1 + length (sized_body records) → (r : Result Found ℕ) → Walked next after r → Walked place (gate ∷ rest) (with_front (kept place records) r)
  longer next next_is (Ok found) walked = record {
    groups = group ∷ walked.groups;
    after = walked.after;
    all_open = All-cons IsOpen group walked.groups (record { not_closed = is_open; fits = fits }) walked.all_open;
    written = joined walked.groups (0 ∷ walked.after) walked.written;
    found_is = ap (λ (l : List Record). kept place records ++ l) (walked.found_is ∙ ap (λ (p : ℕ). all_kept p (their_records walked.groups)) next_is);
  }
  longer next next_is (Err at) walked = record {
    groups = group ∷ walked.groups;
    gate = walked.gate;
    after = walked.after;
    all_open = All-cons IsOpen group walked.groups (record { not_closed = is_open; fits = fits }) walked.all_open;
    written = joined walked.groups (walked.gate ∷ walked.after) walked.written;
    here = omega (arith, walked.here, next_is, length-append (with_gate group) (in_turn walked.groups));
    not_closed = walked.not_closed;
    no_group = walked.no_group;
  }

-- an open gate with no group after it
broken : (place gate : ℕ) (rest : List ℕ) → gate ≢ 0 → ¬ HasGroup rest → Breaks place (gate ∷ rest) place
broken place gate rest is_open none = record {
  groups = [];
  gate = gate;
  after = rest;
  all_open = All-nil IsOpen;
  written = refl;
  here = omega arith;
  not_closed = is_open;
  no_group = none;
}

-- a walk from a gate on, over at most so many bytes
abbrev Walks : ℕ → Type 0
Walks n = (place : ℕ) (bytes : List ℕ) → length bytes ≤ n → 1 ≤ length bytes → AreBytes bytes → Walked place bytes (walk place 0 bytes)

walked_body : (n : ℕ) → Walks n → (place gate : ℕ) (rest body : List ℕ) → gate ≢ 0 → length rest ≤ n → AreBytes rest → body_at rest ≡ Some body
    → (o : Option (List (List ℕ))) → group_of body ≡ o → Walked place (gate ∷ rest) (walk place 0 (gate ∷ rest))
walked_body n shorter place gate rest body is_open short are_bytes at_body None is =
    subst (Walked place (gate ∷ rest)) (sym (walk_no_group place gate rest body is_open at_body is)) (broken place gate rest is_open (no_whole rest body at_body is))
walked_body n shorter place gate rest body is_open short are_bytes at_body (Some records) is =
    let back = group_back rest body records are_bytes at_body is in
    let next = place + (5 + length body) in
    let after = drop (4 + length body) rest in
    let next_is : next ≡ place + 1 + length (sized_body records) = omega (arith, back.long) in
    let fewer : length after ≤ n = omega (arith, length-drop (4 + length body) rest) in
    let more = shorter next after fewer back.some (All-drop (λ number. number < 256) (4 + length body) rest are_bytes) in
    subst (Walked place (gate ∷ rest)) (sym (walk_group place gate rest body records is_open at_body is))
    (longer place gate records rest after is_open back.fits back.split next next_is (walk next 0 after) more)

walked_open : (n : ℕ) → Walks n → (place gate : ℕ) (rest : List ℕ) → gate ≢ 0 → length rest ≤ n → AreBytes rest
    → (o : Option (List ℕ)) → body_at rest ≡ o → Walked place (gate ∷ rest) (walk place 0 (gate ∷ rest))
walked_open n shorter place gate rest is_open short are_bytes None none =
    subst (Walked place (gate ∷ rest)) (sym (walk_no_body place gate rest is_open none)) (broken place gate rest is_open (no_body rest none))
walked_open n shorter place gate rest is_open short are_bytes (Some body) at_body = walked_body n shorter place gate rest body is_open short are_bytes at_body (group_of body) refl

walked : (n : ℕ) → Walks n
walked n place [] short some are_bytes = absurd (omega arith)
walked zero place (gate ∷ rest) short some are_bytes = absurd (omega arith)
walked (suc n) place (gate ∷ rest) short some are_bytes = elim (cases_eq gate 0) [
  | inl shut ↦ subst (Walked place (gate ∷ rest)) (sym (walk_closed place gate rest shut))
      (record { groups = []; after = rest; all_open = All-nil IsOpen; written = ap (λ (g : ℕ). g ∷ rest) shut; found_is = refl })
  | inr is_open ↦ walked_open n (walked n) place gate rest is_open (omega arith) (All-tail (λ number. number < 256) gate rest are_bytes) (body_at rest) refl
]

stands_long : (bytes : List ℕ) → 2 ≤ length bytes → stands bytes ≡ only_records (walk 0 0 bytes)
unfolding stands scan
stands_long bytes long = ap only_records (cond-false (ltb (length bytes) 2) (Ok ([], 0)) (walk 0 0 bytes) (le-ltb (length bytes) 2 long))

-- what stands for records was walked over
is_ok : (bytes : List ℕ) (records : List Record) (r : Result Found ℕ) → only_records r ≡ Ok records → Walked 0 bytes r → AreGroups bytes records
is_ok bytes records (Ok found) is walk_is =
    let same : found.0 ≡ records = cc in
    record { groups = walk_is.groups; after = walk_is.after; all_open = walk_is.all_open; written = walk_is.written; found = sym same ∙ walk_is.found_is }
is_ok bytes records (Err at) is walk_is = absurd (cc)

pub only_groups : (bytes : List ℕ) (records : List Record) → AreBytes bytes → 2 ≤ length bytes → stands bytes ≡ Ok records → AreGroups bytes records
only_groups bytes records are_bytes long is = is_ok bytes records (walk 0 0 bytes) (sym (stands_long bytes long) ∙ is) (walked (length bytes) 0 bytes (omega arith) (omega arith) are_bytes)

is_err : (bytes : List ℕ) (place : ℕ) (r : Result Found ℕ) → 2 ≤ length bytes → only_records r ≡ Err place → Walked 0 bytes r → IsDamagedAt bytes place
is_err bytes place (Ok found) long is walk_is = absurd (cc)
is_err bytes place (Err at) long is walk_is =
    let same : at ≡ place = cc in
    record {
      long = long;
      groups = walk_is.groups;
      gate = walk_is.gate;
      after = walk_is.after;
      all_open = walk_is.all_open;
      written = walk_is.written;
      here = omega (arith, same, walk_is.here);
      not_closed = walk_is.not_closed;
      no_group = walk_is.no_group;
    }

damaged : (bytes : List ℕ) (place : ℕ) → AreBytes bytes → stands bytes ≡ Err place → IsDamagedAt bytes place
damaged bytes place are_bytes is = elim (cases_lt (length bytes) 2) [
  | inl short ↦ let none : ◌≡◌ {A = Result (List Record) ℕ} (Ok []) (Err place) = sym (stands_short bytes short) ∙ is in absurd (cc)
  | inr long ↦ is_err bytes place (walk 0 0 bytes) long (sym (stands_long bytes long) ∙ is) (walked (length bytes) 0 bytes (omega arith) (omega arith) are_bytes)
]

-- a walk at an open gate with no whole group after it
walk_broken : (place gate : ℕ) (rest : List ℕ) → AreBytes rest → gate ≢ 0 → ¬ HasGroup rest → (o : Option (List ℕ)) → body_at rest ≡ o → walk place 0 (gate ∷ rest) ≡ Err place
walk_broken place gate rest are_bytes is_open no_group None none = walk_no_body place gate rest is_open none
walk_broken place gate rest are_bytes is_open no_group (Some body) at_body = without (group_of body) refl
  where
    whole : (records : List (List ℕ)) → group_of body ≡ Some records → HasGroup rest
    whole records is = let back = group_back rest body records are_bytes at_body is in at_least_one (drop (4 + length body) rest) back.some back.split back.fits
      where
        at_least_one : (after : List ℕ) → 1 ≤ length after → rest ≡ sized_body records ++ after → FitsGroup records → HasGroup rest
        at_least_one [] some split fits = absurd (omega arith)
        at_least_one (next ∷ others) some split fits = record { records = records; next = next; rest = others; fits = fits; written = split }

    without : (o : Option (List (List ℕ))) → group_of body ≡ o → walk place 0 (gate ∷ rest) ≡ Err place
    without None is = walk_no_group place gate rest body is_open at_body is
    without (Some records) is = absurd (no_group (whole records is))

shows_damage : (bytes : List ℕ) (place : ℕ) → AreBytes bytes → IsDamagedAt bytes place → stands bytes ≡ Err place
shows_damage bytes place are_bytes damage =
    let front = in_turn damage.groups in
    let here = 0 + length front in
    let rest_is : drop (length front) bytes ≡ damage.gate ∷ damage.after = ap (drop (length front)) damage.written ∙ drop_at front (damage.gate ∷ damage.after) (length front) refl in
    let are_rest : AreBytes (damage.gate ∷ damage.after) = subst AreBytes rest_is (All-drop (λ number. number < 256) (length front) bytes are_bytes) in
    let are_after : AreBytes damage.after = All-tail (λ number. number < 256) damage.gate damage.after are_rest in
    let broke : walk here 0 (damage.gate ∷ damage.after) ≡ Err here = walk_broken here damage.gate damage.after are_after damage.not_closed damage.no_group (body_at damage.after) refl in
    let there : here ≡ place = omega (arith, damage.here) in
    stands_long bytes damage.long
    ∙ ap (λ (l : List ℕ). only_records (walk 0 0 l)) damage.written
    ∙ ap only_records (walk_in_turn 0 damage.groups (damage.gate ∷ damage.after) damage.all_open (omega arith))
    ∙ ap (λ (r : Result Found ℕ). only_records (with_front (all_kept 0 (their_records damage.groups)) r)) broke
    ∙ ap Err there

pub damage : (bytes : List ℕ) (place : ℕ) → AreBytes bytes → (stands bytes ≡ Err place) ↔ IsDamagedAt bytes place
damage bytes place are_bytes = (damaged bytes place are_bytes, shows_damage bytes place are_bytes)
