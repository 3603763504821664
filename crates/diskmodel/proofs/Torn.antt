-- Lists of bytes from which a torn write or a cut leads to others.
use Rattle.std.proofs.Common.{◌≡◌, ℕ, ◌+◌, ◌-◌, ◌<◌, ◌≤◌, min, max, List, ◌++◌, length, take, drop, get_or, refl, sym, ap, ◌∙◌, ⊎_elim, arith, length-append, length-take, length-drop}
use Rattle.std.proofs.lemmas.List.{take_all, drop_all, take_at, drop_at, take-take, append_assoc, places}
use Rattle.std.proofs.lemmas.List.Elements.{All-append, All-take, All-drop}
use Rattle.diskmodel.proofs.Places.{cases_le}
use Rattle.diskmodel.specs.Disk.{written, IsTorn, IsCut}
use Rattle.diskmodel.specs.Outcomes.{AreBytes}

pub length-written : (old : List ℕ) (at : ℕ) (bytes : List ℕ) → at ≤ length old → length (written old at bytes) ≡ max (length old) (at + length bytes)
length-written old at bytes within = simp (length-append, length-take, length-drop) (omega arith)

pub written_before : (old : List ℕ) (at : ℕ) (bytes : List ℕ) (place : ℕ) → at ≤ length old → place < at → get_or (written old at bytes) place 0 ≡ get_or old place 0
written_before old at bytes place within before = grind (arith, places)

pub written_after : (old : List ℕ) (at : ℕ) (bytes : List ℕ) (place : ℕ) → at ≤ length old → at + length bytes ≤ place → get_or (written old at bytes) place 0 ≡ get_or old place 0
written_after old at bytes place within after = grind (arith, places)

pub written_bytes : (old : List ℕ) (at : ℕ) (bytes : List ℕ) → AreBytes old → AreBytes bytes → AreBytes (written old at bytes)
written_bytes old at bytes in_old in_bytes =
    All-append (λ number. number < 256) (take at old ++ bytes) (drop (at + length bytes) old)
    (All-append (λ number. number < 256) (take at old) bytes (All-take (λ number. number < 256) at old in_old) in_bytes)
    (All-drop (λ number. number < 256) (at + length bytes) old in_old)

-- found, with the durable bytes below the smallest length
abbrev pub restored : ℕ → List ℕ → List ℕ → List ℕ
restored smallest durable found = take smallest durable ++ drop smallest found

pub length-restored : (smallest : ℕ) (durable found : List ℕ) → smallest ≤ length durable → smallest ≤ length found → length (restored smallest durable found) ≡ length found
length-restored smallest durable found in_durable in_found = simp (length-append, length-take, length-drop) (omega arith)

pub restored_bytes : (smallest : ℕ) (durable found : List ℕ) → AreBytes durable → AreBytes found → AreBytes (restored smallest durable found)
restored_bytes smallest durable found in_durable in_found =
    All-append (λ number. number < 256) (take smallest durable) (drop smallest found)
    (All-take (λ number. number < 256) smallest durable in_durable)
    (All-drop (λ number. number < 256) smallest found in_found)

-- found, with what may have stood in a row of places before it was written
abbrev pub untorn : ℕ → ℕ → List ℕ → List ℕ → List ℕ
untorn at count under found = take at found ++ take count (drop at under) ++ drop (at + count) found

pub length-untorn : (at count : ℕ) (under found : List ℕ) → length under ≡ length found → at ≤ length found → length (untorn at count under found) ≡ length found
length-untorn at count under found same within = simp (length-append, length-take, length-drop) (omega arith)

pub untorn_bytes : (at count : ℕ) (under found : List ℕ) → AreBytes under → AreBytes found → AreBytes (untorn at count under found)
untorn_bytes at count under found in_under in_found =
    All-append (λ number. number < 256) (take at found ++ take count (drop at under)) (drop (at + count) found)
    (All-append (λ number. number < 256) (take at found) (take count (drop at under)) (All-take (λ number. number < 256) at found in_found)
    (All-take (λ number. number < 256) count (drop at under) (All-drop (λ number. number < 256) at under in_under)))
    (All-drop (λ number. number < 256) (at + count) found in_found)

pub untorn_before : (at count : ℕ) (under found : List ℕ) (place : ℕ) → at ≤ length found → place < at → get_or (untorn at count under found) place 0 ≡ get_or found place 0
untorn_before at count under found place within before = grind (arith, places)

pub untorn_inside : (at count : ℕ) (under found : List ℕ) (place : ℕ) → length under ≡ length found → at ≤ place → place < at + count
    → place < length found → get_or (untorn at count under found) place 0 ≡ get_or under place 0
untorn_inside at count under found place same from to within = grind (arith, places)

pub untorn_after : (at count : ℕ) (under found : List ℕ) (place : ℕ) → length under ≡ length found → at + count ≤ place → place < length found
    → get_or (untorn at count under found) place 0 ≡ get_or found place 0
untorn_after at count under found place same after within = grind (arith, places)

-- a write that went as far as it could
pub untorn_IsTorn : (at count greatest : ℕ) (under found : List ℕ) → length under ≡ length found → at < length found → at ≤ greatest → length found ≤ max greatest (at + count)
    → IsTorn at count (take greatest (untorn at count under found)) found
untorn_IsTorn at count greatest under found same within in_greatest no_longer =
    let all : length (untorn at count under found) ≡ length found = length-untorn at count under found same (omega arith) in
    let size : length (take greatest (untorn at count under found)) ≡ min greatest (length found) = length-take greatest (untorn at count under found) ∙ ap (min greatest) all in
    let front : length (take at found) ≡ at = length-take at found ∙ omega arith in
    let middle : length (take count (drop at under)) ≡ min count (length found - at) = simp (length-take, length-drop) (omega arith) in
    record {
      before = sym (
          take-take at greatest (untorn at count under found) in_greatest
          ∙ ap (take at) (append_assoc (take at found) (take count (drop at under)) (drop (at + count) found))
          ∙ take_at (take at found) (take count (drop at under) ++ drop (at + count) found) at front
          );
      after = ⊎_elim
          (λ (short : length found ≤ at + count). drop_all (at + count) found short ∙ sym (drop_all (at + count) _ (omega arith)))
          (λ (long : at + count < length found).
          let whole : take greatest (untorn at count under found) ≡ untorn at count under found = take_all greatest (untorn at count under found) (omega arith) in
          let seam : length (take at found ++ take count (drop at under)) ≡ at + count = length-append (take at found) (take count (drop at under)) ∙ omega arith in
          sym (ap (drop (at + count)) whole ∙ drop_at (take at found ++ take count (drop at under)) (drop (at + count) found) (at + count) seam))
          (cases_le (length found) (at + count));
      no_shorter = omega arith;
      no_longer = omega arith;
    }

pub IsTorn_refl : (at count : ℕ) (found : List ℕ) → IsTorn at count found found
IsTorn_refl at count found = record { before = refl; after = refl; no_shorter = omega arith; no_longer = omega arith }

pub IsCut_refl : (len : ℕ) (found : List ℕ) → IsCut len found found
IsCut_refl len found = record { front = refl; no_shorter = omega arith; no_longer = omega arith }
