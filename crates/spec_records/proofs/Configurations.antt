-- That a record is that of one configuration only.
use Rattle.std.proofs.Common.{◌≡◌, ℕ, ◌<◌, ◌≤◌, ◌^◌, List, [], ◌∷◌, ◌++◌, length, take, drop, refl, ap, sym, ◌∙◌, arith, append_assoc}
use Rattle.std.specs.Prelude.{All, get_or}
use Rattle.std.specs.Int.{w16, w32, to_be_bytes, from_be_bytes}
use Rattle.std.specs.List.{flat_map}
use Rattle.std.proofs.lemmas.List.{take_at, drop_at}
use Rattle.std.proofs.lemmas.List.Elements.{All-head, All-tail}
use Rattle.std.proofs.lemmas.Nat.{from_be_bytes-to_be_bytes_2, from_be_bytes-to_be_bytes_4}
use Rattle.committee.specs.Charter.{Charter}
use Rattle.wire.specs.Fields.{HasBytes}
use Rattle.wire.specs.declared.keys.Author.{Author}
use Rattle.wire.specs.declared.keys.Key.{Key}
use Rattle.spec_records.specs.Records.{stakes_of, configuration_of, IsConfiguration, OneConfiguration}
use Rattle.journal.specs.declared.version.Version.{Version}
use Rattle.journal.specs.declared.version.Version.TheVariants.{First, Second}

-- ---- keys

-- a key has 32 bytes
abbrev IsKey : Key → Type 0
IsKey key = HasBytes 32 key.0

abbrev key_bytes : Key → List ℕ
key_bytes key = key.0

-- as many keys, with what stands after them
keys_once : (keys also : List Key) (rest left : List ℕ) → All IsKey keys → All IsKey also → length keys ≡ length also
    → flat_map key_bytes keys ++ rest ≡ flat_map key_bytes also ++ left → (keys ≡ also) × (rest ≡ left)
keys_once [] [] rest left each all count same = (refl, same)
keys_once [] (other ∷ also) rest left each all count same = absurd (omega (arith, count))
keys_once (key ∷ keys) [] rest left each all count same = absurd (omega (arith, count))
keys_once (key ∷ keys) (other ∷ also) rest left each all count same =
    let long = (All-head IsKey key keys each).count_is in
    let long' = (All-head IsKey other also all).count_is in
    let after = flat_map key_bytes keys ++ rest in
    let after' = flat_map key_bytes also ++ left in
    let text : key.0 ++ after ≡ other.0 ++ after' =
    sym (append_assoc key.0 (flat_map key_bytes keys) rest) ∙ same ∙ append_assoc other.0 (flat_map key_bytes also) left in
    let first : key.0 ≡ other.0 = sym (take_at key.0 after 32 long) ∙ ap (λ (l : List ℕ). take 32 l) text ∙ take_at other.0 after' 32 long' in
    let next : after ≡ after' = sym (drop_at key.0 after 32 long) ∙ ap (λ (l : List ℕ). drop 32 l) text ∙ drop_at other.0 after' 32 long' in
    let fewer : length keys ≡ length also = omega (arith, count) in
    let others = keys_once keys also rest left (All-tail IsKey key keys each) (All-tail IsKey other also all) fewer next in
    ((λ i. record { 0 = first i } ∷ others.0 i), others.1)

-- ---- stakes

-- a stake within its limits
abbrev IsStake : ℕ → Type 0
IsStake stake = (1 ≤ stake) × (stake ≤ 1000000)

stakes_once : (stakes also : List ℕ) → All IsStake stakes → All IsStake also → length stakes ≡ length also
    → flat_map (to_be_bytes w32) stakes ≡ flat_map (to_be_bytes w32) also → stakes ≡ also
stakes_once [] [] each all count same = refl
stakes_once [] (other ∷ also) each all count same = absurd (omega (arith, count))
stakes_once (stake ∷ stakes) [] each all count same = absurd (omega (arith, count))
stakes_once (stake ∷ stakes) (other ∷ also) each all count same =
    let fits : stake < 2 ^ 32 = omega (arith, (All-head IsStake stake stakes each).1) in
    let fits' : other < 2 ^ 32 = omega (arith, (All-head IsStake other also all).1) in
    let first : stake ≡ other =
    sym (from_be_bytes-to_be_bytes_4 stake fits) ∙ ap (λ (l : List ℕ). from_be_bytes w32 (take 4 l)) same ∙ from_be_bytes-to_be_bytes_4 other fits' in
    let next : flat_map (to_be_bytes w32) stakes ≡ flat_map (to_be_bytes w32) also = ap (λ (l : List ℕ). drop 4 l) same in
    let fewer : length stakes ≡ length also = omega (arith, count) in
    let others = stakes_once stakes also (All-tail IsStake stake stakes each) (All-tail IsStake other also all) fewer next in
    (λ i. first i ∷ others i)

-- as many stakes of 1
ones_once : (stakes also : List ℕ) → All (λ stake. stake ≡ 1) stakes → All (λ stake. stake ≡ 1) also → length stakes ≡ length also → stakes ≡ also
ones_once [] [] each all count = refl
ones_once [] (other ∷ also) each all count = absurd (omega (arith, count))
ones_once (stake ∷ stakes) [] each all count = absurd (omega (arith, count))
ones_once (stake ∷ stakes) (other ∷ also) each all count =
    let one = λ (s : ℕ). s ≡ 1 in
    let first : stake ≡ other = All-head one stake stakes each ∙ sym (All-head one other also all) in
    let fewer : length stakes ≡ length also = omega (arith, count) in
    let others = ones_once stakes also (All-tail one stake stakes each) (All-tail one other also all) fewer in
    (λ i. first i ∷ others i)

-- ---- the record

-- two committees and numbers are the same but for the stakes, of which these bytes are the same
record AreAlike (charter also : Charter) (own number : Author) (rest left : List ℕ) : Type 0 where
  owns : own.0 ≡ number.0
  depth : charter.depth ≡ also.depth
  workers : charter.workers ≡ also.workers
  batches : charter.batches ≡ also.batches
  keys : charter.keys ≡ also.keys
  after : rest ≡ left

-- a number of two bytes that stands at a place
two_once : (place one other : ℕ) (record_bytes also : List ℕ) → one < 2 ^ 16 → other < 2 ^ 16 → take 2 (drop place record_bytes) ≡ to_be_bytes w16 one
    → take 2 (drop place also) ≡ to_be_bytes w16 other → record_bytes ≡ also → one ≡ other
two_once place one other record_bytes also fits fits' is is' same =
    sym (from_be_bytes-to_be_bytes_2 one fits) ∙ ap (from_be_bytes w16) (sym is ∙ ap (λ (l : List ℕ). take 2 (drop place l)) same ∙ is') ∙ from_be_bytes-to_be_bytes_2 other fits'

alike : (version other : Version) (charter also : Charter) (own number : Author) → IsConfiguration charter own → IsConfiguration also number
    → configuration_of version charter own ≡ configuration_of other also number
    → AreAlike charter also own number (stakes_of version charter.stakes) (stakes_of other also.stakes)
alike version other charter also own number is is' same =
    let one = configuration_of version charter own in
    let two = configuration_of other also number in
    let batches : charter.batches ≡ also.batches =
    sym (from_be_bytes-to_be_bytes_4 charter.batches (omega (arith, is.sound.batches)))
    ∙ ap (λ (l : List ℕ). from_be_bytes w32 (take 4 (drop 8 l))) same
    ∙ from_be_bytes-to_be_bytes_4 also.batches (omega (arith, is'.sound.batches)) in
    let count = two_once 12 (length charter.keys) (length also.keys) one two (omega (arith, is.sound.size)) (omega (arith, is'.sound.size)) refl refl same in
    let after = keys_once charter.keys also.keys (stakes_of version charter.stakes) (stakes_of other also.stakes) is.keys is'.keys count (ap (λ (l : List ℕ). drop 14 l) same) in
    record {
      owns = two_once 2 own.0 number.0 one two is.fits is'.fits refl refl same;
      depth = two_once 4 charter.depth also.depth one two (omega (arith, is.sound.depth)) (omega (arith, is'.sound.depth)) refl refl same;
      workers = two_once 6 charter.workers also.workers one two (omega (arith, is.sound.workers)) (omega (arith, is'.sound.workers)) refl refl same;
      batches = batches;
      keys = after.0;
      after = after.1;
    }

-- with the same stakes they are the same
same_all : (charter also : Charter) (own number : Author) (rest left : List ℕ) → AreAlike charter also own number rest left → charter.stakes ≡ also.stakes
    → (charter ≡ also) × (own ≡ number)
same_all charter also own number rest left are stakes =
    ((λ i. record { keys = are.keys i; stakes = stakes i; depth = are.depth i; workers = are.workers i; batches = are.batches i }), (λ i. record { 0 = are.owns i }))

-- as many stakes as keys
stakes_count : (charter also : Charter) (own number : Author) → IsConfiguration charter own → IsConfiguration also number → charter.keys ≡ also.keys
    → length charter.stakes ≡ length also.stakes
stakes_count charter also own number is is' keys = is.sound.staked ∙ ap length keys ∙ sym is'.sound.staked

pub one_configuration : OneConfiguration
one_configuration First First charter also own number is is' ones ones' same =
    let are = alike First First charter also own number is is' same in
    same_all charter also own number [] [] are (ones_once charter.stakes also.stakes ones ones' (stakes_count charter also own number is is' are.keys))
one_configuration First Second charter also own number is is' ones ones' same = absurd (omega (arith, ap (λ (l : List ℕ). get_or l 1 0) same))
one_configuration Second First charter also own number is is' ones ones' same = absurd (omega (arith, ap (λ (l : List ℕ). get_or l 1 0) same))
one_configuration Second Second charter also own number is is' ones ones' same =
    let are = alike Second Second charter also own number is is' same in
    same_all charter also own number (stakes_of Second charter.stakes) (stakes_of Second also.stakes) are
    (stakes_once charter.stakes also.stakes is.sound.stakes is'.sound.stakes (stakes_count charter also own number is is' are.keys) are.after)
