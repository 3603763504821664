-- The fault of what was read is that of the first kind of records of which one isn't sound.
use Rattle.std.proofs.Common.{◌≡◌, ◌≢◌, ℕ, zero, suc, ◌+◌, ◌-◌, ◌*◌, ◌/◌, Bool, true, false, List, [], ◌∷◌, ◌++◌, length, map, Option, Some, None, refl, sym, ap, ◌∙◌, arith}
use Rattle.std.specs.Prelude.{◌==◌, not, is_some, option_map, if◌then◌else◌}
use Rattle.std.specs.List.{list_all, position_from, range_with_len}
use Rattle.std.specs.Option.{option_or}
use Rattle.std.proofs.lemmas.Bool.{and_from}
use Rattle.std.proofs.lemmas.List.{length-map}
use Rattle.std.proofs.lemmas.Option.{none-some}
use Rattle.sequencer.specs.Listing.{ledger_of as ledger_of_list}
use Rattle.sequencer.specs.Restored.{Digested}
use Rattle.spec_model.specs.Nodes.{Node}
use Rattle.spec_model.specs.Ordering.{Ledger, top}
use Rattle.spec_model.specs.Slots.{Slots}
use Rattle.spec_model.specs.Words.{Author, Digest}
use Rattle.spec_checkpoint.specs.Data.{Checkpoint}
use Rattle.spec_checkpoint.specs.Faults.{batch_tests, is_vote_sound, is_header_sound, is_certificate_sound, piece_tests, record_tests, is_whole_sound, has_no_fault}
use Rattle.spec_checkpoint.specs.Loading.{LoadFault, at_record, of_whole, unsound}
use Rattle.spec_checkpoint.specs.Meaning.{listed_floor, state_in}
use Rattle.spec_checkpoint.specs.Records.{ORDER_PIECE, COINS_PIECE, cut}
use Rattle.checkpoint.specs.Judging.{NoneFails, ReportsFirst, is_vote_sound_at, is_header_sound_at, is_certificate_sound_at, slots_at}
use Rattle.checkpoint.specs.Kept.{certificate_of}
use Rattle.checkpoint.specs.Reader.{fault_of}
use Rattle.checkpoint.specs.declared.error.LoadError.{LoadError}
use Rattle.checkpoint.specs.declared.error.LoadError.TheVariants.{Memory, Unsound, UnsoundWhole}
use Rattle.checkpoint.proofs.FirstFails.{first_of_two, tests_long}
use Rattle.checkpoint.proofs.FromCertificates.{list_ledger, same_slots}

-- ---- lists of tests

pieces_none : {X : Type 0} (k : ℕ) (pieces : List X) → NoneFails k (piece_tests pieces)
pieces_none k [] = refl
pieces_none k (piece ∷ pieces) = pieces_none (k + 1) pieces

numbers_long : (from count : ℕ) → length (range_with_len from count) ≡ count
numbers_long from zero = refl
numbers_long from (suc count) = let rest = numbers_long (from + 1) count in omega (arith, rest)

pub pieces_long : (order : List Digest) → length (piece_tests (cut ORDER_PIECE order)) ≡ (length order + (ORDER_PIECE - 1)) / ORDER_PIECE
pieces_long order =
    length-map (cut ORDER_PIECE order) _ ∙ length-map (range_with_len 0 ((length order + (ORDER_PIECE - 1)) / ORDER_PIECE)) _ ∙ numbers_long 0 ((length order + (ORDER_PIECE - 1)) / ORDER_PIECE)

none_of_all : (k : ℕ) (tests : List Bool) → NoneFails k tests → list_all (λ sound. sound) tests ≡ true
none_of_all k [] none = refl
none_of_all k (true ∷ tests) none = none_of_all (k + 1) tests none
none_of_all k (false ∷ tests) none = absurd (none-some k (sym none))

-- ---- errors

-- the first of some faults is what an error tells of
reports : (one others : Option ℕ) (whole : Option LoadFault) (error : LoadError) → error ≢ Memory → option_map at_record one ≡ fault_of error
    → option_or (option_map at_record (option_or one others)) whole ≡ fault_of error
reports (Some k) others whole error apart is = is
reports None others whole Memory apart is = absurd (apart refl)
reports None others whole (Unsound place) apart is = absurd (none-some (at_record place) is)
reports None others whole UnsoundWhole apart is = absurd (none-some of_whole is)

-- a leader is there where a wave is
pub same_some : (last : Option (ℕ × Author)) (wave : Option ℕ) → option_map (λ (slot : ℕ × Author). slot.0) last ≡ option_map (λ w. 2 * w - 1) wave → is_some last ≡ is_some wave
same_some None None is = refl
same_some None (Some w) is = absurd (none-some (2 * w - 1) is)
same_some (Some slot) None is = absurd (none-some slot.0 (sym is))
same_some (Some slot) (Some w) is = refl

module _ (node : Node) (checkpoint : Checkpoint) (list : List Digested) (same : map certificate_of list ≡ checkpoint.certificates)
    (floor : ℕ) (floor_is : floor ≡ listed_floor node checkpoint)
    (of_batches of_votes of_headers of_certificates : ℕ) (batches_at : of_batches ≡ 1 + length (piece_tests (cut ORDER_PIECE checkpoint.order)))
    (votes_at : of_votes ≡ of_batches + length checkpoint.batches) (headers_at : of_headers ≡ of_votes + length checkpoint.votes)
    (certificates_at : of_certificates ≡ of_headers + length checkpoint.headers) where
  abbrev slots : Slots
  slots = slots_at node floor list

  abbrev batches : List Bool
  batches = batch_tests node [] checkpoint.batches

  abbrev votes : List Bool
  votes = map (is_vote_sound_at node floor) checkpoint.votes

  abbrev headers : List Bool
  headers = map (is_header_sound_at node floor slots) checkpoint.headers

  abbrev certificates : List Bool
  certificates = map (is_certificate_sound_at node floor slots) checkpoint.certificates

  votes_same : votes ≡ map (is_vote_sound node checkpoint) checkpoint.votes
  votes_same = ap (λ (n : ℕ). map (is_vote_sound_at node n) checkpoint.votes) floor_is

  headers_same : headers ≡ map (is_header_sound node checkpoint) checkpoint.headers
  headers_same =
      ap (λ (s : Slots). map (is_header_sound_at node floor s) checkpoint.headers) (same_slots node checkpoint list same floor floor_is)
      ∙ ap (λ (n : ℕ). map (is_header_sound_at node n (state_in node checkpoint).slots) checkpoint.headers) floor_is

  certificates_same : certificates ≡ map (is_certificate_sound node checkpoint) checkpoint.certificates
  certificates_same =
      ap (λ (s : Slots). map (is_certificate_sound_at node floor s) checkpoint.certificates) (same_slots node checkpoint list same floor floor_is)
      ∙ ap (λ (n : ℕ). map (is_certificate_sound_at node n (state_in node checkpoint).slots) checkpoint.certificates) floor_is

  abbrev coins : List Bool
  coins = piece_tests (cut COINS_PIECE checkpoint.coins)

  abbrev pieces : List Bool
  pieces = piece_tests (cut ORDER_PIECE checkpoint.order)

  tests_same : record_tests node checkpoint ≡ pieces ++ (batches ++ (votes ++ (headers ++ (certificates ++ coins))))
  tests_same =
      ap (λ (l : List Bool). pieces ++ (batches ++ (l ++ (map (is_header_sound node checkpoint) checkpoint.headers ++ (map (is_certificate_sound
      node checkpoint) checkpoint.certificates ++ coins))))) (sym votes_same)
      ∙ ap (λ (l : List Bool). pieces ++ (batches ++ (votes ++ (l ++ (map (is_certificate_sound node checkpoint) checkpoint.certificates ++ coins))))) (sym headers_same)
      ∙ ap (λ (l : List Bool). pieces ++ (batches ++ (votes ++ (headers ++ (l ++ coins))))) (sym certificates_same)

  -- the first that fails, kind by kind
  first_at : (from next : ℕ) (tests more : List Bool) → next ≡ from + length tests → position_from not from (tests ++ more) ≡ option_or (position_from not from tests) (position_from not next more)
  first_at from next tests more is = first_of_two tests more from ∙ ap (λ n. option_or (position_from not from tests) (position_from not n more)) (sym is)

  parted : position_from not 1 (record_tests node checkpoint)
      ≡ option_or (position_from not of_batches batches) (option_or (position_from not of_votes votes) (option_or (position_from not of_headers headers) (option_or
      (position_from not of_certificates certificates) None)))
  parted =
      ap (position_from not 1) tests_same
      ∙ first_at 1 of_batches pieces (batches ++ (votes ++ (headers ++ (certificates ++ coins)))) batches_at
      ∙ ap (λ o. option_or o (position_from not of_batches (batches ++ (votes ++ (headers ++ (certificates ++ coins)))))) (pieces_none 1 (cut ORDER_PIECE checkpoint.order))
      ∙ first_at of_batches of_votes batches (votes ++ (headers ++ (certificates ++ coins))) (votes_at ∙ ap (λ n. of_batches + n) (sym (tests_long node [] checkpoint.batches)))
      ∙ ap (option_or (position_from not of_batches batches))
      (first_at of_votes of_headers votes (headers ++ (certificates ++ coins)) (headers_at ∙ ap (λ n. of_votes + n) (sym (length-map checkpoint.votes (is_vote_sound_at node floor))))
      ∙ ap (option_or (position_from not of_votes votes))
      (first_at of_headers of_certificates headers (certificates ++ coins) (certificates_at ∙ ap (λ n. of_headers + n) (sym (length-map checkpoint.headers (is_header_sound_at node floor slots))))
      ∙ ap (option_or (position_from not of_headers headers))
      (first_of_two certificates coins of_certificates
      ∙ ap (option_or (position_from not of_certificates certificates)) (pieces_none (of_certificates + length certificates) (cut COINS_PIECE checkpoint.coins)))))

  abbrev whole : Option LoadFault
  whole = if is_whole_sound node checkpoint then None else Some of_whole

  found : unsound node checkpoint ≡ option_or (option_map at_record
      (option_or (position_from not of_batches batches) (option_or (position_from not of_votes votes) (option_or (position_from not of_headers headers) (option_or
      (position_from not of_certificates certificates) None))))) whole
  found = ap (λ o. option_or (option_map at_record o) whole) parted

  module _ (error : LoadError) (apart : error ≢ Memory) where
    pub batches_fault : ReportsFirst of_batches batches error → unsound node checkpoint ≡ fault_of error
    batches_fault is = found ∙ reports (position_from not of_batches batches) _ whole error apart (is apart)

    pub votes_fault : NoneFails of_batches batches → ReportsFirst of_votes votes error → unsound node checkpoint ≡ fault_of error
    votes_fault one is =
        found
        ∙ ap (λ o. option_or (option_map at_record (option_or o (option_or (position_from not of_votes votes) (option_or (position_from not of_headers headers) (option_or
        (position_from not of_certificates certificates) None))))) whole) one
        ∙ reports (position_from not of_votes votes) _ whole error apart (is apart)

    pub headers_fault : NoneFails of_batches batches → NoneFails of_votes votes → ReportsFirst of_headers headers error → unsound node checkpoint ≡ fault_of error
    headers_fault one two is =
        found
        ∙ ap (λ o. option_or (option_map at_record (option_or o (option_or (position_from not of_votes votes) (option_or (position_from not of_headers headers) (option_or
        (position_from not of_certificates certificates) None))))) whole) one
        ∙ ap (λ o. option_or (option_map at_record (option_or o (option_or (position_from not of_headers headers) (option_or (position_from not of_certificates certificates) None)))) whole) two
        ∙ reports (position_from not of_headers headers) _ whole error apart (is apart)

    pub certificates_fault : NoneFails of_batches batches → NoneFails of_votes votes → NoneFails of_headers headers → ReportsFirst of_certificates certificates error → unsound node checkpoint
        ≡ fault_of error
    certificates_fault one two three is =
        found
        ∙ ap (λ o. option_or (option_map at_record (option_or o (option_or (position_from not of_votes votes) (option_or (position_from not of_headers headers) (option_or
        (position_from not of_certificates certificates) None))))) whole) one
        ∙ ap (λ o. option_or (option_map at_record (option_or o (option_or (position_from not of_headers headers) (option_or (position_from not of_certificates certificates) None)))) whole) two
        ∙ ap (λ o. option_or (option_map at_record (option_or o (option_or (position_from not of_certificates certificates) None))) whole) three
        ∙ reports (position_from not of_certificates certificates) _ whole error apart (is apart)

  module _ (one : NoneFails of_batches batches) (two : NoneFails of_votes votes) (three : NoneFails of_headers headers) (four : NoneFails of_certificates certificates) where
    none_at_all : position_from not 1 (record_tests node checkpoint) ≡ None
    none_at_all =
        parted
        ∙ ap (λ o. option_or o (option_or (position_from not of_votes votes) (option_or (position_from not of_headers headers) (option_or (position_from not of_certificates certificates) None)))) one
        ∙ ap (λ o. option_or o (option_or (position_from not of_headers headers) (option_or (position_from not of_certificates certificates) None))) two
        ∙ ap (λ o. option_or o (option_or (position_from not of_certificates certificates) None)) three
        ∙ ap (λ o. option_or o None) four

    only_whole : unsound node checkpoint ≡ whole
    only_whole = ap (λ o. option_or (option_map at_record o) whole) none_at_all

    pub whole_fault : is_whole_sound node checkpoint ≡ false → unsound node checkpoint ≡ Some of_whole
    whole_fault off = only_whole ∙ ap (λ (b : Bool). if b then None else Some of_whole) off

    pub no_fault : is_whole_sound node checkpoint ≡ true → (unsound node checkpoint ≡ None) × (has_no_fault node checkpoint ≡ true)
    no_fault on = (only_whole ∙ ap (λ (b : Bool). if b then None else Some of_whole) on, and_from _ _ (none_of_all 1 (record_tests node checkpoint) none_at_all) on)

  -- the whole is tested by the last leader
  pub whole_is : (last : Option (ℕ × Author)) → option_map (λ (slot : ℕ × Author). slot.0) last ≡ option_map (λ w. 2 * w - 1) (top (ledger_of_list node.charter list checkpoint.coins))
      → (if length checkpoint.order == 0 then not (is_some last) else is_some last) ≡ is_whole_sound node checkpoint
  whole_is last is =
      ap (λ (b : Bool). if length checkpoint.order == 0 then not b else b)
      (same_some last (top (ledger_of_list node.charter list checkpoint.coins)) is ∙ ap (λ (l : Ledger). is_some (top l)) (list_ledger node checkpoint list same))
