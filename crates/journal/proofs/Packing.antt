-- The groups of a checkpoint, and how their bytes are read.
use Rattle.std.proofs.Common.{◌≡◌, ◌≢◌, ℕ, ◌+◌, ◌-◌, ◌<◌, ◌≤◌, ◌^◌, Bool, true, false, cond, List, [], ◌∷◌, ◌++◌, length, map, take, drop, Option, Some, Result, Ok, refl, sym, ap, ◌∙◌, subst, arith, append_assoc, length-append, ltb, leb}
use Rattle.std.specs.Prelude.{IsSome, None, eqb}
use Rattle.std.specs.Int.{w32, w64, to_be_bytes}
use Rattle.std.specs.List.{All, flat_map}
use Rattle.std.specs.Option.{option_and_then}
use Rattle.std.proofs.lemmas.Bool.{and_parts, ltb-true, leb-true, cond-false, ne_eqb}
use Rattle.std.proofs.lemmas.List.{append-nil, take_at, drop_at, map-append}
use Rattle.std.proofs.lemmas.List.Elements.{All-nil, All-cons, All-head, All-tail}
use Rattle.std.proofs.lemmas.List.Sums.{sum_by-append}
use Rattle.std.proofs.lemmas.Nat.{from_be_bytes-to_be_bytes_8}
use Rattle.journal.specs.declared.record.Record.{Record}
use Rattle.journal.specs.declared.version.Version.{Version}
use Rattle.journal.specs.Configuration.{shaped_version}
use Rattle.journal.specs.Format.{FitsGroup, body_len, sized_body, file_bytes, in_turn, as_written, kept, kept_at, all_kept, with_front, group_of, stands}
use Rattle.journal.specs.declared.side.Side.{Side}
use Rattle.journal.specs.declared.side.Side.TheVariants.{First, Second}
use Rattle.journal.specs.Journal.{EndsClosed}
use Rattle.journal.specs.Pairs.{stands_as}
use Rattle.journal.specs.Areas.{moved, moved_by, stands_at, head_record, head_in, generation_of, reports}
use Rattle.journal.specs.Snapshot.{has_room, packed_after, packed, checkpoint_groups, bytes_for, FitsAlone, CanPack, BeginsShaped, without_head, read_without_head, records_in, head_place, IsSnapshot}
use Rattle.journal.proofs.Bytes.{group_read}
use Rattle.journal.proofs.Written.{their_records, body_here, walk_in_turn, records_written, open_written, written_stand}
use Rattle.journal.proofs.Walks.{walk_closed}
use Rattle.journal.proofs.Stops.{ends_at}
use Rattle.journal.proofs.Reporting.{reports_first}

-- the records of groups, one after the other
abbrev pub all_records : List (List (List ℕ)) → List (List ℕ)
all_records groups = flat_map (λ group. group) groups

-- what holds of both that a test may choose
by_test : {A : Type 0} (P : A → Type 0) (b : Bool) (x y : A) → (b ≡ true → P x) → (b ≡ false → P y) → P (cond b x y)
by_test P true x y first second = first refl
by_test P false x y first second = second refl

-- ---- packing

pub all_packed_after : (group rest : List (List ℕ)) → all_records (packed_after group rest) ≡ group ++ rest
unfolding packed_after
all_packed_after group [] = refl
all_packed_after group (next ∷ rest) =
    by_test (λ groups. all_records groups ≡ group ++ next ∷ rest) (has_room group next) (packed_after (group ++ next ∷ []) rest) (group ∷ packed_after (next ∷ []) rest)
    (λ room. all_packed_after (group ++ next ∷ []) rest ∙ append_assoc group (next ∷ []) rest)
    (λ full. ap (λ (l : List (List ℕ)). group ++ l) (all_packed_after (next ∷ []) rest))

pub all_packed : (records : List (List ℕ)) → all_records (packed records) ≡ records
unfolding packed
all_packed [] = refl
all_packed (first ∷ rest) = all_packed_after (first ∷ []) rest

-- a group with room fits with the next record
pub room_fits : (group : List (List ℕ)) (next : List ℕ) → has_room group next ≡ true → FitsGroup (group ++ next ∷ [])
room_fits group next room =
    let parts = and_parts (ltb (length group) 1024) (leb (body_len group + (4 + length next)) 4194304) room in
    record {
      some = omega (arith, length-append group (next ∷ []));
      not_many = omega (arith, ltb-true (length group) 1024 parts.0, length-append group (next ∷ []));
      not_long = omega (arith, leb-true (body_len group + (4 + length next)) 4194304 parts.1, sum_by-append (λ (bytes : List ℕ). 4 + length bytes) group (next ∷ []));
    }

pub fit_packed_after : (group rest : List (List ℕ)) → FitsGroup group → All FitsAlone rest → All FitsGroup (packed_after group rest)
unfolding packed_after
fit_packed_after group [] fits each = All-cons FitsGroup group [] fits (All-nil FitsGroup)
fit_packed_after group (next ∷ rest) fits each =
    let alone = All-head FitsAlone next rest each in
    let others = All-tail FitsAlone next rest each in
    by_test (λ groups. All FitsGroup groups) (has_room group next) (packed_after (group ++ next ∷ []) rest) (group ∷ packed_after (next ∷ []) rest)
    (λ room. fit_packed_after (group ++ next ∷ []) rest (room_fits group next room) others)
    (λ full. All-cons FitsGroup group (packed_after (next ∷ []) rest) fits (fit_packed_after (next ∷ []) rest alone others))

pub fit_packed : (records : List (List ℕ)) → All FitsAlone records → All FitsGroup (packed records)
unfolding packed
fit_packed [] each = All-nil FitsGroup
fit_packed (first ∷ rest) each = fit_packed_after (first ∷ []) rest (All-head FitsAlone first rest each) (All-tail FitsAlone first rest each)

-- ---- the first group

pub first_fits : (generation : ℕ) (configuration : List ℕ) → FitsGroup (configuration ∷ head_record 0 ∷ []) → FitsGroup (configuration ∷ head_record generation ∷ [])
first_fits generation configuration fits = record { some = omega arith; not_many = omega arith; not_long = fits.not_long }

pub checkpoint_fits : (generation : ℕ) (records : List (List ℕ)) → CanPack records → All FitsGroup (checkpoint_groups generation records)
checkpoint_fits generation [] can = absurd can
checkpoint_fits generation (configuration ∷ state) can =
    All-cons FitsGroup (configuration ∷ head_record generation ∷ []) (packed state) (first_fits generation configuration can.0) (fit_packed state can.1)

pub checkpoint_bytes : (generation : ℕ) (records : List (List ℕ)) → CanPack records → 1 ∷ bytes_for generation records ≡ file_bytes (checkpoint_groups generation records)
checkpoint_bytes generation [] can = absurd can
checkpoint_bytes generation (configuration ∷ state) can =
    ap (λ (l : List ℕ). 1 ∷ l) (sym (append_assoc (sized_body (configuration ∷ head_record generation ∷ [])) (in_turn (map as_written (packed state))) (0 ∷ [])))

pub checkpoint_stands : (generation : ℕ) (records : List (List ℕ)) → CanPack records → stands (1 ∷ bytes_for generation records) ≡ Ok (all_kept 0 (checkpoint_groups generation records))
checkpoint_stands generation records can =
    ap stands (checkpoint_bytes generation records can ∙ sym (append-nil (file_bytes (checkpoint_groups generation records))))
    ∙ written_stand (checkpoint_groups generation records) [] (checkpoint_fits generation records can)

-- ---- records are read back

pub kept_bytes : (gate : ℕ) (records : List (List ℕ)) → map (λ (one : Record). one.bytes) (kept gate records) ≡ records
kept_bytes gate [] = refl
kept_bytes gate (bytes ∷ records) = ap (λ (l : List (List ℕ)). bytes ∷ l) (kept_bytes gate records)

pub all_kept_bytes : (gate : ℕ) (groups : List (List (List ℕ))) → map (λ (one : Record). one.bytes) (all_kept gate groups) ≡ all_records groups
all_kept_bytes gate [] = refl
all_kept_bytes gate (records ∷ groups) =
    let next = gate + 1 + length (sized_body records) in
    map-append (λ (one : Record). one.bytes) (kept gate records) (all_kept next groups)
    ∙ (λ i. kept_bytes gate records i ++ all_kept_bytes next groups i)

pub records_back : (generation : ℕ) (records : List (List ℕ)) → CanPack records → records_in (bytes_for generation records) ≡ records
unfolding records_in
records_back generation [] can = absurd can
records_back generation (configuration ∷ state) can =
    let groups = checkpoint_groups generation (configuration ∷ state) in
    ap read_without_head (checkpoint_stands generation (configuration ∷ state) can)
    ∙ ap without_head (all_kept_bytes 0 groups)
    ∙ ap (λ (l : List (List ℕ)). configuration ∷ l) (all_packed state)

-- ---- the generation

pub head_back : (generation : ℕ) → 1 ≤ generation → generation < 2 ^ 64 → head_in (head_record generation) ≡ Some generation
unfolding head_in
head_back generation some small =
    ap (λ (n : ℕ). cond (eqb n 0) None (Some n)) (from_be_bytes-to_be_bytes_8 generation small) ∙ cond-false (eqb generation 0) None (Some generation) (ne_eqb generation 0 (λ none. omega arith))

-- what an area tells whose first group has these records
pub reports_group : (gate : ℕ) (records : List (List ℕ)) (rest : List ℕ) → gate ≢ 0 → FitsGroup records → 1 ≤ length rest
    → reports (gate ∷ sized_body records ++ rest) ≡ Some (generation_of records)
reports_group gate records rest is_open fits some =
    reports_first gate (sized_body records ++ rest) is_open (omega arith)
    ∙ ap (λ (o : Option (List ℕ)). Some (option_and_then (λ body. option_and_then generation_of (group_of body)) o)) (body_here records rest fits some)
    ∙ ap (λ (o : Option (List (List ℕ))). Some (option_and_then generation_of o)) (group_read records fits)

with_head : (generation : ℕ) (configuration : List ℕ) → 1 ≤ generation → generation < 2 ^ 64 → IsSome (shaped_version configuration)
    → generation_of (configuration ∷ head_record generation ∷ []) ≡ Some generation
unfolding generation_of
with_head generation configuration some small shaped = of_version (shaped_version configuration) shaped
  where
    of_version : (version : Option Version) → IsSome version → option_and_then (λ _. head_in (head_record generation)) version ≡ Some generation
    of_version None shaped = absurd (cc)
    of_version (Some version) shaped = head_back generation some small

pub checkpoint_reports : (generation : ℕ) (records : List (List ℕ)) → CanPack records → BeginsShaped records → 1 ≤ generation → generation < 2 ^ 64
    → reports (1 ∷ bytes_for generation records) ≡ Some (Some generation)
checkpoint_reports generation [] can shaped some small = absurd can
checkpoint_reports generation (configuration ∷ state) can shaped some small =
    reports_group 1 (configuration ∷ head_record generation ∷ []) (file_bytes (packed state)) (λ one. omega arith) (first_fits generation configuration can.0)
    (omega (arith, length-append (in_turn (map as_written (packed state))) (0 ∷ [])))
    ∙ ap Some (with_head generation configuration some small shaped)

-- ---- another generation in its place

-- the bytes before the generation
before_head : List ℕ → List ℕ
before_head configuration = to_be_bytes w32 (body_len (configuration ∷ head_record 0 ∷ [])) ++ (to_be_bytes w32 (length configuration) ++ (configuration ++ (to_be_bytes w32 9 ++ 2 ∷ [])))

around_head : (generation : ℕ) (configuration : List ℕ) (state : List (List ℕ))
    → bytes_for generation (configuration ∷ state) ≡ before_head configuration ++ (to_be_bytes w64 generation ++ file_bytes (packed state))
unfolding before_head
around_head generation configuration state =
    let rest = file_bytes (packed state) in
    let lengths = λ (l : List ℕ). to_be_bytes w32 (body_len (configuration ∷ head_record 0 ∷ [])) ++ (to_be_bytes w32 (length configuration) ++ l) in
    ap lengths (
    ap (λ (l : List ℕ). l ++ rest) (ap (λ (l : List ℕ). configuration ++ l) (append-nil (to_be_bytes w32 9 ++ head_record generation)))
    ∙ append_assoc configuration (to_be_bytes w32 9 ++ head_record generation) rest
    ∙ sym (append_assoc configuration (to_be_bytes w32 9 ++ 2 ∷ []) (to_be_bytes w64 generation ++ rest))
    )

length-before_head : (configuration : List ℕ) → length (before_head configuration) ≡ 13 + length configuration
unfolding before_head
length-before_head configuration = omega (arith, length-append configuration (to_be_bytes w32 9 ++ 2 ∷ []))

pub numbered : (generation new place : ℕ) (records : List (List ℕ)) → CanPack records → place ≡ head_place records
    → take place (bytes_for generation records) ++ (to_be_bytes w64 new ++ drop (place + 8) (bytes_for generation records)) ≡ bytes_for new records
numbered generation new place [] can at = absurd can
numbered generation new place (configuration ∷ state) can at =
    let rest = file_bytes (packed state) in
    let front = before_head configuration in
    let old = bytes_for generation (configuration ∷ state) in
    let long : length front ≡ place = omega (arith, length-before_head configuration) in
    let whole = around_head generation configuration state in
    let first : take place old ≡ front = ap (take place) whole ∙ take_at front (to_be_bytes w64 generation ++ rest) place long in
    let last : drop (place + 8) old ≡ rest =
    ap (drop (place + 8)) (whole ∙ sym (append_assoc front (to_be_bytes w64 generation) rest))
    ∙ drop_at (front ++ to_be_bytes w64 generation) rest (place + 8) (omega (arith, length-append front (to_be_bytes w64 generation))) in
    (λ i. first i ++ (to_be_bytes w64 new ++ last i)) ∙ sym (around_head new configuration state)

-- the generation has room
pub head_inside : (generation : ℕ) (records : List (List ℕ)) → CanPack records → head_place records + 8 ≤ length (bytes_for generation records)
head_inside generation [] can = absurd can
head_inside generation (configuration ∷ state) can =
    omega (
      arith,
      ap length (around_head generation configuration state),
      length-before_head configuration,
      length-append (before_head configuration)
          (to_be_bytes w64 generation ++ file_bytes (packed state)),
    )

-- a snapshot of which another generation is written
pub record Renumbered (old new : List ℕ) (place count generation : ℕ) : Type 0 where
  pub invariant : IsSnapshot new place count
  pub same : records_in new ≡ records_in old
  pub bytes : new ≡ bytes_for generation (records_in old)

pub renumbered : (old new : List ℕ) (place count generation : ℕ) → IsSnapshot old place count → new ≡ take place old ++ (to_be_bytes w64 generation ++ drop (place + 8) old)
    → Renumbered old new place count generation
renumbered old new place count generation was is =
    let records = records_in old in
    let bytes : new ≡ bytes_for generation records =
    is ∙ ap (λ (l : List ℕ). take place l ++ (to_be_bytes w64 generation ++ drop (place + 8) l)) was.written
    ∙ numbered was.generation generation place records was.packable was.at in
    let same : records_in new ≡ records = ap records_in bytes ∙ records_back generation records was.packable in
    record {
      invariant = record {
        generation = generation;
        written = bytes ∙ ap (bytes_for generation) (sym same);
        packable = subst CanPack (sym same) was.packable;
        shaped = subst BeginsShaped (sym same) was.shaped;
        at = was.at ∙ ap head_place (sym same);
        counts = was.counts ∙ ap length (sym same);
      };
      same = same;
      bytes = bytes;
    }

pub place_inside : (bytes : List ℕ) (place count : ℕ) → IsSnapshot bytes place count → place + 8 ≤ length bytes
place_inside bytes place count is = omega (arith, head_inside is.generation (records_in bytes) is.packable, is.at, ap length is.written)

-- ---- the end

-- groups that are written end at their last gate
pub written_ends : (groups : List (List (List ℕ))) → All FitsGroup groups → EndsClosed (file_bytes groups)
written_ends groups fits =
    let front = in_turn (map as_written groups) in
    let records = all_kept 0 groups in
    let long = length-append front (0 ∷ []) in
    ends_at (file_bytes groups) records
    (walk_in_turn 0 (map as_written groups) (0 ∷ []) (open_written groups fits) (omega arith)
    ∙ ap (λ (r : Result (List Record × ℕ) ℕ). with_front (all_kept 0 (their_records (map as_written groups))) r) (walk_closed (0 + length front) 0 [] refl)
    ∙ (λ i. Ok (append-nil (all_kept 0 (records_written groups i)) i, at_end i)))
    (omega arith)
  where
    at_end : 0 + length (in_turn (map as_written groups)) ≡ length (file_bytes groups) - 1
    at_end = omega (arith, length-append (in_turn (map as_written groups)) (0 ∷ []))

pub checkpoint_ends : (generation : ℕ) (records : List (List ℕ)) → CanPack records → EndsClosed (1 ∷ bytes_for generation records)
checkpoint_ends generation records can =
    subst EndsClosed (sym (checkpoint_bytes generation records can)) (written_ends (checkpoint_groups generation records) (checkpoint_fits generation records can))

-- ---- places

pub kept_moved : (base gate : ℕ) (records : List (List ℕ)) → map (moved_by base) (kept gate records) ≡ kept (base + gate) records
kept_moved base gate [] = refl
kept_moved base gate (bytes ∷ records) = ap (λ (l : List Record). kept_at (base + gate) bytes ∷ l) (kept_moved base gate records)

pub all_kept_moved : (base gate : ℕ) (groups : List (List (List ℕ))) → map (moved_by base) (all_kept gate groups) ≡ all_kept (base + gate) groups
all_kept_moved base gate [] = refl
all_kept_moved base gate (records ∷ groups) =
    let next = gate + 1 + length (sized_body records) in
    let same : base + next ≡ base + gate + 1 + length (sized_body records) = omega arith in
    map-append (moved_by base) (kept gate records) (all_kept next groups)
    ∙ (λ i. kept_moved base gate records i ++ all_kept_moved base next groups i)
    ∙ ap (λ (n : ℕ). kept (base + gate) records ++ all_kept n groups) same

pub checkpoint_at : (side : Side) (generation : ℕ) (records : List (List ℕ)) → CanPack records → stands_at side (1 ∷ bytes_for generation records) ≡ stands_as side generation records
checkpoint_at First generation records can = checkpoint_stands generation records can
checkpoint_at Second generation records can =
    ap (moved 1099511627776) (checkpoint_stands generation records can)
    ∙ ap Ok (all_kept_moved 1099511627776 0 (checkpoint_groups generation records))
