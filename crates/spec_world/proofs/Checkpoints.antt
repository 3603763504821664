-- What a journal writes as a checkpoint is one.
use Rattle.std.proofs.Common.{◌≡◌, ◌<◌, ◌≤◌, ◌^◌, Bool, true, false, ltb, leb, ℕ, ◌+◌, ◌-◌, List, [], ◌∷◌, ◌++◌, length, map, take, Option, Some, None, Ok, refl, sym, ap, ◌∙◌, subst, arith, append_assoc, length-append}
use Rattle.std.specs.Prelude.{All, cond, eqb}
use Rattle.std.specs.List.{flat_map}
use Rattle.std.specs.Option.{option_and_then}
use Rattle.std.proofs.lemmas.Bool.{cond-false, ne_eqb, and_parts, ltb-true, leb-true}
use Rattle.std.proofs.lemmas.Grind.{flat_map-append}
use Rattle.std.proofs.lemmas.List.{append-nil, map-append, take_at}
use Rattle.std.proofs.lemmas.List.Elements.{All-nil, All-cons, All-head, All-tail}
use Rattle.std.proofs.lemmas.Nat.{from_be_bytes-to_be_bytes_8}
use Rattle.diskmodel.specs.Outcomes.{AreBytes}
use Rattle.journal.specs.Areas.{head_record, head_in, generation_of, reports}
use Rattle.journal.specs.Format.{FitsGroup, body_len, sized_body, with_gate, in_turn, as_written, file_with, file_bytes, kept_at, kept, stands}
use Rattle.journal.specs.Journal.{EndsClosed, with_group}
use Rattle.journal.specs.Snapshot.{has_room, packed_after, packed, bytes_for, FitsAlone}
use Rattle.std.proofs.lemmas.List.Sums.{sum_by-append}
use Rattle.journal.specs.declared.record.Record.{Record}
use Rattle.journal.specs.declared.version.Version.{Version}
use Rattle.journal.specs.declared.version.Version.TheVariants.{Second}
use Rattle.journal.specs.declared.side.Side.TheVariants as sides
use Rattle.journal.proofs.Walks.{stands_short}
use Rattle.spec_checkpoint.specs.Records.{state_records}
use Rattle.spec_checkpoint.specs.Data.{Checkpoint, IsWritten}
use Rattle.spec_checkpoint.specs.Meaning as checkpoint
use Rattle.spec_model.specs.Nodes.{Node, IsNode}
use Rattle.spec_world.specs.World.{IsJournal, own_configuration, IsCheckpointOf}
use Rattle.spec_world.specs.Runs.{AreKeys, SnapshotsAreCheckpoints}
use Rattle.spec_world.proofs.Beginning.{configuration_short, empty_ends, shaped, reports_first_group}
use Rattle.spec_world.proofs.Disks.{whole_keeps, longer_stands, longer_ends}
use Rattle.spec_world.proofs.Recovering.{gates_at, journal_grows}
use Rattle.spec_world.proofs.Rewriting.{keeps_reporting}

-- ---- groups one after the other

-- all but the last byte
all_but_last : (front : List ℕ) (last : ℕ) → take (length (front ++ last ∷ []) - 1) (front ++ last ∷ []) ≡ front
all_but_last front last =
    let size : length (front ++ last ∷ []) - 1 ≡ length front = omega (arith, length-append front (last ∷ [])) in
    ap (λ (n : ℕ). take n (front ++ last ∷ [])) size ∙ take_at front (last ∷ []) (length front) refl

one_more : (groups : List (List (List ℕ))) (group : List (List ℕ)) → file_with (file_bytes groups) group ≡ file_bytes (groups ++ group ∷ [])
one_more groups group =
    let before = in_turn (map as_written groups) in
    let last = in_turn (as_written group ∷ []) in
    let only : last ≡ with_gate (as_written group) = append-nil (with_gate (as_written group)) in
    let all : in_turn (map as_written (groups ++ group ∷ [])) ≡ before ++ last =
    ap in_turn (map-append as_written groups (group ∷ [])) ∙ flat_map-append with_gate (map as_written groups) (as_written group ∷ []) in
    let one : List ℕ = with_gate (as_written group) in
    let front : file_with (file_bytes groups) group ≡ before ++ (one ++ 0 ∷ []) = ap (λ (l : List ℕ). l ++ (one ++ 0 ∷ [])) (all_but_last before 0) in
    front ∙ sym (append_assoc before one (0 ∷ [])) ∙ ap (λ (l : List ℕ). before ++ l ++ 0 ∷ []) (sym only) ∙ ap (λ (l : List ℕ). l ++ 0 ∷ []) (sym all)

-- a file whose first group is followed by others
record IsFile (generation : ℕ) (records : List (List ℕ)) (file : List ℕ) : Type 0 where
  ends_closed : EndsClosed file
  reported : reports file ≡ Some (Some generation)
  journal : IsJournal (stands file) records 2 []
  many : 2 ≤ length records

with_one : (generation : ℕ) (records : List (List ℕ)) (file : List ℕ) (group : List (List ℕ)) → IsFile generation records file → FitsGroup group
    → IsFile generation (records ++ group) (file_with file group)
with_one generation records file group is fits = record {
  ends_closed = longer_ends file is.ends_closed group fits;
  reported = keeps_reporting file (file_with file group) (Some generation) is.ends_closed is.reported (whole_keeps file is.ends_closed group) ∙ is.reported;
  journal = journal_grows (stands file) (stands (file_with file group)) records group 2 (length file - 1) is.journal (omega arith) is.many
      (λ found stand. gates_before file is.ends_closed found stand) (longer_stands file is.ends_closed group fits);
  many = omega (arith, is.many, length-append records group);
}
  where
    gates_before : (file : List ℕ) → EndsClosed file → (found : List Record) → stands file ≡ Ok found → All (λ (one : Record). one.gate < length file - 1) found
    gates_before file ends found stand =
        let same : 0 + (length file - 1) ≡ length file - 1 = omega arith in
        subst (λ (n : ℕ). All (λ (one : Record). one.gate < n) found) same (gates_at sides.First file ends found stand)

with_all : (generation : ℕ) (done groups : List (List (List ℕ))) (records : List (List ℕ)) → IsFile generation records (file_bytes done) → All FitsGroup groups
    → IsFile generation (records ++ flat_map (λ group. group) groups) (file_bytes (done ++ groups))
with_all generation done [] records is fits =
    subst (λ (r : List (List ℕ)). IsFile generation r (file_bytes (done ++ []))) (sym (append-nil records))
    (subst (λ (g : List (List (List ℕ))). IsFile generation records (file_bytes g)) (sym (append-nil done)) is)
with_all generation done (group ∷ groups) records is fits =
    let next = subst (IsFile generation (records ++ group)) (one_more done group) (with_one generation records (file_bytes done) group is (All-head FitsGroup group groups fits)) in
    let all = with_all generation (done ++ group ∷ []) groups (records ++ group) next (All-tail FitsGroup group groups fits) in
    subst (λ (r : List (List ℕ)). IsFile generation r (file_bytes (done ++ group ∷ groups))) (append_assoc records group (flat_map (λ g. g) groups))
    (subst (λ (g : List (List (List ℕ))). IsFile generation ((records ++ group) ++ flat_map (λ g. g) groups) (file_bytes g)) (append_assoc done (group ∷ []) groups) all)

-- ---- the first group

head_back : (generation : ℕ) → 1 ≤ generation → generation < 2 ^ 64 → head_in (head_record generation) ≡ Some generation
unfolding head_in
head_back generation some small =
    ap (λ (n : ℕ). cond (eqb n 0) None (Some n)) (from_be_bytes-to_be_bytes_8 generation small) ∙ cond-false (eqb generation 0) None (Some generation) (ne_eqb generation 0 (λ none. omega arith))

first_group : (node : Node) (generation : ℕ) → IsNode node → AreKeys node → 1 ≤ generation → generation < 2 ^ 64
    → IsFile generation (own_configuration Second node ∷ head_record generation ∷ []) (file_bytes ((own_configuration Second node ∷ head_record generation ∷ []) ∷ []))
unfolding generation_of
first_group node generation sound keys some small =
    let group = own_configuration Second node ∷ head_record generation ∷ [] in
    let fits : FitsGroup group = record { some = omega arith; not_many = omega arith; not_long = omega (arith, configuration_short node sound keys) } in
    let reported : reports (file_with (0 ∷ []) group) ≡ Some (Some generation) =
    reports_first_group group fits ∙ ap (λ (o : Option Version). Some (option_and_then (λ version. head_in (head_record generation)) o)) (shaped node sound keys)
    ∙ ap Some (head_back generation some small) in
    let is : IsFile generation group (file_with (0 ∷ []) group) = record {
      ends_closed = longer_ends (0 ∷ []) empty_ends group fits;
      reported = reported;
      journal = record {
        records = kept 0 group;
        stands_for = longer_stands (0 ∷ []) empty_ends group fits ∙ ap (with_group 0 group) (stands_short (0 ∷ []) (omega arith));
        are = refl;
        first_gate = 0;
        first = All-cons (λ (one : Record). one.gate ≡ 0) (kept_at 0 (own_configuration Second node)) (kept_at 0 (head_record generation) ∷ []) refl
            (All-cons (λ (one : Record). one.gate ≡ 0) (kept_at 0 (head_record generation)) [] refl (All-nil (λ (one : Record). one.gate ≡ 0)));
        others = All-nil (λ (one : Record). 0 < one.gate);
      };
      many = omega arith;
    } in
    subst (IsFile generation group) (one_more [] group) is

pub groups_are : (node : Node) (generation : ℕ) (kept_data : Checkpoint) (groups : List (List (List ℕ))) (bytes : List ℕ) → IsNode node → AreKeys node
    → 1 ≤ generation → generation < 2 ^ 64 → IsWritten node kept_data → All FitsGroup groups → flat_map (λ group. group) groups ≡ state_records kept_data → AreBytes bytes
    → 1 ∷ bytes ≡ file_bytes ((own_configuration Second node ∷ head_record generation ∷ []) ∷ groups) → IsCheckpointOf node generation (checkpoint.state_in node kept_data) bytes
groups_are node generation kept_data groups bytes sound keys some small written fits all are is =
    let front = own_configuration Second node ∷ head_record generation ∷ [] in
    let file = with_all generation (front ∷ []) groups front (first_group node generation sound keys some small) fits in
    let found : IsFile generation (front ++ state_records kept_data) (1 ∷ bytes) =
    subst (λ (l : List ℕ). IsFile generation (front ++ state_records kept_data) l) (sym is)
    (subst (λ (r : List (List ℕ)). IsFile generation (front ++ r) (file_bytes (front ∷ groups))) all file) in
    record { kept = kept_data; written = written; is = refl; journal = found.journal; reported = found.reported; ends_closed = found.ends_closed; are_bytes = are }

-- ---- packed groups

-- what holds of both that a test may choose
by_test : {A : Type 0} (P : A → Type 0) (b : Bool) (x y : A) → (b ≡ true → P x) → (b ≡ false → P y) → P (cond b x y)
by_test P true x y first second = first refl
by_test P false x y first second = second refl

all_packed_after : (group rest : List (List ℕ)) → flat_map (λ g. g) (packed_after group rest) ≡ group ++ rest
unfolding packed_after
all_packed_after group [] = refl
all_packed_after group (next ∷ rest) =
    by_test (λ (groups : List (List (List ℕ))). flat_map (λ g. g) groups ≡ group ++ next ∷ rest) (has_room group next) (packed_after (group ++ next ∷ []) rest) (group ∷ packed_after (next ∷ []) rest)
    (λ room. all_packed_after (group ++ next ∷ []) rest ∙ append_assoc group (next ∷ []) rest)
    (λ full. ap (λ (l : List (List ℕ)). group ++ l) (all_packed_after (next ∷ []) rest))

all_packed : (records : List (List ℕ)) → flat_map (λ g. g) (packed records) ≡ records
unfolding packed
all_packed [] = refl
all_packed (first ∷ rest) = all_packed_after (first ∷ []) rest

-- a group with room fits with the next record
room_fits : (group : List (List ℕ)) (next : List ℕ) → has_room group next ≡ true → FitsGroup (group ++ next ∷ [])
room_fits group next room =
    let parts = and_parts (ltb (length group) 1024) (leb (body_len group + (4 + length next)) 4194304) room in
    record {
      some = omega (arith, length-append group (next ∷ []));
      not_many = omega (arith, ltb-true (length group) 1024 parts.0, length-append group (next ∷ []));
      not_long = omega (arith, leb-true (body_len group + (4 + length next)) 4194304 parts.1, sum_by-append (λ (bytes : List ℕ). 4 + length bytes) group (next ∷ []));
    }

fit_packed_after : (group rest : List (List ℕ)) → FitsGroup group → All FitsAlone rest → All FitsGroup (packed_after group rest)
unfolding packed_after
fit_packed_after group [] fits each = All-cons FitsGroup group [] fits (All-nil FitsGroup)
fit_packed_after group (next ∷ rest) fits each =
    let alone = All-head FitsAlone next rest each in
    let others = All-tail FitsAlone next rest each in
    by_test (λ (groups : List (List (List ℕ))). All FitsGroup groups) (has_room group next) (packed_after (group ++ next ∷ []) rest) (group ∷ packed_after (next ∷ []) rest)
    (λ room. fit_packed_after (group ++ next ∷ []) rest (room_fits group next room) others)
    (λ full. All-cons FitsGroup group (packed_after (next ∷ []) rest) fits (fit_packed_after (next ∷ []) rest alone others))

fit_packed : (records : List (List ℕ)) → All FitsAlone records → All FitsGroup (packed records)
unfolding packed
fit_packed [] each = All-nil FitsGroup
fit_packed (first ∷ rest) each = fit_packed_after (first ∷ []) rest (All-head FitsAlone first rest each) (All-tail FitsAlone first rest each)

pub snapshots_are_checkpoints : SnapshotsAreCheckpoints
snapshots_are_checkpoints node generation kept_data sound keys some small written can are =
    let state = state_records kept_data in
    let front = own_configuration Second node ∷ head_record generation ∷ [] in
    groups_are node generation kept_data (packed state) (bytes_for generation (own_configuration Second node ∷ state)) sound keys some small written (fit_packed state can.1) (all_packed state) are
    (ap (λ (l : List ℕ). 1 ∷ l) (sym (append_assoc (sized_body front) (in_turn (map as_written (packed state))) (0 ∷ []))))
