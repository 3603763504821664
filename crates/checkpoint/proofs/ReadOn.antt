-- The records that came so far, and one more.
use Rattle.std.proofs.Common.{◌≡◌, ℕ, ◌+◌, ◌-◌, Bool, true, false, inl, inr, List, [], ◌∷◌, ◌++◌, length}
use Rattle.std.proofs.Common.{map, slice_get, Result, Ok, Err, Option, Some, None, length-append, refl, sym, ap, subst, ◌∙◌, arith}
use Rattle.std.specs.Prelude.{All, IfOk, IfSome, drop, is_some}
use Rattle.std.proofs.lemmas.Bool.{cases_Bool}
use Rattle.std.proofs.lemmas.List.Elements.{All-push}
use Rattle.journal.specs.declared.version.Version.{Version}
use Rattle.spec_model.specs.Nodes.{Node}
use Rattle.spec_records.specs.Records.{configuration_of}
use Rattle.wire.proofs.RisingLemmas.{follows-last}
use Rattle.wire.specs.Fields.{AreBytes}
use Rattle.wire.specs.Rising.{follows}
use Rattle.spec_checkpoint.specs.Data.{Checkpoint, blank}
use Rattle.spec_checkpoint.specs.Laws.{ReadAsWritten}
use Rattle.spec_checkpoint.specs.Loading.{at_record, fault_of_read, is_configuration, load_fault, unsound}
use Rattle.spec_checkpoint.specs.Reading.{is_cut_short, kind_of, with_record, read_from, checkpoint_read}
use Rattle.spec_checkpoint.specs.Records.{state_records}
use Rattle.checkpoint.specs.Reader.{IsReading, records_so_far}

-- ---- one record

read_end : (node : Node) (start : ℕ) (so_far : Checkpoint) → read_from node start so_far [] ≡ Ok so_far
unfolding read_from
read_end node start so_far = refl

read_cut : (node : Node) (start : ℕ) (so_far : Checkpoint) (row : List ℕ) (rest : List (List ℕ)) → is_cut_short so_far (kind_of row) ≡ true → read_from node start so_far (row ∷ rest) ≡ Err (start - 1)
unfolding read_from
read_cut node start so_far row rest short = rw short refl

read_none : (node : Node) (start : ℕ) (so_far : Checkpoint) (row : List ℕ) (rest : List (List ℕ)) → is_cut_short so_far (kind_of row) ≡ false → with_record node so_far row ≡ None
    → read_from node start so_far (row ∷ rest) ≡ Err start
unfolding read_from
read_none node start so_far row rest uncut none = rw (uncut, none) refl

read_next : (node : Node) (start : ℕ) (so_far next : Checkpoint) (row : List ℕ) (rest : List (List ℕ)) → is_cut_short so_far (kind_of row) ≡ false → with_record node so_far row ≡ Some next
    → read_from node start so_far (row ∷ rest) ≡ read_from node (start + 1) next rest
unfolding read_from
read_next node start so_far next row rest uncut some = rw (uncut, some) refl

-- what was read isn't at fault
not_both : {X : Type 0} (read : Result X ℕ) (x : X) (place : ℕ) → read ≡ Err place → read ≡ Ok x → ⊥
not_both read x place fails reads = absurd (cc)

same_read : (one other : Checkpoint) → (let first : Result Checkpoint ℕ = Ok one in first) ≡ Ok other → one ≡ other
same_read one other is = cc

-- records that were read, and more after them
read_on : (node : Node) (start : ℕ) (so_far next : Checkpoint) (records more : List (List ℕ)) → read_from node start so_far records ≡ Ok next
    → read_from node start so_far (records ++ more) ≡ read_from node (start + length records) next more
read_on node start so_far next [] more is =
    let same = same_read so_far next (sym (read_end node start so_far) ∙ is) in
    let at : start ≡ start + 0 = omega arith in
    ap (λ c. read_from node start c more) same ∙ ap (λ n. read_from node n next more) at
read_on node start so_far next (row ∷ rest) more is =
    elim (cases_Bool (is_cut_short so_far (kind_of row))) [
      | inl short ↦ absurd (not_both (read_from node start so_far (row ∷ rest)) next (start - 1) (read_cut node start so_far row rest short) is)
      | inr uncut ↦ by uncut (with_record node so_far row) refl (λ later. read_on node (start + 1) later next rest more)
    ]
  where
    by : is_cut_short so_far (kind_of row) ≡ false → (o : Option Checkpoint) → with_record node so_far row ≡ o
        → ((later : Checkpoint) → read_from node (start + 1) later rest ≡ Ok next → read_from node (start + 1) later (rest ++ more) ≡ read_from node (start + 1 + length rest) next more)
        → read_from node start so_far (row ∷ (rest ++ more)) ≡ read_from node (start + length (row ∷ rest)) next more
    by uncut None none go = absurd (not_both (read_from node start so_far (row ∷ rest)) next start (read_none node start so_far row rest uncut none) is)
    by uncut (Some later) some go =
        let at : start + 1 + length rest ≡ start + length (row ∷ rest) = omega arith in
        read_next node start so_far later row (rest ++ more) uncut some
        ∙ go later (sym (read_next node start so_far later row rest uncut some) ∙ is)
        ∙ ap (λ n. read_from node n next more) at

-- ---- those that came so far

module _ (law : ReadAsWritten) (node : Node) (version : Version) (count : ℕ) (so_far : Checkpoint) (reading : IsReading node (Some version) count so_far) (bytes : List ℕ) where
  so_far_read : (more : List (List ℕ)) → checkpoint_read node (state_records so_far ++ more) ≡ read_from node (count - 1) so_far more
  so_far_read more =
      let reads : checkpoint_read node (state_records so_far) ≡ Ok so_far = (law node (state_records so_far) so_far reading.bytes).1 (reading.canonical, refl) in
      let at : 0 + length (state_records so_far) ≡ count - 1 = omega (arith, reading.counted) in
      read_on node 0 blank so_far (state_records so_far) more reads ∙ ap (λ n. read_from node n so_far more) at

  -- a record more
  pub next_reading : (next : Checkpoint) → is_cut_short so_far (kind_of bytes) ≡ false → with_record node so_far bytes ≡ Some next → AreBytes bytes
      → IsReading node (Some version) (count + 1) next × (state_records next ≡ state_records so_far ++ bytes ∷ [])
  next_reading next uncut some are_bytes =
      let all : All AreBytes (state_records so_far ++ bytes ∷ []) =
      All-push AreBytes (state_records so_far) bytes reading.bytes are_bytes in
      let reads : checkpoint_read node (state_records so_far ++ bytes ∷ []) ≡ Ok next =
      so_far_read (bytes ∷ []) ∙ read_next node (count - 1) so_far next bytes [] uncut some ∙ read_end node (count - 1 + 1) next in
      let written = (law node (state_records so_far ++ bytes ∷ []) next all).0 reads in
      let long = length-append (state_records so_far) (bytes ∷ []) in
      let same = ap (λ (l : List (List ℕ)). length l) written.1 in (
        record {
          node_is = reading.node_is;
          canonical = written.0;
          bytes = subst (All AreBytes) written.1 all;
          counted = omega (arith, long, same, reading.counted);
          begun = reading.begun;
          blank = λ none. absurd (cc);
        },
        sym written.1,
      )

  loaded : (more : List (List ℕ)) → load_fault node (records_so_far node (Some version) so_far ++ bytes ∷ more) ≡ fault_of_read node (read_from node (count - 1) so_far (bytes ∷ more))
  unfolding load_fault
  loaded more = rw reading.begun (ap (fault_of_read node) (so_far_read (bytes ∷ more)))

  -- it is at fault, or the one before it is
  pub cut_fault : (more : List (List ℕ)) → is_cut_short so_far (kind_of bytes) ≡ true → load_fault node (records_so_far node (Some version) so_far ++ bytes ∷ more) ≡ Some (at_record
      (count - 1 - 1 + 1))
  cut_fault more short = loaded more ∙ ap (fault_of_read node) (read_cut node (count - 1) so_far bytes more short)

  pub next_fault : (more : List (List ℕ)) → is_cut_short so_far (kind_of bytes) ≡ false → with_record node so_far bytes ≡ None
      → load_fault node (records_so_far node (Some version) so_far ++ bytes ∷ more) ≡ Some (at_record (count - 1 + 1))
  next_fault more uncut none = loaded more ∙ ap (fault_of_read node) (read_none node (count - 1) so_far bytes more uncut none)

-- ---- the configuration

no_records : state_records blank ≡ []
no_records = refl

-- it came first
pub begun_reading : (node : Node) (version found : Option Version) (count : ℕ) (so_far : Checkpoint) (bytes : List ℕ) → version ≡ None → IsReading node version count so_far → is_some found ≡ true
    → IfSome found (λ v. bytes ≡ configuration_of v node.charter node.own) → is_configuration node bytes ≡ is_some found → IsReading node found 1 so_far × (records_so_far node found so_far
    ≡ bytes ∷ [])
begun_reading node version None count so_far bytes none reading some is same = absurd (cc)
begun_reading node version (Some v) count so_far bytes none reading some is same =
    let nothing : state_records so_far ≡ [] = ap state_records (reading.blank none) ∙ no_records in
    let long : length (state_records so_far) ≡ 0 = ap (λ (l : List (List ℕ)). length l) nothing in (
      record {
        node_is = reading.node_is;
        canonical = reading.canonical;
        bytes = reading.bytes;
        counted = omega (arith, long);
        begun = ap (is_configuration node) (sym is) ∙ same;
        blank = λ other. absurd (cc);
      },
      ap (λ (l : List (List ℕ)). configuration_of v node.charter node.own ∷ l) nothing ∙ ap (λ (row : List ℕ). row ∷ []) (sym is),
    )

-- nothing came before it
pub nothing_before : (node : Node) (version : Option Version) (so_far : Checkpoint) (rows : List (List ℕ)) → version ≡ None → records_so_far node version so_far ++ rows ≡ rows
nothing_before node version so_far rows none = ap (λ (v : Option Version). records_so_far node v so_far ++ rows) none

pub first_fault : (node : Node) (bytes : List ℕ) (more : List (List ℕ)) → is_configuration node bytes ≡ false → load_fault node (bytes ∷ more) ≡ Some (at_record 0)
unfolding load_fault
first_fault node bytes more is = rw is refl

-- ---- all of them

-- none came
pub nothing_came : (node : Node) (version : Option Version) (so_far : Checkpoint) → is_some version ≡ false → load_fault node (records_so_far node version so_far) ≡ Some (at_record 0)
unfolding load_fault
nothing_came node None so_far none = refl
nothing_came node (Some version) so_far none = absurd (cc)

module _ (law : ReadAsWritten) (node : Node) (so_far : Checkpoint) (count : ℕ) where
  -- they are read as what was read so far, and their fault is that of it
  pub all_read : (version : Option Version) → is_some version ≡ true → IsReading node version count so_far → checkpoint_read node (drop 1 (records_so_far node version so_far)) ≡ Ok so_far
  all_read None some reading = absurd (cc)
  all_read (Some version) some reading = (law node (state_records so_far) so_far reading.bytes).1 (reading.canonical, refl)

  pub all_loaded : (version : Option Version) → is_some version ≡ true → IsReading node version count so_far → load_fault node (records_so_far node version so_far) ≡ unsound node so_far
  unfolding load_fault
  all_loaded None some reading = absurd (cc)
  all_loaded (Some version) some reading = rw reading.begun (ap (fault_of_read node) ((law node (state_records so_far) so_far reading.bytes).1 (reading.canonical, refl)))

pub if_ok : {X E : Type 0} (result : Result X E) (P Q : X → Type 0) → ((x : X) → P x → Q x) → IfOk result P → IfOk result Q
if_ok (Ok x) P Q go is = go x is
if_ok (Err e) P Q go is = is

-- ---- votes that rise

follows-map : {X Y : Type 0} (make : X → Y) (before : Y → Bool) (xs : List X) → follows before (map make xs) ≡ follows (λ x. before (make x)) xs
follows-map make before [] = refl
follows-map make before (x ∷ []) = refl
follows-map make before (x ∷ y ∷ xs) = follows-map make before (y ∷ xs)

pub follows_last : {X Y : Type 0} (make : X → Y) (before : Y → Bool) (xs : List X) (x : X) → slice_get xs (length xs - 1) ≡ Some x → follows before (map make xs) ≡ before (make x)
follows_last make before xs x is = follows-map make before xs ∙ follows-last (λ y. before (make y)) xs x is
