-- What a stop leaves of a journal's file in each step of an append and of an opening.
use Rattle.std.proofs.Common.{◌≡◌, ◌≢◌, inl, inr, ℕ, ◌+◌, ◌-◌, ◌<◌, ◌≤◌, List, [], ◌∷◌, ◌++◌, length, get_or, take, drop, Result, Ok, Err, refl, sym}
use Rattle.std.proofs.Common.{◌∙◌, ap, subst, arith, append_assoc, length-append, take-append-drop}
use Rattle.std.proofs.lemmas.List.{take_at, drop_at, drop_more, take_all, drop_all, append-nil, nil_from_length}
use Rattle.std.proofs.lemmas.Bool.{cases_eq, cases_lt, lt-ltb, le-ltb, cond-true, cond-false}
use Rattle.diskmodel.specs.Disk.{written, IsTorn, IsCut}
use Rattle.journal.specs.declared.record.Record.{Record}
use Rattle.journal.specs.Format.{FitsGroup, body_len, group_bytes, kept, with_front, walk, scan, stands, only_records, ScansTo, FailsAs}
use Rattle.journal.specs.declared.error.JournalError.{JournalError}
use Rattle.journal.specs.declared.error.JournalError.TheVariants as errors
use Rattle.journal.specs.Journal.{EndsClosed, stands_with, IsClosedUp, with_group, IsBeforeOrAfter}
use Rattle.journal.proofs.Parts.{length-group}
use Rattle.journal.proofs.Walks.{Ended, walk_ended, walk_swap, walk_after, walk_closed, walk_written, stands_walk, stands_short}

-- a walk that comes to the last byte
pub ends_at : (file : List ℕ) (records : List Record) → walk 0 0 file ≡ Ok (records, length file - 1) → 0 < length file → EndsClosed file
ends_at file records ends some = record {
  records = records;
  stands_for = stands_walk file (records, length file - 1) ends;
  ends = ends;
  some = some;
}

-- a file that ends at its closed gate, in parts
pub record Closed (file : List ℕ) : Type 0 where
  pub front : List ℕ
  pub records : List Record
  pub file_is : file ≡ front ++ 0 ∷ []
  pub size : length file ≡ length front + 1
  pub found : walk 0 0 (front ++ 0 ∷ []) ≡ Ok (records, length front)
  pub stands_for : stands file ≡ Ok records

pub closed : (file : List ℕ) → EndsClosed file → Closed file
closed file ends =
    let at = walk_ended file 0 0 (ends.records, length file - 1) ends.ends ends.some in
    let total : length file ≡ length at.front + (1 + length at.after) = ap length at.split ∙ length-append at.front (0 ∷ at.after) ∙ omega arith in
    let none : at.after ≡ [] = nil_from_length at.after (omega (arith, at.at_gate, ends.some)) in
    let is : file ≡ at.front ++ 0 ∷ [] = at.split ∙ ap (λ (l : List ℕ). at.front ++ 0 ∷ l) none in
    let gate : length file - 1 ≡ length at.front = omega (arith, at.at_gate) in
    record {
      front = at.front;
      records = ends.records;
      file_is = is;
      size = omega (arith, gate, ends.some);
      found = ap (λ (l : List ℕ). walk 0 0 l) (sym is) ∙ ends.ends ∙ ap (λ (n : ℕ). Ok (ends.records, n)) gate;
      stands_for = stands_walk file (ends.records, length file - 1) ends.ends;
    }

-- with any bytes after the closed gate
pub stands_after : (front after : List ℕ) (old : List ℕ) (records : List Record) → walk 0 0 (front ++ 0 ∷ old) ≡ Ok (records, length front) → stands (front ++ 0 ∷ after) ≡ Ok records
stands_after front after old records found = stands_walk (front ++ 0 ∷ after) (records, length front) (walk_after front old after (records, length front) found refl)

module _ (file : List ℕ) (ends : EndsClosed file) where
  parts : Closed file
  parts = closed file ends

  -- the closed gate stands in each outcome of the first write
  pub torn_after : (n : ℕ) (c : List ℕ) → IsTorn (length file) n file c → stands c ≡ stands file
  torn_after n c torn =
      let p = parts in
      let front_is : take (length file) c ≡ p.front ++ 0 ∷ [] = torn.before ∙ take_all (length file) file (omega arith) ∙ p.file_is in
      let tail = drop (length file) c in
      let whole : c ≡ p.front ++ 0 ∷ tail =
      sym (take-append-drop (length file) c) ∙ ap (λ (l : List ℕ). l ++ tail) front_is ∙ append_assoc p.front (0 ∷ []) tail in
      ap stands whole ∙ stands_after p.front tail [] p.records p.found ∙ sym p.stands_for

  pub written_after : (bytes : List ℕ) → written file (length file) bytes ≡ file ++ bytes
  written_after bytes =
      ap (λ (l : List ℕ). l ++ bytes ++ drop (length file + length bytes) file) (take_all (length file) file (omega arith))
      ∙ ap (λ (l : List ℕ). file ++ bytes ++ l) (drop_all (length file + length bytes) file (omega arith))
      ∙ append-nil (file ++ bytes)

  module _ (group : List (List ℕ)) (fits : FitsGroup group) where
    -- the file with the group after its closed gate
    pub staged_by : (at : ℕ) (bytes new : List ℕ) → at ≡ length file → bytes ≡ group_bytes group → new ≡ written file at bytes → new ≡ file ++ group_bytes group
    staged_by at bytes new at_end bytes_are is = is ∙ (λ i. written file (at_end i) (bytes_are i)) ∙ written_after (group_bytes group)

    staged_is : file ++ group_bytes group ≡ parts.front ++ 0 ∷ group_bytes group
    staged_is = ap (λ (l : List ℕ). l ++ group_bytes group) parts.file_is ∙ append_assoc parts.front (0 ∷ []) (group_bytes group)

    gate_is : length file - 1 ≡ length parts.front
    gate_is = omega (arith, parts.size)

    before_gate : take (length file - 1) file ≡ parts.front
    before_gate = ap (λ (l : List ℕ). take (length file - 1) l) parts.file_is ∙ take_at parts.front (0 ∷ []) (length file - 1) (sym gate_is)

    front_staged : take (length file - 1) (file ++ group_bytes group) ≡ parts.front
    front_staged = ap (λ (l : List ℕ). take (length file - 1) l) staged_is ∙ take_at parts.front (0 ∷ group_bytes group) (length file - 1) (sym gate_is)

    back_staged : drop (length file - 1 + 1) (file ++ group_bytes group) ≡ group_bytes group
    back_staged = drop_at file (group_bytes group) (length file - 1 + 1) (omega (arith, parts.size))

    -- the file with the group after an open gate
    found_open : (gate : ℕ) → gate ≢ 0 → walk 0 0 (parts.front ++ gate ∷ group_bytes group) ≡ Ok (parts.records ++ kept (length file - 1) group, length file - 1 + (5 + body_len group))
    found_open gate is_open =
        let place : 0 + length parts.front ≡ length file - 1 = omega (arith, gate_is) in
        walk_swap parts.front 0 0 (0 ∷ []) (gate ∷ group_bytes group) (parts.records, length parts.front) parts.found (omega arith) (omega arith) (omega arith)
        ∙ ap (λ (n : ℕ). with_front parts.records (walk n 0 (gate ∷ group_bytes group))) place
        ∙ ap (λ (r : Result (List Record × ℕ) ℕ). with_front parts.records r) (walk_written (length file - 1) gate group is_open fits)

    stands_open : (gate : ℕ) → gate ≢ 0 → stands (parts.front ++ gate ∷ group_bytes group) ≡ stands_with file group
    stands_open gate is_open =
        stands_walk (parts.front ++ gate ∷ group_bytes group) (parts.records ++ kept (length file - 1) group, length file - 1 + (5 + body_len group)) (found_open gate is_open)
        ∙ ap (λ (r : Result (List Record) ℕ). with_group (length file - 1) group r) (sym parts.stands_for)

    -- the group stands whole in each outcome of the second write
    pub torn_gate : (c : List ℕ) → IsTorn (length file - 1) 1 (file ++ group_bytes group) c → IsBeforeOrAfter file group c
    torn_gate c torn =
        let e = length file - 1 in
        let gate = get_or c e 0 in
        let long = length-append file (group_bytes group) in
        let rest : drop e c ≡ gate ∷ group_bytes group =
        drop_more c e 0 (omega (arith, torn.no_shorter, long, parts.size)) ∙ ap (λ (l : List ℕ). gate ∷ l) (torn.after ∙ back_staged) in
        let whole : c ≡ parts.front ++ gate ∷ group_bytes group =
        sym (take-append-drop e c) ∙ ap (λ (l : List ℕ). l ++ drop e c) (torn.before ∙ front_staged) ∙ ap (λ (l : List ℕ). parts.front ++ l) rest in
        elim (cases_eq gate 0) [
          | inl shut ↦ inl (ap stands (whole ∙ ap (λ (g : ℕ). parts.front ++ g ∷ group_bytes group) shut)
              ∙ stands_after parts.front (group_bytes group) [] parts.records parts.found ∙ sym parts.stands_for)
          | inr is_open ↦ inr (ap stands whole ∙ stands_open gate is_open)
        ]

    pub staged_before : IsBeforeOrAfter file group (file ++ group_bytes group)
    staged_before = inl (ap stands staged_is ∙ stands_after parts.front (group_bytes group) [] parts.records parts.found ∙ sym parts.stands_for)

    written_gate : (gate : ℕ) → written (file ++ group_bytes group) (length file - 1) (gate ∷ []) ≡ parts.front ++ gate ∷ group_bytes group
    written_gate gate =
        ap (λ (l : List ℕ). l ++ (gate ∷ []) ++ drop (length file - 1 + 1) (file ++ group_bytes group)) front_staged
        ∙ ap (λ (l : List ℕ). parts.front ++ (gate ∷ []) ++ l) back_staged
        ∙ append_assoc parts.front (gate ∷ []) (group_bytes group)

    -- the group's gate is open on the disk
    pub record Added (gate : ℕ) (new : List ℕ) : Type 0 where
      pub ends_closed : EndsClosed new
      pub size : length new ≡ length file + 5 + body_len group
      pub records : stands new ≡ stands_with file group
      pub content : new ≡ take (length file - 1) file ++ gate ∷ group_bytes group

    pub added : (at gate : ℕ) (staged new : List ℕ) → gate ≢ 0 → at ≡ length file → staged ≡ file ++ group_bytes group → new ≡ written staged (at - 1) (gate ∷ []) → Added gate new
    added at gate staged new is_open at_end staged_is is =
        let e = length file - 1 in
        let whole : new ≡ parts.front ++ gate ∷ group_bytes group = is ∙ (λ i. written (staged_is i) (at_end i - 1) (gate ∷ [])) ∙ written_gate gate in
        let size : length new ≡ length file + 5 + body_len group =
        ap length whole ∙ length-append parts.front (gate ∷ group_bytes group) ∙ omega (arith, length-group group, parts.size) in
        let end_is : e + (5 + body_len group) ≡ length new - 1 = omega (arith, size, parts.size) in
        let found : walk 0 0 new ≡ Ok (parts.records ++ kept e group, length new - 1) =
        ap (λ (l : List ℕ). walk 0 0 l) whole ∙ found_open gate is_open ∙ ap (λ (n : ℕ). Ok (parts.records ++ kept e group, n)) end_is in
        record {
          ends_closed = ends_at new (parts.records ++ kept e group) found (omega (arith, size, parts.size));
          size = size;
          records = ap stands whole ∙ stands_open gate is_open;
          content = whole ∙ ap (λ (l : List ℕ). l ++ gate ∷ group_bytes group) (sym before_gate);
        }

abbrev pub gate_of : Result (List Record × ℕ) ℕ → ℕ
gate_of (Ok found) = found.1
gate_of (Err gate) = gate

-- how the end of a file is closed
pub record Repaired (file new : List ℕ) (gate : ℕ) : Type 0 where
  pub ends_closed : EndsClosed new
  pub size : length new ≡ gate + 1
  pub records : stands new ≡ stands file
  pub content : IsClosedUp file new

module _ (file : List ℕ) (gate : ℕ) (scans : ScansTo file gate) where
  -- a file of at most one byte
  short_gate : length file < 2 → gate ≡ 0
  unfolding scan
  short_gate short = same_gate (sym (cond-true _ _ _ (lt-ltb (length file) 2 short)) ∙ scans.1)
    where
      same_gate : ◌≡◌ {A = Result (List Record × ℕ) ℕ} (Ok ([], 0)) (Ok (scans.0, gate)) → gate ≡ 0
      same_gate is = sym (ap gate_of is)

  pub torn_short : length file < 2 → (c : List ℕ) → IsTorn 0 1 file c → stands c ≡ stands file
  torn_short short c torn = stands_short c (omega (arith, torn.no_longer)) ∙ sym (stands_short file short)

  pub repaired_short : length file < 2 → (new : List ℕ) → new ≡ written file 0 (0 ∷ []) → Repaired file new gate
  repaired_short short new is =
      let whole : new ≡ 0 ∷ [] = is ∙ ap (λ (l : List ℕ). 0 ∷ l) (drop_all 1 file (omega arith)) in
      record {
        ends_closed = subst EndsClosed (sym whole) (ends_at (0 ∷ []) [] (walk_closed 0 0 [] refl) (omega arith));
        size = ap length whole ∙ omega (arith, short_gate short);
        records = ap stands whole ∙ stands_short (0 ∷ []) (omega arith) ∙ sym (stands_short file short);
        content = record { short = λ _. whole; long = λ long. absurd (omega (arith, short, long)) };
      }

  module _ (long : 2 ≤ length file) where
    pub walked : walk 0 0 file ≡ Ok (scans.0, gate)
    unfolding scan
    walked = sym (cond-false _ _ _ (le-ltb (length file) 2 long)) ∙ scans.1

    ended : Ended 0 file gate
    ended = walk_ended file 0 0 (scans.0, gate) walked (omega (arith, long))

    found : walk 0 0 (ended.front ++ 0 ∷ ended.after) ≡ Ok (scans.0, length ended.front)
    found = ap (λ (l : List ℕ). walk 0 0 l) (sym ended.split) ∙ walked ∙ ap (λ (n : ℕ). Ok (scans.0, n)) (omega (arith, ended.at_gate))

    file_stands : stands file ≡ Ok scans.0
    file_stands = stands_walk file (scans.0, gate) walked

    pub gate_inside : gate < length file
    gate_inside = omega (arith, ended.at_gate, ap length ended.split, length-append ended.front (0 ∷ ended.after))

    front_is : take (gate + 1) file ≡ ended.front ++ 0 ∷ []
    front_is =
        ap (λ (l : List ℕ). take (gate + 1) l) (ended.split ∙ sym (append_assoc ended.front (0 ∷ []) ended.after))
        ∙ take_at (ended.front ++ 0 ∷ []) ended.after (gate + 1) (omega (arith, ended.at_gate, length-append ended.front (0 ∷ [])))

    -- any cut after the closed gate keeps the records
    pub cut_keeps : (c : List ℕ) → IsCut (gate + 1) file c → stands c ≡ stands file
    cut_keeps c cut =
        let tail = drop (gate + 1) c in
        let whole : c ≡ ended.front ++ 0 ∷ tail =
        sym (take-append-drop (gate + 1) c) ∙ ap (λ (l : List ℕ). l ++ tail) (cut.front ∙ front_is) ∙ append_assoc ended.front (0 ∷ []) tail in
        ap stands whole ∙ stands_after ended.front tail ended.after scans.0 found ∙ sym file_stands

    pub repaired_cut : (new : List ℕ) → new ≡ take (gate + 1) file → Repaired file new gate
    repaired_cut new is =
        let whole : new ≡ ended.front ++ 0 ∷ [] = is ∙ front_is in
        let size : length new ≡ gate + 1 = ap length whole ∙ length-append ended.front (0 ∷ []) ∙ omega (arith, ended.at_gate) in
        let end_is : length ended.front ≡ length new - 1 = omega (arith, size, ended.at_gate) in
        record {
          ends_closed = ends_at new scans.0
              (ap (λ (l : List ℕ). walk 0 0 l) whole ∙ walk_after ended.front ended.after [] (scans.0, length ended.front) found refl ∙ ap (λ (n : ℕ). Ok (scans.0, n)) end_is)
              (omega (arith, size));
          size = size;
          records = ap stands whole ∙ stands_after ended.front [] ended.after scans.0 found ∙ sym file_stands;
          content = record { short = λ short. absurd (omega (arith, short, long)); long = λ _. (gate, scans, is) };
        }

    -- nothing stands after it
    pub repaired_whole : length file - 1 ≤ gate → Repaired file file gate
    repaired_whole last =
        let last_is : gate ≡ length file - 1 = omega (arith, gate_inside) in
        record {
          ends_closed = ends_at file scans.0 (walked ∙ ap (λ (n : ℕ). Ok (scans.0, n)) last_is) (omega (arith, long));
          size = omega (arith, gate_inside, long);
          records = refl;
          content = record { short = λ short. absurd (omega (arith, short, long)); long = λ _. (gate, scans, sym (take_all (gate + 1) file (omega (arith, last_is, long)))) };
        }

pub gate_fits : (file : List ℕ) (gate limit : ℕ) → ScansTo file gate → length file < limit → 2 ≤ limit → gate + 1 < limit
gate_fits file gate limit scans size least = elim (cases_lt (length file) 2) [
  | inl short ↦ omega (arith, short_gate file gate scans short)
  | inr long ↦ omega (arith, gate_inside file gate scans long)
]

pub scan_ok : (file : List ℕ) (found : List Record × ℕ) → scan file ≡ Ok found → stands file ≡ Ok found.0
unfolding stands
scan_ok file read is = ap only_records is

pub scan_err : (file : List ℕ) (gate : ℕ) → scan file ≡ Err gate → stands file ≡ Err gate
unfolding stands
scan_err file gate is = ap only_records is

-- the error names the gate
pub damaged_at : {X : Type 0} (error : JournalError) (read : Result X ℕ) (gate : ℕ) → FailsAs error read → error ≡ errors.Damaged gate → read ≡ Err gate
damaged_at (errors.Damaged place) read gate fails is = fails ∙ ap Err (cc)
damaged_at errors.Memory read gate fails is = absurd (cc)
damaged_at errors.Device read gate fails is = absurd fails
damaged_at errors.ConfigMismatch read gate fails is = absurd fails
damaged_at errors.Full read gate fails is = absurd fails
