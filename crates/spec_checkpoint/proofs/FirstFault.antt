-- What the place of the first record that doesn't follow the format says. Those before it can be read, and with it no list of records can
-- that begins so. Where it is a piece that isn't full, it is at fault by the piece after it alone: with both no list can be read.
use Rattle.std.proofs.Common.{◌≡◌, ℕ, suc, ◌+◌, ◌-◌, ◌<◌, ◌≤◌, Bool, true, false, inl, inr, List, [], ◌∷◌, take, get_or, Result, Ok, Err, Option, Some, None, refl, sym, ap, subst, ◌∙◌, add-one, arith}
use Rattle.std.specs.Prelude.{◌==◌, ◌&&◌, if◌then◌else◌}
use Rattle.std.proofs.lemmas.Bool.{cases_lt, false≢true}
use Rattle.std.proofs.lemmas.List.{take-take}
use Rattle.spec_model.specs.Nodes.{Node}
use Rattle.spec_checkpoint.specs.Data.{Checkpoint, blank}
use Rattle.spec_checkpoint.specs.Laws.{Reader, IsNoneRead, IsCutShortBy, IsFirstUnread, FailsAtFirst}
use Rattle.spec_checkpoint.specs.Reading.{is_cut_short, kind_of, with_record, read_from, checkpoint_read}

-- ---- one record

read_end : (node : Node) (start : ℕ) (so_far : Checkpoint) → read_from node start so_far [] ≡ Ok so_far
unfolding read_from
read_end node start so_far = refl

read_cut : (node : Node) (start : ℕ) (so_far : Checkpoint) (row : List ℕ) (rest : List (List ℕ)) → is_cut_short so_far (kind_of row) ≡ true → read_from node start so_far (row ∷ rest) ≡ Err (start - 1)
unfolding read_from
read_cut node start so_far row rest short = rw short refl

read_none : (node : Node) (start : ℕ) (so_far : Checkpoint) (row : List ℕ) (rest : List (List ℕ)) → is_cut_short so_far (kind_of row) ≡ false → with_record node so_far row ≡ None
    → read_from node start so_far (row ∷ rest) ≡ Err start
unfolding read_from
read_none node start so_far row rest uncut none = rw (uncut, none) refl

read_next : (node : Node) (start : ℕ) (so_far next : Checkpoint) (row : List ℕ) (rest : List (List ℕ)) → is_cut_short so_far (kind_of row) ≡ false → with_record node so_far row ≡ Some next
    → read_from node start so_far (row ∷ rest) ≡ read_from node (start + 1) next rest
unfolding read_from
read_next node start so_far next row rest uncut some = rw (uncut, some) refl

-- what was read isn't at fault
not_both : {X : Type 0} (read : Result X ℕ) (x : X) (place : ℕ) → read ≡ Err place → read ≡ Ok x → ⊥
not_both read x place fails reads = absurd (cc)

same_place : {X : Type 0} (one other : ℕ) (read : Result X ℕ) → read ≡ Err one → read ≡ Err other → one ≡ other
same_place one other read is so = cc

-- the first elements of lists, one by one
first_one : {X : Type 0} (others rest : List X) (x : X) (count : ℕ) → take (suc count) others ≡ x ∷ take count rest → (left : List X) × (others ≡ x ∷ left) × (take count left ≡ take count rest)
first_one [] rest x count h = absurd (cc)
first_one (y ∷ left) rest x count h = (left, ap (λ z. z ∷ left) cc, cc)

-- where a record is read, none of the lists that begin with it and the others is
none_after : (node : Node) (start : ℕ) (so_far next : Checkpoint) (row : List ℕ) (rest : List (List ℕ)) (count : ℕ) → is_cut_short so_far (kind_of row) ≡ false
    → with_record node so_far row ≡ Some next
    → IsNoneRead (read_from node (start + 1) next) rest count → IsNoneRead (read_from node start so_far) (row ∷ rest) (count + 1)
none_after node start so_far next row rest count uncut some none = record {
  none = λ others checkpoint begin reads.
      let parts = first_one others rest row count (sym (ap (λ (n : ℕ). take n others) (add-one count)) ∙ begin ∙ ap (λ (n : ℕ). take n (row ∷ rest)) (add-one count)) in
      none.none parts.0 checkpoint parts.2 (sym (read_next node start so_far next row parts.0 uncut some) ∙ ap (read_from node start so_far) (sym parts.1) ∙ reads);
}

-- where a record is at fault, whatever comes after it
none_with : (read : Reader) (row : List ℕ) (rest : List (List ℕ)) → ((left : List (List ℕ)) (checkpoint : Checkpoint) → read (row ∷ left) ≡ Ok checkpoint → ⊥) → IsNoneRead read (row ∷ rest) 1
none_with read row rest fails = record {
  none = λ others checkpoint begin reads.
      let parts = first_one others rest row 0 begin in
      fails parts.0 checkpoint (ap read (sym parts.1) ∙ reads);
}

-- ---- the first record at fault

-- it is the one before these, which the first of these cuts short; or it is one of these
data Fails (node : Node) (start : ℕ) (so_far : Checkpoint) (records : List (List ℕ)) (place : ℕ) : Type 0 where
  at_once : (row : List ℕ) (rest : List (List ℕ)) → records ≡ row ∷ rest → is_cut_short so_far (kind_of row) ≡ true → place ≡ start - 1 → Fails node start so_far records place
  later : (index : ℕ) → place ≡ start + index → IsFirstUnread (read_from node start so_far) records index → Fails node start so_far records place

-- where the first record is read, that of the others is the one after
taken_later : (node : Node) (start : ℕ) (so_far next : Checkpoint) (row : List ℕ) (rest : List (List ℕ)) (count : ℕ) (checkpoint : Checkpoint) → is_cut_short so_far (kind_of row) ≡ false
    → with_record node so_far row ≡ Some next → read_from node (start + 1) next (take count rest) ≡ Ok checkpoint → read_from node start so_far (take (count + 1) (row ∷ rest)) ≡ Ok checkpoint
taken_later node start so_far next row rest count checkpoint uncut some reads =
    ap (λ (n : ℕ). read_from node start so_far (take n (row ∷ rest))) (add-one count) ∙ read_next node start so_far next row (take count rest) uncut some ∙ reads

cut_later : (node : Node) (start : ℕ) (so_far next : Checkpoint) (row : List ℕ) (rest : List (List ℕ)) (index : ℕ) → is_cut_short so_far (kind_of row) ≡ false → with_record node so_far row ≡ Some next
    → IsCutShortBy (read_from node (start + 1) next) rest index → IsCutShortBy (read_from node start so_far) (row ∷ rest) (index + 1)
cut_later node start so_far next row rest index uncut some cut = record {
  checkpoint = cut.checkpoint;
  within = omega (arith, cut.within);
  reads = taken_later node start so_far next row rest (index + 1) cut.checkpoint uncut some cut.reads;
  cut = ap (λ (n : ℕ). is_cut_short cut.checkpoint (kind_of (get_or (row ∷ rest) n []))) (add-one (index + 1)) ∙ cut.cut;
  none = let same : index + 2 + 1 ≡ index + 1 + 2 = omega arith in
      subst (IsNoneRead (read_from node start so_far) (row ∷ rest)) same (none_after node start so_far next row rest (index + 2) uncut some cut.none);
}

one_later : (node : Node) (start : ℕ) (so_far next : Checkpoint) (row : List ℕ) (rest : List (List ℕ)) (index : ℕ) → is_cut_short so_far (kind_of row) ≡ false → with_record node so_far row ≡ Some next
    → IsFirstUnread (read_from node (start + 1) next) rest index → IsFirstUnread (read_from node start so_far) (row ∷ rest) (index + 1)
one_later node start so_far next row rest index uncut some unread = record {
  within = omega (arith, unread.within);
  so_far = unread.so_far;
  before = taken_later node start so_far next row rest index unread.so_far uncut some unread.before;
  uncut = ap (λ (n : ℕ). is_cut_short unread.so_far (kind_of (get_or (row ∷ rest) n []))) (add-one index) ∙ unread.uncut;
  here = elim unread.here [
    | inl none ↦ inl (none_after node start so_far next row rest (index + 1) uncut some none)
    | inr cut ↦ inr (cut_later node start so_far next row rest index uncut some cut)
  ];
}

-- the first record is a piece that isn't full, and the second one more piece
cut_first : (node : Node) (start : ℕ) (so_far next : Checkpoint) (row second : List ℕ) (others : List (List ℕ)) → is_cut_short so_far (kind_of row) ≡ false → with_record node so_far row ≡ Some next
    → is_cut_short next (kind_of second) ≡ true → IsFirstUnread (read_from node start so_far) (row ∷ second ∷ others) 0
cut_first node start so_far next row second others uncut some cut = record {
  within = omega arith;
  so_far = so_far;
  before = read_end node start so_far;
  uncut = uncut;
  here = inr (record {
    checkpoint = next;
    within = omega arith;
    reads = read_next node start so_far next row [] uncut some ∙ read_end node (start + 1) next;
    cut = cut;
    none = none_after node start so_far next row (second ∷ others) 1 uncut some
        (none_with (read_from node (start + 1) next) second others
        (λ left checkpoint reads. not_both (read_from node (start + 1) next (second ∷ left)) checkpoint (start + 1 - 1) (read_cut node (start + 1) next second left cut) reads));
  });
}

after_one : (node : Node) (start : ℕ) (so_far next : Checkpoint) (row : List ℕ) (rest : List (List ℕ)) (place : ℕ) → is_cut_short so_far (kind_of row) ≡ false → with_record node so_far row ≡ Some next
    → Fails node (start + 1) next rest place → Fails node start so_far (row ∷ rest) place
after_one node start so_far next row rest place uncut some (at_once second others is cut at) =
    later 0 (omega (arith, at))
    (subst (λ (left : List (List ℕ)). IsFirstUnread (read_from node start so_far) (row ∷ left) 0) (sym is) (cut_first node start so_far next row second others uncut some cut))
after_one node start so_far next row rest place uncut some (later index at unread) =
    later (index + 1) (omega (arith, at)) (one_later node start so_far next row rest index uncut some unread)

-- the first record itself doesn't follow the format
unread_first : (node : Node) (start : ℕ) (so_far : Checkpoint) (row : List ℕ) (rest : List (List ℕ)) → is_cut_short so_far (kind_of row) ≡ false → with_record node so_far row ≡ None
    → IsFirstUnread (read_from node start so_far) (row ∷ rest) 0
unread_first node start so_far row rest uncut none = record {
  within = omega arith;
  so_far = so_far;
  before = read_end node start so_far;
  uncut = uncut;
  here = inl (none_with (read_from node start so_far) row rest
      (λ left checkpoint reads. not_both (read_from node start so_far (row ∷ left)) checkpoint start (read_none node start so_far row left uncut none) reads));
}

-- the first record, by what is made of it
by_first : (node : Node) (start : ℕ) (so_far : Checkpoint) (row : List ℕ) (rest : List (List ℕ)) (place : ℕ) (short : Bool) (read : Option Checkpoint)
    → is_cut_short so_far (kind_of row) ≡ short → with_record node so_far row ≡ read → read_from node start so_far (row ∷ rest) ≡ Err place
    → ((next : Checkpoint) → read_from node (start + 1) next rest ≡ Err place → Fails node (start + 1) next rest place) → Fails node start so_far (row ∷ rest) place
by_first node start so_far row rest place true read short is fails others =
    at_once row rest refl short (same_place place (start - 1) (read_from node start so_far (row ∷ rest)) fails (read_cut node start so_far row rest short))
by_first node start so_far row rest place false None short is fails others =
    let at = same_place place start (read_from node start so_far (row ∷ rest)) fails (read_none node start so_far row rest short is) in
    later 0 (omega (arith, at)) (unread_first node start so_far row rest short is)
by_first node start so_far row rest place false (Some next) short is fails others =
    after_one node start so_far next row rest place short is (others next (sym (read_next node start so_far next row rest short is) ∙ fails))

fails_at : (node : Node) (start : ℕ) (so_far : Checkpoint) (records : List (List ℕ)) (place : ℕ) → read_from node start so_far records ≡ Err place → Fails node start so_far records place
fails_at node start so_far [] place fails = absurd (not_both (read_from node start so_far []) so_far place fails (read_end node start so_far))
fails_at node start so_far (row ∷ rest) place fails =
    by_first node start so_far row rest place (is_cut_short so_far (kind_of row)) (with_record node so_far row) refl refl fails (λ next. fails_at node (start + 1) next rest place)

-- nothing is cut short where nothing was read
none_of : (last order coins : Bool) → (last && (if order then false else if coins then false else false)) ≡ false
none_of false order coins = refl
none_of true true coins = refl
none_of true false true = refl
none_of true false false = refl

not_short : (kind : ℕ) → is_cut_short blank kind ≡ false
not_short kind = none_of (0 == kind) (kind == 3) (kind == 8)

-- the place at which reading records fails is that of the first that doesn't follow the format
first_unread : (node : Node) (records : List (List ℕ)) (place : ℕ) → checkpoint_read node records ≡ Err place → IsFirstUnread (checkpoint_read node) records place
first_unread node records place fails = by (fails_at node 0 blank records place fails)
  where
    by : Fails node 0 blank records place → IsFirstUnread (read_from node 0 blank) records place
    by (at_once row rest is short at) = absurd (let uncut = not_short (kind_of row) in cc)
    by (later index at unread) = let same : index ≡ place = omega (arith, at) in subst (IsFirstUnread (read_from node 0 blank) records) same unread

-- ---- there is one such record at most, and none where records are read

not_read : (read : Reader) (records : List (List ℕ)) (place : ℕ) (checkpoint : Checkpoint) → IsFirstUnread read records place → read records ≡ Ok checkpoint → ⊥
not_read read records place checkpoint unread reads = elim unread.here [
  | inl none ↦ none.none records checkpoint refl reads
  | inr cut ↦ cut.none.none records checkpoint refl reads
]

-- what begins with more of the records begins with fewer of them
fewer : (records : List (List ℕ)) (few many : ℕ) → few ≤ many → take few (take many records) ≡ take few records
fewer records few many less = take-take few many records less

other_cut : (read : Reader) (records : List (List ℕ)) (place : ℕ) → IsCutShortBy read records place → IsFirstUnread read records (place + 1) → ⊥
other_cut read records place cut other =
    let same : cut.checkpoint ≡ other.so_far = cc (cut.reads, other.before) in
    false≢true (sym other.uncut ∙ ap (λ (c : Checkpoint). is_cut_short c (kind_of (get_or records (place + 1) []))) (sym same) ∙ cut.cut)

not_before : (read : Reader) (records : List (List ℕ)) (place other : ℕ) → place < other → IsFirstUnread read records place → IsFirstUnread read records other → ⊥
not_before read records place other less unread also = elim unread.here [
  | inl none ↦ none.none (take other records) also.so_far (fewer records (place + 1) other (omega (arith, less))) also.before
  | inr cut ↦ elim (cases_lt (place + 1) other) [
    | inl more ↦ cut.none.none (take other records) also.so_far (fewer records (place + 2) other (omega (arith, more))) also.before
    | inr next ↦
        let same : other ≡ place + 1 = omega (arith, less, next) in
        other_cut read records place cut (subst (IsFirstUnread read records) same also)
  ]
]

one_place : (read : Reader) (records : List (List ℕ)) (place other : ℕ) → IsFirstUnread read records place → IsFirstUnread read records other → place ≡ other
one_place read records place other unread also = elim (cases_lt place other) [
  | inl less ↦ absurd (not_before read records place other less unread also)
  | inr least ↦ elim (cases_lt other place) [
    | inl less ↦ absurd (not_before read records other place less also unread)
    | inr most ↦ omega (arith, least, most)
  ]
]

fails_or : (read : Result Checkpoint ℕ) → ((checkpoint : Checkpoint) → read ≡ Ok checkpoint → ⊥) → (place : ℕ) × (read ≡ Err place)
fails_or (Ok checkpoint) never = absurd (never checkpoint refl)
fails_or (Err place) never = (place, refl)

pub fails_at_first : FailsAtFirst
fails_at_first node records place = (first_unread node records place, back)
  where
    back : IsFirstUnread (checkpoint_read node) records place → checkpoint_read node records ≡ Err place
    back unread =
        let fails = fails_or (checkpoint_read node records) (λ checkpoint. not_read (checkpoint_read node) records place checkpoint unread) in
        fails.1 ∙ ap Err (one_place (checkpoint_read node) records fails.0 place (first_unread node records fails.0 fails.1) unread)
