-- What one record more makes of a checkpoint that is being made.
use Rattle.std.proofs.Common.{◌≡◌, ◌⊎◌, inl, inr, ℕ, ◌+◌, ◌-◌, ◌<◌, ◌≤◌, Bool, true, false, cond, List, [], ◌∷◌, ◌++◌, length, map, take, drop, get_or, Vec, refl, sym, ap, ◌∙◌, subst, arith, append_assoc, length-append}
use Rattle.std.specs.Prelude.{◌&&◌, nat_lt, nat_le}
use Rattle.std.specs.Prelude.{IsSome}
use Rattle.std.specs.Int.{w32, w64, to_be_bytes}
use Rattle.std.specs.List.{All}
use Rattle.std.proofs.lemmas.Bool.{and_parts, ltb-true, cond-true, cond-false}
use Rattle.std.proofs.lemmas.Grind.{flat_map-append}
use Rattle.std.proofs.lemmas.List.{append-nil, take_at, drop_at, map-append, take-map, get_or-map, length-map}
use Rattle.std.proofs.lemmas.List.Elements.{All-nil, All-cons, All-append, All-more, All-get_or}
use Rattle.std.proofs.lemmas.List.Sums.{sum_by-append, sum_by_more_le}
use Rattle.std.proofs.lemmas.List.Concat.{length-flat_map}
use Rattle.std.specs.Borrow.{Bor}
use Rattle.std.specs.declared.alloc.Global.{Global}
use Rattle.journal.specs.Areas.{head_record}
use Rattle.journal.specs.Configuration.{shaped_version}
use Rattle.journal.specs.Drafts.{before_group, EndsIn, IsBare, IsLast, IsDraft, IsDraftOf, whole}
use Rattle.journal.specs.Format.{contents, body_len, body_bytes, record_bytes, sized_body, group_bytes, file_with, file_bytes, in_turn, as_written, with_gate}
use Rattle.journal.specs.Snapshot.{has_room, packed_after, packed, bytes_for, FitsAlone, CanPack, BeginsShaped, head_place, records_in, IsSnapshot}
use Rattle.journal.proofs.Bytes.{length-body}
use Rattle.journal.proofs.Packing.{records_back}

-- ---- the groups

-- a group, and what a record more makes of it
abbrev pub with_record : List (List ℕ) → List ℕ → List (List (List ℕ))
with_record group next = cond (has_room group next) ((group ++ next ∷ []) ∷ []) (group ∷ (next ∷ []) ∷ [])

-- the groups but for the last, the last, and how they go on
record Goes (group rest : List (List ℕ)) : Type 0 where
  front : List (List (List ℕ))
  last : List (List ℕ)
  now : packed_after group rest ≡ front ++ last ∷ []
  more : (next : List ℕ) → packed_after group (rest ++ next ∷ []) ≡ front ++ with_record last next

goes_by : (group rest : List (List ℕ)) (first : List ℕ) (room : Bool) → has_room group first ≡ room → Goes (group ++ first ∷ []) rest → Goes (first ∷ []) rest → Goes group (first ∷ rest)
unfolding packed_after
goes_by group rest first true is joined begun = record {
  front = joined.front;
  last = joined.last;
  now = cond-true (has_room group first) (packed_after (group ++ first ∷ []) rest) (group ∷ packed_after (first ∷ []) rest) is ∙ joined.now;
  more = λ next. cond-true (has_room group first) (packed_after (group ++ first ∷ []) (rest ++ next ∷ [])) (group ∷ packed_after (first ∷ []) (rest ++ next ∷ [])) is ∙ joined.more next;
}
goes_by group rest first false is joined begun = record {
  front = group ∷ begun.front;
  last = begun.last;
  now = cond-false (has_room group first) (packed_after (group ++ first ∷ []) rest) (group ∷ packed_after (first ∷ []) rest) is ∙ ap (λ (l : List (List (List ℕ))). group ∷ l) begun.now;
  more = λ next. cond-false (has_room group first) (packed_after (group ++ first ∷ []) (rest ++ next ∷ [])) (group ∷ packed_after (first ∷ []) (rest ++ next ∷ [])) is
      ∙ ap (λ (l : List (List (List ℕ))). group ∷ l) (begun.more next);
}

goes : (group rest : List (List ℕ)) → Goes group rest
unfolding packed_after
goes group [] = record { front = []; last = group; now = refl; more = λ next. refl }
goes group (first ∷ rest) = goes_by group rest first (has_room group first) refl (goes (group ++ first ∷ []) rest) (goes (first ∷ []) rest)

-- a list has one front and one last element
one_front : {A : Type 0} (xs ys : List A) (x y : A) → xs ++ x ∷ [] ≡ ys ++ y ∷ [] → xs ≡ ys
one_front xs ys x y same =
    let long : length xs ≡ length ys = omega (arith, ap length same, length-append xs (x ∷ []), length-append ys (y ∷ [])) in
    sym (take_at xs (x ∷ []) (length xs) refl) ∙ ap (take (length xs)) same ∙ take_at ys (y ∷ []) (length xs) (sym long)

one_last : {A : Type 0} (xs ys : List A) (x y : A) → xs ++ x ∷ [] ≡ ys ++ y ∷ [] → x ≡ y
one_last xs ys x y same =
    let long : length xs ≡ length ys = omega (arith, ap length same, length-append xs (x ∷ []), length-append ys (y ∷ [])) in
    let tails : x ∷ [] ≡ y ∷ [] = sym (drop_at xs (x ∷ []) (length xs) refl) ∙ ap (drop (length xs)) same ∙ drop_at ys (y ∷ []) (length xs) (sym long) in
    cc

pub packed_more : (state : List (List ℕ)) (front : List (List (List ℕ))) (last : List (List ℕ)) (next : List ℕ) → packed state ≡ front ++ last ∷ []
    → packed (state ++ next ∷ []) ≡ front ++ with_record last next
unfolding packed
packed_more [] front last next is = absurd (omega (arith, ap length is, length-append front (last ∷ [])))
packed_more (first ∷ rest) front last next is =
    let found = goes (first ∷ []) rest in
    let same = sym found.now ∙ is in
    found.more next ∙ (λ i. one_front found.front front found.last last same i ++ with_record (one_last found.front front found.last last same i) next)

pub packed_first : (next : List ℕ) → packed (next ∷ []) ≡ (next ∷ []) ∷ []
unfolding packed packed_after
packed_first next = refl

-- ---- their bytes

written_more : (groups : List (List (List ℕ))) (group : List (List ℕ)) → in_turn (map as_written (groups ++ group ∷ [])) ≡ in_turn (map as_written groups) ++ 1 ∷ sized_body group
written_more groups group =
    ap in_turn (map-append as_written groups (group ∷ []))
    ∙ flat_map-append with_gate (map as_written groups) (as_written group ∷ [])
    ∙ ap (λ (l : List ℕ). in_turn (map as_written groups) ++ l) (append-nil (1 ∷ sized_body group))

-- the last group stands at the end
ends_with : (configuration : List ℕ) (state : List (List ℕ)) (front : List (List (List ℕ))) (last : List (List ℕ)) → packed state ≡ front ++ last ∷ []
    → bytes_for 0 (configuration ∷ state) ≡ before_group configuration front ++ (sized_body last ++ 0 ∷ [])
ends_with configuration state front last is =
    let S = sized_body (configuration ∷ head_record 0 ∷ []) in
    let F = in_turn (map as_written front) in
    ap (λ (groups : List (List (List ℕ))). S ++ (in_turn (map as_written groups) ++ 0 ∷ [])) is
    ∙ ap (λ (l : List ℕ). S ++ (l ++ 0 ∷ [])) (written_more front last)
    ∙ ap (λ (l : List ℕ). S ++ l) (append_assoc F (1 ∷ sized_body last) (0 ∷ []) ∙ sym (append_assoc F (1 ∷ []) (sized_body last ++ 0 ∷ [])))
    ∙ sym (append_assoc S (F ++ 1 ∷ []) (sized_body last ++ 0 ∷ []))

-- the bytes of a group with a record more
record_more : (group : List (List ℕ)) (next : List ℕ) → body_bytes (group ++ next ∷ []) ≡ body_bytes group ++ record_bytes next
record_more group next = flat_map-append record_bytes group (next ∷ []) ∙ ap (λ (l : List ℕ). body_bytes group ++ l) (append-nil (record_bytes next))

len_with : (group : List (List ℕ)) (next : List ℕ) → body_len (group ++ next ∷ []) ≡ body_len group + (4 + length next)
len_with group next = sum_by-append (λ (bytes : List ℕ). 4 + length bytes) group (next ∷ []) ∙ omega arith

-- bytes with a record more after those of the group that has so many, whose length stands at this place
abbrev pub joined : List ℕ → ℕ → ℕ → List ℕ → List ℕ
joined old start body next =
    take start old ++ (to_be_bytes w32 (body + (4 + length next)) ++ (drop (start + 4) (take (length old - 1) old) ++ (record_bytes next ++ 0 ∷ [])))

module _ (configuration : List ℕ) (state : List (List ℕ)) (old : List ℕ) (old_is : old ≡ bytes_for 0 (configuration ∷ state)) (next : List ℕ) where
  module _ (front : List (List (List ℕ))) (last : List (List ℕ)) (is : packed state ≡ front ++ last ∷ []) (start : ℕ) (at : start ≡ length (before_group configuration front)) where
    in_parts : old ≡ before_group configuration front ++ (to_be_bytes w32 (body_len last) ++ (body_bytes last ++ 0 ∷ []))
    in_parts =
        old_is ∙ ends_with configuration state front last is
        ∙ ap (λ (l : List ℕ). before_group configuration front ++ l) (append_assoc (to_be_bytes w32 (body_len last)) (body_bytes last) (0 ∷ []))

    pub size : length old ≡ start + 4 + body_len last + 1
    size =
        let B = before_group configuration front in
        let N = to_be_bytes w32 (body_len last) in
        omega (arith, ap length in_parts, length-append B (N ++ (body_bytes last ++ 0 ∷ [])), length-append (body_bytes last) (0 ∷ []), length-body last)

    before_end : take (length old - 1) old ≡ (before_group configuration front ++ to_be_bytes w32 (body_len last)) ++ body_bytes last
    before_end =
        let B = before_group configuration front in
        let N = to_be_bytes w32 (body_len last) in
        let whole : old ≡ ((B ++ N) ++ body_bytes last) ++ 0 ∷ [] =
        in_parts ∙ sym (append_assoc B N (body_bytes last ++ 0 ∷ [])) ∙ sym (append_assoc (B ++ N) (body_bytes last) (0 ∷ [])) in
        ap (take (length old - 1)) whole
        ∙ take_at ((B ++ N) ++ body_bytes last) (0 ∷ []) (length old - 1) (omega (arith, ap length whole, length-append ((B ++ N) ++ body_bytes last) (0 ∷ [])))

    pub joins_last : has_room last next ≡ true → (body : ℕ) → body ≡ body_len last → joined old start body next ≡ bytes_for 0 (configuration ∷ (state ++ next ∷ []))
    joins_last room body body_is =
        let B = before_group configuration front in
        let N = to_be_bytes w32 (body_len last) in
        let grown : packed (state ++ next ∷ []) ≡ front ++ (last ++ next ∷ []) ∷ [] =
        packed_more state front last next is ∙ ap (λ (l : List (List (List ℕ))). front ++ l) (cond-true (has_room last next) ((last ++ next ∷ []) ∷ []) (last ∷ (next ∷ []) ∷ []) room) in
        let first : take start old ≡ B =
        ap (take start) in_parts ∙ take_at B (N ++ (body_bytes last ++ 0 ∷ [])) start (sym at) in
        let second : drop (start + 4) (take (length old - 1) old) ≡ body_bytes last =
        ap (drop (start + 4)) before_end ∙ drop_at (B ++ N) (body_bytes last) (start + 4) (omega (arith, at, length-append B N)) in
        let number : body + (4 + length next) ≡ body_len (last ++ next ∷ []) = omega (arith, body_is, len_with last next) in
        let group : to_be_bytes w32 (body + (4 + length next)) ++ (body_bytes last ++ (record_bytes next ++ 0 ∷ [])) ≡ sized_body (last ++ next ∷ []) ++ 0 ∷ [] =
        (λ i. to_be_bytes w32 (number i) ++ sym (append_assoc (body_bytes last) (record_bytes next) (0 ∷ [])) i)
        ∙ ap (λ (l : List ℕ). to_be_bytes w32 (body_len (last ++ next ∷ [])) ++ (l ++ 0 ∷ [])) (sym (record_more last next))
        ∙ sym (append_assoc (to_be_bytes w32 (body_len (last ++ next ∷ []))) (body_bytes (last ++ next ∷ [])) (0 ∷ [])) in
        (λ i. first i ++ (to_be_bytes w32 (body + (4 + length next)) ++ (second i ++ (record_bytes next ++ 0 ∷ []))))
        ∙ ap (λ (l : List ℕ). B ++ l) group
        ∙ sym (ends_with configuration (state ++ next ∷ []) front (last ++ next ∷ []) grown)

  -- a record that begins a group
  whole_groups : (groups : List (List (List ℕ))) → sized_body (configuration ∷ head_record 0 ∷ []) ++ file_bytes groups
      ≡ (sized_body (configuration ∷ head_record 0 ∷ []) ++ in_turn (map as_written groups)) ++ 0 ∷ []
  whole_groups groups = sym (append_assoc (sized_body (configuration ∷ head_record 0 ∷ [])) (in_turn (map as_written groups)) (0 ∷ []))

  pub begins_group : packed (state ++ next ∷ []) ≡ packed state ++ (next ∷ []) ∷ [] → file_with old (next ∷ []) ≡ bytes_for 0 (configuration ∷ (state ++ next ∷ []))
  begins_group grown =
      let S = sized_body (configuration ∷ head_record 0 ∷ []) in
      let F = in_turn (map as_written (packed state)) in
      let whole : old ≡ (S ++ F) ++ 0 ∷ [] = old_is ∙ whole_groups (packed state) in
      let first : take (length old - 1) old ≡ S ++ F =
      ap (take (length old - 1)) whole ∙ take_at (S ++ F) (0 ∷ []) (length old - 1) (omega (arith, ap length whole, length-append (S ++ F) (0 ∷ []))) in
      ap (λ (l : List ℕ). l ++ 1 ∷ group_bytes (next ∷ [])) first
      ∙ append_assoc S F (1 ∷ group_bytes (next ∷ []))
      ∙ ap (λ (l : List ℕ). S ++ l) (sym (append_assoc F (1 ∷ sized_body (next ∷ [])) (0 ∷ [])))
      ∙ ap (λ (l : List ℕ). S ++ (l ++ 0 ∷ [])) (sym (written_more (packed state) (next ∷ [])))
      ∙ ap (λ (groups : List (List (List ℕ))). S ++ file_bytes groups) (sym grown)

  pub begins_at : length old ≡ length (before_group configuration (packed state))
  begins_at =
      let S = sized_body (configuration ∷ head_record 0 ∷ []) in
      let F = in_turn (map as_written (packed state)) in
      omega (arith, ap length old_is, length-append S (F ++ 0 ∷ []), length-append S (F ++ 1 ∷ []), length-append F (0 ∷ []), length-append F (1 ∷ []))

-- ---- a record more

-- what a draft is after a record more
pub record Grown (old new : List ℕ) (start count : ℕ) (next : List ℕ) : Type 0 where
  pub draft : IsDraft new start count
  pub records : records_in new ≡ records_in old ++ next ∷ []

module _ (old : List ℕ) (start count : ℕ) where
  pub read_back : (draft : IsDraft old start count) → records_in old ≡ draft.records
  read_back draft = ap records_in draft.written ∙ records_back 0 draft.records draft.packable

  -- with these records
  grown_to : (new : List ℕ) (begun many : ℕ) (next configuration : List ℕ) (state : List (List ℕ)) → old ≡ bytes_for 0 (configuration ∷ state) → CanPack (configuration ∷ state)
      → FitsAlone next → new ≡ bytes_for 0 (configuration ∷ (state ++ next ∷ [])) → EndsIn configuration (state ++ next ∷ []) begun many → Grown old new begun many next
  grown_to new begun many next configuration state was can alone now ends =
      let can_more : CanPack (configuration ∷ (state ++ next ∷ [])) = (can.0, All-append FitsAlone state (next ∷ []) can.1 (All-cons FitsAlone next [] alone (All-nil FitsAlone))) in
      record {
        draft = record { records = configuration ∷ (state ++ next ∷ []); written = now; packable = can_more; last = inr ends };
        records = ap records_in now ∙ records_back 0 (configuration ∷ (state ++ next ∷ [])) can_more
            ∙ ap (λ (l : List (List ℕ)). l ++ next ∷ []) (sym (ap records_in was ∙ records_back 0 (configuration ∷ state) can));
      }

  module _ (new : List ℕ) (next : List ℕ) (alone : FitsAlone next) (body : ℕ) (body_is : body ≡ length old - 1 - 4 - start) where
    joined_by : (records : List (List ℕ)) → old ≡ bytes_for 0 records → CanPack records → IsLast records start count
        → (nat_lt count 1024 && nat_le (body + (4 + length next)) 4194304) ≡ true → new ≡ joined old start body next → Grown old new start (count + 1) next
    joined_by [] was can last room now = absurd can
    joined_by (configuration ∷ state) was can (inl bare) room now =
        absurd (omega (arith, bare.full, ltb-true count 1024 (and_parts (nat_lt count 1024) (nat_le (body + (4 + length next)) 4194304) room).0))
    joined_by (configuration ∷ state) was can (inr ends) room now =
        let len_is : body ≡ body_len ends.last = omega (arith, body_is, size configuration state old was next ends.front ends.last ends.groups start ends.at) in
        let has : has_room ends.last next ≡ true = (λ i. nat_lt (sym ends.counts i) 1024 && nat_le (sym len_is i + (4 + length next)) 4194304) ∙ room in
        grown_to new start (count + 1) next configuration state was can alone
        (now ∙ joins_last configuration state old was next ends.front ends.last ends.groups start ends.at has body len_is)
        (record {
          front = ends.front;
          last = ends.last ++ next ∷ [];
          groups = packed_more state ends.front ends.last next ends.groups
              ∙ ap (λ (l : List (List (List ℕ))). ends.front ++ l) (cond-true (has_room ends.last next) ((ends.last ++ next ∷ []) ∷ []) (ends.last ∷ (next ∷ []) ∷ []) has);
          counts = omega (arith, ends.counts, length-append ends.last (next ∷ []));
          at = ends.at;
        })

    pub put_joined : IsDraft old start count → (nat_lt count 1024 && nat_le (body + (4 + length next)) 4194304) ≡ true → new ≡ joined old start body next → Grown old new start (count + 1) next
    put_joined draft room now = joined_by draft.records draft.written draft.packable draft.last room now

    grows : (configuration : List ℕ) (state : List (List ℕ)) → old ≡ bytes_for 0 (configuration ∷ state) → IsBare state start count ⊎ EndsIn configuration state start count
        → (nat_lt count 1024 && nat_le (body + (4 + length next)) 4194304) ≡ false → packed (state ++ next ∷ []) ≡ packed state ++ (next ∷ []) ∷ []
    unfolding packed
    grows configuration state was (inl bare) full =
        ap (λ (l : List (List ℕ)). packed (l ++ next ∷ [])) bare.none ∙ packed_first next ∙ ap (λ (l : List (List ℕ)). packed l ++ (next ∷ []) ∷ []) (sym bare.none)
    grows configuration state was (inr ends) full =
        let len_is : body ≡ body_len ends.last = omega (arith, body_is, size configuration state old was next ends.front ends.last ends.groups start ends.at) in
        let full_now : has_room ends.last next ≡ false = (λ i. nat_lt (sym ends.counts i) 1024 && nat_le (sym len_is i + (4 + length next)) 4194304) ∙ full in
        packed_more state ends.front ends.last next ends.groups
        ∙ ap (λ (l : List (List (List ℕ))). ends.front ++ l) (cond-false (has_room ends.last next) ((ends.last ++ next ∷ []) ∷ []) (ends.last ∷ (next ∷ []) ∷ []) full_now)
        ∙ sym (append_assoc ends.front (ends.last ∷ []) ((next ∷ []) ∷ []))
        ∙ ap (λ (l : List (List (List ℕ))). l ++ (next ∷ []) ∷ []) (sym ends.groups)

    begun_by : (records : List (List ℕ)) → old ≡ bytes_for 0 records → CanPack records → IsLast records start count
        → (nat_lt count 1024 && nat_le (body + (4 + length next)) 4194304) ≡ false → new ≡ file_with old (next ∷ []) → Grown old new (length old) 1 next
    begun_by [] was can last full now = absurd can
    begun_by (configuration ∷ state) was can last full now =
        let grown = grows configuration state was last full in
        grown_to new (length old) 1 next configuration state was can alone
        (now ∙ begins_group configuration state old was next grown)
        (record { front = packed state; last = next ∷ []; groups = grown; counts = refl; at = begins_at configuration state old was next })

    pub put_begun : IsDraft old start count → (nat_lt count 1024 && nat_le (body + (4 + length next)) 4194304) ≡ false → new ≡ file_with old (next ∷ []) → Grown old new (length old) 1 next
    put_begun draft full now = begun_by draft.records draft.written draft.packable draft.last full now

-- the parts so far and the next one are no longer than all of them
pub part_more : (parts : List (Bor (List ℕ))) (i : ℕ) (other : Bor (List ℕ)) → i < length parts → length (whole (take i parts)) + length (get_or parts i other).now ≤ length (whole parts)
part_more parts i other inside =
    omega (
      arith,
      length-flat_map (λ (part : Bor (List ℕ)). part.now) (take i parts),
      length-flat_map (λ (part : Bor (List ℕ)). part.now) parts,
      sum_by_more_le (λ (part : Bor (List ℕ)). length part.now) parts i other inside,
    )

-- ---- a draft

-- the bytes of a configuration and a head, one length after the other
pub first_bytes : (configuration : List ℕ) (len : ℕ) → len ≡ body_len (configuration ∷ head_record 0 ∷ [])
    → ((((to_be_bytes w32 len ++ to_be_bytes w32 (length configuration)) ++ configuration) ++ to_be_bytes w32 9) ++ 2 ∷ to_be_bytes w64 0) ++ 0 ∷ [] ≡ bytes_for 0 (configuration ∷ [])
unfolding packed
first_bytes configuration len is =
    (λ i. ((((to_be_bytes w32 (is i) ++ to_be_bytes w32 (length configuration)) ++ configuration) ++ to_be_bytes w32 9) ++ 2 ∷ to_be_bytes w64 0) ++ 0 ∷ [])
    ∙ ap (λ (l : List ℕ). to_be_bytes w32 (body_len (configuration ∷ head_record 0 ∷ [])) ++ (to_be_bytes w32 (length configuration) ++ (l ++ 0 ∷ [])))
    (append_assoc configuration (to_be_bytes w32 9) (2 ∷ to_be_bytes w64 0))

pub fresh : (bytes configuration : List ℕ) → bytes ≡ bytes_for 0 (configuration ∷ []) → CanPack (configuration ∷ []) → IsSome (shaped_version configuration)
    → IsDraftOf bytes (13 + length configuration) 1 0 1024
fresh bytes configuration written can shaped = record {
  draft = record { records = configuration ∷ []; written = written; packable = can; last = inl (record { none = refl; at = refl; full = refl }) };
  shaped = shaped;
  at = refl;
  counts = refl;
  few = omega (arith, ap length written);
}

shaped_with : (records : List (List ℕ)) (next : List ℕ) → CanPack records → BeginsShaped records → BeginsShaped (records ++ next ∷ [])
shaped_with [] next can shaped = absurd can
shaped_with (configuration ∷ state) next can shaped = shaped

place_with : (records : List (List ℕ)) (next : List ℕ) → CanPack records → head_place (records ++ next ∷ []) ≡ head_place records
place_with [] next can = absurd can
place_with (configuration ∷ state) next can = refl

pub pushed : (old new : List ℕ) (place records_count start count begun many : ℕ) (next : List ℕ) → IsDraftOf old place records_count start count → IsDraft new begun many
    → records_in new ≡ records_in old ++ next ∷ [] → length old < length new → IsDraftOf new place (records_count + 1) begun many
pushed old new place records_count start count begun many next was draft grown longer =
    let records = was.draft.records in
    let are : records ++ next ∷ [] ≡ draft.records =
    ap (λ (l : List (List ℕ)). l ++ next ∷ []) (sym (read_back old start count was.draft)) ∙ sym grown ∙ read_back new begun many draft in
    record {
      draft = draft;
      shaped = subst BeginsShaped are (shaped_with records next was.draft.packable was.shaped);
      at = was.at ∙ sym (place_with records next was.draft.packable) ∙ ap head_place are;
      counts = omega (arith, was.counts, length-append records (next ∷ []), ap length are);
      few = omega (arith, was.few, longer);
    }

pub as_snapshot : (bytes : List ℕ) (place records_count start count : ℕ) → IsDraftOf bytes place records_count start count → IsSnapshot bytes place records_count
as_snapshot bytes place records_count start count was =
    let are : was.draft.records ≡ records_in bytes = sym (read_back bytes start count was.draft) in
    record {
      generation = 0;
      written = was.draft.written ∙ ap (bytes_for 0) are;
      packable = subst CanPack are was.draft.packable;
      shaped = subst BeginsShaped are was.shaped;
      at = was.at ∙ ap head_place are;
      counts = was.counts ∙ ap length are;
    }

-- ---- the records that are given

pub fits_alone : (bytes : List ℕ) → 4 + length bytes ≤ 4194304 → FitsAlone bytes
fits_alone bytes short = record { some = omega arith; not_many = omega arith; not_long = omega arith }

item_is : (records : List (Vec ℕ Global)) (i : ℕ) (one : Vec ℕ Global) → i < length records → one ≡ get_or records i one → get_or (contents records) i [] ≡ one.items
item_is records i one inside is =
    get_or-map (λ (v : Vec ℕ Global). v.items) records i one [] inside ∙ ap (λ (v : Vec ℕ Global). v.items) (sym is)

pub alone_at : (records : List (Vec ℕ Global)) (i : ℕ) (one : Vec ℕ Global) → i < length records → one ≡ get_or records i one → All FitsAlone (contents records) → FitsAlone one.items
alone_at records i one inside is all =
    subst FitsAlone (item_is records i one inside is)
    (All-get_or FitsAlone (contents records) i [] (omega (arith, length-map records (λ (v : Vec ℕ Global). v.items))) all)

pub alone_more : (records : List (Vec ℕ Global)) (i : ℕ) (one : Vec ℕ Global) → i < length records → one ≡ get_or records i one → All FitsAlone (contents (take i records)) → FitsAlone one.items
    → All FitsAlone (contents (take (i + 1) records))
alone_more records i one inside is all alone =
    let items : Vec ℕ Global → List ℕ = λ v. v.items in
    subst (All FitsAlone) (take-map items (i + 1) records)
    (All-more FitsAlone (contents records) i [] (omega (arith, length-map records items))
    (subst (All FitsAlone) (sym (take-map items i records)) all) (subst FitsAlone (sym (item_is records i one inside is)) alone))
