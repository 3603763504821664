-- What a window has of its file.
use Rattle.std.proofs.Common.{◌≡◌, ◌≢◌, inl, inr, ℕ, suc, ◌+◌, ◌-◌, ◌<◌, ◌≤◌, min, List, [], ◌++◌, length, drop, take, get_or, Option, Some, None, refl, sym, ◌∙◌, ap, arith, length-append, length-drop, length-take, Result, Ok, Err}
use Rattle.std.proofs.lemmas.List.{append-nil, take_at, take-append-drop, take_all, take-take, drop-drop, drop-take, drop_all, drop_more, length-take-le}
use borrow.Rule.Slice.PartMut.{post_of, put_mid}
use Rattle.std.proofs.lemmas.Bool.{cases_lt}
use Rattle.journal.specs.declared.record.Record.{Record}
use Rattle.journal.specs.Format.{body_at, group_of, kept, with_front}
use Rattle.journal.specs.Window.{IsWindow, HasNext, left_from}
use Rattle.journal.specs.declared.window.Window.{Window}
use Rattle.journal.proofs.Loops.{file_closed, file_no_body, file_no_group, file_inside, file_more}
use Rattle.journal.proofs.Walks.{with_front-nil, body_stands, body_same}

-- a body that stands in a part of the bytes stands in all of them
pub body_of_part : (n : ℕ) (bytes body : List ℕ) → body_at (take n bytes) ≡ Some body → body_at bytes ≡ Some body
body_of_part n bytes body is = elim (cases_lt n (length bytes)) [
  | inl less ↦
      let long = length-take-le n bytes (omega arith) in
      ap body_at (sym (take-append-drop n bytes))
      ∙ body_same (take n bytes) [] (drop n bytes) body (ap body_at (append-nil (take n bytes)) ∙ is)
      (omega (arith, (body_stands (take n bytes) body is).inside)) (omega (arith, length-drop n bytes))
  | inr all ↦ ap body_at (sym (take_all n bytes all)) ∙ is
]

-- a body that stands in the bytes stands in a part that has room for any body and the gate after it
pub body_in_part : (n : ℕ) (bytes body : List ℕ) → (n < length bytes → 4194309 ≤ n) → body_at bytes ≡ Some body → body_at (take n bytes) ≡ Some body
body_in_part n bytes body room is = elim (cases_lt n (length bytes)) [
  | inl less ↦
      let at = body_stands bytes body is in
      let k = n - 1 in
      let enough : 4194309 ≤ n = room less in
      let one_more : k + 1 ≡ n = omega arith in
      let front : take k (take n bytes) ≡ take k bytes = take-take k n bytes (omega arith) in
      let split : take n bytes ≡ take k bytes ++ drop k (take n bytes) = sym (take-append-drop k (take n bytes)) ∙ ap (λ (l : List ℕ). l ++ drop k (take n bytes)) front in
      let long = length-take-le k bytes (omega arith) in
      let whole = length-take-le n bytes (omega arith) in
      ap body_at split
      ∙ body_same (take k bytes) (drop k bytes) (drop k (take n bytes)) body (ap body_at (take-append-drop k bytes) ∙ is)
      (omega (arith, at.not_long, at.long)) (omega (arith, length-drop k (take n bytes)))
  | inr all ↦ ap body_at (take_all n bytes all) ∙ is
]

same_body : (part whole : List ℕ) → ((body : List ℕ) → body_at part ≡ Some body → body_at whole ≡ Some body) → ((body : List ℕ) → body_at whole ≡ Some body → body_at part ≡ Some body)
    → (found other : Option (List ℕ)) → body_at part ≡ found → body_at whole ≡ other → body_at part ≡ body_at whole
same_body part whole on back None None is also = is ∙ sym also
same_body part whole on back (Some body) other is also = is ∙ sym (on body is)
same_body part whole on back None (Some body) is also = back body also ∙ sym also

module _ (file : List ℕ) (w : Window) (is : IsWindow file w) where
  long : length (drop w.read w.bytes.items) ≡ length w.bytes.items - w.read
  long = length-drop w.read w.bytes.items

  -- it has no more than the file
  pub no_more : length w.bytes.items - w.read ≤ length file - w.gate
  no_more = omega (arith, long, ap length is.same, length-take (length w.bytes.items - w.read) (drop w.gate file), length-drop w.gate file)

  -- what stands after the next gate
  pub after_gate : w.read < length w.bytes.items → drop (w.read + 1) w.bytes.items ≡ take (length w.bytes.items - (w.read + 1)) (drop (w.gate + 1) file)
  after_gate some =
      let less : length w.bytes.items - w.read ≡ 1 + (length w.bytes.items - (w.read + 1)) = omega arith in
      sym (drop-drop 1 w.read w.bytes.items) ∙ ap (drop 1) (is.same ∙ ap (λ (n : ℕ). take n (drop w.gate file)) less)
      ∙ drop-take 1 (length w.bytes.items - (w.read + 1)) (drop w.gate file)
      ∙ ap (take (length w.bytes.items - (w.read + 1))) (drop-drop 1 w.gate file)

  -- the next gate
  pub gate_is : w.read < length w.bytes.items → get_or w.bytes.items w.read 0 ≡ get_or file w.gate 0
  gate_is some =
      let less : length w.bytes.items - w.read ≡ suc (length w.bytes.items - (w.read + 1)) = omega arith in
      ap (λ (l : List ℕ). get_or l 0 0) (sym (drop_more w.bytes.items w.read 0 some) ∙ is.same ∙ (λ i. take (less i) (drop_more file w.gate 0 is.inside i)))

  -- a body that it has is the file's
  pub has_body : (body : List ℕ) → w.read < length w.bytes.items → body_at (drop (w.read + 1) w.bytes.items) ≡ Some body → HasNext file w
  has_body body some found = record {
    some = some;
    body = found ∙ sym (body_of_part (length w.bytes.items - (w.read + 1)) (drop (w.gate + 1) file) body (ap body_at (sym (after_gate some)) ∙ found));
  }

  -- it has as much of the file as a group takes, or all that is left
  pub has_room : (length w.bytes.items - w.read < length file - w.gate → 4194310 ≤ length w.bytes.items - w.read) → w.read < length w.bytes.items → HasNext file w
  has_room room some =
      let n = length w.bytes.items - (w.read + 1) in
      let whole = drop (w.gate + 1) file in
      let enough : n < length whole → 4194309 ≤ n = λ less. omega (arith, room (omega (arith, length-drop (w.gate + 1) file, less))) in
      let part = after_gate some in
      record {
        some = some;
        body = ap body_at part ∙ same_body (take n whole) whole (body_of_part n whole) (λ body at. body_in_part n whole body enough at) (body_at (take n whole)) (body_at whole) refl refl;
      }

  -- the next group was read
  pub moved : (body : List ℕ) → w.read < length w.bytes.items → body_at (drop (w.read + 1) w.bytes.items) ≡ Some body → w.gate + (5 + length body) < length file
      → IsWindow file (record w { read = w.read + (5 + length body); gate = w.gate + (5 + length body) })
  moved body some found inside =
      let size = 5 + length body in
      let fits : w.read + size ≤ length w.bytes.items = omega (arith, (body_stands _ body found).inside, length-drop (w.read + 1) w.bytes.items) in
      let less : length w.bytes.items - w.read ≡ size + (length w.bytes.items - (w.read + size)) = omega arith in
      record {
        len = is.len;
        inside = inside;
        fits = is.fits;
        within = fits;
        same = sym (drop-drop size w.read w.bytes.items) ∙ ap (drop size) (is.same ∙ ap (λ (n : ℕ). take n (drop w.gate file)) less)
            ∙ drop-take size (length w.bytes.items - (w.read + size)) (drop w.gate file)
            ∙ ap (take (length w.bytes.items - (w.read + size))) (drop-drop size w.gate file);
        room = omega (arith, is.room);
      }

-- what is read at the next gate
module _ (base : ℕ) (file : List ℕ) (w : Window) (is : IsWindow file w) (has : HasNext file w) where
  abbrev pub whole : Result (List Record × ℕ) ℕ
  whole = left_from base w.gate file

  open_gate : get_or w.bytes.items w.read 0 ≢ 0 → get_or file w.gate 0 ≢ 0
  open_gate is_open shut = is_open (gate_is file w is has.some ∙ shut)

  pub next_closed : get_or w.bytes.items w.read 0 ≡ 0 → whole ≡ Ok ([], base + w.gate)
  next_closed shut = file_closed base file w.gate is.inside [] whole (with_front-nil whole) (sym (gate_is file w is has.some) ∙ shut)

  pub next_no_body : get_or w.bytes.items w.read 0 ≢ 0 → None ≡ body_at (drop (w.read + 1) w.bytes.items) → whole ≡ Err (base + w.gate)
  next_no_body is_open none = file_no_body base file w.gate is.inside [] whole (with_front-nil whole) (open_gate is_open) (none ∙ has.body)

  module _ (body : List ℕ) (found : Some body ≡ body_at (drop (w.read + 1) w.bytes.items)) where
    pub next_inside : w.gate + (5 + length body) < length file
    next_inside = file_inside base file w.gate is.inside [] whole (with_front-nil whole) body (found ∙ has.body)

    pub next_no_group : get_or w.bytes.items w.read 0 ≢ 0 → group_of body ≡ None → whole ≡ Err (base + w.gate)
    next_no_group is_open none = file_no_group base file w.gate is.inside [] whole (with_front-nil whole) body (open_gate is_open) (found ∙ has.body) none

    pub next_more : (group : List (List ℕ)) → get_or w.bytes.items w.read 0 ≢ 0 → group_of body ≡ Some group
        → whole ≡ with_front (kept (base + w.gate) group) (left_from base (w.gate + (5 + length body)) file)
    next_more group is_open is_group = sym (file_more base file w.gate is.inside [] whole (with_front-nil whole) body group (open_gate is_open) (found ∙ has.body) is_group)

    pub next_moved : IsWindow file (record w { read = w.read + (5 + length body); gate = w.gate + (5 + length body) })
    next_moved = moved file w is body has.some (sym found) next_inside

-- as many bytes from the next gate on as a group has at most, or all that are left
pub filled : (file : List ℕ) (w v : Window) (count : ℕ) → IsWindow file w → count ≡ min (length file - w.gate) 4194310 → v.gate ≡ w.gate → v.len ≡ w.len → length v.bytes.items ≡ length w.bytes.items
    → v.read + count ≡ length w.bytes.items → drop v.read v.bytes.items ≡ take count (drop w.gate file) → IsWindow file v × HasNext file v
filled file w v count is counted gate len long read same =
    let now : IsWindow file v = record {
      len = len ∙ is.len;
      inside = omega (arith, is.inside, gate);
      fits = is.fits;
      within = omega (arith, read, long);
      same = same ∙ (λ i. take (left i) (drop (sym gate i) file));
      room = omega (arith, is.room, gate, long);
    } in
    (now, has_room file v now (λ less. omega (arith, counted, read, long, gate, less)) (omega (arith, counted, read, long, gate, is.inside)))
  where
    left : count ≡ length v.bytes.items - v.read
    left = omega (arith, read, long)

-- a buffer whose end a read filled
pub end_filled : (a len : ℕ) (old new after : List ℕ) → a ≤ length old → length old ≡ len → length new ≡ length old - a → take len (put_mid a (length old - a) old new ++ after) ≡ take a old ++ new
end_filled a len old new after within old_len new_len =
    let none : post_of a (length old - a) old ≡ [] = drop_all (length old - a) (drop a old) (omega (arith, length-drop a old)) in
    let all : put_mid a (length old - a) old new ≡ take a old ++ new = ap (λ (l : List ℕ). take a old ++ (new ++ l)) none ∙ ap (λ (l : List ℕ). take a old ++ l) (append-nil new) in
    let front = length-take-le a old within in
    ap (λ (l : List ℕ). take len (l ++ after)) all ∙ take_at (take a old ++ new) after len (omega (arith, length-append (take a old) new, front, old_len, new_len))
