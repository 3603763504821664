-- A stream is frames in one way, and frames after frames are frames.
use Rattle.std.proofs.Common.{◌≡◌, ℕ, ◌+◌, ◌-◌, ◌≤◌, ◌<◌, List, [], ◌∷◌, ◌++◌, length, take, drop, drop-drop, refl, sym, ap, subst, ◌∙◌, append_assoc, arith}
use Rattle.std.specs.Prelude.{All, Vec, Option, Some, None}
use Rattle.std.specs.Option.{MatchOption}
use Rattle.std.specs.declared.alloc.Global.{Global}
use Rattle.std.specs.List.{flat_map, AllByRecursion}
use Rattle.std.specs.Int.{w32, to_be_bytes, from_be_bytes}
use Rattle.std.proofs.lemmas.List.{take_at, drop_at, take_all, take-append-drop, take-append-le, length-append, length-take, length-drop, map-append}
use Rattle.std.proofs.lemmas.List.Concat.{flat_map-cons}
use Rattle.std.proofs.lemmas.List.Elements.{All-append, All-push, recursion_from_All}
use Rattle.std.proofs.lemmas.Grind.{flat_map-append}
use Rattle.std.proofs.lemmas.Nat.{from_be_bytes-to_be_bytes_4}
use Rattle.wire.specs.declared.limits.TheConstants.{MAX_FRAME_BYTES}
use Rattle.wire_read.proofs.Steps.{IsBytes, IsBytes-take}
use Rattle.wire_read.proofs.Fields.{wide32}
use Rattle.wire_read.specs.Frames.{IsFrameBody, frame, length_field, IsPartial, IsTooLong, stream_of, bodies_bytes, Splits, Breaks}

-- a frame at the front tells how long its body is
field_is : (body rest : List ℕ) → IsFrameBody body → length_field (frame body ++ rest) ≡ length body
field_is body rest is = from_be_bytes-to_be_bytes_4 (length body) (omega (arith, is))

framed_len : (body rest : List ℕ) → length (frame body ++ rest) ≡ 4 + (length body + length rest)
framed_len body rest = omega (arith, length-append body rest)

whole_is_not_partial : (body rest : List ℕ) → IsFrameBody body → IsPartial (frame body ++ rest) → ⊥
whole_is_not_partial body rest is partial =
    let less = partial (omega (arith, framed_len body rest)) in
    omega (arith, less.1, field_is body rest is, framed_len body rest)

whole_is_not_long : (body rest : List ℕ) → IsFrameBody body → IsTooLong (frame body ++ rest) → ⊥
whole_is_not_long body rest is long = omega (arith, long.above, field_is body rest is, is)

-- frames that are prefixes of the same bytes are one
same_front : (b c x y : List ℕ) → IsFrameBody b → IsFrameBody c → frame b ++ x ≡ frame c ++ y → (b ≡ c) × (x ≡ y)
same_front b c x y is-b is-c e =
    let len : length b ≡ length c = sym (field_is b x is-b) ∙ ap length_field e ∙ field_is c y is-c in
    let following : b ++ x ≡ c ++ y = ap (λ (l : List ℕ). drop 4 l) e in
    let front : b ≡ c = sym (take_at b x (length b) refl) ∙ ap (λ (l : List ℕ). take (length b) l) following ∙ take_at c y (length b) (sym len) in
    let back : x ≡ y = sym (drop_at b x (length b) refl) ∙ ap (λ (l : List ℕ). drop (length b) l) following ∙ drop_at c y (length b) (sym len) in
    (front, back)

-- the first frame, and the others after it
pub cons : (b : List ℕ) (bs : List (List ℕ)) (rest : List ℕ) → stream_of (b ∷ bs) rest ≡ frame b ++ stream_of bs rest
cons b bs rest = ap (λ (l : List ℕ). l ++ rest) (flat_map-cons frame b bs) ∙ append_assoc (frame b) (flat_map frame bs) rest

-- the first frames of the same bytes are one, and so are the bytes after them
same_first : (c d : List ℕ) (a b : List (List ℕ)) (x y : List ℕ) → IsFrameBody c → IsFrameBody d → stream_of (c ∷ a) x ≡ stream_of (d ∷ b) y → (c ≡ d) × (stream_of a x ≡ stream_of b y)
same_first c d a b x y is-c is-d e = same_front c d (stream_of a x) (stream_of b y) is-c is-d (sym (cons c a x) ∙ e ∙ cons d b y)

one_way : (a b : List (List ℕ)) (x y : List ℕ) → AllByRecursion IsFrameBody a → AllByRecursion IsFrameBody b → IsPartial x → IsPartial y → stream_of a x ≡ stream_of b y → (a ≡ b) × (x ≡ y)
one_way [] [] x y all-a all-b part-x part-y e = (refl, e)
one_way [] (c ∷ b) x y all-a all-b part-x part-y e = absurd (whole_is_not_partial c (stream_of b y) all-b.0 (subst IsPartial (e ∙ cons c b y) part-x))
one_way (c ∷ a) [] x y all-a all-b part-x part-y e = absurd (whole_is_not_partial c (stream_of a x) all-a.0 (subst IsPartial (sym e ∙ cons c a x) part-y))
one_way (c ∷ a) (d ∷ b) x y all-a all-b part-x part-y e =
    let front = same_first c d a b x y all-a.0 all-b.0 e in
    let more = one_way a b x y all-a.1 all-b.1 part-x part-y front.1 in
    (rw (front.0, more.0) refl, more.1)

not_both : (a b : List (List ℕ)) (x y : List ℕ) → AllByRecursion IsFrameBody a → AllByRecursion IsFrameBody b → IsPartial x → IsTooLong y → stream_of a x ≡ stream_of b y → ⊥
not_both [] [] x y all-a all-b part long e =
    let partial = subst IsPartial e part in
    omega (arith, (partial long.field).0, long.above)
not_both [] (c ∷ b) x y all-a all-b part long e = whole_is_not_partial c (stream_of b y) all-b.0 (subst IsPartial (e ∙ cons c b y) part)
not_both (c ∷ a) [] x y all-a all-b part long e = whole_is_not_long c (stream_of a x) all-a.0 (subst (λ (l : List ℕ). IsTooLong l) (sym e ∙ cons c a x) long)
not_both (c ∷ a) (d ∷ b) x y all-a all-b part long e =
    let front = same_first c d a b x y all-a.0 all-b.0 e in
    not_both a b x y all-a.1 all-b.1 part long front.1

pub same : (stream : List ℕ) (a b : List (List ℕ)) (x y : List ℕ) → Splits stream a x → Splits stream b y → (a ≡ b) × (x ≡ y)
same stream a b x y p q = one_way a b x y (recursion_from_All IsFrameBody a p.each) (recursion_from_All IsFrameBody b q.each) p.partial q.partial (sym p.whole ∙ q.whole)

pub either : (stream : List ℕ) (a : List (List ℕ)) (x : List ℕ) → Splits stream a x → Breaks stream → ⊥
either stream a x p q = not_both a q.bodies x q.rest (recursion_from_All IsFrameBody a p.each) (recursion_from_All IsFrameBody q.bodies q.each) p.partial q.long (sym p.whole ∙ q.whole)

-- ---- one more piece

following : (stream : List ℕ) (before : List (List ℕ)) (old piece : List ℕ) (bodies : List (List ℕ)) (rest : List ℕ) → stream ≡ stream_of before old → old ++ piece ≡ stream_of bodies rest
    → stream ++ piece ≡ stream_of (before ++ bodies) rest
following stream before old piece bodies rest e f =
    ap (λ (l : List ℕ). l ++ piece) e ∙ append_assoc (flat_map frame before) old piece ∙ ap (λ (l : List ℕ). flat_map frame before ++ l) f
    ∙ sym (append_assoc (flat_map frame before) (flat_map frame bodies) rest) ∙ ap (λ (l : List ℕ). l ++ rest) (sym (flat_map-append frame before bodies))

pub joined : (stream : List ℕ) (before : List (List ℕ)) (old piece : List ℕ) (bodies : List (List ℕ)) (rest : List ℕ) → Splits stream before old → Splits (old ++ piece) bodies rest
    → Splits (stream ++ piece) (before ++ bodies) rest
joined stream before old piece bodies rest p q = record {
  whole = following stream before old piece bodies rest p.whole q.whole;
  each = All-append IsFrameBody before bodies p.each q.each;
  partial = q.partial;
}

pub broken : (stream : List ℕ) (before : List (List ℕ)) (old piece : List ℕ) → Splits stream before old → Breaks (old ++ piece) → Breaks (stream ++ piece)
broken stream before old piece p q = record {
  bodies = before ++ q.bodies;
  rest = q.rest;
  whole = following stream before old piece q.bodies q.rest p.whole q.whole;
  each = All-append IsFrameBody before q.bodies p.each q.each;
  long = q.long;
}

-- what breaks is broken with more after it
pub breaks_yet : (stream more : List ℕ) → Breaks stream → Breaks (stream ++ more)
breaks_yet stream more p = record {
  bodies = p.bodies;
  rest = p.rest ++ more;
  whole = ap (λ (l : List ℕ). l ++ more) p.whole ∙ append_assoc (flat_map frame p.bodies) p.rest more;
  each = p.each;
  long = record {
    field = omega (arith, length-append p.rest more, p.long.field);
    above = subst (λ (l : List ℕ). MAX_FRAME_BYTES < from_be_bytes w32 l) (sym (take-append-le 4 p.rest more p.long.field)) p.long.above;
  };
}

-- ---- frames by their length fields

-- a whole frame at the front, by its length field
pub framed : (bytes body : List ℕ) → IsBytes bytes → 4 ≤ length bytes → length_field bytes ≤ length (drop 4 bytes) → body ≡ take (length_field bytes) (drop 4 bytes)
    → bytes ≡ frame body ++ drop (4 + length body) bytes
framed bytes body fits long whole is =
    let n = length_field bytes in
    let len : length body ≡ n = ap (λ (l : List ℕ). length l) is ∙ omega (arith, length-take n (drop 4 bytes), whole) in
    let field : to_be_bytes w32 n ≡ take 4 bytes = wide32.back (take 4 bytes) (omega (arith, length-take 4 bytes, long)) (IsBytes-take 4 bytes fits) in
    let head : to_be_bytes w32 (length body) ≡ take 4 bytes = ap (λ (k : ℕ). to_be_bytes w32 k) len ∙ field in
    let rest : drop (4 + length body) bytes ≡ drop n (drop 4 bytes) = ap (λ (k : ℕ). drop (4 + k) bytes) len ∙ sym (drop-drop n 4 bytes) in
    let back : body ++ drop (4 + length body) bytes ≡ drop 4 bytes = rw (rest, is) (take-append-drop n (drop 4 bytes)) in
    sym (ap (λ (l : List ℕ). l ++ (body ++ drop (4 + length body) bytes)) head ∙ ap (λ (l : List ℕ). take 4 bytes ++ l) back ∙ take-append-drop 4 bytes)

-- ---- one more frame

-- what is left of a stream, whose length is known
pub left : (stream : List ℕ) (taken : ℕ) → taken ≤ length stream → take (length stream - taken) (drop taken stream) ≡ drop taken stream
left stream taken within = take_all (length stream - taken) (drop taken stream) (omega (arith, length-drop taken stream))

-- where a body was found there, it is one more
pub one_more : {B : Type 0} (now : B → List ℕ) (stream : List ℕ) (bodies more : List (Vec ℕ Global)) (copy : Vec ℕ Global) (taken : ℕ) (found : Option B) (body : B)
    → (taken ≤ length stream) × (stream ≡ stream_of (bodies_bytes bodies) (drop taken stream)) × All IsFrameBody (bodies_bytes bodies)
    → MatchOption found (IsPartial (take (length stream - taken) (drop taken stream)))
    (λ b. IsFrameBody (now b) × (take (length stream - taken) (drop taken stream) ≡ frame (now b) ++ drop (4 + length (now b)) (take (length stream - taken) (drop taken stream))))
    → found ≡ Some body → more ≡ bodies ++ copy ∷ [] → copy.items ≡ now body
    → (taken + (4 + length (now body)) ≤ length stream) × (stream ≡ stream_of (bodies_bytes more) (drop (taken + (4 + length (now body))) stream)) × All IsFrameBody (bodies_bytes more)
one_more {B} now stream bodies more copy taken found body until whole is longer same =
    let n = 4 + length (now body) in
    let rest = drop taken stream in
    let before = bodies_bytes bodies in
    let there = subst (λ (o : Option B). MatchOption o (IsPartial (take (length stream - taken) rest))
    (λ b. IsFrameBody (now b) × (take (length stream - taken) rest ≡ frame (now b) ++ drop (4 + length (now b)) (take (length stream - taken) rest)))) is whole in
    let front : rest ≡ frame (now body) ++ drop n rest = subst (λ (l : List ℕ). l ≡ frame (now body) ++ drop n l) (left stream taken until.0) there.1 in
    let after : drop n rest ≡ drop (taken + n) stream = drop-drop n taken stream in
    let bytes : bodies_bytes more ≡ before ++ now body ∷ [] = ap bodies_bytes longer ∙ map-append (λ (b : Vec ℕ Global). b.items) bodies (copy ∷ []) ∙ ap (λ (b : List ℕ). before ++ b ∷ []) same in
    let joint : stream ≡ stream_of (before ++ now body ∷ []) (drop (taken + n) stream) =
    until.1 ∙ ap (λ (l : List ℕ). flat_map frame before ++ l) (front ∙ ap (λ (l : List ℕ). frame (now body) ++ l) after ∙ sym (cons (now body) [] (drop (taken + n) stream)))
    ∙ sym (append_assoc (flat_map frame before) (flat_map frame (now body ∷ [])) (drop (taken + n) stream))
    ∙ ap (λ (l : List ℕ). l ++ drop (taken + n) stream) (sym (flat_map-append frame before (now body ∷ []))) in (
      omega (arith, ap length front, framed_len (now body) (drop n rest), length-drop taken stream, until.0),
      joint ∙ ap (λ (l : List (List ℕ)). stream_of l (drop (taken + n) stream)) (sym bytes),
      subst (All IsFrameBody) (sym bytes) (All-push IsFrameBody before (now body) until.2 there.0),
    )

-- and where none was, the rest is less than a whole one
pub no_more : {B : Type 0} (is_body : B → Type 0) (stream : List ℕ) (bodies : List (List ℕ)) (taken : ℕ) (found : Option B)
    → taken ≤ length stream → stream ≡ stream_of bodies (drop taken stream) → All IsFrameBody bodies
    → MatchOption found (IsPartial (take (length stream - taken) (drop taken stream))) is_body → found ≡ None
    → Splits stream bodies (drop taken stream)
no_more {B} is_body stream bodies taken found within so_far each whole is = record {
  whole = so_far;
  each = each;
  partial = subst IsPartial (left stream taken within) (subst (λ (o : Option B). MatchOption o (IsPartial (take (length stream - taken) (drop taken stream))) is_body) is whole);
}
