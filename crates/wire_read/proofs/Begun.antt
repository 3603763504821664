-- The frame that has begun, and a piece that goes on with it.
use Rattle.std.proofs.Common.{◌≡◌, ℕ, ◌-◌, ◌≤◌, ◌<◌, List, [], ◌∷◌, ◌++◌, length, take, drop, Result, Ok, Err, inl, inr, refl, sym, ap, subst, ◌∙◌, append_assoc, arith}
use Rattle.std.specs.Prelude.{Vec, Option, Some, None, IfOk, IfErr, ◌⊎◌}
use Rattle.std.specs.declared.alloc.Global.{Global}
use Rattle.std.specs.Int.{w32, to_be_bytes, from_be_bytes}
use Rattle.std.specs.List.{IsSplitAt}
use Rattle.std.specs.Option.{MatchOption}
use Rattle.std.proofs.lemmas.Bool.{cases_lt}
use Rattle.std.proofs.lemmas.List.{append-nil, length-append, take-append-drop, take_at, take_all, drop_at, drop_all}
use Rattle.std.proofs.lemmas.List.Elements.{All-from_recursion}
use Rattle.wire.specs.declared.error.WireError.{WireError}
use Rattle.wire.specs.declared.error.WireError.TheVariants.{Memory, TooMany}
use Rattle.wire.specs.declared.limits.TheConstants.{MAX_FRAME_BYTES}
use Rattle.wire_read.specs.Frames.{IsFrameBody, frame, length_field, IsPartial, HasBegun, IsTooLong, bodies_bytes, Splits, Breaks}
use Rattle.wire_read.proofs.Streams.{cons, joined, broken, breaks_yet, either}

-- a piece goes on with a length field: `more` is the field with its bytes, and `rest` is the piece without them
pub record GoesOn (field piece more rest : List ℕ) : Type 0 where
  pub parts : field ++ piece ≡ more ++ rest
  pub within : length more ≤ 4
  pub whole : 4 ≤ length field → (more ≡ field) × (rest ≡ piece)
  pub first : length more < 4 → rest ≡ []

-- what has come of the body
pub body_is : (field body : List ℕ) → HasBegun field body → drop 4 (field ++ body) ≡ body
body_is field body begun =
    elim (cases_lt (length field) 4) [
      | inl lt ↦ let none = begun.order lt in rw none (drop_all 4 (field ++ []) (omega (arith, length-append field [])))
      | inr le ↦ drop_at field body 4 (omega (arith, begun.within))
    ]

-- the end of a body is found in some bytes, or they are too few
pub found : {P : Type 0} (front back : P → List ℕ) (field body bytes : List ℕ) (len : ℕ) (parts : Option P)
    → length field ≡ 4 → len ≡ length_field field → to_be_bytes w32 len ≡ take 4 field → len ≤ MAX_FRAME_BYTES → length body ≤ len
    → MatchOption parts (length bytes < len - length body) (λ p. IsSplitAt bytes (len - length body) (front p) (back p))
    → MatchOption parts (4 ≤ length field → IsPartial (field ++ (body ++ bytes)))
    (λ p. (bytes ≡ front p ++ back p) × IsFrameBody (body ++ front p) × (field ++ (body ++ front p) ≡ frame (body ++ front p)))
found front back field body bytes len None whole is spelled within short less = λ _ _.
    let front_is : take 4 (field ++ (body ++ bytes)) ≡ take 4 field = take_at field (body ++ bytes) 4 whole ∙ sym (take_all 4 field (omega (arith, whole))) in
    let number : length_field (field ++ (body ++ bytes)) ≡ len = ap (λ (l : List ℕ). from_be_bytes w32 l) front_is ∙ sym is in
    (omega (arith, number, within), omega (arith, number, length-append field (body ++ bytes), length-append body bytes, whole, less))
found front back field body bytes len (Some p) whole is spelled within short split =
    let parts : bytes ≡ front p ++ back p = rw (split.1, split.2) (sym (take-append-drop (len - length body) bytes)) in
    let all : length (body ++ front p) ≡ len = omega (arith, length-append body (front p), split.3, short) in
    let head : field ≡ to_be_bytes w32 (length (body ++ front p)) = sym (take_all 4 field (omega (arith, whole))) ∙ sym spelled ∙ ap (λ (n : ℕ). to_be_bytes w32 n) (sym all) in
    (parts, omega (arith, all, within), ap (λ (l : List ℕ). l ++ (body ++ front p)) head)

module _ (field body old piece more rest : List ℕ) (view : field ++ body ≡ old) (begun : HasBegun field body) (goes : GoesOn field piece more rest) where
  in_order : old ++ piece ≡ more ++ (body ++ rest)
  in_order =
      let now : (field ++ body) ++ piece ≡ more ++ (body ++ rest) =
      elim (cases_lt (length field) 4) [
        | inl lt ↦ let none = begun.order lt in rw none (ap (λ (l : List ℕ). l ++ piece) (append-nil field) ∙ goes.parts)
        | inr le ↦ let same = goes.whole le in rw (same.0, same.1) (append_assoc field body piece)
      ] in
      ap (λ (l : List ℕ). l ++ piece) (sym view) ∙ now

  pub too_long : IsTooLong more → Breaks (old ++ piece)
  too_long long =
      let breaks : Breaks more = record { bodies = []; rest = more; whole = refl; each = All-from_recursion IsFrameBody [] tt; long = long } in
      subst (λ (l : List ℕ). Breaks l) (sym in_order) (breaks_yet more (body ++ rest) breaks)

  -- ---- the frame isn't whole yet

  module _ (partial : 4 ≤ length more → IsPartial (more ++ (body ++ rest))) where
    none : length more < 4 → body ++ rest ≡ []
    none lt =
        elim (cases_lt (length field) 4) [
          | inl few ↦ rw (begun.order few, goes.first lt) refl
          | inr le ↦ absurd (omega (arith, ap (λ (l : List ℕ). length l) (goes.whole le).0))
        ]

    begun_yet : HasBegun more (body ++ rest)
    begun_yet = record {
      within = goes.within;
      order = none;
      partial =
          elim (cases_lt (length more) 4) [
            | inl lt ↦ λ le. absurd (omega (arith, length-append more (body ++ rest), ap (λ (l : List ℕ). length l) (none lt)))
            | inr le ↦ partial le
          ];
    }

    pub no_frame : Splits (old ++ piece) [] (more ++ (body ++ rest))
    no_frame = record { whole = in_order; each = All-from_recursion IsFrameBody [] tt; partial = begun_yet.partial }

  -- ---- the piece has the end of the body

  module _ (end after : List ℕ) (cut : rest ≡ end ++ after) (fits : IsFrameBody (body ++ end)) (is : more ++ (body ++ end) ≡ frame (body ++ end)) where
    together : old ++ piece ≡ (more ++ (body ++ end)) ++ after
    together =
        in_order ∙ ap (λ (l : List ℕ). more ++ (body ++ l)) cut ∙ ap (λ (l : List ℕ). more ++ l) (sym (append_assoc body end after))
        ∙ sym (append_assoc more (body ++ end) after)

    first_frame : Splits (more ++ (body ++ end)) ((body ++ end) ∷ []) []
    first_frame = record {
      whole = is ∙ sym (append-nil (frame (body ++ end))) ∙ sym (cons (body ++ end) [] []);
      each = All-from_recursion IsFrameBody ((body ++ end) ∷ []) (fits, tt);
      partial = λ le. absurd (omega (arith, le));
    }

    pub completed : (r : Result (Vec (Vec ℕ Global) Global) WireError) (left : List ℕ)
        → IfOk r (λ bodies. (others : List (List ℕ)) × (bodies_bytes bodies.items ≡ (drop 4 old ++ end) ∷ others) × Splits after others left)
        → IfOk r (λ bodies. Splits (old ++ piece) (bodies_bytes bodies.items) left)
    completed (Ok bodies) left h =
        let all = joined (more ++ (body ++ end)) ((body ++ end) ∷ []) [] after h.0 left first_frame h.2 in
        let was : drop 4 old ≡ body = ap (λ (l : List ℕ). drop 4 l) (sym view) ∙ body_is field body begun in
        let are : bodies_bytes bodies.items ≡ (body ++ end) ∷ h.0 = h.1 ∙ ap (λ (l : List ℕ). (l ++ end) ∷ h.0) was in
        rw (together, are) all
    completed (Err e) left h = tt

    broken_later : Breaks after → Breaks (old ++ piece)
    broken_later p = subst (λ (l : List ℕ). Breaks l) (sym together) (broken (more ++ (body ++ end)) ((body ++ end) ∷ []) [] after first_frame p)

    pub broken_after : (r : Result (Vec (Vec ℕ Global) Global) WireError) → IfErr r (λ e. (e ≡ Memory) ⊎ ((e ≡ TooMany) × Breaks after))
        → IfErr r (λ e. (e ≡ Memory) ⊎ ((e ≡ TooMany) × Breaks (old ++ piece)))
    broken_after (Ok bodies) breaks = tt
    broken_after (Err e) breaks = elim breaks [ inl memory ↦ inl memory | inr long ↦ inr (long.0, broken_later long.1) ]

-- ---- what a reader promises of a stream

pub fed : (r : Result (Vec (Vec ℕ Global) Global) WireError) (old piece left : List ℕ) → IfOk r (λ bodies. Splits (old ++ piece) (bodies_bytes bodies.items) left)
    → IfOk r (λ bodies. (stream : List ℕ) (before : List (List ℕ)) → Splits stream before old → Splits (stream ++ piece) (before ++ bodies_bytes bodies.items) left)
fed (Ok bodies) old piece left splits = λ stream before until. joined stream before old piece (bodies_bytes bodies.items) left until splits
fed (Err e) old piece left splits = tt

pub never : (r : Result (Vec (Vec ℕ Global) Global) WireError) (old piece left : List ℕ) → IfOk r (λ bodies. Splits (old ++ piece) (bodies_bytes bodies.items) left)
    → IfOk r (λ _. Breaks (old ++ piece) → ⊥)
never (Ok bodies) old piece left splits = λ breaks. either (old ++ piece) (bodies_bytes bodies.items) left splits breaks
never (Err e) old piece left splits = tt

pub fed_long : (r : Result (Vec (Vec ℕ Global) Global) WireError) (old piece : List ℕ) → IfErr r (λ e. (e ≡ Memory) ⊎ ((e ≡ TooMany) × Breaks (old ++ piece)))
    → IfErr r (λ e. (e ≡ Memory) ⊎ ((e ≡ TooMany) × ((stream : List ℕ) (before : List (List ℕ)) → Splits stream before old → Breaks (stream ++ piece))))
fed_long (Ok bodies) old piece breaks = tt
fed_long (Err e) old piece breaks =
    elim breaks [
      | inl memory ↦ inl memory
      | inr long ↦ inr (long.0, λ stream before until. broken stream before old piece until long.1)
    ]
