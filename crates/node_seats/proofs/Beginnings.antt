-- Beginnings of lists.
use Rattle.std.proofs.Common.{◌≡◌, ℕ, ◌≤◌, List, [], ◌∷◌, ◌++◌, length, take, drop, refl, ap, sym, ◌∙◌, min, length-take, arith, append_assoc, length-append, take-append-drop}
use Rattle.std.proofs.lemmas.List.{append-nil, take_at, take-append-le}
use Rattle.wire.specs.Lists.{Begins}

pub begins_same : {X : Type 0} (xs : List X) → Begins xs xs
begins_same xs = record { rest = []; parts = sym (append-nil xs) }

pub begins_nothing : {X : Type 0} (xs : List X) → Begins [] xs
begins_nothing xs = record { rest = xs; parts = refl }

pub begins_trans : {X : Type 0} (one two three : List X) → Begins one two → Begins two three → Begins one three
begins_trans one two three first second = record {
  rest = first.rest ++ second.rest;
  parts = second.parts ∙ ap (λ l. l ++ second.rest) first.parts ∙ append_assoc one first.rest second.rest;
}

pub begins_length : {X : Type 0} (one other : List X) → Begins one other → length one ≤ length other
begins_length one other begins = omega (arith, ap length begins.parts, length-append one begins.rest)

-- of two beginnings of a list the shorter one begins the other
pub shorter_begins : {X : Type 0} (one other all : List X) → Begins one all → Begins other all → length one ≤ length other → Begins one other
shorter_begins one other all first second less =
    let is : one ≡ take (length one) other =
    sym (take_at one first.rest (length one) refl) ∙ ap (take (length one)) (sym first.parts ∙ second.parts) ∙ take-append-le (length one) other second.rest less in
    record {
      rest = drop (length one) other;
      parts = sym (take-append-drop (length one) other) ∙ ap (λ l. l ++ drop (length one) other) (sym is);
    }

-- a beginning that is as long is the whole
pub begins_whole : {X : Type 0} (one other : List X) → Begins one other → length other ≤ length one → one ≡ other
begins_whole one other begins less =
    let none : length begins.rest ≡ 0 = omega (arith, ap length begins.parts, length-append one begins.rest) in
    sym (append-nil one) ∙ ap (λ l. one ++ l) (sym (nothing begins.rest none)) ∙ sym begins.parts
  where
    nothing : {X : Type 0} (xs : List X) → length xs ≡ 0 → xs ≡ []
    nothing [] is = refl
    nothing (x ∷ xs) is = absurd (omega arith)

-- two beginnings of a list that are of one length are one
pub begins_alike : {X : Type 0} (one other all : List X) → Begins one all → Begins other all → length one ≡ length other → one ≡ other
begins_alike one other all first second same =
    begins_whole one other (shorter_begins one other all first second (omega (arith, same))) (omega (arith, same))

pub begins_more : {X : Type 0} (one other more : List X) → Begins one other → Begins one (other ++ more)
begins_more one other more begins = begins_trans one other (other ++ more) begins (record { rest = more; parts = refl })

pub take_begins : {X : Type 0} (count : ℕ) (xs : List X) → Begins (take count xs) xs
take_begins count xs = record { rest = drop count xs; parts = sym (take-append-drop count xs) }

-- what begins a list and isn't longer than a count begins so many of it
pub begins_take : {X : Type 0} (one other : List X) (count : ℕ) → Begins one other → length one ≤ count → Begins one (take count other)
begins_take one other count begins less =
    let within = begins_length one other begins in
    let size : length (take count other) ≡ min count (length other) = length-take count other in
    shorter_begins one (take count other) other begins (take_begins count other) (omega (arith, size, within, less))
