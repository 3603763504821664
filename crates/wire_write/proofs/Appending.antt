-- What a writer's known bytes grow by.
use Rattle.std.proofs.Common.{◌≡◌, ℕ, ◌<◌, take, drop, length, Result, Ok, Err, List, [], ◌++◌, Option, Some, None, refl, sym, ap, ◌∙◌, arith, append_assoc, append-nil, length-append}
use Rattle.std.proofs.KnownBytes.{Appends-trans}
use Rattle.std.specs.Io.KnownBytes.{Keeps, Appends}
use Rattle.std.specs.Prelude.{OnErr}
use Rattle.std.proofs.lemmas.List.{take-append-drop}
use Rattle.wire_write.specs.Frames.{AppendsLess}

pub keeps_appends : (old new : Option (List ℕ)) → Keeps old new → Appends old new []
keeps_appends None new keeps = tt
keeps_appends (Some xs) None keeps = absurd keeps
keeps_appends (Some xs) (Some ys) keeps = keeps ∙ sym (append-nil xs)

-- and the second of them in part
pub part_after : (old mid new : Option (List ℕ)) (first second : List ℕ) → Appends old mid first → AppendsLess mid new second → AppendsLess old new (first ++ second)
part_after old mid new first second one two = record {
  part = first ++ two.part;
  begins = record { rest = two.begins.rest; parts = ap (λ (l : List ℕ). first ++ l) two.begins.parts ∙ sym (append_assoc first two.part two.begins.rest) };
  less = omega (arith, length-append first two.part, length-append first second, two.less);
  appends = Appends-trans old mid new first two.part one two.appends;
}

-- a part of the front is one of the whole
pub part_front : (old new : Option (List ℕ)) (first second : List ℕ) → AppendsLess old new first → AppendsLess old new (first ++ second)
part_front old new first second one = record {
  part = one.part;
  begins = record { rest = one.begins.rest ++ second; parts = ap (λ (l : List ℕ). l ++ second) one.begins.parts ∙ append_assoc one.part one.begins.rest second };
  less = omega (arith, length-append first second, one.less);
  appends = one.appends;
}

-- nothing of what isn't empty
pub less_none : (old new : Option (List ℕ)) (all : List ℕ) → Keeps old new → 0 < length all → AppendsLess old new all
less_none old new all keeps some = record {
  part = [];
  begins = record { rest = all; parts = refl };
  less = some;
  appends = keeps_appends old new keeps;
}

-- what holds of a failed call
pub on_err : {A E : Type 0} (r : Result A E) (P : Type 0) → P → OnErr r P
on_err (Ok x) P is = tt
on_err (Err e) P is = is

-- so many more of the bytes that are left
pub more_written : (all written rest : List ℕ) (count : ℕ) → all ≡ written ++ rest → all ≡ (written ++ take count rest) ++ drop count rest
more_written all written rest count parts =
    parts ∙ ap (λ (l : List ℕ). written ++ l) (sym (take-append-drop count rest)) ∙ sym (append_assoc written (take count rest) (drop count rest))

pub on_err_more : {A E : Type 0} (r : Result A E) (P Q : Type 0) → (P → Q) → OnErr r P → OnErr r Q
on_err_more (Ok x) P Q more is = tt
on_err_more (Err e) P Q more is = more is
