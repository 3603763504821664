-- What the slots of a checkpoint's state hold: certificates of the genesis, and those above it.
use Rattle.std.proofs.Common.{◌≡◌, ℕ, Bool, true, false, cond, List, [], ◌∷◌, ◌++◌, filter, map, Option, Some, None, refl, ap, ◌∙◌, arith}
use Rattle.std.proofs.Math.Path.{fun_ext}
use Rattle.std.specs.Prelude.{◌==◌, not, if◌then◌else◌}
use Rattle.std.specs.Option.{option_or}
use Rattle.std.proofs.lemmas.Bool.{eqb-true}
use Rattle.std.proofs.lemmas.List.Folds.{find-append}
use Rattle.committee.specs.Charter.{numbers}
use Rattle.spec_checkpoint.specs.Data.{Checkpoint}
use Rattle.spec_checkpoint.specs.Meaning.{listed_floor, state_in}
use Rattle.spec_model.specs.Holdings.{genesis}
use Rattle.spec_model.specs.Nodes.{Node, size_of}
use Rattle.spec_model.specs.Slots.{slots_of, is_of_slot}
use Rattle.spec_model.specs.Words.{Certificate}

-- a certificate is above the genesis
abbrev pub is_above : Certificate → Bool
is_above certificate = not (certificate.header.round == 0)

-- the certificates of the genesis, where they are there
abbrev pub firsts : Node → Bool → List Certificate
firsts node there = if there then map genesis (numbers (size_of node)) else []

-- what a slot holds of those above the genesis, if this one is among them
more_below : (c : Certificate) (author : ℕ) (rest : List Certificate) (low : Bool) → (c.header.round == 0) ≡ low → slots_of rest 0 author ≡ None
    → slots_of (cond (not low) (c ∷ rest) rest) 0 author ≡ None
more_below c author rest true is none = none
more_below c author rest false is none = rw is none

more_above : (c : Certificate) (round author : ℕ) (rest all : List Certificate) (low here : Bool) → (round == 0) ≡ false → (c.header.round == 0) ≡ low → is_of_slot round author c.header ≡ here
    → slots_of rest round author ≡ slots_of all round author → slots_of (cond (not low) (c ∷ rest) rest) round author ≡ slots_of (c ∷ all) round author
more_above c round author rest all true true above is same others = absurd (grind (arith, above, is, same))
more_above c round author rest all true false above is same others = rw same others
more_above c round author rest all false true above is same others = rw same refl
more_above c round author rest all false false above is same others = rw same others

-- of those above the genesis none is of round 0
none_below : (author : ℕ) (certificates : List Certificate) → slots_of (filter is_above certificates) 0 author ≡ None
none_below author [] = refl
none_below author (c ∷ rest) = more_below c author (filter is_above rest) (c.header.round == 0) refl (none_below author rest)

-- in a round above 0 they are all that there are
all_above : (round author : ℕ) (certificates : List Certificate) → (round == 0) ≡ false → slots_of (filter is_above certificates) round author ≡ slots_of certificates round author
all_above round author [] above = refl
all_above round author (c ∷ rest) above =
    more_above c round author (filter is_above rest) rest (c.header.round == 0) (is_of_slot round author c.header) above refl refl (all_above round author rest above)

-- those of the genesis are of no round above 0
not_zero : (round : ℕ) → (round == 0) ≡ false → (0 == round) ≡ false
not_zero round above = grind (arith, above)

none_above : (round author : ℕ) (members : List ℕ) → (round == 0) ≡ false → slots_of (map genesis members) round author ≡ None
none_above round author [] above = refl
none_above round author (member ∷ members) above = rw (not_zero round above) (none_above round author members above)

firsts_above : (node : Node) (there : Bool) (round author : ℕ) → (round == 0) ≡ false → slots_of (firsts node there) round author ≡ None
firsts_above node true round author above = none_above round author (numbers (size_of node)) above
firsts_above node false round author above = refl

or_none : {X : Type 0} (o : Option X) → option_or o None ≡ o
or_none None = refl
or_none (Some x) = refl

firsts_below : (node : Node) (there : Bool) (author : ℕ) → slots_of (firsts node there) 0 author ≡ (if there then slots_of (map genesis (numbers (size_of node))) 0 author else None)
firsts_below node true author = refl
firsts_below node false author = refl

-- together they are what a slot holds
together : (node : Node) (there : Bool) (certificates : List Certificate) (round author : ℕ) (low : Bool) → (round == 0) ≡ low
    → slots_of (firsts node there ++ filter is_above certificates) round author
    ≡ (if low then (if there then slots_of (map genesis (numbers (size_of node))) 0 author else None) else slots_of certificates round author)
together node there certificates round author true is =
    let zero : round ≡ 0 = eqb-true round 0 is in
    ap (λ n. slots_of (firsts node there ++ filter is_above certificates) n author) zero
    ∙ find-append (λ c. is_of_slot 0 author c.header) (firsts node there) (filter is_above certificates)
    ∙ ap (option_or (slots_of (firsts node there) 0 author)) (none_below author certificates)
    ∙ or_none (slots_of (firsts node there) 0 author) ∙ firsts_below node there author
together node there certificates round author false is =
    find-append (λ c. is_of_slot round author c.header) (firsts node there) (filter is_above certificates)
    ∙ ap (λ (o : Option Certificate). option_or o (slots_of (filter is_above certificates) round author)) (firsts_above node there round author is)
    ∙ all_above round author certificates is

pub are_held : (node : Node) (checkpoint : Checkpoint) (held : List Certificate) → held ≡ firsts node (listed_floor node checkpoint == 0) ++ filter is_above checkpoint.certificates
    → slots_of held ≡ (state_in node checkpoint).slots
are_held node checkpoint held is =
    ap slots_of is ∙ fun_ext (λ round. fun_ext (λ author. together node (listed_floor node checkpoint == 0) checkpoint.certificates round author (round == 0) refl))
