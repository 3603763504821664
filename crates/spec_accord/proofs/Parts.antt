-- What a part of some slots says of paths, where the parents of what it holds above a round are in it.
use Rattle.std.proofs.Common.{◌≡◌, ℕ, zero, suc, ◌+◌, ◌-◌, ◌<◌, ◌≤◌, true, false, Some, None, inl, inr, refl, ap, sym, ◌∙◌, arith}
use Rattle.std.specs.Prelude.{nat_le, ◌==◌, ◌&&◌}
use Rattle.std.specs.List.{list_any}
use Rattle.std.proofs.lemmas.Bool.{cases_Bool, and_parts, eqb-true}
use Rattle.std.proofs.lemmas.Option.{same_Some, none-some}
use Rattle.committee.specs.Charter.{Charter, numbers}
use Rattle.spec_model.specs.Slots.{Slots, same_digest, certificate_digest, is_named, is_parent, round_of, has_path, reaches}
use Rattle.spec_model.specs.Words.{Certificate}
use Rattle.spec_laws.proofs.Growing.{AreInPlace, IsIn, is_in, any_same, and_false}
use Rattle.spec_laws.proofs.Lists.{Contains-made}
use Rattle.spec_laws.proofs.Meeting.{AreRooted, any_to}
use Rattle.spec_laws.proofs.Votes.{slot_is}

-- slots hold what others do
abbrev pub AreKept : Slots → Slots → Type 0
AreKept part all = (round author : ℕ) (c : Certificate) → part round author ≡ Some c → all round author ≡ Some c

-- slots hold a part of what others do: above a round they hold the parents of each certificate too, which are a quorum
pub record IsPart (charter : Charter) (low : ℕ) (part all : Slots) : Type 0 where
  pub placed : AreInPlace part
  pub placed_all : AreInPlace all
  pub kept : AreKept part all
  pub rooted : AreRooted charter part low

-- a parent of what the part holds above the round is in the part
pub parent_in : (charter : Charter) (low : ℕ) (part all : Slots) → IsPart charter low part all
    → (child end : Certificate) → IsIn part child → low < child.header.round → IsIn all end
    → is_parent end child ≡ true → IsIn part end
parent_in charter low part all is child end held above held_end names =
    let parents = child.header.parents in
    let parts = and_parts (end.header.round + 1 == child.header.round) (list_any (is_named end) parents) names in
    let next = eqb-true _ _ parts.0 in
    let p = any_to (is_named end) parents parts.1 in
    let same_end = same_digest p.0.certificate (certificate_digest end.header) in
    let author = eqb-true _ _ (and_parts (p.0.author.0 == end.header.author.0) same_end p.2).0 in
    let found = (is.rooted child.header.round child.header.author.0 child held above).held p.0 p.1 in
    let below : child.header.round - 1 ≡ end.header.round = omega (arith, next) in
    let there : part end.header.round end.header.author.0 ≡ Some found.0 =
    ap (λ r. part r end.header.author.0) (sym below) ∙ ap (part (child.header.round - 1)) (sym author) ∙ found.1 in
    let same : found.0 ≡ end =
    same_Some found.0 end (sym (is.kept end.header.round end.header.author.0 found.0 there) ∙ held_end) in
    there ∙ ap (λ c. Some c) same

-- so is the end of a path from what the part holds, where it lies no lower than the round
pub path_in : (charter : Charter) (n low : ℕ) (part all : Slots) → IsPart charter low part all
    → (steps : ℕ) (start end : Certificate) → IsIn part start → IsIn all end → low ≤ end.header.round
    → has_path n all steps start end ≡ true → IsIn part end
path_in charter n low part all is zero start end held held_end above path =
    let place = slot_is start.header.round start.header.author.0 end.header path in
    let there : part end.header.round end.header.author.0 ≡ Some start =
    ap (λ r. part r end.header.author.0) place.0 ∙ ap (part start.header.round) place.1 ∙ held in
    let same : start ≡ end =
    same_Some start end (sym (is.kept end.header.round end.header.author.0 start there) ∙ held_end) in
    there ∙ ap (λ c. Some c) same
path_in charter n low part all is (suc steps) start end held held_end above path =
    let round = end.header.round + 1 in
    let child = any_to (λ c. has_path n all steps start c && is_parent end c) (round_of n all round) path in
    let parts = and_parts (has_path n all steps start child.0) (is_parent end child.0) child.2 in
    let made = Contains-made (all round) (numbers n) child.0 child.1 in
    let place = slot_is round made.0 child.0.header (is.placed_all round made.0 child.0 made.2) in
    let high : low < child.0.header.round = omega (arith, above, place.0) in
    let in_all = is_in all round made.0 child.0 is.placed_all made.2 in
    let held_child = path_in charter n low part all is steps start child.0 held in_all (omega (arith, high)) parts.0 in
    parent_in charter low part all is child.0 end held_child high held_end parts.1

-- no path leads to what the part lacks there
pub path_out : (charter : Charter) (n low : ℕ) (part all : Slots) → IsPart charter low part all
    → (steps : ℕ) (start : Certificate) (round author : ℕ) (c : Certificate) → IsIn part start → low ≤ round
    → part round author ≡ None → all round author ≡ Some c → has_path n all steps start c ≡ false
path_out charter n low part all is steps start round author c held above none there =
    elim (cases_Bool (has_path n all steps start c)) [
      | inr not ↦ not
      | inl path ↦
          let place = slot_is round author c.header (is.placed_all round author c there) in
          let high : low ≤ c.header.round = omega (arith, above, place.0) in
          let in_all = is_in all round author c is.placed_all there in
          let found = path_in charter n low part all is steps start c held in_all high path in
          let here = ap (λ r. part r author) (sym place.0) ∙ ap (part c.header.round) (sym place.1) ∙ found in
          absurd (none-some c (sym none ∙ here))
    ]

-- and the paths to what lies no lower than the round are those in the part
pub paths_alike : (charter : Charter) (n low : ℕ) (part all : Slots) → IsPart charter low part all
    → (steps : ℕ) (start end : Certificate) → IsIn part start → low ≤ end.header.round
    → has_path n all steps start end ≡ has_path n part steps start end
paths_alike charter n low part all is zero start end held above = refl
paths_alike charter n low part all is (suc steps) start end held above =
    let round = end.header.round + 1 in
    any_same (part round) (all round) (λ child. has_path n part steps start child && is_parent end child)
    (λ child. has_path n all steps start child && is_parent end child) (numbers n)
    (λ a child here.
    let place = slot_is round a child.header (is.placed round a child here) in (
      is.kept round a child here,
      ap (λ b. b && is_parent end child)
          (paths_alike charter n low part all is steps start child held (omega (arith, above, place.0))),
    ))
    (λ a child none there. ap (λ b. b && is_parent end child)
    (path_out charter n low part all is steps start round a child held (omega (arith, above)) none there))

-- ---- reaching

-- what the part holds reaches what it does in the part
pub reaches_alike : (charter : Charter) (n low : ℕ) (part all : Slots) → IsPart charter low part all
    → (start end : Certificate) → IsIn part start → low ≤ end.header.round
    → reaches n all start end ≡ reaches n part start end
reaches_alike charter n low part all is start end held above =
    ap (λ b. nat_le end.header.round start.header.round && b)
    (paths_alike charter n low part all is (start.header.round - end.header.round) start end held above)

-- and what it reaches is in the part
pub reached_in : (charter : Charter) (n low : ℕ) (part all : Slots) → IsPart charter low part all
    → (start end : Certificate) → IsIn part start → IsIn all end → low ≤ end.header.round
    → reaches n all start end ≡ true → IsIn part end
reached_in charter n low part all is start end held held_end above reached =
    path_in charter n low part all is (start.header.round - end.header.round) start end held held_end above
    (and_parts (nat_le end.header.round start.header.round)
    (has_path n all (start.header.round - end.header.round) start end) reached).1

-- and nothing that the part lacks
pub reaches_out : (charter : Charter) (n low : ℕ) (part all : Slots) → IsPart charter low part all
    → (start : Certificate) (round author : ℕ) (c : Certificate) → IsIn part start → low ≤ round
    → part round author ≡ None → all round author ≡ Some c → reaches n all start c ≡ false
reaches_out charter n low part all is start round author c held above none there =
    ap (λ b. nat_le c.header.round start.header.round && b)
    (path_out charter n low part all is (start.header.round - c.header.round) start round author c held above none
    there)
    ∙ and_false (nat_le c.header.round start.header.round)
