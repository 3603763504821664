-- Each certificate of a part that lies two rounds above a certificate with support in all reaches it.
use Rattle.std.proofs.Common.{◌≡◌, ℕ, zero, suc, ◌+◌, ◌-◌, ◌<◌, ◌≤◌, true, false, length, Option, inl, inr, refl, ap, sym, ◌∙◌, if◌then◌else◌, arith}
use Rattle.std.proofs.Math.Path.{fun_ext}
use Rattle.std.specs.Prelude.{nat_le, ◌&&◌}
use Rattle.std.specs.Option.{option_map_or}
use Rattle.std.proofs.lemmas.Bool.{cases_Bool, and_parts, and_from, le-leb}
use Rattle.committee.specs.Charter.{Charter, IsCharter, numbers, weight, support_of}
use Rattle.spec_model.specs.Slots.{Slots, round_of, is_parent, has_path, reaches}
use Rattle.spec_model.specs.Words.{Certificate}
use Rattle.spec_laws.proofs.Growing.{AreInPlace, IsIn}
use Rattle.spec_laws.proofs.Lists.{Contains-made, Contains-makes}
use Rattle.spec_laws.proofs.Meeting.{AreRooted, is_supported, any_from, any_to, reaches_leader}
use Rattle.spec_laws.proofs.OrderLonger.{not_old}
use Rattle.spec_accord.proofs.Parts.{AreKept, IsPart}

-- ---- paths stay where all is kept

-- a path is one
path_kept : (n : ℕ) (one other : Slots) → AreKept one other → (steps : ℕ) (start end : Certificate)
    → has_path n one steps start end ≡ true → has_path n other steps start end ≡ true
path_kept n one other kept zero start end path = path
path_kept n one other kept (suc steps) start end path =
    let round = end.header.round + 1 in
    let child = any_to (λ c. has_path n one steps start c && is_parent end c) (round_of n one round) path in
    let parts = and_parts (has_path n one steps start child.0) (is_parent end child.0) child.2 in
    let made = Contains-made (one round) (numbers n) child.0 child.1 in
    any_from (λ c. has_path n other steps start c && is_parent end c) (round_of n other round) child.0
    (Contains-makes (other round) (numbers n) made.0 child.0 made.1 (kept round made.0 child.0 made.2))
    (and_from _ _ (path_kept n one other kept steps start child.0 parts.0) parts.1)

-- so what is reached is
pub reaches_kept : (n : ℕ) (one other : Slots) → AreKept one other → (start end : Certificate)
    → reaches n one start end ≡ true → reaches n other start end ≡ true
reaches_kept n one other kept start end reached =
    let steps = start.header.round - end.header.round in
    let parts = and_parts (nat_le end.header.round start.header.round) (has_path n one steps start end) reached in
    and_from _ _ parts.0 (path_kept n one other kept steps start end parts.1)

-- ---- all up to a round, and above it the part

-- nobody has such slots, but they are rooted above the round, and hold the certificate's support
abbrev mixed : ℕ → Slots → Slots → Slots
mixed top part all round author = if nat_le round top then all round author else part round author

-- they hold the part
mixed_part : (top : ℕ) (part all : Slots) → AreKept part all → AreKept part (mixed top part all)
mixed_part top part all kept round author c held =
    elim (cases_Bool (nat_le round top)) [
      | inl low ↦ rw low (kept round author c held)
      | inr high ↦ rw high held
    ]

-- and nothing but what all do
mixed_all : (top : ℕ) (part all : Slots) → AreKept part all → AreKept (mixed top part all) all
mixed_all top part all kept round author c held =
    elim (cases_Bool (nat_le round top)) [
      | inl low ↦ rw low at held
      | inr high ↦ kept round author c (rw high at held)
    ]

-- up to the round all
mixed_up : (top : ℕ) (part all : Slots) (round : ℕ) → round ≤ top → mixed top part all round ≡ all round
mixed_up top part all round low = let low' = le-leb round top low in fun_ext (λ author. rw low' refl)

-- and above it the part
mixed_above : (top : ℕ) (part all : Slots) (round author : ℕ) → top < round
    → mixed top part all round author ≡ part round author
mixed_above top part all round author high = let high' = not_old top round high in rw high' refl

-- what stands above the round names a quorum that is held
mixed_rooted : (charter : Charter) (low top : ℕ) (part all : Slots) → IsPart charter low part all → low ≤ top
    → AreRooted charter (mixed top part all) top
mixed_rooted charter low top part all is within round author c held above =
    let in_part = sym (mixed_above top part all round author above) ∙ held in
    let root = is.rooted round author c in_part (omega (arith, within, above)) in
    record {
      member = root.member;
      quorum = root.quorum;
      held = λ p among.
          let parent = root.held p among in
          (parent.0, mixed_part top part all is.kept (round - 1) p.author.0 parent.0 parent.1, parent.2);
    }

-- ---- reaching

-- all of the part that lies two rounds above reaches it
pub reaches_supported : (charter : Charter) → IsCharter charter → (low : ℕ) (part all : Slots)
    → IsPart charter low part all → (first : Certificate) → IsIn all first
    → first.header.author.0 < length charter.keys → is_supported charter all first ≡ true
    → low ≤ first.header.round + 1 → (c : Certificate) → IsIn part c
    → first.header.round + 2 ≤ c.header.round → reaches (length charter.keys) all c first ≡ true
reaches_supported charter sound low part all is first held member supported within c in_part above =
    let top = first.header.round + 1 in
    let both = mixed top part all in
    let placed : AreInPlace both =
    λ round author d here. is.placed_all round author d (mixed_all top part all is.kept round author d here) in
    let held' : IsIn both first =
    ap (λ (f : ℕ → Option Certificate). f first.header.author.0)
    (mixed_up top part all first.header.round (omega arith)) ∙ held in
    let supported' : is_supported charter both first ≡ true =
    ap (λ (f : ℕ → Option Certificate). nat_le (support_of charter)
    (weight charter (λ m. option_map_or (is_parent first) (f m) false))) (mixed_up top part all top (omega arith))
    ∙ supported in
    let reached = reaches_leader charter sound both placed first held' member supported'
    (mixed_rooted charter low top part all is within) c
    (mixed_part top part all is.kept c.header.round c.header.author.0 c in_part) above in
    reaches_kept (length charter.keys) both all (mixed_all top part all is.kept) c first reached
