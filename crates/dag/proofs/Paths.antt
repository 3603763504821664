-- Paths by their first step: whatever a certificate reaches below itself, it reaches over a parent.
use Rattle.std.proofs.Common.{◌≡◌, ℕ, zero, suc, ◌+◌, ◌-◌, ◌<◌, true, Some, ap, sym, ◌∙◌, subst, arith}
use Rattle.std.specs.Prelude.{Contains, nat_le, ◌==◌, ◌&&◌}
use Rattle.std.specs.List.{list_any}
use Rattle.std.proofs.lemmas.Bool.{and_parts, and_from, eqb-true, leb-true, le-leb}
use Rattle.std.proofs.lemmas.Option.{same_Some}
use Rattle.committee.specs.Charter.{numbers}
use Rattle.spec_model.specs.Slots.{Slots, is_of_slot, round_of, is_named, is_parent, has_path, reaches}
use Rattle.spec_model.specs.Words.{Certificate}
use Rattle.spec_laws.proofs.Growing.{AreInPlace, IsIn, is_in}
use Rattle.spec_laws.proofs.Lists.{Contains-made, Contains-makes}
use Rattle.spec_laws.proofs.Meeting.{any_to, number_in}
use Rattle.spec_laws.proofs.Votes.{slot_is, of_its_slot}
use Rattle.dag.proofs.Tests.{any_from}

-- a certificate that a slot of a member holds is among those of its round
pub in_round : (n : ℕ) (slots : Slots) (round author : ℕ) (c : Certificate) → author < n → slots round author ≡ Some c → Contains (round_of n slots round) c
in_round n slots round author c member held = Contains-makes (slots round) (numbers n) author c (number_in 0 n author (omega arith) (omega (arith, member))) held

-- two certificates that are held, of one slot, are one
pub same_held : (slots : Slots) (one other : Certificate) → IsIn slots one → IsIn slots other → is_of_slot one.header.round one.header.author.0 other.header ≡ true → one ≡ other
same_held slots one other held held' of =
    let place = slot_is one.header.round one.header.author.0 other.header of in
    same_Some one other (sym held ∙ ap (λ r. slots r one.header.author.0) (sym place.0) ∙ ap (slots other.header.round) (sym place.1) ∙ held')

-- a parent of a certificate, over which that reaches another one in so many further steps
pub record IsOver (n : ℕ) (slots : Slots) (steps : ℕ) (child end : Certificate) : Type 0 where
  pub parent : Certificate
  pub held : IsIn slots parent
  pub names : is_parent parent child ≡ true
  pub path : has_path n slots steps parent end ≡ true

-- the first step of a path
pub first_step : (n : ℕ) (slots : Slots) → AreInPlace slots → (steps : ℕ) (child end : Certificate) → IsIn slots child → IsIn slots end
    → has_path n slots (suc steps) child end ≡ true → IsOver n slots steps child end
first_step n slots placed zero child end held held' path =
    let found = any_to (λ c. has_path n slots zero child c && is_parent end c) (round_of n slots (end.header.round + 1)) path in
    let parts = and_parts (has_path n slots zero child found.0) (is_parent end found.0) found.2 in
    let made = Contains-made (slots (end.header.round + 1)) (numbers n) found.0 found.1 in
    let same : child ≡ found.0 = same_held slots child found.0 held (is_in slots (end.header.round + 1) made.0 found.0 placed made.2) parts.0 in
    record { parent = end; held = held'; names = ap (is_parent end) same ∙ parts.1; path = of_its_slot end.header }
first_step n slots placed (suc steps) child end held held' path =
    let found = any_to (λ c. has_path n slots (suc steps) child c && is_parent end c) (round_of n slots (end.header.round + 1)) path in
    let parts = and_parts (has_path n slots (suc steps) child found.0) (is_parent end found.0) found.2 in
    let made = Contains-made (slots (end.header.round + 1)) (numbers n) found.0 found.1 in
    let over = first_step n slots placed steps child found.0 held (is_in slots (end.header.round + 1) made.0 found.0 placed made.2) parts.0 in
    record {
      parent = over.parent;
      held = over.held;
      names = over.names;
      path = any_from (λ c. has_path n slots steps over.parent c && is_parent end c) (round_of n slots (end.header.round + 1)) found.0 found.1 (and_from _ _ over.path parts.1);
    }

-- a path from a parent is one from its child, with one step more
pub step_before : (n : ℕ) (slots : Slots) → AreInPlace slots → (steps : ℕ) (child parent end : Certificate) → IsIn slots child → child.header.author.0 < n → IsIn slots parent → IsIn slots end
    → is_parent parent child ≡ true → has_path n slots steps parent end ≡ true → has_path n slots (suc steps) child end ≡ true
step_before n slots placed zero child parent end held member held_parent held_end names path =
    let same : parent ≡ end = same_held slots parent end held_parent held_end path in
    let named : is_parent end child ≡ true = ap (λ p. is_parent p child) (sym same) ∙ names in
    let above = eqb-true _ _ (and_parts (end.header.round + 1 == child.header.round) (list_any (is_named end) child.header.parents) named).0 in
    let there : slots (end.header.round + 1) child.header.author.0 ≡ Some child = ap (λ r. slots r child.header.author.0) above ∙ held in
    any_from (λ c. has_path n slots 0 child c && is_parent end c) (round_of n slots (end.header.round + 1)) child
    (in_round n slots (end.header.round + 1) child.header.author.0 child member there)
    (and_from _ _ (of_its_slot child.header) named)
step_before n slots placed (suc steps) child parent end held member held_parent held_end names path =
    let found = any_to (λ c. has_path n slots steps parent c && is_parent end c) (round_of n slots (end.header.round + 1)) path in
    let parts = and_parts (has_path n slots steps parent found.0) (is_parent end found.0) found.2 in
    let made = Contains-made (slots (end.header.round + 1)) (numbers n) found.0 found.1 in
    let longer = step_before n slots placed steps child parent found.0 held member held_parent (is_in slots (end.header.round + 1) made.0 found.0 placed made.2) names parts.0 in
    any_from (λ c. has_path n slots (suc steps) child c && is_parent end c) (round_of n slots (end.header.round + 1)) found.0 found.1 (and_from _ _ longer parts.1)

-- a parent is of the round below
pub parent_below : (parent child : Certificate) → is_parent parent child ≡ true → parent.header.round + 1 ≡ child.header.round
parent_below parent child names = eqb-true _ _ (and_parts (parent.header.round + 1 == child.header.round) (list_any (is_named parent) child.header.parents) names).0

-- a parent of a certificate that reaches another one
pub record ReachesOver (n : ℕ) (slots : Slots) (child end : Certificate) : Type 0 where
  pub parent : Certificate
  pub held : IsIn slots parent
  pub names : is_parent parent child ≡ true
  pub reached : reaches n slots parent end ≡ true

-- what is reached below a certificate is reached over a parent
pub reached_first : (n : ℕ) (slots : Slots) → AreInPlace slots → (child end : Certificate) → IsIn slots child → IsIn slots end
    → end.header.round < child.header.round → reaches n slots child end ≡ true → ReachesOver n slots child end
reached_first n slots placed child end held held' lower reached =
    let path = (and_parts (nat_le end.header.round child.header.round) (has_path n slots (child.header.round - end.header.round) child end) reached).1 in
    let steps = (child.header.round - 1) - end.header.round in
    let count : child.header.round - end.header.round ≡ suc steps = omega (arith, lower) in
    let over = first_step n slots placed steps child end held held' (subst (λ k. has_path n slots k child end ≡ true) count path) in
    let below = parent_below over.parent child over.names in
    let rest : steps ≡ over.parent.header.round - end.header.round = omega (arith, below) in
    record {
      parent = over.parent;
      held = over.held;
      names = over.names;
      reached = and_from (nat_le end.header.round over.parent.header.round)
          (has_path n slots (over.parent.header.round - end.header.round) over.parent end)
          (le-leb end.header.round over.parent.header.round (omega (arith, below, lower)))
          (subst (λ k. has_path n slots k over.parent end ≡ true) rest over.path);
    }

-- and what a parent reaches its child reaches
pub reached_above : (n : ℕ) (slots : Slots) → AreInPlace slots → (child parent end : Certificate) → IsIn slots child → child.header.author.0 < n → IsIn slots parent → IsIn slots end
    → is_parent parent child ≡ true → reaches n slots parent end ≡ true → reaches n slots child end ≡ true
reached_above n slots placed child parent end held member held_parent held_end names reached =
    let parts = and_parts (nat_le end.header.round parent.header.round) (has_path n slots (parent.header.round - end.header.round) parent end) reached in
    let within = leb-true end.header.round parent.header.round parts.0 in
    let below = parent_below parent child names in
    let longer = step_before n slots placed (parent.header.round - end.header.round) child parent end held member held_parent held_end names parts.1 in
    let count : suc (parent.header.round - end.header.round) ≡ child.header.round - end.header.round = omega (arith, below, within) in
    and_from _ _ (le-leb end.header.round child.header.round (omega (arith, within, below))) (subst (λ k. has_path n slots k child end ≡ true) count longer)

-- each reaches itself
pub reached_self : (n : ℕ) (slots : Slots) (c : Certificate) → reaches n slots c c ≡ true
reached_self n slots c =
    let none : 0 ≡ c.header.round - c.header.round = omega arith in
    and_from _ _ (le-leb c.header.round c.header.round (omega arith)) (subst (λ k. has_path n slots k c c ≡ true) none (of_its_slot c.header))

-- of its own round nothing else
pub reached_level : (n : ℕ) (slots : Slots) (one other : Certificate) → IsIn slots one → IsIn slots other → other.header.round ≡ one.header.round → reaches n slots one other ≡ true → one ≡ other
reached_level n slots one other held held' level reached =
    let path = (and_parts (nat_le other.header.round one.header.round) (has_path n slots (one.header.round - other.header.round) one other) reached).1 in
    let none : one.header.round - other.header.round ≡ 0 = omega (arith, level) in
    same_held slots one other held held' (subst (λ k. has_path n slots k one other ≡ true) none path)
