-- The greatest committed wave, and the leaders that are newer than a committed one.
use Rattle.std.proofs.Common.{◌≡◌, ◌≢◌, ℕ, zero, suc, ◌+◌, ◌-◌, ◌*◌, ◌/◌, ◌%◌, ◌<◌, ◌≤◌, true, false, List, [], ◌∷◌, ◌++◌, map, length, Option, Some}
use Rattle.std.proofs.Common.{None, ◌⊎◌, inl, inr, refl, ap, sym, ◌∙◌, subst, arith}
use Rattle.std.specs.Prelude.{nat_le, slice_get, unwrap_or}
use Rattle.std.specs.Option.{option_map_or}
use Rattle.std.proofs.lemmas.Bool.{cases_Bool, cases_lt, le-leb, true≢false}
use Rattle.std.proofs.lemmas.Option.{slice_get_within}
use Rattle.std.proofs.lemmas.List.{map-append}
use Rattle.spec_model.specs.Ordering.{Ledger, size_in, leader, is_directly_committed, top_to, top, newer_to, newer_at, newer}
use Rattle.spec_model.specs.Words.{Author, Certificate}
use Rattle.spec_laws.proofs.Growing.{AreInPlace}
use Rattle.spec_laws.proofs.Lists.{given_or_none}
use Rattle.spec_laws.proofs.OrderLonger.{is_top_of, top_above, directly_committed_leader, leader_place, newer_ends}
use Rattle.dag.specs.Graph.{DagView, IsGraph, slots_in, size_in as size_of}
use Rattle.tusk.specs.Chain.{ledger_in, slot_of, wave_of, base_of, raised_to, IsBased, IsChain, IsSure}

-- ---- the greatest committed wave

-- a committed wave has a coin
pub committed_within : (ledger : Ledger) (wave : ℕ) → is_directly_committed ledger wave ≡ true → (0 < wave) × (wave ≤ length ledger.coins)
committed_within ledger zero is = absurd cc
committed_within ledger (suc wave) is =
    elim (given_or_none (slice_get ledger.coins wave)) [
      | inl coin ↦ let within = slice_get_within ledger.coins wave coin.0 coin.1 in (omega arith, omega (arith, within))
      | inr none ↦ let nothing = rw none at is in absurd cc
    ]

-- where no wave above a committed one is committed, that is the greatest
pub top_is : (ledger : Ledger) (wave : ℕ) → is_directly_committed ledger wave ≡ true → ((v : ℕ) → wave < v → v ≤ length ledger.coins → is_directly_committed ledger v ≡ false) → top ledger ≡ Some wave
top_is ledger wave is none =
    let within = committed_within ledger wave is in
    let above = top_above ledger (length ledger.coins) wave within.0 within.1 is in
    let facts = is_top_of ledger (length ledger.coins) above.0 above.1 in
    elim (cases_lt wave above.0) [
      | inl higher ↦ absurd (true≢false (sym facts.is ∙ none above.0 higher facts.within))
      | inr lowest ↦ let least = above.2 in let same : above.0 ≡ wave = omega (arith, lowest, least) in above.1 ∙ ap (λ w. Some w) same
    ]

top_none : (ledger : Ledger) → ((v : ℕ) → 0 < v → v ≤ length ledger.coins → is_directly_committed ledger v ≡ false) → top ledger ≡ None
top_none ledger none =
    elim (given_or_none (top ledger)) [
      | inl found ↦ let facts = is_top_of ledger (length ledger.coins) found.0 found.1 in absurd (true≢false (sym facts.is ∙ none found.0 facts.some facts.within))
      | inr nothing ↦ nothing
    ]

-- so it is where none was committed
pub top_stays : (ledger : Ledger) (last : Option ℕ) → IsSure ledger last → ((v : ℕ) → wave_of last < v → v ≤ length ledger.coins → is_directly_committed ledger v ≡ false) → top ledger ≡ last
top_stays ledger None sure none = top_none ledger none
top_stays ledger (Some wave) sure none = top_is ledger wave sure none

-- the greatest is committed
pub top_sure : (ledger : Ledger) (last : Option ℕ) → top ledger ≡ last → IsSure ledger last
top_sure ledger None is = tt
top_sure ledger (Some wave) is = (is_top_of ledger (length ledger.coins) wave is).is

-- and none above it is
pub above_top : (ledger : Ledger) (last : Option ℕ) → top ledger ≡ last → (v : ℕ) → wave_of last < v → v ≤ length ledger.coins → is_directly_committed ledger v ≡ false
above_top ledger last is v higher within =
    elim (cases_Bool (is_directly_committed ledger v)) [
      | inl here ↦
          let above = top_above ledger (length ledger.coins) v (omega (arith, higher)) within here in
          let same : wave_of last ≡ above.0 = ap wave_of (sym is ∙ above.1) in
          let least = above.2 in
          absurd (omega (arith, same, least, higher))
      | inr other ↦ other
    ]

-- a committed wave is the greatest, or below it
top_or_above : (ledger : Ledger) (last : Option ℕ) → IsSure ledger last → (top ledger ≡ last) ⊎ ((wave : ℕ) × (top ledger ≡ Some wave) × (wave_of last < wave))
top_or_above ledger None sure =
    elim (given_or_none (top ledger)) [
      | inl found ↦ inr (found.0, found.1, (is_top_of ledger (length ledger.coins) found.0 found.1).some)
      | inr none ↦ inl none
    ]
top_or_above ledger (Some wave) sure =
    let within = committed_within ledger wave sure in
    let above = top_above ledger (length ledger.coins) wave within.0 within.1 sure in
    elim (cases_lt wave above.0) [
      | inl higher ↦ inr (above.0, above.1, higher)
      | inr lowest ↦ let least = above.2 in let same : above.0 ≡ wave = omega (arith, lowest, least) in inl (above.1 ∙ ap (λ w. Some w) same)
    ]

-- a wave below the floor isn't: its leader isn't held
low_wave : (graph : DagView) → IsGraph graph → (coins : List ℕ) (wave : ℕ) → 2 * wave + 1 < graph.floor → is_directly_committed (ledger_in graph coins) (suc wave) ≡ false
low_wave graph is coins wave low =
    elim (given_or_none (slice_get coins wave)) [
      | inr none ↦ rw none refl
      | inl coin ↦ elim (given_or_none (slots_in graph (2 * wave + 1) (coin.0 % size_of graph))) [
        | inr nothing ↦ rw (coin.1, nothing) refl
        | inl c ↦ let above = is.above (2 * wave + 1) (coin.0 % size_of graph) c.0 c.1 in absurd (omega (arith, above, low))
      ]
    ]

low_waves : (graph : DagView) → IsGraph graph → (coins : List ℕ) (left : ℕ) → left ≤ graph.floor / 2 → top_to (ledger_in graph coins) left ≡ None
low_waves graph is coins zero low = refl
low_waves graph is coins (suc left) low =
    rw (low_wave graph is coins left (omega (arith, low))) (low_waves graph is coins left (omega (arith, low)))

-- where no wave down to that of the floor is committed, none is
pub top_found : (graph : DagView) → IsGraph graph → (coins : List ℕ) (left : ℕ) → left ≤ graph.floor / 2 → top (ledger_in graph coins)
    ≡ top_to (ledger_in graph coins) left → None ≡ top (ledger_in graph coins)
top_found graph is coins left low so_far = sym (so_far ∙ low_waves graph is coins left low)

-- ---- one wave that is committed now

-- of two ledgers the one has committed what the other has, and else no more than one wave
pub record IsStep (before now : Ledger) (wave : ℕ) : Type 0 where
  pub kept : (v : ℕ) → is_directly_committed before v ≡ true → is_directly_committed now v ≡ true
  pub same : (v : ℕ) → v ≢ wave → v ≤ length now.coins → is_directly_committed now v ≡ is_directly_committed before v
  pub fewer : (v : ℕ) → v ≢ wave → v ≤ length now.coins → v ≤ length before.coins

step_sure : (before now : Ledger) (wave : ℕ) (last : Option ℕ) → IsStep before now wave → IsSure before last → IsSure now last
step_sure before now wave None step sure = tt
step_sure before now wave (Some old) step sure = step.kept old sure

-- where that wave isn't, nothing is newer
pub step_none : (before now : Ledger) (wave : ℕ) (last : Option ℕ) → IsStep before now wave → top before ≡ last → (wave_of last < wave → is_directly_committed now wave ≡ false) → top now ≡ last
step_none before now wave last step is none =
    top_stays now last (step_sure before now wave last step (top_sure before last is))
    (λ v higher within. elim (cases_Bool (nat_le v wave)) [
      | inl low ↦ elim (cases_Bool (nat_le wave v)) [
        | inl high ↦
            let same : wave ≡ v = grind (arith, low, high) in
            ap (is_directly_committed now) (sym same) ∙ none (omega (arith, same, higher))
        | inr apart ↦ let apart' : v ≢ wave = grind (arith, apart) in step.same v apart' within ∙ above_top before last is v higher (step.fewer v apart' within)
      ]
      | inr apart ↦ let apart' : v ≢ wave = grind (arith, apart) in step.same v apart' within ∙ above_top before last is v higher (step.fewer v apart' within)
    ])

-- where it is, it is the greatest
pub step_some : (before now : Ledger) (wave : ℕ) (last : Option ℕ) → IsStep before now wave → top before ≡ last → wave_of last < wave → is_directly_committed now wave ≡ true → top now ≡ Some wave
step_some before now wave last step is higher here =
    top_is now wave here
    (λ v above within. let apart : v ≢ wave = omega (arith, above) in
    step.same v apart within ∙ above_top before last is v (omega (arith, above, higher)) (step.fewer v apart within))

-- ---- chains

-- where the greatest wave stays there is no newer leader
newer_none : (ledger : Ledger) (last : Option ℕ) → top ledger ≡ last → newer ledger (wave_of last) ≡ []
newer_none ledger None is = ap (λ o. option_map_or (newer_at ledger 0) o []) is
newer_none ledger (Some wave) is =
    let old : nat_le wave wave ≡ true = le-leb wave wave (omega arith) in
    ap (λ o. option_map_or (newer_at ledger wave) o []) is ∙ rw old refl

pub chain_none : (ledger : Ledger) (last : Option ℕ) (chain : List (ℕ × Author)) → top ledger ≡ last → chain ≡ [] → IsChain ledger last chain
chain_none ledger last chain is empty = record {
  newer = empty ∙ sym (ap (map slot_of) (newer_none ledger last is));
  top = is ∙ sym (ap (raised_to last) empty);
}

raised_pushed : (last : Option ℕ) (slots : List (ℕ × Author)) (slot : ℕ × Author) → raised_to last (slots ++ slot ∷ []) ≡ Some ((slot.0 + 1) / 2)
raised_pushed last [] slot = refl
raised_pushed last (first ∷ slots) slot = raised_pushed (Some ((first.0 + 1) / 2)) slots slot

-- the newer leaders are those of the greatest wave
newer_is : (ledger : Ledger) (base wave : ℕ) (c : Certificate) → top ledger ≡ Some (suc wave) → base ≤ wave → leader ledger (suc wave) ≡ Some c → newer ledger base ≡ newer_to ledger base wave c
newer_is ledger base wave c is low is_leader =
    let young : nat_le (suc wave) base ≡ false = grind (arith, low) in
    let below : suc wave - 1 ≡ wave = omega arith in
    let at : newer_at ledger base (suc wave) ≡ newer_to ledger base wave c =
    rw young (ap (λ w. option_map_or (newer_to ledger base w) (leader ledger (suc wave)) []) below ∙ ap (λ o. option_map_or (newer_to ledger base wave) o []) is_leader) in
    ap (λ o. option_map_or (newer_at ledger base) o []) is ∙ at

pub newer_at_is : (ledger : Ledger) (base wave : ℕ) (c : Certificate) → base < wave → leader ledger wave ≡ Some c → newer_at ledger base wave ≡ newer_to ledger base (wave - 1) c
newer_at_is ledger base wave c higher is_leader =
    let young : nat_le wave base ≡ false = grind (arith, higher) in
    rw young (ap (λ o. option_map_or (newer_to ledger base (wave - 1)) o []) is_leader)

pub chain_some : (ledger : Ledger) (last : Option ℕ) (wave : ℕ) (c : Certificate) (chain : List (ℕ × Author)) → 0 < size_in ledger
    → AreInPlace ledger.slots → top ledger ≡ Some (suc wave) → wave_of last ≤ wave
    → leader ledger (suc wave) ≡ Some c → chain ≡ map slot_of (newer_to ledger (wave_of last) wave c) → IsChain ledger last chain
chain_some ledger last wave c chain some placed is low is_leader all =
    let place = leader_place ledger wave c some placed is_leader in
    let ends = newer_ends ledger (wave_of last) wave c in
    let half : (c.header.round + 1) / 2 ≡ suc wave = omega (arith, place.0) in
    let raised : raised_to last (map slot_of (ends.0 ++ c ∷ [])) ≡ Some (suc wave) =
    ap (raised_to last) (map-append slot_of ends.0 (c ∷ [])) ∙ raised_pushed last (map slot_of ends.0) (slot_of c) ∙ ap (λ w. Some w) half in
    record {
      newer = all ∙ sym (ap (map slot_of) (newer_is ledger (wave_of last) wave c is low is_leader));
      top = is ∙ sym raised ∙ ap (λ l. raised_to last (map slot_of l)) (sym ends.1) ∙ ap (raised_to last) (sym all);
    }

-- after a committed wave the newer leaders are a chain
pub chain_all : (ledger : Ledger) (last : Option ℕ) (chain : List (ℕ × Author)) → 0 < size_in ledger → AreInPlace ledger.slots → IsSure ledger last
    → chain ≡ map slot_of (newer ledger (wave_of last)) → IsChain ledger last chain
chain_all ledger last chain some placed sure all =
    elim (top_or_above ledger last sure) [
      | inl is ↦ chain_none ledger last chain is (all ∙ ap (map slot_of) (newer_none ledger last is))
      | inr higher ↦
          let wave = higher.0 - 1 in
          let less = higher.2 in
          let next : higher.0 ≡ suc wave = omega (arith, less) in
          let is : top ledger ≡ Some (suc wave) = higher.1 ∙ ap (λ w. Some w) next in
          let lead = directly_committed_leader ledger (suc wave) (is_top_of ledger (length ledger.coins) (suc wave) is).is in
          let low : wave_of last ≤ wave = omega (arith, less, next) in
          chain_some ledger last wave lead.0 chain some placed is low lead.1 (all ∙ ap (map slot_of) (newer_is ledger (wave_of last) wave lead.0 is low lead.1))
    ]

-- ---- the last committed wave

pub base_low : (last : Option ℕ) → base_of last ≤ 2 * wave_of last + 1
base_low None = omega arith
base_low (Some wave) = omega arith

pub wave_is : (last : Option ℕ) → unwrap_or last 0 ≡ wave_of last
wave_is None = refl
wave_is (Some wave) = refl

-- it has a coin
pub top_within : (ledger : Ledger) (last : Option ℕ) → top ledger ≡ last → wave_of last ≤ length ledger.coins
top_within ledger None is = omega arith
top_within ledger (Some wave) is = (is_top_of ledger (length ledger.coins) wave is).within

-- where the base is its leader's round, the DAG is based
pub is_based : (graph : DagView) (coins : List ℕ) (last : Option ℕ) → graph.base ≡ base_of last → IsSure (ledger_in graph coins) last → IsBased graph coins
is_based graph coins None base sure = record { odd = omega (arith, base); committed = λ above. absurd (omega (arith, base, above)) }
is_based graph coins (Some wave) base sure =
    let some = (committed_within (ledger_in graph coins) wave sure).0 in
    let half : wave ≡ (graph.base + 1) / 2 = omega (arith, base, some) in
    record { odd = omega (arith, base, some); committed = λ _. subst (λ w. is_directly_committed (ledger_in graph coins) w ≡ true) half sure }
