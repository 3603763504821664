-- The leaders that are newer after a step were held before it, and each reaches the one before.
use Rattle.std.proofs.Common.{◌≡◌, ◌⊎◌, ℕ, zero, suc, ◌+◌, ◌-◌, ◌*◌, ◌<◌, ◌≤◌, true, false, List, [], ◌∷◌, ◌++◌, length, Option, Some, inl, inr, refl, ap, sym, ◌∙◌, subst, arith}
use Rattle.std.specs.Prelude.{nat_le, option_and_then, Contains}
use Rattle.std.specs.Option.{option_map_or}
use Rattle.std.proofs.lemmas.Bool.{cases_Bool, cases_lt, leb-true, le-leb, true≢false}
use Rattle.std.proofs.lemmas.Option.{same_Some, none-some}
use Rattle.committee.specs.Charter.{IsCharter}
use Rattle.committee.proofs.Weights.{some_of_weight}
use Rattle.spec_model.specs.Ordering.{Ledger, size_in, reaches_in, leader, supports, has_support, top, newer_to, newer_at, newer, last_wave}
use Rattle.spec_model.specs.Slots.{Slots, is_parent, reaches}
use Rattle.spec_model.specs.Words.{Certificate}
use Rattle.spec_laws.proofs.Growing.{Extends, IsIn, grown, leader_in, leader_kept, reaches_same, reaches_new}
use Rattle.spec_laws.proofs.Lists.{given_or_none, Contains-nothing, Contains-cases}
use Rattle.spec_laws.proofs.OrderLonger.{is_top_of, top_leader, top_grows, directly_committed_leader, leader_place, newer_ends}
use Rattle.spec_laws.proofs.Weighing.{size_some, total_some}
use Rattle.spec_machine.specs.Machine.{last_leader}
use Rattle.tusk.proofs.Chains.{newer_at_is}

-- certificates that are held follow one on the other: each reaches the one before
abbrev pub AreChained : Ledger → Option Certificate → List Certificate → Type 0
AreChained ledger previous [] = Unit {0}
AreChained ledger previous (c ∷ rest) = IsIn ledger.slots c × (option_map_or (λ before. reaches_in ledger c before) previous true ≡ true) × AreChained ledger (Some c) rest

chained_push : (ledger : Ledger) (previous : Option Certificate) (front : List Certificate) (earlier last : Certificate) → AreChained ledger previous (front ++ earlier ∷ []) → IsIn ledger.slots last
    → reaches_in ledger last earlier ≡ true → AreChained ledger previous ((front ++ earlier ∷ []) ++ last ∷ [])
chained_push ledger previous [] earlier last chained held reached = (chained.0, chained.1, (held, reached, tt))
chained_push ledger previous (first ∷ front) earlier last chained held reached =
    (chained.0, chained.1, chained_push ledger (Some first) front earlier last chained.2 held reached)

-- each of them is held
pub chained_held : (ledger : Ledger) (previous : Option Certificate) (chain : List Certificate) → AreChained ledger previous chain → (c : Certificate) → Contains chain c → IsIn ledger.slots c
chained_held ledger previous [] chained c inside = absurd (Contains-nothing c inside)
chained_held ledger previous (first ∷ chain) chained c inside =
    elim (Contains-cases first chain c inside) [
      | inl same ↦ subst (IsIn ledger.slots) same chained.0
      | inr later ↦ chained_held ledger (Some first) chain chained.2 c later
    ]

-- what is held of the waves above a base reaches the leader before
abbrev pub ReachFrom : Ledger → Option Certificate → ℕ → Type 0
ReachFrom ledger previous base = (c : Certificate) → IsIn ledger.slots c → 2 * base + 1 ≤ c.header.round → option_map_or (λ before. reaches_in ledger c before) previous true ≡ true

-- what a certificate that was held reaches was held
was_held : (before : Ledger) (after : Slots) → Extends before.slots after → (start c : Certificate) → IsIn before.slots start → IsIn after c
    → reaches (size_in before) after start c ≡ true → IsIn before.slots c
was_held before after ext start c held there reached =
    elim (given_or_none (before.slots c.header.round c.header.author.0)) [
      | inl old ↦ old.1 ∙ ap (λ d. Some d) (same_Some old.0 c (sym (ext.kept c.header.round c.header.author.0 old.0 old.1) ∙ there))
      | inr none ↦ absurd (true≢false (sym reached ∙ reaches_new (size_in before) before.slots after ext start c.header.round c.header.author.0 c held none there))
    ]

chained_to : (before : Ledger) (after : Slots) → Extends before.slots after → 0 < size_in before → (more : List ℕ) (previous : Option Certificate) (base : ℕ) → ReachFrom before previous base
    → (wave : ℕ) (last : Certificate) → IsIn before.slots last → 2 * base + 1 ≤ last.header.round → AreChained before previous (newer_to (grown before after more) base wave last)
chained_to before after ext some more previous base reaching zero last held high = (held, reaching last held high, tt)
chained_to before after ext some more previous base reaching (suc wave) last held high =
    let now = grown before after more in
    let alone : AreChained before previous (last ∷ []) = (held, reaching last held high, tt) in
    let lower = chained_to before after ext some more previous base reaching wave last held high in
    elim (cases_Bool (nat_le (suc wave) base)) [
      | inl done ↦ let is : newer_to now base (suc wave) last ≡ last ∷ [] = rw done refl in subst (AreChained before previous) (sym is) alone
      | inr young ↦ elim (given_or_none (leader now (suc wave))) [
        | inr none ↦ let is : newer_to now base (suc wave) last ≡ newer_to now base wave last = rw (young, none) refl in subst (AreChained before previous) (sym is) lower
        | inl earlier ↦ elim (cases_Bool (reaches_in now last earlier.0)) [
          | inr missed ↦ let is : newer_to now base (suc wave) last ≡ newer_to now base wave last = rw (young, earlier.1, missed) refl in subst (AreChained before previous) (sym is) lower
          | inl reached ↦
              let is : newer_to now base (suc wave) last ≡ newer_to now base wave earlier.0 ++ last ∷ [] = rw (young, earlier.1, reached) refl in
              let place = leader_place now wave earlier.0 some ext.placed_after earlier.1 in
              let old = was_held before after ext last earlier.0 held (leader_in now (suc wave) earlier.0 ext.placed_after earlier.1) reached in
              let above : base ≤ wave = grind (arith, young) in
              let under = chained_to before after ext some more previous base reaching wave earlier.0 old (omega (arith, above, place.0)) in
              let ends = newer_ends now base wave earlier.0 in
              let reached' = sym (reaches_same (size_in before) before.slots after ext last earlier.0 held) ∙ reached in
              subst (AreChained before previous) (sym (is ∙ ap (λ l. l ++ last ∷ []) ends.1))
              (chained_push before previous ends.0 earlier.0 last (subst (AreChained before previous) ends.1 under) held reached')
        ]
      ]
    ]

-- a leader with support was held
supported_held : (before : Ledger) (after : Slots) → Extends before.slots after → IsCharter before.charter → (more : List ℕ) (c : Certificate)
    → IsIn after c → has_support (grown before after more) c ≡ true → IsIn before.slots c
supported_held before after ext sound more c there supported =
    elim (given_or_none (before.slots c.header.round c.header.author.0)) [
      | inl old ↦ old.1 ∙ ap (λ d. Some d) (same_Some old.0 c (sym (ext.kept c.header.round c.header.author.0 old.0 old.1) ∙ there))
      | inr none ↦
          let some = total_some before.charter sound in
          let enough = leb-true _ _ supported in
          let one = some_of_weight before.charter (supports (grown before after more) c) (omega (arith, some, enough)) in
          elim (given_or_none (after (c.header.round + 1) one.member)) [
            | inl child ↦
                let bad = ap (λ o. option_map_or (is_parent c) o false) (sym child.1) ∙ one.holds in
                absurd (true≢false (sym bad ∙ ext.childless c.header.round c.header.author.0 c none there (c.header.round + 1) one.member child.0 child.1))
            | inr nothing ↦ let bad = ap (λ o. option_map_or (is_parent c) o false) (sym nothing) ∙ one.holds in absurd (true≢false (sym bad))
          ]
    ]

-- ---- what comes after a step: nothing, or leaders up to that of a higher wave

pub record IsSame (before now : Ledger) : Type 0 where
  pub same : top now ≡ top before
  pub none : newer now (last_wave before) ≡ []

pub record IsHigher (before now : Ledger) (wave : ℕ) (last : Certificate) : Type 0 where
  pub is_top : top now ≡ Some (suc wave)
  pub leads : leader now (suc wave) ≡ Some last
  pub supported : has_support now last ≡ true
  pub low : last_wave before ≤ wave
  pub all : newer now (last_wave before) ≡ newer_to now (last_wave before) wave last

pub steps : (before : Ledger) (after : Slots) → Extends before.slots after → (more : List ℕ)
    → IsSame before (grown before after more) ⊎ ((wave : ℕ) × (last : Certificate) × IsHigher before (grown before after more) wave last)
steps before after ext more =
    let now = grown before after more in
    let base = last_wave before in
    elim (given_or_none (top now)) [
      | inr none ↦ elim (given_or_none (top before)) [
        | inr nothing ↦ inl (record { same = none ∙ sym nothing; none = ap (λ o. option_map_or (newer_at now base) o []) none })
        | inl was ↦ let greater = top_grows before after ext more was.0 was.1 in absurd (none-some greater.0 (sym none ∙ greater.1))
      ]
      | inl found ↦
          let facts = is_top_of now (length now.coins) found.0 found.1 in
          let some = facts.some in
          elim (cases_lt base found.0) [
            | inl higher ↦
                let wave = found.0 - 1 in
                let next : found.0 ≡ suc wave = omega (arith, some) in
                let lead = directly_committed_leader now found.0 facts.is in
                let at : newer now base ≡ newer_at now base found.0 = ap (λ o. option_map_or (newer_at now base) o []) found.1 in
                inr (
                  wave,
                  lead.0,
                  record {
                    is_top = found.1 ∙ ap (λ w. Some w) next;
                    leads = ap (leader now) (sym next) ∙ lead.1;
                    supported = lead.2;
                    low = omega (arith, higher, next);
                    all = at ∙ newer_at_is now base found.0 lead.0 higher lead.1;
                  },
                )
            | inr lower ↦ elim (given_or_none (top before)) [
              | inr nothing ↦ let least : base ≡ 0 = ap (λ o. option_map_or (λ w. w) o 0) nothing in absurd (omega (arith, least, lower, some))
              | inl was ↦
                  let is : base ≡ was.0 = ap (λ o. option_map_or (λ w. w) o 0) was.1 in
                  let greater = top_grows before after ext more was.0 was.1 in
                  let also : greater.0 ≡ found.0 = same_Some greater.0 found.0 (sym greater.1 ∙ found.1) in
                  let most = greater.2 in
                  let same : found.0 ≡ was.0 = omega (arith, is, also, most, lower) in
                  let old : nat_le found.0 base ≡ true = le-leb _ _ lower in
                  let at : newer now base ≡ newer_at now base found.0 = ap (λ o. option_map_or (newer_at now base) o []) found.1 in
                  let none : newer_at now base found.0 ≡ [] = rw old refl in
                  inl (record { same = found.1 ∙ ap (λ w. Some w) same ∙ sym was.1; none = at ∙ none })
            ]
          ]
    ]

-- the newer leaders are chained, over what was held before
pub newer_chained : (before : Ledger) (after : Slots) → Extends before.slots after → IsCharter before.charter
    → (more : List ℕ) (previous : Option Certificate) → ReachFrom before previous (last_wave before)
    → AreChained before previous (newer (grown before after more) (last_wave before))
newer_chained before after ext sound more previous reaching =
    let now = grown before after more in
    elim (steps before after ext more) [
      | inl same ↦ subst (AreChained before previous) (sym same.none) tt
      | inr higher ↦
          let wave = higher.0 in
          let last = higher.1 in
          let is = higher.2 in
          let size = size_some before.charter sound in
          let low = is.low in
          let place = leader_place now wave last size ext.placed_after is.leads in
          let held = supported_held before after ext sound more last (leader_in now (suc wave) last ext.placed_after is.leads) is.supported in
          subst (AreChained before previous) (sym is.all)
          (chained_to before after ext size more previous (last_wave before) reaching wave last held (omega (arith, place.0, low)))
    ]

-- the last leader, where nothing is newer, and where it is
pub same_last : (before : Ledger) (after : Slots) → Extends before.slots after → (more : List ℕ) → IsSame before (grown before after more) → last_leader (grown before after more) ≡ last_leader before
same_last before after ext more same =
    let now = grown before after more in
    elim (given_or_none (top before)) [
      | inr none ↦ ap (λ o. option_and_then (leader now) o) (same.same ∙ none) ∙ sym (ap (λ o. option_and_then (leader before) o) none)
      | inl found ↦
          let lead = top_leader before found.0 found.1 in
          ap (λ o. option_and_then (leader now) o) (same.same ∙ lead.1) ∙ leader_kept before after ext more (suc (found.0 - 1)) lead.0 lead.2
          ∙ sym (ap (λ o. option_and_then (leader before) o) lead.1 ∙ lead.2)
    ]

pub higher_last : (before now : Ledger) (wave : ℕ) (last : Certificate) → IsHigher before now wave last → last_leader now ≡ Some last
higher_last before now wave last is = ap (λ o. option_and_then (leader now) o) is.is_top ∙ is.leads
