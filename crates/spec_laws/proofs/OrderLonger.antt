-- The order of a ledger begins that of each whose slots extend its own.
use Rattle.std.proofs.Common.{◌≡◌, ℕ, zero, suc, ◌+◌, ◌-◌, ◌*◌, ◌%◌, ◌<◌, ◌≤◌, true, List, [], ◌∷◌, ◌++◌, map, length, Some, None, inl, inr, refl, ap, sym, ◌∙◌, subst, arith}
use Rattle.std.specs.Prelude.{Contains, Option, slice_get, nat_le, false}
use Rattle.std.specs.Option.{option_map_or}
use Rattle.std.proofs.lemmas.Bool.{cases_Bool, cases_lt, le-leb, true≢false}
use Rattle.std.proofs.lemmas.Option.{same_Some, none-some}
use Rattle.std.proofs.lemmas.List.{append_assoc, append-nil, length-append, map-append}
use Rattle.std.proofs.lemmas.Nat.{mod_below}
use Rattle.std.proofs.lemmas.List.Elements.{Contains-push_cases}
use Rattle.committee.specs.Charter.{IsCharter}
use Rattle.wire.specs.Lists.{Begins}
use Rattle.spec_model.specs.Ordering.{Ledger, size_in, reaches_in, leader, has_support, is_directly_committed, top_to, top, segments, committed, newer_to, newer_at, newer, last_wave, order_by}
use Rattle.spec_model.specs.Slots.{Slots, certificate_digest, reaches}
use Rattle.spec_model.specs.Words.{Certificate, Digest}
use Rattle.spec_laws.proofs.Growing.{AreInPlace, Extends, IsIn, grown, segments_same, segments-append, reaches_same, reaches_new, leader_kept, leader_new, leader_in, directly_committed_kept}
use Rattle.spec_laws.proofs.Lists.{given_or_none, Contains-nothing}
use Rattle.spec_laws.proofs.Meeting.{AreRooted, is_supported, reaches_leader}
use Rattle.spec_laws.proofs.Votes.{slot_is}
use Rattle.spec_laws.proofs.Weighing.{size_some}

-- ---- the greatest wave that is directly committed

-- it is committed, and within
pub record IsTop (ledger : Ledger) (most wave : ℕ) : Type 0 where
  pub some : 0 < wave
  pub within : wave ≤ most
  pub is : is_directly_committed ledger wave ≡ true

pub is_top_of : (ledger : Ledger) (most wave : ℕ) → top_to ledger most ≡ Some wave → IsTop ledger most wave
is_top_of ledger zero wave found = absurd cc
is_top_of ledger (suc most) wave found =
    elim (cases_Bool (is_directly_committed ledger (suc most))) [
      | inl here ↦
          let found' = rw here at found in
          let same : suc most ≡ wave = same_Some (suc most) wave found' in
          record { some = omega (arith, same); within = omega (arith, same); is = subst (λ w. is_directly_committed ledger w ≡ true) same here }
      | inr other ↦
          let found' = rw other at found in
          let lower = is_top_of ledger most wave found' in
          record { some = lower.some; within = omega (arith, lower.within); is = lower.is }
    ]

-- where a wave is committed, the greatest one is no lower
pub top_above : (ledger : Ledger) (most wave : ℕ) → 0 < wave → wave ≤ most → is_directly_committed ledger wave ≡ true
    → (greatest : ℕ) × (top_to ledger most ≡ Some greatest) × (wave ≤ greatest)
top_above ledger zero wave some within is = absurd (omega (arith, some, within))
top_above ledger (suc most) wave some within is =
    elim (cases_Bool (is_directly_committed ledger (suc most))) [
      | inl here ↦ (suc most, rw here refl, within)
      | inr other ↦ elim (cases_lt most wave) [
        | inl last ↦
            let same : wave ≡ suc most = omega (arith, last, within) in
            absurd (true≢false (sym is ∙ ap (is_directly_committed ledger) same ∙ other))
        | inr lower ↦ let found = top_above ledger most wave some lower is in (found.0, rw other found.1, found.2)
      ]
    ]

-- a directly committed wave has a leader with support
pub directly_committed_leader : (ledger : Ledger) (wave : ℕ) → is_directly_committed ledger wave ≡ true
    → (c : Certificate) × (leader ledger wave ≡ Some c) × (has_support ledger c ≡ true)
directly_committed_leader ledger wave is =
    elim (given_or_none (leader ledger wave)) [
      | inl found ↦ let supported = rw found.1 at is in (found.0, found.1, supported)
      | inr none ↦ let nothing = rw none at is in absurd cc
    ]

-- the greatest wave that is directly committed isn't 0, and has a leader
pub top_leader : (ledger : Ledger) (wave : ℕ) → top ledger ≡ Some wave
    → (last : Certificate) × (top ledger ≡ Some (suc (wave - 1))) × (leader ledger (suc (wave - 1)) ≡ Some last)
top_leader ledger wave found =
    let facts = is_top_of ledger (length ledger.coins) wave found in
    let some = facts.some in
    let next : wave ≡ suc (wave - 1) = omega (arith, some) in
    let lead = directly_committed_leader ledger wave facts.is in
    (lead.0, found ∙ ap (λ w. Some w) next, ap (leader ledger) (sym next) ∙ lead.1)

-- the leader of a wave has its first round, and a member as its author
pub leader_place : (ledger : Ledger) (wave : ℕ) (c : Certificate) → 0 < size_in ledger → AreInPlace ledger.slots → leader ledger (suc wave) ≡ Some c
    → (c.header.round ≡ 2 * wave + 1) × (c.header.author.0 < size_in ledger)
leader_place ledger wave c some placed is =
    elim (given_or_none (slice_get ledger.coins wave)) [
      | inl coin ↦
          let held = rw coin.1 at is in
          let place = slot_is (2 * wave + 1) (coin.0 % size_in ledger) c.header (placed (2 * wave + 1) (coin.0 % size_in ledger) c held) in
          (place.0, subst (λ a. a < size_in ledger) (sym place.1) (mod_below coin.0 (size_in ledger) some))
      | inr none ↦ let nothing = rw none at is in absurd cc
    ]

-- ---- the leaders

-- those that are committed with one end with it
pub newer_ends : (ledger : Ledger) (base wave : ℕ) (last : Certificate) → (front : List Certificate) × (newer_to ledger base wave last ≡ front ++ last ∷ [])
newer_ends ledger base zero last = ([], refl)
newer_ends ledger base (suc wave) last =
    elim (cases_Bool (nat_le (suc wave) base)) [
      | inl done ↦ ([], rw done refl)
      | inr young ↦ elim (given_or_none (leader ledger (suc wave))) [
        | inl earlier ↦ elim (cases_Bool (reaches_in ledger last earlier.0)) [
          | inl reached ↦ (newer_to ledger base wave earlier.0, rw (young, earlier.1, reached) refl)
          | inr missed ↦ let lower = newer_ends ledger base wave last in (lower.0, rw (young, earlier.1, missed) lower.1)
        ]
        | inr none ↦ let lower = newer_ends ledger base wave last in (lower.0, rw (young, none) lower.1)
      ]
    ]

-- they are held
pub newer_held : (ledger : Ledger) → AreInPlace ledger.slots → (base wave : ℕ) (last c : Certificate) → IsIn ledger.slots last → Contains (newer_to ledger base wave last) c → IsIn ledger.slots c
newer_held ledger placed base zero last c held inside =
    elim (Contains-push_cases [] last c inside) [ inl none ↦ absurd (Contains-nothing c none) | inr same ↦ subst (IsIn ledger.slots) same held ]
newer_held ledger placed base (suc wave) last c held inside =
    elim (cases_Bool (nat_le (suc wave) base)) [
      | inl done ↦
          let inside' = rw done at inside in
          elim (Contains-push_cases [] last c inside') [ inl none ↦ absurd (Contains-nothing c none) | inr same ↦ subst (IsIn ledger.slots) same held ]
      | inr young ↦ elim (given_or_none (leader ledger (suc wave))) [
        | inl earlier ↦ elim (cases_Bool (reaches_in ledger last earlier.0)) [
          | inl reached ↦
              let inside' = rw (young, earlier.1, reached) at inside in
              elim (Contains-push_cases (newer_to ledger base wave earlier.0) last c inside') [
                | inl before ↦ newer_held ledger placed base wave earlier.0 c (leader_in ledger (suc wave) earlier.0 placed earlier.1) before
                | inr same ↦ subst (IsIn ledger.slots) same held
              ]
          | inr missed ↦ let inside' = rw (young, earlier.1, missed) at inside in newer_held ledger placed base wave last c held inside'
        ]
        | inr none ↦ let inside' = rw (young, none) at inside in newer_held ledger placed base wave last c held inside'
      ]
    ]

-- what the leaders above a wave order, after the one before them
abbrev pub since : Ledger → ℕ → Option Certificate → List Digest
since ledger base previous = map (λ c. certificate_digest c.header) (segments ledger previous (newer ledger base))

-- what is given of a ledger, and of slots that extend its own
pub record IsLonger (before : Ledger) (after : Slots) : Type 0 where
  pub sound : IsCharter before.charter
  pub ext : Extends before.slots after
  -- what stands above a leader that was committed names a quorum that is held
  pub rooted : (wave : ℕ) (c : Certificate) → top before ≡ Some wave → leader before wave ≡ Some c → AreRooted before.charter after (c.header.round + 1)

-- a leader that was committed is reached from all that stands above it
reached_from : (before : Ledger) (after : Slots) → IsLonger before after → (wave : ℕ) (last c : Certificate) → top before ≡ Some (suc wave) → leader before (suc wave) ≡ Some last
    → is_supported before.charter after last ≡ true → IsIn after c → last.header.round + 2 ≤ c.header.round → reaches (size_in before) after c last ≡ true
reached_from before after longer wave last c is_top is_last supported held above =
    let held_last = leader_in before (suc wave) last longer.ext.placed_before is_last in
    reaches_leader before.charter longer.sound after longer.ext.placed_after last (longer.ext.kept last.header.round last.header.author.0 last held_last)
    (leader_place before wave last (size_some before.charter longer.sound) longer.ext.placed_before is_last).1 supported (longer.rooted (suc wave) last is_top is_last) c held above

-- the newer leaders committed with one that was held are as before
newer_same : (before : Ledger) (after : Slots) → Extends before.slots after → (more : List ℕ) (base wave : ℕ) (last : Certificate) → wave ≤ length before.coins → IsIn before.slots last
    → newer_to (grown before after more) base wave last ≡ newer_to before base wave last
newer_same before after ext more base zero last within held = refl
newer_same before after ext more base (suc wave) last within held =
    let lower = newer_same before after ext more base wave last (omega (arith, within)) held in
    elim (cases_Bool (nat_le (suc wave) base)) [
      | inl done ↦ rw done refl
      | inr young ↦ elim (given_or_none (leader before (suc wave))) [
        | inl earlier ↦
            let also = leader_kept before after ext more (suc wave) earlier.0 earlier.1 in
            let same = reaches_same (size_in before) before.slots after ext last earlier.0 held in
            let under = newer_same before after ext more base wave earlier.0 (omega (arith, within)) (leader_in before (suc wave) earlier.0 ext.placed_before earlier.1) in
            elim (cases_Bool (reaches (size_in before) before.slots last earlier.0)) [
              | inl reached ↦ let reached' = same ∙ reached in rw (young, earlier.1, also, reached, reached') (ap (λ l. l ++ last ∷ []) under)
              | inr missed ↦ let missed' = same ∙ missed in rw (young, earlier.1, also, missed, missed') lower
            ]
        | inr none ↦ elim (given_or_none (leader (grown before after more) (suc wave))) [
          | inl new ↦
              let fresh = leader_new before after more (suc wave) new.0 within none new.1 in
              let missed = reaches_new (size_in before) before.slots after ext last fresh.0 fresh.1 new.0 held fresh.2 fresh.3 in
              rw (young, none, new.1, missed) lower
          | inr nothing ↦ rw (young, none, nothing) lower
        ]
      ]
    ]

pub not_old : (base wave : ℕ) → base < wave → nat_le wave base ≡ false
not_old base wave less = grind (arith, less)

-- after the leaders that were committed come only leaders of later waves
newer_longer : (before : Ledger) (after : Slots) → IsLonger before after → (more : List ℕ) (base wave : ℕ) (last : Certificate) → base ≤ wave → top before ≡ Some (suc wave)
    → leader before (suc wave) ≡ Some last → is_supported before.charter after last ≡ true → suc wave ≤ length before.coins
    → (higher : ℕ) (c : Certificate) → wave < higher → IsIn after c → last.header.round + 2 ≤ c.header.round
    → newer_to (grown before after more) base higher c ≡ newer_to before base wave last ++ newer_to (grown before after more) (suc wave) higher c
newer_longer before after longer more base wave last low is_top is_last supported within zero c less held above = absurd (omega (arith, less))
newer_longer before after longer more base wave last low is_top is_last supported within (suc higher) c less held above =
    let held_last = leader_in before (suc wave) last longer.ext.placed_before is_last in
    let size = size_some before.charter longer.sound in
    let past : nat_le (suc higher) base ≡ false = not_old base (suc higher) (omega (arith, low, less)) in
    elim (cases_lt wave higher) [
      | inr lowest ↦
          let same : higher ≡ wave = omega (arith, lowest, less) in
          let old : nat_le (suc higher) (suc wave) ≡ true = le-leb _ _ (omega (arith, lowest)) in
          let also : leader (grown before after more) (suc higher) ≡ Some last =
          ap (λ w. leader (grown before after more) (suc w)) same ∙ leader_kept before after longer.ext more (suc wave) last is_last in
          let reached = reached_from before after longer wave last c is_top is_last supported held above in
          let under : newer_to (grown before after more) base higher last ≡ newer_to before base wave last =
          ap (λ w. newer_to (grown before after more) base w last) same ∙ newer_same before after longer.ext more base wave last (omega (arith, within)) held_last in
          rw (past, old, also, reached) (ap (λ l. l ++ c ∷ []) under)
      | inl below ↦
          let young : nat_le (suc higher) (suc wave) ≡ false = not_old (suc wave) (suc higher) (omega (arith, below)) in
          let lower = newer_longer before after longer more base wave last low is_top is_last supported within higher c below held above in
          elim (given_or_none (leader (grown before after more) (suc higher))) [
            | inr none ↦ rw (past, young, none) lower
            | inl earlier ↦ elim (cases_Bool (reaches (size_in before) after c earlier.0)) [
              | inr missed ↦ rw (past, young, earlier.1, missed) lower
              | inl reached ↦
                  let place = leader_place (grown before after more) higher earlier.0 size longer.ext.placed_after earlier.1 in
                  let place' = leader_place before wave last size longer.ext.placed_before is_last in
                  let held_earlier = leader_in (grown before after more) (suc higher) earlier.0 longer.ext.placed_after earlier.1 in
                  let under = newer_longer before after longer more base wave last low is_top is_last supported within higher earlier.0 below held_earlier
                  (omega (arith, place.0, place'.0, below)) in
                  rw (past, young, earlier.1, reached)
                  (ap (λ l. l ++ c ∷ []) under ∙ append_assoc (newer_to before base wave last) (newer_to (grown before after more) (suc wave) higher earlier.0) (c ∷ []))
            ]
          ]
    ]

-- those that are committed are those up to the greatest wave that is so directly
pub committed_is : (ledger : Ledger) (wave : ℕ) (last : Certificate) → top ledger ≡ Some (suc wave) → leader ledger (suc wave) ≡ Some last
    → committed ledger ≡ newer_to ledger 0 wave last
committed_is ledger wave last at_top is_last =
    let young = not_old 0 (suc wave) (omega arith) in
    let below : suc wave - 1 ≡ wave = omega arith in
    let at : newer_at ledger 0 (suc wave) ≡ newer_to ledger 0 wave last =
    rw young (ap (λ w. option_map_or (newer_to ledger 0 w) (leader ledger (suc wave)) []) below ∙ ap (λ o. option_map_or (newer_to ledger 0 wave) o []) is_last) in
    ap (λ o. option_map_or (newer_at ledger 0) o []) at_top ∙ at

-- ---- the order

-- the newer leaders are those from before and then newer ones
newer_joined : (before : Ledger) (after : Slots) → IsLonger before after → (more : List ℕ) (base wave : ℕ) (last : Certificate) → base ≤ suc wave → top before ≡ Some (suc wave)
    → leader before (suc wave) ≡ Some last → newer (grown before after more) base ≡ newer before base ++ newer (grown before after more) (suc wave)
newer_joined before after longer more base wave last low is_top is_last =
    let facts = is_top_of before (length before.coins) (suc wave) is_top in
    let within = facts.within in
    let long = length-append before.coins more in
    let stays = directly_committed_kept before after longer.ext more (suc wave) facts.is in
    let above = top_above (grown before after more) (length (before.coins ++ more)) (suc wave) facts.some (omega (arith, within, long)) stays in
    let facts' = is_top_of (grown before after more) (length (before.coins ++ more)) above.0 above.1 in
    let found = directly_committed_leader (grown before after more) above.0 facts'.is in
    let supported = directly_committed_leader (grown before after more) (suc wave) stays in
    let also = leader_kept before after longer.ext more (suc wave) last is_last in
    let same_last : supported.0 ≡ last = same_Some supported.0 last (sym supported.1 ∙ also) in
    let support : is_supported before.charter after last ≡ true = ap (is_supported before.charter after) (sym same_last) ∙ supported.2 in
    let is_newer : (b : ℕ) → newer (grown before after more) b ≡ newer_at (grown before after more) b above.0 = λ b. ap (λ o. option_map_or (newer_at (grown before after more) b) o []) above.1 in
    let was : newer before base ≡ newer_at before base (suc wave) = ap (λ o. option_map_or (newer_at before base) o []) is_top in
    let rest = newer (grown before after more) (suc wave) in
    elim (cases_lt wave base) [
      | inl highest ↦
          let same : base ≡ suc wave = omega (arith, highest, low) in
          let old : nat_le (suc wave) base ≡ true = le-leb _ _ (omega (arith, highest)) in
          let none : newer_at before base (suc wave) ≡ [] = rw old refl in
          ap (newer (grown before after more)) same ∙ ap (λ l. l ++ rest) (sym (was ∙ none))
      | inr lower ↦
          let young = not_old base (suc wave) (omega (arith, lower)) in
          let below : suc wave - 1 ≡ wave = omega arith in
          let first = newer_to before base wave last in
          let was_first : newer_at before base (suc wave) ≡ first =
          rw young (ap (λ w. option_map_or (newer_to before base w) (leader before (suc wave)) []) below ∙ ap (λ o. option_map_or (newer_to before base wave) o []) is_last) in
          let past : nat_le above.0 base ≡ false = let not_lower = above.2 in not_old base above.0 (omega (arith, lower, not_lower)) in
          let now : newer_at (grown before after more) base above.0 ≡ newer_to (grown before after more) base (above.0 - 1) found.0 =
          rw past (ap (λ o. option_map_or (newer_to (grown before after more) base (above.0 - 1)) o []) found.1) in
          elim (cases_lt (suc wave) above.0) [
            | inr lowest ↦
                let not_lower = above.2 in
                let same : above.0 ≡ suc wave = omega (arith, lowest, not_lower) in
                let is_same : found.0 ≡ last = same_Some found.0 last (sym found.1 ∙ ap (leader (grown before after more)) same ∙ also) in
                let under : above.0 - 1 ≡ wave = omega (arith, same) in
                let old : nat_le above.0 (suc wave) ≡ true = le-leb _ _ lowest in
                let none : newer_at (grown before after more) (suc wave) above.0 ≡ [] = rw old refl in
                is_newer base ∙ now ∙ ap (λ w. newer_to (grown before after more) base w found.0) under ∙ ap (newer_to (grown before after more) base wave) is_same
                ∙ newer_same before after longer.ext more base wave last (omega (arith, within)) (leader_in before (suc wave) last longer.ext.placed_before is_last)
                ∙ sym (append-nil first) ∙ ap (λ l. first ++ l) (sym (is_newer (suc wave) ∙ none)) ∙ ap (λ l. l ++ rest) (sym (was ∙ was_first))
            | inl higher ↦
                let size = size_some before.charter longer.sound in
                let next : above.0 ≡ suc (above.0 - 1) = omega (arith, higher) in
                let found' : leader (grown before after more) (suc (above.0 - 1)) ≡ Some found.0 = ap (leader (grown before after more)) (sym next) ∙ found.1 in
                let place = leader_place (grown before after more) (above.0 - 1) found.0 size longer.ext.placed_after found' in
                let place' = leader_place before wave last size longer.ext.placed_before is_last in
                let held = leader_in (grown before after more) above.0 found.0 longer.ext.placed_after found.1 in
                let young' = not_old (suc wave) above.0 higher in
                let some : newer_at (grown before after more) (suc wave) above.0 ≡ newer_to (grown before after more) (suc wave) (above.0 - 1) found.0 =
                rw young' (ap (λ o. option_map_or (newer_to (grown before after more) (suc wave) (above.0 - 1)) o []) found.1) in
                is_newer base ∙ now
                ∙ newer_longer before after longer more base wave last lower is_top is_last support within (above.0 - 1) found.0 (omega (arith, higher)) held (omega (arith, place.0, place'.0, higher))
                ∙ ap (λ l. first ++ l) (sym (is_newer (suc wave) ∙ some)) ∙ ap (λ l. l ++ rest) (sym (was ∙ was_first))
          ]
    ]

pub newer_grows : (before : Ledger) (after : Slots) → IsLonger before after → (more : List ℕ) (base : ℕ) → base ≤ last_wave before
    → newer (grown before after more) base ≡ newer before base ++ newer (grown before after more) (last_wave before)
newer_grows before after longer more base low =
    elim (given_or_none (top before)) [
      | inr none ↦
          let least : last_wave before ≡ 0 = ap (λ o. option_map_or (λ w. w) o 0) none in
          let same : base ≡ last_wave before = omega (arith, low, least) in
          ap (newer (grown before after more)) same
          ∙ ap (λ l. l ++ newer (grown before after more) (last_wave before)) (sym (ap (λ o. option_map_or (newer_at before base) o []) none))
      | inl found ↦
          let lead = top_leader before found.0 found.1 in
          let wave = found.0 - 1 in
          let is : last_wave before ≡ suc wave = ap (λ o. option_map_or (λ w. w) o 0) lead.1 in
          newer_joined before after longer more base wave lead.0 (omega (arith, low, is)) lead.1 lead.2
          ∙ ap (λ w. newer before base ++ newer (grown before after more) w) (sym is)
    ]

-- so are the committed ones
pub committed_grows : (before : Ledger) (after : Slots) → IsLonger before after → (more : List ℕ)
    → committed (grown before after more) ≡ committed before ++ newer (grown before after more) (last_wave before)
committed_grows before after longer more = newer_grows before after longer more 0 (omega arith)

-- so the order with more is the order, and then what the newer leaders order
pub order_since : (before : Ledger) (after : Slots) → IsLonger before after → (more : List ℕ) (wave : ℕ) (last : Certificate) → top before ≡ Some (suc wave) → leader before (suc wave) ≡ Some last
    → order_by (grown before after more) ≡ order_by before ++ since (grown before after more) (suc wave) (Some last)
order_since before after longer more wave last at_top is_last =
    let digests : List Certificate → List Digest = map (λ c. certificate_digest c.header) in
    let now = grown before after more in
    let base = newer_to before 0 wave last in
    let was = committed_is before wave last at_top is_last in
    let new = newer now (suc wave) in
    let is_wave : last_wave before ≡ suc wave = ap (λ o. option_map_or (λ w. w) o 0) at_top in
    let joined : committed now ≡ base ++ new =
    committed_grows before after longer more ∙ ap (λ l. l ++ newer now (last_wave before)) was ∙ ap (λ w. base ++ newer now w) is_wave in
    let ends = newer_ends before 0 wave last in
    let held = leader_in before (suc wave) last longer.ext.placed_before is_last in
    let same : segments now None base ≡ segments before None base =
    segments_same before after longer.ext more None base (λ c is. absurd (none-some c is)) (λ c inside. newer_held before longer.ext.placed_before 0 wave last c held inside) in
    let rest = since now (suc wave) (Some last) in
    let split : segments now None (base ++ new) ≡ segments now None base ++ segments now (Some last) new =
    ap (λ l. segments now None (l ++ new)) ends.1 ∙ segments-append now None ends.0 last new
    ∙ ap (λ l. segments now None l ++ segments now (Some last) new) (sym ends.1) in
    let before_is : order_by before ≡ digests (segments before None base) = ap (λ l. digests (segments before None l)) was in
    ap (λ l. digests (segments now None l)) joined ∙ ap digests split
    ∙ map-append (λ c. certificate_digest c.header) (segments now None base) (segments now (Some last) new)
    ∙ ap (λ l. digests l ++ rest) same ∙ ap (λ l. l ++ rest) (sym before_is)

pub order_longer : (before : Ledger) (after : Slots) → IsLonger before after → (more : List ℕ) → Begins (order_by before) (order_by (grown before after more))
order_longer before after longer more =
    let later = order_by (grown before after more) in
    elim (given_or_none (top before)) [
      | inr none ↦
          let nothing : order_by before ≡ [] = ap (λ o. map (λ c. certificate_digest c.header) (segments before None (option_map_or (newer_at before 0) o []))) none in
          record { rest = later; parts = ap (λ l. l ++ later) (sym nothing) }
      | inl found ↦
          let last = top_leader before found.0 found.1 in
          record {
            rest = since (grown before after more) (suc (found.0 - 1)) (Some last.0);
            parts = order_since before after longer more (found.0 - 1) last.0 last.1 last.2;
          }
    ]

-- the greatest wave that is directly committed of coins doesn't go down
pub top_grows : (before : Ledger) (after : Slots) → Extends before.slots after → (more : List ℕ) (wave : ℕ) → top before ≡ Some wave → (greatest : ℕ)
    × (top (grown before after more) ≡ Some greatest) × (wave ≤ greatest)
top_grows before after ext more wave found =
    let facts = is_top_of before (length before.coins) wave found in
    let within = facts.within in
    let long = length-append before.coins more in
    top_above (grown before after more) (length (before.coins ++ more)) wave facts.some (omega (arith, within, long)) (directly_committed_kept before after ext more wave facts.is)
