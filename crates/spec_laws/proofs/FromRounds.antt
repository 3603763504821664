-- Slots that hold the same from a round on: paths, leaders and what leaders order are the same there.
use Rattle.std.proofs.Common.{◌≡◌, ℕ, zero, suc, ◌+◌, ◌-◌, ◌*◌, ◌%◌, ◌<◌, ◌≤◌, Bool, true, false, List, [], ◌∷◌, ◌++◌, Option, Some, None, inl, inr, refl, ap, sym, ◌∙◌, subst, arith}
use Rattle.std.proofs.Math.Path.{fun_ext}
use Rattle.std.specs.Prelude.{not, length, map, Contains, filter, filter_map, flat_map, nat_le, ◌&&◌, slice_get, option_and_then}
use Rattle.std.specs.List.{list_any, range_with_len}
use Rattle.std.specs.Option.{option_map_or}
use Rattle.std.proofs.lemmas.Bool.{cases_Bool, cases_lt, leb-true, true≢false}
use Rattle.std.proofs.lemmas.Option.{none-some}
use Rattle.std.proofs.lemmas.List.Elements.{filter-append, Contains-push_cases}
use Rattle.committee.specs.Charter.{numbers, weight, support_of}
use Rattle.spec_model.specs.Ordering.{Ledger, size_in, reaches_in, leader, has_support, is_directly_committed, top_to, top, is_past, is_ordered_by, segment, segments, newer_to, newer_at, newer}
use Rattle.spec_model.specs.Slots.{Slots, certificate_digest, round_of, is_parent, has_path, reaches}
use Rattle.spec_model.specs.Words.{Certificate, Digest}
use Rattle.spec_laws.proofs.Growing.{AreInPlace, any_same, picked_same}
use Rattle.spec_laws.proofs.Lists.{given_or_none, Contains-nothing, Contains-first, Contains-later}
use Rattle.spec_laws.proofs.OrderLonger.{since, leader_place}
use Rattle.spec_laws.proofs.Votes.{slot_is}

-- slots that hold the same from a round on, each in its place
pub record AgreeFrom (low : ℕ) (one other : Slots) : Type 0 where
  pub placed : AreInPlace one
  pub placed_other : AreInPlace other
  pub same : (round author : ℕ) → low ≤ round → one round author ≡ other round author

-- ---- paths

pub not_within : (one other : ℕ) → nat_le one other ≡ false → other < one
not_within one other not = grind (arith, not)

-- a list of one thing has that
only_one : {X : Type 0} (x y : X) → Contains (x ∷ []) y → x ≡ y
only_one x y inside = elim (Contains-push_cases [] x y inside) [ inl none ↦ absurd (Contains-nothing y none) | inr same ↦ same ]

pub round_from : (n low : ℕ) (one other : Slots) → AgreeFrom low one other → (round : ℕ) → low ≤ round → round_of n one round ≡ round_of n other round
round_from n low one other agree round above =
    ap (λ (f : ℕ → Option Certificate). filter_map f (numbers n)) (fun_ext (λ author. agree.same round author above))

-- a certificate that a slot holds lies as high as the slot
as_high : (low : ℕ) (slots : Slots) → AreInPlace slots → (round author : ℕ) (c : Certificate) → low ≤ round → slots round author ≡ Some c → low ≤ c.header.round
as_high low slots placed round author c above held = let place = slot_is round author c.header (placed round author c held) in omega (arith, above, place.0)

paths_from : (n low : ℕ) (one other : Slots) → AgreeFrom low one other → (steps : ℕ) (start end : Certificate) → low ≤ end.header.round
    → has_path n one steps start end ≡ has_path n other steps start end
paths_from n low one other agree zero start end above = refl
paths_from n low one other agree (suc steps) start end above =
    let round = end.header.round + 1 in
    any_same (one round) (one round) (λ child. has_path n other steps start child && is_parent end child) (λ child. has_path n one steps start child && is_parent end child) (numbers n)
    (λ a child held. (held, ap (λ b. b && is_parent end child) (paths_from n low one other agree steps start child (as_high low one agree.placed round a child (omega (arith, above)) held))))
    (λ a child none held. absurd (none-some child (sym none ∙ held)))
    ∙ ap (list_any (λ child. has_path n other steps start child && is_parent end child)) (round_from n low one other agree round (omega (arith, above)))

reaches_from : (n low : ℕ) (one other : Slots) → AgreeFrom low one other → (start end : Certificate) → low ≤ end.header.round → reaches n one start end ≡ reaches n other start end
reaches_from n low one other agree start end above =
    ap (λ b. nat_le end.header.round start.header.round && b) (paths_from n low one other agree (start.header.round - end.header.round) start end above)

-- ---- leaders

-- a ledger with these slots
abbrev pub with_slots : Ledger → Slots → Ledger
with_slots ledger slots = record { charter = ledger.charter; slots = slots; coins = ledger.coins }

pub leader_from : (low : ℕ) (one : Ledger) (other : Slots) → AgreeFrom low one.slots other → (wave : ℕ) → low ≤ 2 * wave + 1 → leader one (suc wave) ≡ leader (with_slots one other) (suc wave)
leader_from low one other agree wave above =
    ap (λ (f : ℕ → Option Certificate). option_and_then f (slice_get one.coins wave)) (fun_ext (λ coin. agree.same (2 * wave + 1) (coin % size_in one) above))

support_from : (low : ℕ) (one : Ledger) (other : Slots) → AgreeFrom low one.slots other → (c : Certificate) → low ≤ c.header.round → has_support one c ≡ has_support (with_slots one other) c
support_from low one other agree c above =
    ap (λ (f : ℕ → Option Certificate). nat_le (support_of one.charter) (weight one.charter (λ m. option_map_or (is_parent c) (f m) false)))
    (fun_ext (λ m. agree.same (c.header.round + 1) m (omega (arith, above))))

pub committed_from : (low : ℕ) (one : Ledger) (other : Slots) → 0 < size_in one → AgreeFrom low one.slots other → (wave : ℕ) → low ≤ 2 * wave + 1
    → is_directly_committed one (suc wave) ≡ is_directly_committed (with_slots one other) (suc wave)
committed_from low one other some agree wave above =
    let same = leader_from low one other agree wave above in
    elim (given_or_none (leader one (suc wave))) [
      | inl found ↦
          let place = leader_place one wave found.0 some agree.placed found.1 in
          ap (λ o. option_map_or (has_support one) o false) found.1
          ∙ support_from low one other agree found.0 (omega (arith, above, place.0))
          ∙ ap (λ o. option_map_or (has_support (with_slots one other)) o false) (sym found.1 ∙ same)
      | inr none ↦ ap (λ o. option_map_or (has_support one) o false) none ∙ ap (λ o. option_map_or (has_support (with_slots one other)) o false) (sym none ∙ same)
    ]

-- the greatest wave that is directly committed, where one is known to be so
pub top_from : (low : ℕ) (one : Ledger) (other : Slots) → 0 < size_in one → AgreeFrom low one.slots other → (wave : ℕ) → low ≤ 2 * wave + 1 → is_directly_committed one (suc wave) ≡ true
    → (most : ℕ) → suc wave ≤ most → top_to one most ≡ top_to (with_slots one other) most
top_from low one other some agree wave above is zero within = absurd (omega (arith, within))
top_from low one other some agree wave above is (suc most) within =
    let same = committed_from low one other some agree most (omega (arith, above, within)) in
    elim (cases_Bool (is_directly_committed one (suc most))) [
      | inl here ↦ let here' = sym same ∙ here in rw (here, here') refl
      | inr not ↦ elim (cases_lt most (suc wave)) [
        | inl last ↦
            let at : most ≡ wave = omega (arith, last, within) in
            let bad = rw at at not in
            absurd (true≢false (sym is ∙ bad))
        | inr lower ↦ let not' = sym same ∙ not in rw (not, not') (top_from low one other some agree wave above is most lower)
      ]
    ]

-- ---- the leaders that are newer than those of a wave

newer_to_from : (low : ℕ) (one : Ledger) (other : Slots) → 0 < size_in one → AgreeFrom low one.slots other → (base : ℕ) → low ≤ 2 * base + 1 → (wave : ℕ) (last : Certificate)
    → newer_to one base wave last ≡ newer_to (with_slots one other) base wave last
newer_to_from low one other some agree base above zero last = refl
newer_to_from low one other some agree base above (suc wave) last =
    let lower = newer_to_from low one other some agree base above wave in
    elim (cases_Bool (nat_le (suc wave) base)) [
      | inl done ↦ rw done refl
      | inr more ↦
          let high : low ≤ 2 * wave + 1 = omega (arith, above, not_within (suc wave) base more) in
          let same = leader_from low one other agree wave high in
          elim (given_or_none (leader one (suc wave))) [
            | inl earlier ↦
                let also = sym same ∙ earlier.1 in
                let place = leader_place one wave earlier.0 some agree.placed earlier.1 in
                let alike = reaches_from (size_in one) low one.slots other agree last earlier.0 (omega (arith, high, place.0)) in
                elim (cases_Bool (reaches_in one last earlier.0)) [
                  | inl reached ↦ let reached' = sym alike ∙ reached in rw (more, earlier.1, also, reached, reached') (ap (λ l. l ++ last ∷ []) (lower earlier.0))
                  | inr missed ↦ let missed' = sym alike ∙ missed in rw (more, earlier.1, also, missed, missed') (lower last)
                ]
            | inr none ↦ let also = sym same ∙ none in rw (more, none, also) (lower last)
          ]
    ]

pub newer_from : (low : ℕ) (one : Ledger) (other : Slots) → 0 < size_in one → AgreeFrom low one.slots other → (wave : ℕ) → low ≤ 2 * wave + 1
    → is_directly_committed one (suc wave) ≡ true → suc wave ≤ length one.coins
    → newer one (suc wave) ≡ newer (with_slots one other) (suc wave)
newer_from low one other some agree wave above is within =
    let same = top_from low one other some agree wave above is (length one.coins) within in
    elim (given_or_none (top one)) [
      | inl found ↦
          let also : top (with_slots one other) ≡ Some found.0 = sym same ∙ found.1 in
          let at : newer_at one (suc wave) found.0 ≡ newer_at (with_slots one other) (suc wave) found.0 =
          elim (cases_Bool (nat_le found.0 (suc wave))) [
            | inl old ↦ rw old refl
            | inr young ↦
                let higher = not_within found.0 (suc wave) young in
                let next : suc (found.0 - 1) ≡ found.0 = omega (arith, higher) in
                let leaders : leader one found.0 ≡ leader (with_slots one other) found.0 =
                ap (leader one) (sym next) ∙ leader_from low one other agree (found.0 - 1) (omega (arith, above, higher)) ∙ ap (leader (with_slots one other)) next in
                let chains : newer_to one (suc wave) (found.0 - 1) ≡ newer_to (with_slots one other) (suc wave) (found.0 - 1) =
                fun_ext (λ last. newer_to_from low one other some agree (suc wave) (omega (arith, above)) (found.0 - 1) last) in
                rw young
                (ap (λ o. option_map_or (newer_to one (suc wave) (found.0 - 1)) o []) leaders
                ∙ ap (λ (f : Certificate → List Certificate). option_map_or f (leader (with_slots one other) found.0) []) chains)
          ] in
          ap (λ o. option_map_or (newer_at one (suc wave)) o []) found.1 ∙ at ∙ ap (λ o. option_map_or (newer_at (with_slots one other) (suc wave)) o []) (sym also)
      | inr none ↦
          let also : top (with_slots one other) ≡ None = sym same ∙ none in
          ap (λ o. option_map_or (newer_at one (suc wave)) o []) none ∙ ap (λ o. option_map_or (newer_at (with_slots one other) (suc wave)) o []) (sym also)
    ]

-- they lie above it
newer_to_high : (ledger : Ledger) → 0 < size_in ledger → AreInPlace ledger.slots → (base wave : ℕ) (last c : Certificate)
    → 2 * base + 1 ≤ last.header.round → Contains (newer_to ledger base wave last) c
    → 2 * base + 1 ≤ c.header.round
newer_to_high ledger some placed base zero last c high inside = subst (λ (d : Certificate). 2 * base + 1 ≤ d.header.round) (only_one last c inside) high
newer_to_high ledger some placed base (suc wave) last c high inside =
    elim (cases_Bool (nat_le (suc wave) base)) [
      | inl done ↦ let inside' = rw done at inside in subst (λ (d : Certificate). 2 * base + 1 ≤ d.header.round) (only_one last c inside') high
      | inr more ↦ elim (given_or_none (leader ledger (suc wave))) [
        | inr none ↦ let inside' = rw (more, none) at inside in newer_to_high ledger some placed base wave last c high inside'
        | inl earlier ↦
            let place = leader_place ledger wave earlier.0 some placed earlier.1 in
            let above = not_within (suc wave) base more in
            elim (cases_Bool (reaches_in ledger last earlier.0)) [
              | inr missed ↦ let inside' = rw (more, earlier.1, missed) at inside in newer_to_high ledger some placed base wave last c high inside'
              | inl reached ↦
                  let inside' = rw (more, earlier.1, reached) at inside in
                  elim (Contains-push_cases (newer_to ledger base wave earlier.0) last c inside') [
                    | inl before ↦ newer_to_high ledger some placed base wave earlier.0 c (omega (arith, place.0, above)) before
                    | inr same ↦ subst (λ (d : Certificate). 2 * base + 1 ≤ d.header.round) same high
                  ]
            ]
      ]
    ]

pub newer_high : (ledger : Ledger) → 0 < size_in ledger → AreInPlace ledger.slots → (base : ℕ) (c : Certificate) → Contains (newer ledger base) c → 2 * base + 1 ≤ c.header.round
newer_high ledger some placed base c inside =
    elim (given_or_none (top ledger)) [
      | inr none ↦ let inside' = rw none at inside in absurd (Contains-nothing c inside')
      | inl found ↦
          let inside' = rw found.1 at inside in
          elim (cases_Bool (nat_le found.0 base)) [
            | inl old ↦ let inside'' = rw old at inside' in absurd (Contains-nothing c inside'')
            | inr young ↦
                let higher = not_within found.0 base young in
                let next : suc (found.0 - 1) ≡ found.0 = omega (arith, higher) in
                let inside'' = rw young at inside' in
                elim (given_or_none (leader ledger found.0)) [
                  | inr none ↦ let nothing = rw none at inside'' in absurd (Contains-nothing c nothing)
                  | inl last ↦
                      let among = rw last.1 at inside'' in
                      let place = leader_place ledger (found.0 - 1) last.0 some placed (ap (leader ledger) next ∙ last.1) in
                      newer_to_high ledger some placed base (found.0 - 1) last.0 c (omega (arith, place.0, higher)) among
                ]
          ]
    ]

-- ---- what a leader orders

past_from : (low : ℕ) (one : Ledger) (other : Slots) → AgreeFrom low one.slots other → (previous : Option Certificate) (c : Certificate)
    → low ≤ c.header.round → is_past one previous c ≡ is_past (with_slots one other) previous c
past_from low one other agree None c above = refl
past_from low one other agree (Some last) c above = reaches_from (size_in one) low one.slots other agree last c above

ordered_from : (low : ℕ) (one : Ledger) (other : Slots) → AgreeFrom low one.slots other → (previous : Option Certificate) (last c : Certificate) → low ≤ c.header.round
    → is_ordered_by one previous last c ≡ is_ordered_by (with_slots one other) previous last c
ordered_from low one other agree previous last c above =
    ap (λ b. nat_le last.header.round (c.header.round + one.charter.depth) && (b && not (is_past one previous c))) (reaches_from (size_in one) low one.slots other agree last c above)
    ∙ ap (λ b. nat_le last.header.round (c.header.round + one.charter.depth) && (reaches_in (with_slots one other) last c && not b)) (past_from low one other agree previous c above)

-- what lies deeper than the depth isn't ordered
too_deep : (ledger : Ledger) (previous : Option Certificate) (last c : Certificate) → c.header.round + ledger.charter.depth < last.header.round → is_ordered_by ledger previous last c ≡ false
too_deep ledger previous last c deep =
    elim (cases_Bool (nat_le last.header.round (c.header.round + ledger.charter.depth))) [
      | inl within ↦ let high = leb-true _ _ within in absurd (omega (arith, high, deep))
      | inr not ↦ rw not refl
    ]

nothing_picked : {X : Type 0} (held : ℕ → Option X) (test : X → Bool) (authors : List ℕ) → ((a : ℕ) (x : X) → held a ≡ Some x → test x ≡ false) → filter test (filter_map held authors) ≡ []
nothing_picked held test [] fails = refl
nothing_picked held test (a ∷ authors) fails =
    let rest = nothing_picked held test authors fails in
    elim (given_or_none (held a)) [
      | inl found ↦ let fails_here = fails a found.0 found.1 in rw (found.1, fails_here) rest
      | inr none ↦ rw none rest
    ]

-- a leader lies so high that what it orders lies from a round on
abbrev pub IsFar : ℕ → ℕ → Certificate → Type 0
IsFar low depth last = (round : ℕ) → round < low → round + depth < last.header.round

pub none_of_low : (low : ℕ) (ledger : Ledger) → AreInPlace ledger.slots → (previous : Option Certificate) (last : Certificate) → IsFar low ledger.charter.depth last → (round : ℕ) → round < low
    → filter (is_ordered_by ledger previous last) (round_of (size_in ledger) ledger.slots round) ≡ []
none_of_low low ledger placed previous last far round below =
    nothing_picked (ledger.slots round) (is_ordered_by ledger previous last) (numbers (size_in ledger))
    (λ a c held.
    let place = slot_is round a c.header (placed round a c held) in
    let deep = far round below in
    too_deep ledger previous last c (omega (arith, place.0, deep)))

round_picked_from : (low : ℕ) (one : Ledger) (other : Slots) → AgreeFrom low one.slots other → (previous : Option Certificate) (last : Certificate) → IsFar low one.charter.depth last → (round : ℕ)
    → filter (is_ordered_by one previous last) (round_of (size_in one) one.slots round) ≡ filter (is_ordered_by (with_slots one other) previous last) (round_of (size_in one) other round)
round_picked_from low one other agree previous last far round =
    elim (cases_lt round low) [
      | inl below ↦ none_of_low low one agree.placed previous last far round below ∙ sym (none_of_low low (with_slots one other) agree.placed_other previous last far round below)
      | inr above ↦
          picked_same (one.slots round) (one.slots round) (is_ordered_by (with_slots one other) previous last) (is_ordered_by one previous last) (numbers (size_in one))
          (λ a c held. (held, ordered_from low one other agree previous last c (as_high low one.slots agree.placed round a c above held)))
          (λ a c none held. absurd (none-some c (sym none ∙ held)))
          ∙ ap (filter (is_ordered_by (with_slots one other) previous last)) (round_from (size_in one) low one.slots other agree round above)
    ]

pub rounds_picked_from : (low : ℕ) (one : Ledger) (other : Slots) → AgreeFrom low one.slots other
    → (previous : Option Certificate) (last : Certificate) → IsFar low one.charter.depth last → (rounds : List ℕ)
    → filter (is_ordered_by one previous last) (flat_map (round_of (size_in one) one.slots) rounds)
    ≡ filter (is_ordered_by (with_slots one other) previous last) (flat_map (round_of (size_in one) other) rounds)
rounds_picked_from low one other agree previous last far [] = refl
rounds_picked_from low one other agree previous last far (round ∷ rounds) =
    filter-append (is_ordered_by one previous last) (round_of (size_in one) one.slots round) (flat_map (round_of (size_in one) one.slots) rounds)
    ∙ ap (λ l. l ++ filter (is_ordered_by one previous last) (flat_map (round_of (size_in one) one.slots) rounds)) (round_picked_from low one other agree previous last far round)
    ∙ ap (λ l. filter (is_ordered_by (with_slots one other) previous last) (round_of (size_in one) other round) ++ l) (rounds_picked_from low one other agree previous last far rounds)
    ∙ sym (filter-append (is_ordered_by (with_slots one other) previous last) (round_of (size_in one) other round) (flat_map (round_of (size_in one) other) rounds))

segments_from : (low : ℕ) (one : Ledger) (other : Slots) → AgreeFrom low one.slots other → (previous : Option Certificate) (chain : List Certificate)
    → ((c : Certificate) → Contains chain c → IsFar low one.charter.depth c)
    → segments one previous chain ≡ segments (with_slots one other) previous chain
segments_from low one other agree previous [] far = refl
segments_from low one other agree previous (last ∷ chain) far =
    ap (λ l. l ++ segments one (Some last) chain) (rounds_picked_from low one other agree previous last (far last (Contains-first chain last)) (range_with_len 1 last.header.round))
    ∙ ap (λ l. segment (with_slots one other) previous last ++ l) (segments_from low one other agree (Some last) chain (λ c inside. far c (Contains-later last chain c inside)))

-- what the leaders above a directly committed wave order is the same, if they lie far enough
pub since_from : (low : ℕ) (one : Ledger) (other : Slots) → 0 < size_in one → AgreeFrom low one.slots other → (wave : ℕ) → low ≤ 2 * wave + 1
    → is_directly_committed one (suc wave) ≡ true → suc wave ≤ length one.coins
    → ((round : ℕ) → round < low → round + one.charter.depth < 2 * suc wave + 1) → (previous : Option Certificate) → since one (suc wave) previous ≡ since (with_slots one other) (suc wave) previous
since_from low one other some agree wave above is within far previous =
    let digests : List Certificate → List Digest = map (λ c. certificate_digest c.header) in
    let later : (c : Certificate) → Contains (newer one (suc wave)) c → IsFar low one.charter.depth c =
    λ c inside round below.
    let high = newer_high one some agree.placed (suc wave) c inside in
    let deep = far round below in
    omega (arith, high, deep) in
    ap digests (segments_from low one other agree previous (newer one (suc wave)) later)
    ∙ ap (λ l. digests (segments (with_slots one other) previous l)) (newer_from low one other some agree wave above is within)
