-- What leaders of a part of some slots order is in the part, where they lie far enough above its low rounds.
use Rattle.std.proofs.Common.{◌≡◌, ℕ, ◌+◌, ◌≤◌, Bool, List, [], ◌∷◌, ◌++◌, Option, Some, None, inl, inr, refl, ap, sym, ◌∙◌, subst, arith}
use Rattle.std.specs.Prelude.{not, Contains, filter, flat_map, nat_le, ◌&&◌}
use Rattle.std.specs.List.{range_with_len}
use Rattle.std.proofs.lemmas.Bool.{cases_lt}
use Rattle.std.proofs.lemmas.Option.{same_Some}
use Rattle.std.proofs.lemmas.List.Elements.{filter-append}
use Rattle.committee.specs.Charter.{numbers}
use Rattle.spec_model.specs.Ordering.{Ledger, size_in, is_past, is_ordered_by, segment, segments}
use Rattle.spec_model.specs.Slots.{Slots, round_of, reaches}
use Rattle.spec_model.specs.Words.{Certificate}
use Rattle.spec_laws.proofs.FromRounds.{IsFar, none_of_low}
use Rattle.spec_laws.proofs.Growing.{IsIn, WasHeld, grown, picked_same, and_false}
use Rattle.spec_laws.proofs.Lists.{Contains-first, Contains-later}
use Rattle.spec_laws.proofs.Votes.{slot_is}
use Rattle.spec_accord.proofs.Parts.{IsPart, reaches_alike, reaches_out}

-- what a leader before reaches there is the same
past_alike : (one : Ledger) (all : Slots) (low : ℕ) → IsPart one.charter low one.slots all
    → (more : List ℕ) (previous : Option Certificate) (c : Certificate) → WasHeld one.slots previous
    → low ≤ c.header.round
    → is_past (grown one all more) previous c ≡ is_past one previous c
past_alike one all low is more None c held above = refl
past_alike one all low is more (Some last) c held above =
    reaches_alike one.charter (size_in one) low one.slots all is last c (held last refl) above

-- from the round on it is the same
round_alike : (one : Ledger) (all : Slots) (low : ℕ) → IsPart one.charter low one.slots all
    → (more : List ℕ) (previous : Option Certificate) (last : Certificate) → WasHeld one.slots previous
    → IsIn one.slots last → (round : ℕ) → low ≤ round
    → filter (is_ordered_by (grown one all more) previous last) (round_of (size_in one) all round)
    ≡ filter (is_ordered_by one previous last) (round_of (size_in one) one.slots round)
round_alike one all low is more previous last past held round above =
    let n = size_in one in
    let now = grown one all more in
    let near : Certificate → Bool = λ c. nat_le last.header.round (c.header.round + one.charter.depth) in
    picked_same (one.slots round) (all round) (is_ordered_by one previous last) (is_ordered_by now previous last)
    (numbers n)
    (λ a c here.
    let place = slot_is round a c.header (is.placed round a c here) in
    let high : low ≤ c.header.round = omega (arith, above, place.0) in
    let was = past_alike one all low is more previous c past high in
    let reached = reaches_alike one.charter n low one.slots all is last c held high in (
      is.kept round a c here,
      ap (λ b. near c && (b && not (is_past now previous c))) reached
          ∙ ap (λ b. near c && (reaches n one.slots last c && not b)) was,
    ))
    (λ a c none new.
    ap (λ b. near c && (b && not (is_past now previous c)))
    (reaches_out one.charter n low one.slots all is last round a c held above none new)
    ∙ and_false (near c))

-- below it both leave out all
rounds_alike : (one : Ledger) (all : Slots) (low : ℕ) → IsPart one.charter low one.slots all
    → (more : List ℕ) (previous : Option Certificate) (last : Certificate) → WasHeld one.slots previous
    → IsIn one.slots last → IsFar low one.charter.depth last → (rounds : List ℕ)
    → filter (is_ordered_by (grown one all more) previous last) (flat_map (round_of (size_in one) all) rounds)
    ≡ filter (is_ordered_by one previous last) (flat_map (round_of (size_in one) one.slots) rounds)
rounds_alike one all low is more previous last past held far [] = refl
rounds_alike one all low is more previous last past held far (round ∷ rounds) =
    let n = size_in one in
    let now = grown one all more in
    let picks = filter (is_ordered_by one previous last) in
    let picks' = filter (is_ordered_by now previous last) in
    let rest = rounds_alike one all low is more previous last past held far rounds in
    let here : picks' (round_of n all round) ≡ picks (round_of n one.slots round) =
    elim (cases_lt round low) [
      | inl below ↦
          none_of_low low now is.placed_all previous last far round below
          ∙ sym (none_of_low low one is.placed previous last far round below)
      | inr above ↦ round_alike one all low is more previous last past held round above
    ] in
    filter-append (is_ordered_by now previous last) (round_of n all round) (flat_map (round_of n all) rounds)
    ∙ ap (λ l. l ++ picks' (flat_map (round_of n all) rounds)) here
    ∙ ap (λ l. picks (round_of n one.slots round) ++ l) rest
    ∙ sym (filter-append (is_ordered_by one previous last) (round_of n one.slots round)
    (flat_map (round_of n one.slots) rounds))

-- what leaders of the part order one after the other, after one of the part
pub segments_alike : (one : Ledger) (all : Slots) (low : ℕ) → IsPart one.charter low one.slots all
    → (more : List ℕ) (previous : Option Certificate) (chain : List Certificate) → WasHeld one.slots previous
    → ((c : Certificate) → Contains chain c → IsIn one.slots c)
    → ((c : Certificate) → Contains chain c → IsFar low one.charter.depth c)
    → segments (grown one all more) previous chain ≡ segments one previous chain
segments_alike one all low is more previous [] past held far = refl
segments_alike one all low is more previous (last ∷ chain) past held far =
    let here = held last (Contains-first chain last) in
    let far' = far last (Contains-first chain last) in
    let past' : WasHeld one.slots (Some last) = λ c at. subst (IsIn one.slots) (same_Some last c at) here in
    ap (λ l. l ++ segments (grown one all more) (Some last) chain)
    (rounds_alike one all low is more previous last past here far' (range_with_len 1 last.header.round))
    ∙ ap (λ l. segment one previous last ++ l) (segments_alike one all low is more (Some last) chain past'
    (λ c inside. held c (Contains-later last chain c inside)) (λ c inside. far c (Contains-later last chain c inside)))
