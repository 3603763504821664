-- Slots that hold the same from a round on say the same, where that round is no higher than a floor from before.
use Rattle.std.proofs.Common.{◌≡◌, ◌++◌, Bool, ℕ, zero, suc, ◌+◌, ◌-◌, ◌*◌, ◌<◌, ◌≤◌, true, false, arith, List, [], ◌∷◌, length, map, Option, Some, None, inl, inr, refl, ap, sym, ◌∙◌}
use Rattle.std.proofs.Math.Path.{fun_ext}
use Rattle.std.specs.Prelude.{is_some, option_and_then, Contains, nat_le, nat_lt, ◌&&◌, ◌||◌}
use Rattle.std.specs.List.{list_all, range_with_len}
use Rattle.std.specs.Option.{option_map_or}
use Rattle.std.proofs.lemmas.Bool.{cases_lt, and_from, le-leb, lt-ltb}
use Rattle.committee.specs.Charter.{Charter, weight, support_of}
use Rattle.spec_model.specs.Histories.{coins}
use Rattle.spec_model.specs.Holdings.{ledger_of, ledger_at, slots, order, floor, is_full, is_held, all_held}
use Rattle.spec_model.specs.Nodes.{Node, size_of, quorum}
use Rattle.spec_model.specs.Ordering.{Ledger, leader, has_support, is_directly_committed, top, last_wave, committed, newer, segment, segments, floor_by}
use Rattle.spec_model.specs.Slots.{Slots, same_digest, certificate_digest, is_parent}
use Rattle.spec_model.specs.Words.{Certificate, HeaderBody, ParentReference}
use Rattle.spec_laws.specs.Laws.{last_or, HoldsFrom, SayTheSame, HeldIsEnough}
use Rattle.spec_laws.proofs.Closed.{in_place, floor_of, or_right}
use Rattle.spec_laws.proofs.FromRounds.{AgreeFrom, IsFar, leader_from, committed_from, top_from, newer_from, newer_high, rounds_picked_from}
use Rattle.spec_laws.proofs.Growing.{AreInPlace}
use Rattle.spec_laws.proofs.Lengthening.{last_is, is_later, order_lengthens}
use Rattle.spec_laws.proofs.Lists.{given_or_none, Contains-first, Contains-later}
use Rattle.spec_laws.proofs.OrderGrows.{members_some}
use Rattle.spec_laws.proofs.OrderLonger.{IsTop, is_top_of, top_above, top_leader}

-- ---- what needs no wave from before

agrees : (low : ℕ) (held all : Slots) → AreInPlace all → HoldsFrom low held all → AgreeFrom low held all
agrees low held all placed from = record { placed = from.placed; placed_other = placed; same = from.same }

leader_alike : (node : Node) (low : ℕ) (coins : List ℕ) (held all : Slots) → AgreeFrom low held all → (wave : ℕ) → low ≤ 2 * wave - 1
    → leader (ledger_of node held coins) wave ≡ leader (ledger_of node all coins) wave
leader_alike node low coins held all agree zero above = refl
leader_alike node low coins held all agree (suc wave) above = leader_from low (ledger_of node held coins) all agree wave (omega (arith, above))

support_alike : (node : Node) (low : ℕ) (coins : List ℕ) (held all : Slots) → AgreeFrom low held all → (c : Certificate) → low ≤ c.header.round + 1
    → has_support (ledger_of node held coins) c ≡ has_support (ledger_of node all coins) c
support_alike node low coins held all agree c above =
    ap (λ (f : ℕ → Option Certificate). nat_le (support_of node.charter) (weight node.charter (λ m. option_map_or (is_parent c) (f m) false)))
    (fun_ext (λ m. agree.same (c.header.round + 1) m above))

committed_alike : (node : Node) (low : ℕ) (coins : List ℕ) (held all : Slots) → 0 < size_of node → AgreeFrom low held all → (wave : ℕ) → low ≤ 2 * wave - 1
    → is_directly_committed (ledger_of node held coins) wave ≡ is_directly_committed (ledger_of node all coins) wave
committed_alike node low coins held all some agree zero above = refl
committed_alike node low coins held all some agree (suc wave) above = committed_from low (ledger_of node held coins) all some agree wave (omega (arith, above))

full_alike : (node : Node) (low : ℕ) (held all : Slots) → AgreeFrom low held all → (round : ℕ) → low ≤ round → is_full node held round ≡ is_full node all round
full_alike node low held all agree round above =
    ap (λ (f : ℕ → Option Certificate). nat_le (quorum node) (weight node.charter (λ author. is_some (f author)))) (fun_ext (λ author. agree.same round author above))

-- ---- parents

one_held : (low floor : ℕ) (held all : Slots) → AgreeFrom low held all → low ≤ floor → (round : ℕ) (p : ParentReference) → is_held held floor round p ≡ is_held all floor round p
one_held low floor held all agree within round p =
    elim (cases_lt (round - 1) low) [
      | inr above ↦
          ap (λ o. option_map_or (λ (c : Certificate). same_digest (certificate_digest c.header) p.certificate) o false || (nat_lt 0 floor && nat_le (round - 1) floor))
          (agree.same (round - 1) p.author.0 above)
      | inl below ↦
          let low' : nat_lt 0 floor && nat_le (round - 1) floor ≡ true = and_from _ _ (lt-ltb 0 floor (omega (arith, below, within))) (le-leb (round - 1) floor (omega (arith, below, within))) in
          or_right _ _ low' ∙ sym (or_right _ _ low')
    ]

parents_alike : (low floor : ℕ) (held all : Slots) → AgreeFrom low held all → low ≤ floor → (header : HeaderBody) → all_held held floor header ≡ all_held all floor header
parents_alike low floor held all agree within header =
    ap (λ (f : ParentReference → Bool). list_all f header.parents) (fun_ext (λ p. one_held low floor held all agree within header.round p))

-- ---- what needs one

-- a wave that was the greatest committed one from before, if there was any, is still committed
abbrev pub IsStill : Node → List ℕ → Slots → Option ℕ → Type 0
IsStill node coins all None = Unit {0}
IsStill node coins all (Some wave) = IsTop (ledger_of node all coins) (length coins) wave

-- at a floor of 0 all is held
all_held_is : (low : ℕ) (held all : Slots) → AgreeFrom low held all → low ≤ 0 → held ≡ all
all_held_is low held all agree least = fun_ext (λ round. fun_ext (λ author. agree.same round author (omega (arith, least))))

-- the wave is committed by what is held too
still_held : (node : Node) (low wave : ℕ) (coins : List ℕ) (held all : Slots) → 0 < size_of node → AgreeFrom low held all → low ≤ 2 * wave + 1
    → IsTop (ledger_of node all coins) (length coins) (suc wave)
    → is_directly_committed (ledger_of node held coins) (suc wave) ≡ true
still_held node low wave coins held all some agree above is = committed_from low (ledger_of node held coins) all some agree wave above ∙ is.is

top_alike : (node : Node) (low : ℕ) (before : Option ℕ) (coins : List ℕ) (held all : Slots) → 0 < size_of node → AgreeFrom low held all → low ≤ floor_of node before → IsStill node coins all before
    → top (ledger_of node held coins) ≡ top (ledger_of node all coins)
top_alike node low None coins held all some agree within is = ap (λ s. top (ledger_of node s coins)) (all_held_is low held all agree within)
top_alike node low (Some zero) coins held all some agree within is = let positive = is.some in absurd (omega (arith, positive))
top_alike node low (Some (suc wave)) coins held all some agree within is =
    let above : low ≤ 2 * wave + 1 = omega (arith, within) in
    top_from low (ledger_of node held coins) all some agree wave above (still_held node low wave coins held all some agree above is) (length coins) is.within

newer_alike : (node : Node) (low : ℕ) (before : Option ℕ) (coins : List ℕ) (held all : Slots) → 0 < size_of node → AgreeFrom low held all → low ≤ floor_of node before → IsStill node coins all before
    → newer (ledger_of node held coins) (option_map_or (λ w. w) before 0) ≡ newer (ledger_of node all coins) (option_map_or (λ w. w) before 0)
newer_alike node low None coins held all some agree within is = ap (λ s. newer (ledger_of node s coins) 0) (all_held_is low held all agree within)
newer_alike node low (Some zero) coins held all some agree within is = let positive = is.some in absurd (omega (arith, positive))
newer_alike node low (Some (suc wave)) coins held all some agree within is =
    let above : low ≤ 2 * wave + 1 = omega (arith, within) in
    newer_from low (ledger_of node held coins) all some agree wave above (still_held node low wave coins held all some agree above is) is.within

segment_alike : (node : Node) (low : ℕ) (before : Option ℕ) (coins : List ℕ) (held all : Slots) → 0 < size_of node → AgreeFrom low held all → low ≤ floor_of node before → IsStill node coins all before
    → (previous : Option Certificate) (last : Certificate) → Contains (newer (ledger_of node held coins) (option_map_or (λ w. w) before 0)) last
    → segment (ledger_of node held coins) previous last ≡ segment (ledger_of node all coins) previous last
segment_alike node low None coins held all some agree within is previous last inside =
    ap (λ s. segment (ledger_of node s coins) previous last) (all_held_is low held all agree within)
segment_alike node low (Some zero) coins held all some agree within is previous last inside = let positive = is.some in absurd (omega (arith, positive))
segment_alike node low (Some (suc wave)) coins held all some agree within is previous last inside =
    let high = newer_high (ledger_of node held coins) some agree.placed (suc wave) last inside in
    let far : IsFar low node.charter.depth last = λ round below. omega (arith, within, high, below) in
    rounds_picked_from low (ledger_of node held coins) all agree previous last far (range_with_len 1 last.header.round)

segments_alike : (one other : Ledger) (previous : Option Certificate) (leaders : List Certificate)
    → ((before : Option Certificate) (last : Certificate) → Contains leaders last → segment one before last ≡ segment other before last)
    → segments one previous leaders ≡ segments other previous leaders
segments_alike one other previous [] each = refl
segments_alike one other previous (last ∷ leaders) each =
    ap (λ l. l ++ segments one (Some last) leaders) (each previous last (Contains-first leaders last))
    ∙ ap (λ l. segment other previous last ++ l) (segments_alike one other (Some last) leaders (λ before next inside. each before next (Contains-later last leaders next inside)))

-- the floor is no lower than it was
floor_above : (node : Node) (before : Option ℕ) (coins : List ℕ) (all : Slots) → IsStill node coins all before → floor_of node before ≤ floor_by (ledger_of node all coins)
floor_above node None coins all is = omega arith
floor_above node (Some wave) coins all is =
    let higher = top_above (ledger_of node all coins) (length coins) wave is.some is.within is.is in
    let now : floor_by (ledger_of node all coins) ≡ (2 * higher.0 - 1) - node.charter.depth = ap (floor_of node) higher.1 in
    let least = higher.2 in
    omega (arith, now, least)

-- ---- all of it

-- what stays of a ledger in later ones: its leaders, its committed waves and its coins
pub record Stays (node : Node) (before : Ledger) (coins : List ℕ) (all : Slots) : Type 0 where
  pub charter : before.charter ≡ node.charter
  pub leaders : (wave : ℕ) (c : Certificate) → leader before wave ≡ Some c → leader (ledger_of node all coins) wave ≡ Some c
  pub committed : (wave : ℕ) → is_directly_committed before wave ≡ true → is_directly_committed (ledger_of node all coins) wave ≡ true
  pub longer : length before.coins ≤ length coins

still_of : (node : Node) (before : Ledger) (coins : List ℕ) (all : Slots) → Stays node before coins all → (greatest : Option ℕ) → top before ≡ greatest → IsStill node coins all greatest
still_of node before coins all stays None found = tt
still_of node before coins all stays (Some wave) found =
    let was = is_top_of before (length before.coins) wave found in
    let within = was.within in
    let longer = stays.longer in
    record { some = was.some; within = omega (arith, within, longer); is = stays.committed wave was.is }

-- the last leader from before is found
last_alike : (node : Node) (low : ℕ) (before : Ledger) (coins : List ℕ) (held all : Slots) → AgreeFrom low held all → low ≤ floor_of node (top before) → Stays node before coins all
    → leader (ledger_of node held coins) (last_wave before) ≡ last_or None (committed before)
last_alike node low before coins held all agree within stays =
    let now = ledger_of node held coins in
    elim (given_or_none (top before)) [
      | inr none ↦ ap (λ o. leader now (option_map_or (λ w. w) o 0)) none ∙ sym (last_is before ∙ ap (option_and_then (leader before)) none)
      | inl found ↦
          let lead = top_leader before found.0 found.1 in
          let wave = found.0 - 1 in
          let at : floor_of node (top before) ≡ (2 * suc wave - 1) - node.charter.depth = ap (floor_of node) lead.1 in
          ap (λ o. leader now (option_map_or (λ w. w) o 0)) lead.1
          ∙ leader_from low now all agree wave (omega (arith, within, at))
          ∙ stays.leaders (suc wave) lead.0 lead.2
          ∙ sym (last_is before ∙ ap (option_and_then (leader before)) lead.1 ∙ lead.2)
    ]

pub say_the_same : (node : Node) (low : ℕ) (before : Ledger) (coins : List ℕ) (held all : Slots) → 0 < size_of node → AreInPlace all
    → low ≤ floor_by before → HoldsFrom low held all → Stays node before coins all
    → SayTheSame node low before coins held all
say_the_same node low before coins held all some placed within from stays =
    let greatest = top before in
    let agree = agrees low held all placed from in
    let is = still_of node before coins all stays greatest refl in
    let floors : floor_by before ≡ floor_of node greatest = ap (λ (c : Charter). option_map_or (λ wave. (2 * wave - 1) - c.depth) greatest 0) stays.charter in
    let within' : low ≤ floor_of node greatest = omega (arith, within, floors) in
    let tops = top_alike node low greatest coins held all some agree within' is in
    let leaders = newer_alike node low greatest coins held all some agree within' is in
    let each = segment_alike node low greatest coins held all some agree within' is in
    let rises = floor_above node greatest coins all is in
    record {
      same_leader = leader_alike node low coins held all agree;
      same_support = support_alike node low coins held all agree;
      same_committed = committed_alike node low coins held all some agree;
      same_full = full_alike node low held all agree;
      same_parents = parents_alike low (floor_by (ledger_of node all coins)) held all agree (omega (arith, within', rises));
      same_top = tops;
      same_last_wave = ap (λ o. option_map_or (λ w. w) o 0) tops;
      same_floor = ap (floor_of node) tops;
      same_last = last_alike node low before coins held all agree within' stays;
      same_newer = leaders;
      same_segment = each;
      same_segments = λ previous.
          segments_alike (ledger_of node held coins) (ledger_of node all coins) previous (newer (ledger_of node held coins) (last_wave before)) each
          ∙ ap (segments (ledger_of node all coins) previous) leaders;
    }

-- ---- histories

pub held_is_enough : HeldIsEnough
held_is_enough node before more low held legal within from =
    let later = before ++ more in
    let now = ledger_of node held (coins later) in
    let base = last_wave (ledger_at node before) in
    let is = is_later node before more legal in
    let high : HoldsFrom (floor node before) held (slots node later) = record { placed = from.placed; same = λ round author above. from.same round author (omega (arith, within, above)) } in
    let same = say_the_same node low (ledger_at node before) (coins later) held (slots node later) (members_some node legal.sound) (in_place node later) within from
    (record { charter = refl; leaders = is.leaders; committed = is.committed; longer = is.coins }) in
    record {
      same = same;
      order = (order_lengthens node before more held legal high).order
          ∙ ap (λ previous. order node before ++ map (λ (c : Certificate). certificate_digest c.header) (segments now previous (newer now base))) (sym same.same_last);
    }
