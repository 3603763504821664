-- The orders of two histories agree: each is that of all that both hold up to its last wave, and the earlier of these
-- waves is committed by itself in all.
use Rattle.std.proofs.Common.{◌≡◌, ℕ, zero, suc, ◌≤◌, true, List, [], ◌++◌, Some, None, inl, inr, refl, ap, sym, ◌∙◌, arith}
use Rattle.std.specs.Option.{option_or}
use Rattle.std.proofs.lemmas.Bool.{cases_lt}
use Rattle.std.proofs.lemmas.List.{map-append}
use Rattle.spec_model.specs.Admitting.{IsLegal}
use Rattle.spec_model.specs.Histories.{History, coins}
use Rattle.wire.specs.Lists.{Begins}
use Rattle.spec_model.specs.Holdings.{ledger_of, ledger_at, slots, order}
use Rattle.spec_model.specs.Nodes.{Node}
use Rattle.spec_model.specs.Ordering.{Ledger, is_directly_committed, last_wave, chain, segments}
use Rattle.spec_model.specs.Slots.{Slots, certificate_digest}
use Rattle.spec_laws.specs.Laws.{last_or}
use Rattle.spec_laws.proofs.Closed.{in_place}
use Rattle.spec_laws.proofs.Growing.{AreInPlace}
use Rattle.spec_laws.proofs.Lengthening.{segments_joined}
use Rattle.spec_laws.proofs.Lists.{given_or_none}
use Rattle.spec_accord.specs.Accord.{Agree, HaveOneHeader, AreOfOne, OrdersAgree}
use Rattle.spec_accord.proofs.Bare.{bare, bared, bared_from, bared_place, digests}
use Rattle.spec_accord.proofs.Following.{follows}
use Rattle.spec_accord.proofs.Parts.{AreKept}
use Rattle.spec_accord.proofs.Whole.{IsWithin, IsFollowing, Begins-self, ordered, last_committed, committed_whole}

-- ---- what two nodes hold, laid over one another

-- what a slot holds at either node, without votes
abbrev both : Slots → Slots → Slots
both one other round author = option_or (bared one round author) (bared other round author)

-- it is what the one holds
both_one : (one other : Slots) → AreKept (bared one) (both one other)
both_one one other round author b held = rw held refl

-- and what the other holds, where these have one header
both_other : (one other : Slots) → HaveOneHeader one other → AreKept (bared other) (both one other)
both_other one other alike round author b held =
    elim (given_or_none (one round author)) [
      | inr none ↦ rw none held
      | inl found ↦
          let from = bared_from other round author b held in
          let same : bare found.0 ≡ b =
          ap (λ h. record { header = h; votes = [] }) (alike round author found.0 from.0 found.1 from.1) ∙ from.2 in
          rw found.1 (ap (λ c. Some c) same)
    ]

-- each in its slot
both_place : (one other : Slots) → AreInPlace one → AreInPlace other → AreInPlace (both one other)
both_place one other placed also round author b held =
    elim (given_or_none (bared one round author)) [
      | inl found ↦ bared_place one placed round author b (found.1 ∙ (rw found.1 at held))
      | inr none ↦ bared_place other also round author b (rw none at held)
    ]

-- ---- the order of what both hold

-- leaders that begin others order what begins what these order
ordered_begins : (ledger : Ledger) (early late : ℕ) → Begins (chain ledger early) (chain ledger late)
    → Begins (ordered ledger early) (ordered ledger late)
ordered_begins ledger early late begins =
    let front = chain ledger early in
    let rest = segments ledger (last_or None front) begins.rest in
    record {
      rest = digests rest;
      parts = ap (λ l. digests (segments ledger None l)) begins.parts
          ∙ ap digests (segments_joined ledger None front begins.rest)
          ∙ map-append (λ c. certificate_digest c.header) (segments ledger None front) rest;
    }

-- no leaders begin any, so it is enough to know it of a wave above 0
chain_begins : (ledger : Ledger) (wave late : ℕ)
    → ((early : ℕ) → wave ≡ suc early → Begins (chain ledger (suc early)) (chain ledger late))
    → Begins (chain ledger wave) (chain ledger late)
chain_begins ledger zero late above = record { rest = chain ledger late; parts = refl }
chain_begins ledger (suc early) late above = above early refl

-- of two histories that follow all the one with the earlier last wave has an order that begins the other's
earlier_begins : (one other : Node) (history also : History) (all : Slots) (values : List ℕ)
    → one.charter ≡ other.charter → IsWithin one history all values
    → IsFollowing one history all values → IsFollowing other also all values
    → last_wave (ledger_at one history) ≤ last_wave (ledger_at other also)
    → Begins (order one history) (order other also)
earlier_begins one other history also all values charter within following following' earlier =
    let whole = ledger_of other all values in
    let wave = last_wave (ledger_at one history) in
    let late = last_wave (ledger_at other also) in
    let same : ledger_of one all values ≡ whole =
    ap (λ c. record { charter = c; slots = all; coins = values }) charter in
    let committed : (early : ℕ) → wave ≡ suc early → is_directly_committed whole (suc early) ≡ true =
    λ early is.
    ap (λ ledger. is_directly_committed ledger (suc early)) (sym same)
    ∙ ap (λ c. is_directly_committed (ledger_of one all c) (suc early)) within.coins.parts
    ∙ committed_whole (ledger_at one history) all within.kept within.coins.rest (suc early)
    (last_committed (ledger_at one history) early is) in
    let begins = ordered_begins whole wave late (chain_begins whole wave late
    (λ early is. following'.begins early (omega (arith, is, earlier)) (committed early is))) in
    record {
      rest = begins.rest;
      parts = following'.order ∙ begins.parts
          ∙ ap (λ l. l ++ begins.rest) (sym (following.order ∙ ap (λ ledger. ordered ledger wave) same));
    }

-- with coins that begin with those of both
agree_with : (one other : Node) (history also : History) (values : List ℕ) → IsLegal one history → IsLegal other also
    → AreOfOne one other history also → Begins (coins history) values → Begins (coins also) values
    → Agree (order one history) (order other also)
agree_with one other history also values legal legal' of coins coins' =
    let held = slots one history in
    let held' = slots other also in
    let all = both held held' in
    let placed = both_place held held' (in_place one history) (in_place other also) in
    let within : IsWithin one history all values =
    record { placed = placed; kept = both_one held held'; coins = coins } in
    let within' : IsWithin other also all values =
    record { placed = placed; kept = both_other held held' of.slots; coins = coins' } in
    let following = follows one all values history legal within in
    let following' = follows other all values also legal' within' in
    elim (cases_lt (last_wave (ledger_at other also)) (last_wave (ledger_at one history))) [
      | inl later ↦
          let before : last_wave (ledger_at other also) ≤ last_wave (ledger_at one history) = omega (arith, later) in
          inr (earlier_begins other one also history all values (sym of.charter) within' following' following before)
      | inr earlier ↦
          inl (earlier_begins one other history also all values of.charter within following following' earlier)
    ]

-- of two histories' coins one list begins the other, so the longer one serves both
pub orders_agree : OrdersAgree
orders_agree one other history also legal legal' of =
    elim of.coins [
      | inl shorter ↦
          agree_with one other history also (coins also) legal legal' of shorter (Begins-self (coins also))
      | inr longer ↦
          agree_with one other history also (coins history) legal legal' of (Begins-self (coins history)) longer
    ]
