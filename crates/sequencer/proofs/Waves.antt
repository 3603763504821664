-- What a search in a list finds, and of which waves a leader can have support there.
use Rattle.std.proofs.Common.{◌≡◌, ℕ, Bool, zero, suc, ◌+◌, ◌-◌, ◌*◌, ◌/◌, ◌%◌, ◌<◌, ◌≤◌, true, false, List, [], ◌∷◌, map, length, take, get_or, Some, None, inl, inr, refl, ap, sym, ◌∙◌, subst, arith}
use Rattle.std.proofs.Math.Path.{fun_ext}
use Rattle.std.specs.Prelude.{◌==◌, ◌&&◌, nat_le, min, slice_get}
use Rattle.std.specs.List.{list_any}
use Rattle.std.specs.List.Sorted.{IsPartitionedBy, IsPartitionPoint}
use Rattle.std.specs.Option.{option_map_or}
use Rattle.std.proofs.lemmas.Bool.{cases_Bool, cases_lt, leb-true, true≢false}
use Rattle.std.proofs.lemmas.Grind.{common_steps}
use Rattle.std.proofs.lemmas.Option.{slice_get_within, get_or_from_slice_get, none-some}
use Rattle.committee.specs.Charter.{Charter, IsCharter, weight, support_of}
use Rattle.committee.proofs.Weights.{some_of_weight}
use Rattle.spec_laws.proofs.Lists.{given_or_none, found_passes}
use Rattle.spec_laws.proofs.Votes.{slot_is}
use Rattle.spec_laws.proofs.Growing.{AreInPlace}
use Rattle.spec_laws.proofs.OrderLonger.{directly_committed_leader, leader_place}
use Rattle.spec_laws.proofs.Weighing.{size_some, total_some}
use Rattle.spec_model.specs.Ordering.{Ledger, leader as leader_of, supports, has_support, is_directly_committed, top_to, top}
use Rattle.spec_model.specs.Slots.{Slots, same_digest, certificate_digest, is_of_slot, is_named, is_parent}
use Rattle.spec_model.specs.Words.{Certificate, Digest, ParentReference}
use Rattle.tusk.specs.Chain.{coin_of}
use Rattle.sequencer.specs.Listing.{comes_before, ledger_of, ListedIsEnough}
use Rattle.sequencer.specs.Restored.{Digested, listed, is_before, AreListed, HoldsListed}
use Rattle.sequencer.proofs.Entering.{none_listed}
use Rattle.sequencer.proofs.Restored.{turn_at, found_listed}

-- ---- a search

goes_before : (round author : ℕ) (one other : Digested) → is_before one other ≡ true → comes_before round author other ≡ true → comes_before round author one ≡ true
goes_before round author one other before comes = grind (arith, before, comes, common_steps)

-- what comes before a slot stands before what doesn't
pub parted : (held : List Digested) (round author : ℕ) → AreListed held → IsPartitionedBy (comes_before round author) held
parted held round author are i j d less within comes =
    elim (cases_lt i j) [
      | inl lower ↦ goes_before round author (get_or held i d) (get_or held j d) (are.rising i j d lower within) comes
      | inr same ↦ let is : i ≡ j = omega (arith, less, same) in ap (λ (k : ℕ). comes_before round author (get_or held k d)) is ∙ comes
    ]

before_slot : (round author : ℕ) (one : Digested) → comes_before round author one ≡ true → is_of_slot round author one.0.header ≡ false
before_slot round author one comes = grind (arith, comes, common_steps)

after_slot : (round author : ℕ) (one other : Digested) → comes_before round author one ≡ false → is_before one other ≡ true → is_of_slot round author other.0.header ≡ false
after_slot round author one other comes before = grind (arith, comes, before, common_steps)

at_place : (held : List Digested) (i : ℕ) (d : Digested) → i < length held → slice_get held i ≡ Some (get_or held i d)
at_place [] i d within = absurd (omega (arith, within))
at_place (one ∷ held) zero d within = refl
at_place (one ∷ held) (suc i) d within = at_place held i d (omega (arith, within))

-- what stands at the place is listed in the slot, where it is of it
pub listed_there : (held : List Digested) (round author place : ℕ) (one : Digested) → AreListed held → slice_get held place ≡ Some one → is_of_slot round author one.0.header ≡ true
    → listed held round author ≡ Some one.0
listed_there held round author place one are there of =
    let within = slice_get_within held place one there in
    let is : get_or held place one ≡ one = get_or_from_slice_get held place one one there in
    let slot = slot_is round author one.0.header of in
    ap (λ (r : ℕ). listed held r author) (sym slot.0) ∙ ap (λ (a : ℕ). listed held one.0.header.round a) (sym slot.1)
    ∙ subst (λ (x : Digested). listed held x.0.header.round x.0.header.author.0 ≡ Some x.0) is (found_listed held (take place held) (get_or held place one) are (turn_at held place one within))

-- else nothing is
pub none_there : (held : List Digested) (round author place : ℕ) → AreListed held
    → IsPartitionPoint (λ one. comes_before round author one ≡ true) (λ one. comes_before round author one ≡ false) held place
    → ((one : Digested) → slice_get held place ≡ Some one → is_of_slot round author one.0.header ≡ false) → listed held round author ≡ None
none_there held round author place are parts apart =
    none_listed held round author
    (λ i d within. elim (cases_lt i place) [
      | inl lower ↦ before_slot round author (get_or held i d) (parts.0 i d (omega arith) lower)
      | inr from ↦ elim (cases_lt place i) [
        | inl higher ↦ after_slot round author (get_or held place d) (get_or held i d) (parts.1 place d (omega arith) (omega (arith, higher, within))) (are.rising place i d higher within)
        | inr same ↦
            let is : i ≡ place = omega (arith, from, same) in
            apart (get_or held i d) (ap (slice_get held) (sym is) ∙ at_place held i d within)
      ]
    ])

-- ---- waves

-- what is listed is of no round after the last one
rounds_within : (held : List Digested) (last : Digested) → AreListed held → slice_get held (length held - 1) ≡ Some last
    → (round author : ℕ) (c : Certificate) → listed held round author ≡ Some c → round ≤ last.0.header.round
rounds_within held last are end round author c is =
    elim (cases_lt last.0.header.round round) [
      | inr low ↦ low
      | inl high ↦
          let none : listed held round author ≡ None = none_listed held round author
          (λ i e within.
          let most = not_after i e within in
          later_slot round author (get_or held i e) (omega (arith, most, high))) in
          absurd (none-some c (sym none ∙ is))
    ]
  where
    later_slot : (round author : ℕ) (one : Digested) → one.0.header.round < round → is_of_slot round author one.0.header ≡ false
    later_slot round author one earlier = grind (arith, earlier, common_steps)

    up : (one other : Digested) → is_before one other ≡ true → one.0.header.round ≤ other.0.header.round
    up one other before = grind (arith, before, common_steps)

    not_after : (i : ℕ) (e : Digested) → i < length held → (get_or held i e).0.header.round ≤ last.0.header.round
    not_after i e within =
        let top_end : get_or held (length held - 1) e ≡ last = get_or_from_slice_get held (length held - 1) last e end in
        let some = slice_get_within held (length held - 1) last end in
        elim (cases_lt i (length held - 1)) [
          | inl lower ↦ up (get_or held i e) last (subst (λ (x : Digested). is_before (get_or held i e) x ≡ true) top_end (are.rising i (length held - 1) e lower (omega (arith, some))))
          | inr same ↦
              let is : i ≡ length held - 1 = omega (arith, same, within) in
              let round : (get_or held i e).0.header.round ≡ last.0.header.round = ap (λ (k : ℕ). (get_or held k e).0.header.round) is ∙ ap (λ (x : Digested). x.0.header.round) top_end in
              omega (arith, round)
        ]

-- each is listed in its slot
in_place : (held : List Digested) → AreInPlace (listed held)
in_place held round author c is = (found_passes (λ (d : Certificate). is_of_slot round author d.header) (map (λ (one : Digested). one.0) held) c is).0

-- a wave isn't committed where nothing is listed of its second round
not_committed : (charter : Charter) (held : List Digested) (coins : List ℕ) (last : Digested) → IsCharter charter → AreListed held → slice_get held (length held - 1) ≡ Some last
    → (wave : ℕ) → last.0.header.round / 2 < wave → is_directly_committed (ledger_of charter held coins) wave ≡ false
not_committed charter held coins last sound are end zero above = refl
not_committed charter held coins last sound are end (suc wave) above =
    let ledger = ledger_of charter held coins in
    elim (cases_Bool (is_directly_committed ledger (suc wave))) [
      | inr not ↦ not
      | inl is ↦
          let lead = directly_committed_leader ledger (suc wave) is in
          let c = lead.0 in
          let level = (leader_place ledger wave c (size_some charter sound) (in_place held) lead.1).0 in
          let some = total_some charter sound in
          let enough = leb-true _ _ lead.2 in
          let one = some_of_weight charter (supports ledger c) (omega (arith, some, enough)) in
          elim (given_or_none (listed held (c.header.round + 1) one.member)) [
            | inl child ↦
                let most = rounds_within held last are end (c.header.round + 1) one.member child.0 child.1 in
                absurd (omega (arith, most, level, above))
            | inr nothing ↦ let bad = ap (λ o. option_map_or (is_parent c) o false) (sym nothing) ∙ one.holds in absurd (true≢false (sym bad))
          ]
    ]

no_higher : (ledger : Ledger) (most left : ℕ) → left ≤ most → ((wave : ℕ) → left < wave → wave ≤ most → is_directly_committed ledger wave ≡ false) → top_to ledger most ≡ top_to ledger left
no_higher ledger zero left low none = let same : 0 ≡ left = omega (arith, low) in ap (top_to ledger) same
no_higher ledger (suc most) left low none =
    elim (cases_lt left (suc most)) [
      | inl less ↦ let not = none (suc most) less (omega arith) in rw not (no_higher ledger most left (omega (arith, less)) (λ wave higher within. none wave higher (omega (arith, within))))
      | inr same ↦ let is : suc most ≡ left = omega (arith, low, same) in ap (top_to ledger) is
    ]

-- the waves from that of the last certificate on needn't be asked
pub asked_from : (charter : Charter) (held : List Digested) (coins : List ℕ) (last : Digested) (most : ℕ) → IsCharter charter → AreListed held → slice_get held (length held - 1) ≡ Some last
    → most ≡ min (length coins) (last.0.header.round / 2) → top (ledger_of charter held coins) ≡ top_to (ledger_of charter held coins) most
asked_from charter held coins last most sound are end is =
    no_higher (ledger_of charter held coins) (length coins) most (omega (arith, is))
    (λ wave higher within. not_committed charter held coins last sound are end wave (omega (arith, is, higher, within)))

-- nothing is committed over no certificates
pub none_committed : (charter : Charter) (coins : List ℕ) → top (ledger_of charter [] coins) ≡ None
none_committed charter coins = no_higher (ledger_of charter [] coins) (length coins) 0 (omega arith) (λ wave higher within. nothing wave)
  where
    nothing : (wave : ℕ) → is_directly_committed (ledger_of charter [] coins) wave ≡ false
    nothing zero = refl
    nothing (suc wave) =
        elim (given_or_none (slice_get coins wave)) [
          | inl coin ↦ rw coin.1 refl
          | inr none ↦ rw none refl
        ]

-- ---- support

-- a certificate that is listed in the next round supports a leader where it names it
pub supports_by : (charter : Charter) (held : List Digested) (coins : List ℕ) (leader child : Digested) (member : ℕ) → leader.1 ≡ certificate_digest leader.0.header
    → listed held (leader.0.header.round + 1) member ≡ Some child.0
    → list_any (λ (parent : ParentReference). (parent.author.0 == leader.0.header.author.0) && same_digest parent.certificate leader.1) child.0.header.parents
    ≡ supports (ledger_of charter held coins) leader.0 member
supports_by charter held coins leader child member digested is =
    let c = leader.0 in
    let level = (slot_is (c.header.round + 1) member child.0.header (in_place held (c.header.round + 1) member child.0 is)).0 in
    let here : (c.header.round + 1 == child.0.header.round) ≡ true = equal (c.header.round + 1) child.0.header.round (sym level) in
    ap (λ (d : Digest). list_any (λ (parent : ParentReference). (parent.author.0 == c.header.author.0) && same_digest parent.certificate d) child.0.header.parents) digested
    ∙ sym (ap (λ o. option_map_or (is_parent c) o false) is ∙ ap (λ b. b && list_any (is_named c) child.0.header.parents) here)
  where
    equal : (one other : ℕ) → one ≡ other → (one == other) ≡ true
    equal one other same = grind (arith, same)

pub supports_none : (charter : Charter) (held : List Digested) (coins : List ℕ) (leader : Digested) (member : ℕ) → listed held (leader.0.header.round + 1) member ≡ None
    → false ≡ supports (ledger_of charter held coins) leader.0 member
supports_none charter held coins leader member none = sym (ap (λ o. option_map_or (is_parent leader.0) o false) none)

-- ---- leaders

-- a wave whose coin chooses a leader that is listed is committed where that has support
pub committed_by : (charter : Charter) (held : List Digested) (coins : List ℕ) (wave coin : ℕ) (leader : Digested) → 0 < wave → coin_of coins wave ≡ Some coin
    → listed held (2 * wave - 1) (coin % length charter.keys) ≡ Some leader.0 → has_support (ledger_of charter held coins) leader.0 ≡ is_directly_committed (ledger_of charter held coins) wave
committed_by charter held coins zero coin leader some chosen there = absurd (omega (arith, some))
committed_by charter held coins (suc wave) coin leader some chosen there =
    let level : 2 * suc wave - 1 ≡ 2 * wave + 1 = omega arith in
    let at : listed held (2 * wave + 1) (coin % length charter.keys) ≡ Some leader.0 = ap (λ (r : ℕ). listed held r (coin % length charter.keys)) (sym level) ∙ there in
    rw (chosen, at) refl

-- nothing is committed over a list without a last certificate
pub none_at_all : (charter : Charter) (held : List Digested) (coins : List ℕ) → slice_get held (length held - 1) ≡ None → None ≡ top (ledger_of charter held coins)
none_at_all charter [] coins none = sym (none_committed charter coins)
none_at_all charter (one ∷ held) coins none = absurd (none-some (get_or (one ∷ held) (length (one ∷ held) - 1) one) (sym none ∙ at_place (one ∷ held) (length (one ∷ held) - 1) one (omega arith)))

-- ---- slots that hold more than what is listed

-- a ledger whose slots hold, above the genesis, what is listed
abbrev over : Charter → List ℕ → Slots → Ledger
over charter coins slots = record { charter = charter; slots = slots; coins = coins }

same_leader : (charter : Charter) (held : List Digested) (coins : List ℕ) (slots : Slots) → HoldsListed slots held → (wave : ℕ)
    → leader_of (over charter coins slots) wave ≡ leader_of (ledger_of charter held coins) wave
same_leader charter held coins slots same zero = refl
same_leader charter held coins slots same (suc wave) =
    elim (given_or_none (slice_get coins wave)) [
      | inl coin ↦ rw coin.1 (same (2 * wave + 1) (coin.0 % length charter.keys) (omega arith))
      | inr none ↦ rw none refl
    ]

same_support : (charter : Charter) (held : List Digested) (coins : List ℕ) (slots : Slots) → HoldsListed slots held → (c : Certificate)
    → has_support (over charter coins slots) c ≡ has_support (ledger_of charter held coins) c
same_support charter held coins slots same c =
    ap (λ (f : ℕ → Bool). nat_le (support_of charter) (weight charter f))
    (fun_ext (λ member. ap (λ o. option_map_or (is_parent c) o false) (same (c.header.round + 1) member (omega arith))))

same_committed : (charter : Charter) (held : List Digested) (coins : List ℕ) (slots : Slots) → HoldsListed slots held → (wave : ℕ)
    → is_directly_committed (over charter coins slots) wave ≡ is_directly_committed (ledger_of charter held coins) wave
same_committed charter held coins slots same wave =
    ap (λ o. option_map_or (has_support (over charter coins slots)) o false) (same_leader charter held coins slots same wave)
    ∙ ap (λ (f : Certificate → Bool). option_map_or f (leader_of (ledger_of charter held coins) wave) false) (fun_ext (λ c. same_support charter held coins slots same c))

same_top_to : (charter : Charter) (held : List Digested) (coins : List ℕ) (slots : Slots) → HoldsListed slots held → (most : ℕ)
    → top_to (over charter coins slots) most ≡ top_to (ledger_of charter held coins) most
same_top_to charter held coins slots same zero = refl
same_top_to charter held coins slots same (suc most) =
    let also = same_committed charter held coins slots same (suc most) in
    elim (cases_Bool (is_directly_committed (ledger_of charter held coins) (suc most))) [
      | inl here ↦ let there = also ∙ here in rw (there, here) refl
      | inr not ↦ let there = also ∙ not in rw (there, not) (same_top_to charter held coins slots same most)
    ]

pub listed_is_enough : ListedIsEnough
listed_is_enough charter held coins slots same = same_top_to charter held coins slots same (length coins)
