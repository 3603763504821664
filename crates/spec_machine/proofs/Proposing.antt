-- What is kept of a legal history has its round, and proposes what is proposed at it.
use Rattle.std.proofs.Common.{◌≡◌, ℕ, zero, suc, ◌+◌, ◌-◌, ◌^◌, ◌≤◌, arith, Bool, true, false, List, [], ◌∷◌, map, take, Option, Some, None, ◌⊎◌, inl, inr, refl, ap, sym, ◌∙◌}
use Rattle.std.proofs.Math.Path.{fun_ext}
use Rattle.std.specs.Prelude.{filter, fold, max, ◌||◌, nat_le, nat_lt, is_some, if◌then◌else◌}
use Rattle.std.proofs.lemmas.Bool.{cases_Bool, cases_lt, true≢false}
use Rattle.std.proofs.lemmas.Grind.{common_steps}
use Rattle.committee.specs.Charter.{weight}
use Rattle.spec_model.specs.Giving.{kept}
use Rattle.spec_model.specs.Holdings.{certificates, slots, floor, round, is_low, is_full}
use Rattle.spec_model.specs.Nodes.{Node, size_of, quorum}
use Rattle.spec_model.specs.Proposing.{nameable, as_parent, signed, proposal_of, propose_of}
use Rattle.spec_model.specs.Slots.{Slots}
use Rattle.spec_model.specs.States.{whole, highest_of}
use Rattle.spec_model.specs.Words.{Certificate}
use Rattle.spec_laws.proofs.Closed.{in_place}
use Rattle.spec_laws.proofs.FromRounds.{round_from}
use Rattle.spec_laws.proofs.OrderGrows.{members_some}
use Rattle.spec_laws.proofs.Proposed.{round_above, below_full, round_high}
use Rattle.spec_machine.specs.Laws.{StateProposes}
use Rattle.spec_machine.specs.Machine.{full_to, round_in}
use Rattle.spec_machine.proofs.Collected.{agree, kept_floor, unless}

-- ---- the greatest full round

pub full_most : (node : Node) (slots : Slots) (most r : ℕ) → is_full node slots r ≡ true → r ≤ most → r ≤ full_to node slots most
full_most node slots zero r full within = within
full_most node slots (suc most) r full within =
    elim (cases_Bool (is_full node slots (suc most))) [
      | inl top ↦ rw top within
      | inr not ↦ elim (cases_lt r (suc most)) [
        | inl below ↦ rw not (full_most node slots most r full (omega (arith, below)))
        | inr above ↦
            let is : r ≡ suc most = omega (arith, above, within) in
            let also : is_full node slots (suc most) ≡ true = ap (is_full node slots) (sym is) ∙ full in
            absurd (true≢false (sym also ∙ not))
      ]
    ]

pub full_is : (node : Node) (slots : Slots) (most : ℕ) → (full_to node slots most ≡ 0) ⊎ (is_full node slots (full_to node slots most) ≡ true)
full_is node slots zero = inl refl
full_is node slots (suc most) =
    elim (cases_Bool (is_full node slots (suc most))) [
      | inl top ↦ rw top (inr top)
      | inr not ↦ rw not (full_is node slots most)
    ]

rises : (one other : ℕ) (rounds : List ℕ) → one ≤ other → fold max one rounds ≤ fold max other rounds
rises one other [] less = less
rises one other (r ∷ rounds) less = rises (max one r) (max other r) rounds (grind (arith, less))

-- the greatest of some of a list is no greater than that of all
filtered_within : (test : ℕ → Bool) (most : ℕ) (rounds : List ℕ) → fold max most (filter test rounds) ≤ fold max most rounds
filtered_within test most [] = omega arith
filtered_within test most (r ∷ rounds) =
    elim (cases_Bool (test r)) [
      | inl is ↦ rw is (filtered_within test (max most r) rounds)
      | inr not ↦
          let here = filtered_within test most rounds in
          let more = rises most (max most r) rounds (grind arith) in
          rw not (omega (arith, here, more))
    ]

-- ---- what is kept

-- a round below one that isn't low is at or above the floor
pub below_high : (floor round : ℕ) → is_low floor round ≡ false → floor ≤ round - 1
below_high floor round high = grind (arith, high, common_steps)

pub state_proposes : StateProposes
state_proposes node history legal =
    let now = whole node history in
    let keeps = kept node history in
    let same = agree node now (in_place node history) in
    let certs = certificates node history in
    let r = round node history in
    let high = round_high node history legal in
    let low = below_high (floor node history) r high in
    let full_same : (q : ℕ) → floor node history ≤ q → is_full node (slots node history) q ≡ is_full node keeps.slots q =
    λ q above. ap (λ (f : ℕ → Option Certificate). nat_le (quorum node) (weight node.charter (λ author. is_some (f author)))) (fun_ext (λ author. same.same q author above)) in
    let rounds_of = map (λ (c : Certificate). c.header.round) certs in
    let among = filtered_within (is_full node (slots node history)) 0 rounds_of in
    let is_next : r ≡ 1 + fold max 0 (filter (is_full node (slots node history)) rounds_of) = refl in
    let within : r - 1 ≤ highest_of certs = omega (arith, among, is_next) in
    let full : is_full node keeps.slots (r - 1) ≡ true = sym (full_same (r - 1) low) ∙ below_full node history legal.sound in
    let least = full_most node keeps.slots (highest_of certs) (r - 1) full within in
    let greatest = full_to node keeps.slots (highest_of certs) in
    let most : greatest ≤ r - 1 = elim (full_is node keeps.slots (highest_of certs)) [
      | inl none ↦ omega (arith, none)
      | inr is ↦ elim (cases_lt greatest (floor node history)) [
        | inl below ↦ omega (arith, below, low)
        | inr above ↦ let under = round_above node history legal.sound greatest (full_same greatest above ∙ is) in omega (arith, under)
      ]
    ] in
    let some : 1 ≤ r = omega arith in
    let rounds : round_in node keeps ≡ r = omega (arith, least, most, some) in
    record {
      floor = sym (kept_floor node now (members_some node legal.sound) (in_place node history));
      round = rounds;
      proposed =
          ap (propose_of node keeps) rounds
          ∙ ap (λ o. if is_some o || nat_lt (2 ^ 48) r then None else Some (signed node (proposal_of node keeps r))) (unless (floor node history) r (now.own_headers r) high)
          ∙ ap (λ below. if is_some (now.own_headers r) || nat_lt (2 ^ 48) r then None
          else Some (signed node
          (record { author = node.own; round = r; batches = take 128 (nameable node now); parents = map as_parent below })))
          (sym (round_from (size_of node) (floor node history) (slots node history) keeps.slots same (r - 1) low));
    }
