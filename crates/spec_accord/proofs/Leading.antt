-- Leaders in a part of some slots are leaders in all, and those that are committed with one of the part are in it.
use Rattle.std.proofs.Common.{◌≡◌, ℕ, zero, suc, ◌+◌, ◌*◌, ◌%◌, ◌<◌, ◌≤◌, true, false, List, [], ◌∷◌, ◌++◌, length, Some, inl, inr, refl, ap, ◌∙◌, arith}
use Rattle.std.specs.Prelude.{nat_le, slice_get}
use Rattle.std.specs.Option.{option_map_or}
use Rattle.std.proofs.lemmas.Bool.{cases_Bool, leb-true, le-leb}
use Rattle.std.proofs.lemmas.Option.{slice_get_within}
use Rattle.committee.proofs.Weights.{weight-within}
use Rattle.spec_model.specs.Ordering.{Ledger, size_in, leader, has_support, is_directly_committed, newer_to}
use Rattle.spec_model.specs.Slots.{Slots, is_parent, reaches}
use Rattle.spec_model.specs.Words.{Certificate}
use Rattle.spec_laws.proofs.FromRounds.{not_within}
use Rattle.spec_laws.proofs.Growing.{IsIn, grown, slice_get-longer, passes_also, leader_new, leader_in}
use Rattle.spec_laws.proofs.Lists.{given_or_none}
use Rattle.spec_laws.proofs.OrderLonger.{leader_place}
use Rattle.spec_laws.proofs.Votes.{slot_is}
use Rattle.spec_accord.proofs.Parts.{AreKept, IsPart, reaches_alike, reaches_out}

-- a leader is one where all that is held is kept, with more coins too
pub leader_also : (one : Ledger) (all : Slots) → AreKept one.slots all → (more : List ℕ) (wave : ℕ) (c : Certificate)
    → leader one wave ≡ Some c → leader (grown one all more) wave ≡ Some c
leader_also one all kept more zero c is = absurd cc
leader_also one all kept more (suc wave) c is =
    elim (given_or_none (slice_get one.coins wave)) [
      | inl coin ↦
          let within = slice_get_within one.coins wave coin.0 coin.1 in
          let held = rw coin.1 at is in
          let coin' = slice_get-longer one.coins more wave within ∙ coin.1 in
          rw coin' (kept (2 * wave + 1) (coin.0 % size_in one) c held)
      | inr none ↦ let nothing = rw none at is in absurd cc
    ]

-- a certificate with support has it
pub support_also : (one : Ledger) (all : Slots) → AreKept one.slots all → (more : List ℕ) (c : Certificate)
    → has_support one c ≡ true → has_support (grown one all more) c ≡ true
support_also one all kept more c supported =
    let enough = leb-true _ _ supported in
    let above = c.header.round + 1 in
    let more_of = weight-within one.charter (λ m. option_map_or (is_parent c) (one.slots above m) false)
    (λ m. option_map_or (is_parent c) (all above m) false)
    (λ m within. passes_also (one.slots above m) (all above m) (is_parent c) (λ d held. kept above m d held)) in
    le-leb _ _ (omega (arith, enough, more_of))

-- a wave that is directly committed is so
pub committed_also : (one : Ledger) (all : Slots) → AreKept one.slots all → (more : List ℕ) (wave : ℕ)
    → is_directly_committed one wave ≡ true → is_directly_committed (grown one all more) wave ≡ true
committed_also one all kept more wave is =
    elim (given_or_none (leader one wave)) [
      | inl found ↦
          let also = leader_also one all kept more wave found.0 found.1 in
          let supported = rw found.1 at is in
          rw also (support_also one all kept more found.0 supported)
      | inr none ↦ let nothing = rw none at is in absurd cc
    ]

-- the leaders above a base that are committed with one of the part are those in the part
pub newer_alike : (one : Ledger) (all : Slots) (low : ℕ) → 0 < size_in one → IsPart one.charter low one.slots all
    → (more : List ℕ) (base : ℕ) → low ≤ 2 * base + 1 → (wave : ℕ) (last : Certificate)
    → wave ≤ length one.coins → IsIn one.slots last
    → newer_to (grown one all more) base wave last ≡ newer_to one base wave last
newer_alike one all low some is more base above zero last within held = refl
newer_alike one all low some is more base above (suc wave) last within held =
    let n = size_in one in
    let lower = newer_alike one all low some is more base above wave last (omega (arith, within)) held in
    elim (cases_Bool (nat_le (suc wave) base)) [
      | inl done ↦ rw done refl
      | inr young ↦
          let high : low ≤ 2 * wave + 1 = omega (arith, above, not_within (suc wave) base young) in
          elim (given_or_none (leader one (suc wave))) [
            | inl earlier ↦
                let also = leader_also one all is.kept more (suc wave) earlier.0 earlier.1 in
                let place = leader_place one wave earlier.0 some is.placed earlier.1 in
                let high' : low ≤ earlier.0.header.round = omega (arith, high, place.0) in
                let same = reaches_alike one.charter n low one.slots all is last earlier.0 held high' in
                let under = newer_alike one all low some is more base above wave earlier.0 (omega (arith, within))
                (leader_in one (suc wave) earlier.0 is.placed earlier.1) in
                elim (cases_Bool (reaches n one.slots last earlier.0)) [
                  | inl reached ↦
                      let reached' = same ∙ reached in
                      rw (young, earlier.1, also, reached, reached') (ap (λ l. l ++ last ∷ []) under)
                  | inr missed ↦ let missed' = same ∙ missed in rw (young, earlier.1, also, missed, missed') lower
                ]
            | inr none ↦ elim (given_or_none (leader (grown one all more) (suc wave))) [
              | inl new ↦
                  let fresh = leader_new one all more (suc wave) new.0 within none new.1 in
                  let in_slot = is.placed_all fresh.0 fresh.1 new.0 fresh.3 in
                  let place = leader_place (grown one all more) wave new.0 some is.placed_all new.1 in
                  let place' = slot_is fresh.0 fresh.1 new.0.header in_slot in
                  let missed = reaches_out one.charter n low one.slots all is last fresh.0 fresh.1 new.0 held
                  (omega (arith, high, place.0, place'.0)) fresh.2 fresh.3 in
                  rw (young, none, new.1, missed) lower
              | inr nothing ↦ rw (young, none, nothing) lower
            ]
          ]
    ]
