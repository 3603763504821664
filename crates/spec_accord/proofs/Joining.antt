-- The leaders that are committed with that of a wave begin with those committed with an earlier one, where all that
-- counts reaches this one's leader.
use Rattle.std.proofs.Common.{◌≡◌, ℕ, zero, suc, ◌+◌, ◌-◌, ◌<◌, ◌≤◌, true, false, [], ◌∷◌, ◌++◌, Some, inl, inr, ap, sym, ◌∙◌, arith, append_assoc}
use Rattle.std.specs.Prelude.{nat_le}
use Rattle.std.specs.Option.{option_map_or}
use Rattle.std.proofs.lemmas.Bool.{cases_Bool, cases_lt, le-leb}
use Rattle.spec_model.specs.Ordering.{Ledger, size_in, reaches_in, leader, newer_to, chain}
use Rattle.spec_model.specs.Words.{Certificate}
use Rattle.spec_laws.proofs.Growing.{AreInPlace}
use Rattle.spec_laws.proofs.Lists.{given_or_none}
use Rattle.spec_laws.proofs.OrderLonger.{leader_place, not_old}

-- what counts reaches the leader of a wave, and the leaders of later waves that it reaches count too
pub record AllMeet (ledger : Ledger) (wave : ℕ) (first : Certificate) (Counts : Certificate → Type 0) : Type 0 where
  pub is : leader ledger (suc wave) ≡ Some first
  pub reaches : (c : Certificate) → Counts c → first.header.round + 2 ≤ c.header.round
      → reaches_in ledger c first ≡ true
  pub stays : (later : ℕ) (c d : Certificate) → Counts c → wave < later → leader ledger (suc later) ≡ Some d
      → reaches_in ledger c d ≡ true → Counts d

-- after the leaders committed with the wave's come only leaders of later waves
pub joined : (ledger : Ledger) → 0 < size_in ledger → AreInPlace ledger.slots
    → (wave : ℕ) (first : Certificate) (Counts : Certificate → Type 0) → AllMeet ledger wave first Counts
    → (base : ℕ) → base ≤ wave → (higher : ℕ) (c : Certificate) → wave < higher → Counts c
    → first.header.round + 2 ≤ c.header.round
    → newer_to ledger base higher c ≡ newer_to ledger base wave first ++ newer_to ledger (suc wave) higher c
joined ledger some placed wave first Counts meet base low zero c less counts above = absurd (omega (arith, less))
joined ledger some placed wave first Counts meet base low (suc higher) c less counts above =
    let past : nat_le (suc higher) base ≡ false = not_old base (suc higher) (omega (arith, low, less)) in
    elim (cases_lt wave higher) [
      | inr lowest ↦
          let same : higher ≡ wave = omega (arith, lowest, less) in
          let old : nat_le (suc higher) (suc wave) ≡ true = le-leb _ _ (omega (arith, lowest)) in
          let also : leader ledger (suc higher) ≡ Some first = ap (λ w. leader ledger (suc w)) same ∙ meet.is in
          let reached = meet.reaches c counts above in
          rw (past, old, also, reached) (ap (λ w. newer_to ledger base w first ++ c ∷ []) same)
      | inl below ↦
          let young = not_old (suc wave) (suc higher) (omega (arith, below)) in
          let lower = joined ledger some placed wave first Counts meet base low higher c below counts above in
          elim (given_or_none (leader ledger (suc higher))) [
            | inr none ↦ rw (past, young, none) lower
            | inl earlier ↦ elim (cases_Bool (reaches_in ledger c earlier.0)) [
              | inr missed ↦ rw (past, young, earlier.1, missed) lower
              | inl reached ↦
                  let place = leader_place ledger higher earlier.0 some placed earlier.1 in
                  let place' = leader_place ledger wave first some placed meet.is in
                  let under = joined ledger some placed wave first Counts meet base low higher earlier.0 below
                  (meet.stays higher c earlier.0 counts below earlier.1 reached)
                  (omega (arith, place.0, place'.0, below)) in
                  rw (past, young, earlier.1, reached)
                  (ap (λ l. l ++ c ∷ []) under
                  ∙ append_assoc (newer_to ledger base wave first) (newer_to ledger (suc wave) higher earlier.0)
                  (c ∷ []))
            ]
          ]
    ]

-- the leaders that are committed with that of a wave, by its leader
pub chain_is : (ledger : Ledger) (wave : ℕ) (last : Certificate) → leader ledger (suc wave) ≡ Some last
    → chain ledger (suc wave) ≡ newer_to ledger 0 wave last
chain_is ledger wave last is =
    let young : nat_le (suc wave) 0 ≡ false = not_old 0 (suc wave) (omega arith) in
    let below : suc wave - 1 ≡ wave = omega arith in
    rw young (ap (λ w. option_map_or (newer_to ledger 0 w) (leader ledger (suc wave)) []) below
    ∙ ap (λ o. option_map_or (newer_to ledger 0 wave) o []) is)

-- so the chain of a later wave is that of the wave and then the newer leaders
pub chain_joined : (ledger : Ledger) → 0 < size_in ledger → AreInPlace ledger.slots
    → (wave : ℕ) (first : Certificate) (Counts : Certificate → Type 0) → AllMeet ledger wave first Counts
    → (higher : ℕ) (last : Certificate) → wave < higher → leader ledger (suc higher) ≡ Some last → Counts last
    → chain ledger (suc higher) ≡ chain ledger (suc wave) ++ newer_to ledger (suc wave) higher last
chain_joined ledger some placed wave first Counts meet higher last less is counts =
    let place = leader_place ledger higher last some placed is in
    let place' = leader_place ledger wave first some placed meet.is in
    chain_is ledger higher last is
    ∙ joined ledger some placed wave first Counts meet 0 (omega arith) higher last less counts
    (omega (arith, place.0, place'.0, less))
    ∙ ap (λ l. l ++ newer_to ledger (suc wave) higher last) (sym (chain_is ledger wave first meet.is))
