-- The round of a sequencer is that of its state.
use Rattle.std.proofs.Common.{◌≡◌, ◌⊎◌, ℕ, zero, suc, ◌+◌, ◌<◌, ◌≤◌, true, false, Some, inl, inr, ap, sym, ◌∙◌, arith}
use Rattle.std.specs.Prelude.{is_some, nat_le, option_map}
use Rattle.std.proofs.lemmas.Bool.{cases_Bool, cases_lt, leb-true}
use Rattle.std.proofs.lemmas.Option.{none-some}
use Rattle.committee.specs.Charter.{Charter, weight, quorum_of}
use Rattle.committee.proofs.Weights.{some_of_weight}
use Rattle.spec_model.specs.Holdings.{is_full}
use Rattle.spec_model.specs.Nodes.{Node}
use Rattle.spec_model.specs.Slots.{Slots}
use Rattle.spec_model.specs.States.{State}
use Rattle.spec_model.specs.Words.{Certificate}
use Rattle.spec_laws.proofs.Lists.{given_or_none}
use Rattle.spec_machine.specs.Machine.{full_to, round_in}
use Rattle.spec_machine.specs.Sound.{IsSound}
use Rattle.dag.specs.Graph.{Placed, slots_in, stake_in, end_in}
use Rattle.sequencer.specs.Sequence.{SequencerView, IsAt}
use Rattle.sequencer.proofs.Extending.{placed_within}

-- of the rounds up to one the greatest full one
full_is : (node : Node) (slots : Slots) (full most : ℕ) → full ≤ most → (full ≡ 0) ⊎ (is_full node slots full ≡ true)
    → ((round : ℕ) → full < round → round ≤ most → is_full node slots round ≡ false) → full_to node slots most ≡ full
full_is node slots full zero within is above = omega (arith, within)
full_is node slots full (suc most) within is above =
    elim (cases_lt full (suc most)) [
      | inl below ↦
          let not = above (suc most) below (omega arith) in
          rw not (full_is node slots full most (omega (arith, below)) is (λ round more least. above round more (omega (arith, least))))
      | inr greatest ↦
          let same : full ≡ suc most = omega (arith, within, greatest) in
          elim is [
            | inl none ↦ absurd (omega (arith, none, same))
            | inr here ↦ let here' = ap (is_full node slots) (sym same) ∙ here in rw here' (sym same)
          ]
    ]

-- of a full round a certificate is held
one_of : (node : Node) (slots : Slots) (round : ℕ) → is_full node slots round ≡ true → (author : ℕ) × (c : Certificate) × (slots round author ≡ Some c)
one_of node slots round full =
    let enough = leb-true (quorum_of node.charter) (weight node.charter (λ author. is_some (slots round author))) full in
    let one = some_of_weight node.charter (λ author. is_some (slots round author)) (omega (arith, enough)) in
    elim (given_or_none (slots round one.member)) [
      | inl found ↦ (one.member, found.0, found.1)
      | inr none ↦ let nothing = ap is_some (sym none) ∙ one.holds in absurd cc
    ]

-- a round is full by what a DAG holds
stake_is : (node : Node) (state : State) (sequence : SequencerView) → IsAt node state sequence → (round : ℕ) → stake_in sequence.graph round
    ≡ weight node.charter (λ author. is_some (state.slots round author))
stake_is node state sequence at round =
    ap (λ (x : Charter). weight x (λ author. is_some (slots_in sequence.graph round author))) at.charter
    ∙ ap (λ (s : Slots). weight node.charter (λ author. is_some (s round author))) at.slots

not_enough : (one other : ℕ) → other < one → nat_le one other ≡ false
not_enough one other less = grind (arith, less)

enough : (one other : ℕ) → one ≤ other → nat_le one other ≡ true
enough one other less = grind (arith, less)

pub full_by : (node : Node) (state : State) (sequence : SequencerView) → IsAt node state sequence → (round : ℕ)
    → quorum_of sequence.graph.charter ≤ stake_in sequence.graph round → is_full node state.slots round ≡ true
full_by node state sequence at round more =
    let charter : quorum_of sequence.graph.charter ≡ quorum_of node.charter = ap quorum_of at.charter in
    let stake = stake_is node state sequence at round in
    enough (quorum_of node.charter) (weight node.charter (λ author. is_some (state.slots round author))) (omega (arith, charter, stake, more))

-- the round is that after the greatest full one from the floor on
pub round_is : (node : Node) (state : State) (sequence : SequencerView) → IsSound node state → IsAt node state sequence → (full : ℕ) → (full ≡ 0)
    ⊎ (quorum_of sequence.graph.charter ≤ stake_in sequence.graph full)
    → ((round : ℕ) → full < round → round < end_in sequence.graph → sequence.graph.floor ≤ round → stake_in sequence.graph round < quorum_of sequence.graph.charter) → full + 1 ≡ round_in node state
round_is node state sequence sound at full is above =
    let found = full_is node state.slots full state.highest within here others in
    omega (arith, found)
  where
    here : (full ≡ 0) ⊎ (is_full node state.slots full ≡ true)
    here = elim is [ inl none ↦ inl none | inr more ↦ inr (full_by node state sequence at full more) ]

    within : full ≤ state.highest
    within =
        elim here [
          | inl none ↦ omega (arith, none)
          | inr enough_there ↦ let one = one_of node state.slots full enough_there in sound.certificates.highest full one.0 one.1 one.2
        ]

    others : (round : ℕ) → full < round → round ≤ state.highest → is_full node state.slots round ≡ false
    others round higher most =
        elim (cases_Bool (is_full node state.slots round)) [
          | inr not ↦ not
          | inl enough_there ↦
              let one = one_of node state.slots round enough_there in
              let least = sound.certificates.above round one.0 one.1 one.2 in
              let floor = at.floor in
              let held : slots_in sequence.graph round one.0 ≡ Some one.1 = ap (λ (s : Slots). s round one.0) at.slots ∙ one.2 in
              elim (cases_lt round (end_in sequence.graph)) [
                | inr past ↦ absurd (none-some one.1 (sym (ap (option_map (λ (p : Placed). p.certificate)) (placed_within sequence.graph round one.0 past)) ∙ held))
                | inl before ↦
                    let few = above round higher before (omega (arith, least, floor)) in
                    let charter : quorum_of sequence.graph.charter ≡ quorum_of node.charter = ap quorum_of at.charter in
                    let stake = stake_is node state sequence at round in
                    let enough' = leb-true (quorum_of node.charter) (weight node.charter (λ author. is_some (state.slots round author))) enough_there in
                    absurd (omega (arith, few, charter, stake, enough'))
              ]
        ]
