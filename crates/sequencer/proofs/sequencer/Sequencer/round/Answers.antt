use Rattle.std.proofs.Common.{◌≡◌, ◌∙◌, ℕ, ◌+◌, inl, inr, ap, sym, refl, arith}
use Rattle.std.proofs.lemmas.Bool.{cases_lt}
use Rattle.committee.specs.Charter.{quorum_of}
use Rattle.dag.specs.Graph.{stake_in, end_in}
use Rattle.sequencer.specs.Sequence.{SequencerView}
use Rattle.sequencer.proofs.Rounds.{round_is}
use Rattle.sequencer.proofs.sequencer.Sequencer.round.Goals as goal

pub loop-past-preserved : goal.loop-past-preserved
loop-past-preserved c round least within =
    let past = c.loop-past.past in
    elim (cases_lt (round + past) c.end-end.result) [
      | inr old ↦ c.loop-past.invariant round old within
      | inl new ↦
          let is : c.round_of.result ≡ round = c.round_of.ensures ∙ omega (arith, least, new) in
          let stake : c.stake_at.result ≡ stake_in c.args.self.now.graph round =
          c.stake_at.ensures ∙ ap (λ (r : ℕ). stake_in c.self.inside.dag r) is ∙ ap (λ (s : SequencerView). stake_in s.graph round) c.self.view_is in
          omega (arith, stake, c.if-quorum-stake_at.false)
    ]

pub returns-then-quorum-stake_at-clause-value : goal.returns-then-quorum-stake_at-clause-value
returns-then-quorum-stake_at-clause-value c node state sound at =
    let number = c.round_of.result in
    let quorum : c.quorum-quorum.result ≡ quorum_of c.args.self.now.graph.charter =
    c.quorum-quorum.ensures ∙ ap quorum_of c.committee.ensures ∙ ap (λ (s : SequencerView). quorum_of s.graph.charter) c.self.view_is in
    let end : c.end-end.result ≡ end_in c.args.self.now.graph = c.end-end.ensures ∙ ap (λ (s : SequencerView). end_in s.graph) c.self.view_is in
    let stake : c.stake_at.result ≡ stake_in c.args.self.now.graph number = c.stake_at.ensures ∙ ap (λ (s : SequencerView). stake_in s.graph number) c.self.view_is in
    ap (λ (n : ℕ). n + 1) (sym c.round_of.ensures)
    ∙ round_is node state c.args.self.now sound at number (inr (omega (arith, quorum, stake, c.if-quorum-stake_at.true)))
    (λ round higher within above. let few = c.loop-past.invariant round (omega (arith, higher, c.round_of.ensures)) (omega (arith, within, end)) in omega (arith, few, quorum))

pub returns-clause-value : goal.returns-clause-value
returns-clause-value c node state sound at =
    let quorum : c.quorum-quorum.result ≡ quorum_of c.args.self.now.graph.charter =
    c.quorum-quorum.ensures ∙ ap quorum_of c.committee.ensures ∙ ap (λ (s : SequencerView). quorum_of s.graph.charter) c.self.view_is in
    let end : c.end-end.result ≡ end_in c.args.self.now.graph = c.end-end.ensures ∙ ap (λ (s : SequencerView). end_in s.graph) c.self.view_is in
    let floor : c.number.result ≡ c.args.self.now.graph.floor = c.number.ensures.value ∙ c.floor.ensures ∙ ap (λ (s : SequencerView). s.graph.floor) c.self.view_is in
    round_is node state c.args.self.now sound at 0 (inl refl)
    (λ round higher within above.
    let few = c.loop-past.invariant round (omega (arith, above, floor, c.loop-past-test.false)) (omega (arith, within, end)) in
    omega (arith, few, quorum))
