use Rattle.std.proofs.Common.{◌<◌, List, ℕ, subst, sym}
use Rattle.std.proofs.lemmas.Result.{IfOk-weaker}
use Rattle.dag.specs.Graph.{size_in}
use Rattle.spec_model.specs.Words.{Author}
use Rattle.sequencer.specs.Sequence.{SequencerView, ComesTo, IsPrepared, IsMadeOf}
use Rattle.sequencer.proofs.Ready.{ready_for}
use Rattle.sequencer.proofs.sequencer.Sequencer.prepare.Goals as goal

pub returns : goal.returns
returns c =
    let inside = c.self.inside in
    let v : SequencerView = record { graph = inside.dag; coins = inside.coins; last = inside.last; order = inside.order.items } in
    let x = c.args.certificate.now in
    let member : x.header.author.0 < size_in inside.dag = subst (λ (s : SequencerView). x.header.author.0 < size_in s.graph) (sym c.self.view_is) c.requires.member in
    IfOk-weaker c.new.result _ _
    (λ prepared made node state event comes adds.
    subst (λ (s : SequencerView). IsPrepared node state event s prepared) c.self.view_is
    (ready_for node state event v x c.wave_of-last.result c.in_ok-chain.chain.items prepared
    (subst (ComesTo node state event) (sym c.self.view_is) comes) adds c.limits_hold.ensures member c.wave_of-last.ensures
    (λ at new later more. c.in_ok-chain.ensures {u = tt} at new later more)
    (subst (λ (l : List (ℕ × Author)). IsMadeOf inside.dag inside.last l prepared.committed) c.deref.ensures.value (made inside.last))))
    c.new.ensures
