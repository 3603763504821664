use Rattle.std.proofs.Common.{◌≡◌, ◌<◌, ◌∙◌, List, ◌++◌, ap, sym, subst}
use Rattle.dag.specs.Graph.{size_in}
use Rattle.spec_model.specs.Words.{Digest}
use Rattle.sequencer.specs.Sequence.{SequencerView, ComesTo, IsPrepared, prepared_digests}
use Rattle.sequencer.proofs.Committing.{held_on}
use Rattle.sequencer.proofs.sequencer.Sequencer.hold.Goals as goal

pub returns-clause-at : goal.returns-clause-at
returns-clause-at c node state event comes adds ready =
    let inside = c.self.inside in
    let v : SequencerView = record { graph = inside.dag; coins = inside.coins; last = inside.last; order = inside.order.items } in
    let x = c.args.certificate in
    let prepared = c.args.prepared.now in
    let member : x.header.author.0 < size_in inside.dag = subst (λ (s : SequencerView). x.header.author.0 < size_in s.graph) (sym c.self.view_is) c.requires.member in
    let order : c.commit.new.self.order ≡ inside.order.items ++ prepared_digests prepared =
    c.commit.ensures.order ∙ c.add_all.ensures ∙ ap (λ (l : List Digest). l ++ c.digests-2.result.now) c.in_ok-reserve.ensures.items
    ∙ ap (λ (l : List Digest). inside.order.items ++ l) c.digests-2.ensures in
    held_on c.states_go_on.ensures c.made_stays.ensures node state event v x c.hold.new.self prepared c.commit.new.self
    (subst (ComesTo node state event) (sym c.self.view_is) comes) adds
    (subst (λ (s : SequencerView). IsPrepared node state event s prepared) (sym c.self.view_is) ready)
    c.limits_hold.ensures member c.limits_hold-2.ensures c.in_ok-hold.ensures.ok c.commit.ensures.graph c.commit.ensures.coins order
