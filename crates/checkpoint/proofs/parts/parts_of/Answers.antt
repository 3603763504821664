use Rattle.std.proofs.Common.{◌≡◌, ap, sym, subst, ◌∙◌}
use Rattle.std.specs.Prelude.{All, option_map}
use Rattle.std.specs.FinMap.{entries}
use Rattle.batchstore.specs.Stock.{BatchStoreView}
use Rattle.dag.specs.Graph.{DagView, slots_in}
use Rattle.spec_machine.specs.Machine.{last_leader}
use Rattle.tusk.specs.Chain.{ledger_in, slot_of}
use Rattle.sequencer.specs.Restored.{AreListed, HoldsListed}
use Rattle.sequencer.specs.Sequence.{SequencerView}
use Rattle.admission.specs.Headers.{AssembliesView}
use Rattle.admission.specs.Kept.{AreVotedBy, table_of}
use Rattle.checkpoint.specs.Kept.{AreOfOthers}
use Rattle.checkpoint.proofs.Keeping.{kept_of}
use Rattle.checkpoint.proofs.Sequenced.{holds_above, listed_above}
use Rattle.checkpoint.proofs.parts.parts_of.Goals as goal

pub returns-clause-kept : goal.returns-clause-kept
returns-clause-kept c = λ node state node_is sound at.
    let tables = c.args.tables.now in
    let graph : DagView = c.dag-dag.result.now in
    let voted = c.in_ok-headers_of.field-0.items in
    let same : graph ≡ tables.sequencer.graph = c.dag-dag.ensures ∙ ap (λ (s : SequencerView). s.graph) c.sequencer-sequencer.ensures in
    kept_of node state tables _ node_is sound at (record {
      digested = c.in_ok-batches_of.ensures.digested;
      held = c.in_ok-batches_of.ensures.held ∙ ap (λ (b : BatchStoreView). b.held) c.batches.ensures;
      votes = c.in_ok-votes_of.ensures ∙ ap entries c.votes.ensures;
      voted = subst (λ (h : AssembliesView). AreVotedBy h.charter h.own voted) c.headers.ensures c.in_ok-headers_of.ensures.voted;
      table = subst (λ (h : AssembliesView). table_of h.charter h.own voted ≡ h) c.headers.ensures c.in_ok-headers_of.ensures.table;
      floor = c.floor.ensures ∙ ap (λ (g : DagView). g.floor) same;
      last = c.last_leader-last.ensures ∙ ap (λ (g : DagView). option_map slot_of (last_leader (ledger_in g c.in_ok-coins.coins))) same;
      listed = subst AreListed (sym c.in_ok-certificates.ensures) (listed_above graph c.limits_hold.ensures);
      slots = subst (λ (g : DagView). HoldsListed (slots_in g) c.in_ok-certificates.certificates.items) same
          (subst (HoldsListed (slots_in graph)) (sym c.in_ok-certificates.ensures) (holds_above graph c.limits_hold.ensures));
      coins = c.in_ok-coins.ensures ∙ c.coins.ensures ∙ ap (λ (s : SequencerView). s.coins) c.sequencer-sequencer.ensures;
      order = c.in_ok-to_vec.ensures.items_if_clones_equal (λ x y same. cc) ∙ c.order.ensures ∙ ap (λ (s : SequencerView). s.order) c.sequencer-sequencer.ensures;
    })

pub returns-clause-others : goal.returns-clause-others
returns-clause-others c = subst (λ (h : AssembliesView). All (AreOfOthers h.own) c.in_ok-headers_of.field-0.items) c.headers.ensures c.in_ok-headers_of.ensures.others
