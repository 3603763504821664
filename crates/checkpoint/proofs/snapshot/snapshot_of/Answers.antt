use Rattle.std.proofs.Common.{◌≡◌, ℕ, List, [], ◌∷◌, ◌++◌, ap, sym, subst, ◌∙◌}
use Rattle.std.specs.Prelude.{All}
use Rattle.committee.specs.Charter.{Charter}
use Rattle.dag.specs.Graph.{DagView}
use Rattle.journal.specs.declared.version.Version.TheVariants.{Second}
use Rattle.sequencer.specs.Sequence.{SequencerView}
use Rattle.spec_checkpoint.specs.Records.{state_records}
use Rattle.spec_machine.specs.Sound.{IsSound}
use Rattle.spec_model.specs.States.{State}
use Rattle.spec_records.specs.Records.{configuration_of}
use Rattle.admission.specs.Standing.{AreAt}
use Rattle.checkpoint.specs.Kept.{AreOfOthers, checkpoint_of}
use Rattle.checkpoint.proofs.Fitting.{records_fit}
use Rattle.checkpoint.proofs.snapshot.snapshot_of.Goals as goal

pub put_records-requires : goal.put_records-requires
put_records-requires c =
    let (node, state, stand) = c.requires in
    let kept = c.in_ok-kept.kept in
    let others = subst (λ (member : ℕ). All (AreOfOthers member) kept.headers.items) stand.at.headers.own c.in_ok-kept.ensures.others in
    let same = c.checkpoint_is_state.ensures node state kept (c.in_ok-kept.ensures.kept node state stand.node_is stand.sound stand.at) others in
    records_fit node (checkpoint_of kept) same.0.canonical

pub returns : goal.returns
returns c = λ node state own node_is sound at.
    let tables = c.args.tables.now in
    let kept = c.in_ok-kept.kept in
    let records = state_records (checkpoint_of kept) in
    let row = c.in_ok-configuration.configuration in
    let others = subst (λ (member : ℕ). All (AreOfOthers member) kept.headers.items) at.headers.own c.in_ok-kept.ensures.others in
    let same = c.checkpoint_is_state.ensures node state kept (c.in_ok-kept.ensures.kept node state node_is sound at) others in
    let charter : c.committee-committee.result.now ≡ node.charter =
    c.committee-committee.ensures ∙ ap (λ (g : DagView). g.charter) (c.dag.ensures ∙ ap (λ (s : SequencerView). s.graph) c.sequencer.ensures) ∙ at.sequence.charter in
    let first : row.items ≡ configuration_of Second node.charter node.own =
    c.in_ok-configuration.ensures.bytes ∙ ap (λ (x : Charter). configuration_of Second x c.args.own) charter ∙ ap (configuration_of Second node.charter) (sym own) in
    record {
      checkpoint = checkpoint_of kept;
      written = same.0;
      sound = subst (IsSound node) (sym same.1) sound;
      at = subst (λ (s : State). AreAt node s tables) (sym same.1) at;
      are = c.close.ensures ∙ c.in_ok-put_records.ensures
          ∙ ap (λ (l : List (List ℕ)). l ++ records) (c.in_ok-draft.ensures ∙ ap (λ (text : List ℕ). text ∷ []) (c.as_slice.ensures.value ∙ first));
    }
