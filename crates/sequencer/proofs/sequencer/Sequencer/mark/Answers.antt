use Rattle.std.proofs.Common.{◌≡◌, true, [], ◌∷◌, ℕ, Option, None, sym, subst}
use Rattle.std.specs.Prelude.{is_some, IfSome}
use Rattle.dag.specs.Graph.{slots_in}
use Rattle.spec_model.specs.Words.{Author}
use Rattle.sequencer.specs.Restored.{IsMarkedTo}
use Rattle.sequencer.specs.Sequence.{SequencerView, IsMadeOf}
use Rattle.sequencer.proofs.Entering.{marked_by}
use Rattle.sequencer.proofs.sequencer.Sequencer.mark.Goals as goal

pub returns-in_ok-prepared-clause-ok : goal.returns-in_ok-prepared-clause-ok
returns-in_ok-prepared-clause-ok c =
    let before = c.args.self.now in
    let after = c.commit.new.self in
    let leader = c.in-Some.leader in
    let committed = c.in_ok-prepared.prepared.committed in
    let held : is_some (slots_in before.graph leader.0 leader.1.0) ≡ true =
    subst (λ (o : Option (ℕ × Author)). IfSome o (λ (s : ℕ × Author). is_some (slots_in before.graph s.0 s.1.0) ≡ true)) c.in-Some.is c.requires.held in
    subst (IsMarkedTo before after) (sym c.in-Some.is)
    (marked_by before after leader committed c.requires.unmarked held
    (subst (λ (s : SequencerView). IsMadeOf s.graph None (leader ∷ []) committed) c.self.view_is (c.in_ok-prepared.ensures None))
    c.commit.ensures.graph c.commit.ensures.coins c.commit.ensures.order)
