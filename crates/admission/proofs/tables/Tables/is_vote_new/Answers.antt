use Rattle.std.proofs.Common.{ap, ◌∙◌}
use Rattle.wire.specs.declared.message.Message.TheVariants as message
use Rattle.spec_model.specs.Admitting.{vote_outputs}
use Rattle.spec_machine.specs.Machine.{grown}
use Rattle.dag.specs.Graph.{slots_in}
use Rattle.admission.specs.Decisions.{is_new_decision, vote_decision, known_outputs}
use Rattle.admission.proofs.Answered.{vote_answered}
use Rattle.admission.proofs.Closing.{newness_is_reported}
use Rattle.admission.proofs.tables.Tables.is_vote_new.Goals as goal

pub returns : goal.returns
returns c = λ node state event meets.
    let tables = c.args.self.now in
    let vote = c.args.vote.now in
    c.is_new.ensures ∙ ap is_new_decision c.vote_decision.ensures
    ∙ newness_is_reported _ (vote_outputs node state (grown node state (message.Vote vote)) vote.round)
    (known_outputs (slots_in tables.sequencer.graph vote.round tables.own.0)) (vote_decision tables vote)
    (vote_answered c.votes_agree.ensures node state event tables vote c.limits_hold.ensures meets)
