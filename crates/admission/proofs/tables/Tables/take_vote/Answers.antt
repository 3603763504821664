use Rattle.std.proofs.Common.{List, ap, sym, ◌∙◌}
use Rattle.std.specs.Prelude.{Ok}
use Rattle.wire.specs.declared.message.Message.TheVariants as message
use Rattle.spec_model.specs.Admitting.{is_new, vote_outputs}
use Rattle.spec_model.specs.Nodes.{Node}
use Rattle.spec_model.specs.States.{State}
use Rattle.spec_model.specs.Words.{Output, Vote}
use Rattle.spec_machine.specs.Machine.{grown}
use Rattle.dag.specs.Graph.{slots_in}
use Rattle.admission.specs.Decisions.{reported, vote_decision, known_outputs}
use Rattle.admission.specs.declared.tables.Tables.{Tables}
use Rattle.admission.proofs.Answered.{vote_answered}
use Rattle.admission.proofs.Closing.{refused_answer, refused_refuses, known_answer, known_refuses, new_refuses, went}
use Rattle.admission.proofs.Committing.{put_out}
use Rattle.admission.proofs.tables.Tables.take_vote.Goals as goal

-- what a new vote puts out, and what a known one does
abbrev new_by : Node → State → Vote → List Output
new_by node state vote = vote_outputs node state (grown node state (message.Vote vote)) vote.round

abbrev known_by : Tables → Vote → List Output
known_by tables vote = known_outputs (slots_in tables.sequencer.graph vote.round tables.own.0)

pub returns-in-Err-clause-answer : goal.returns-in-Err-clause-answer
returns-in-Err-clause-answer c = λ node state event meets.
    let tables = c.args.self.now in
    let vote = c.args.vote in
    refused_answer _ (new_by node state vote) (known_by tables vote) (vote_decision tables vote) c.in-Err.refusal
    (vote_answered c.votes_agree.ensures node state event tables vote c.limits_hold.ensures meets) (sym c.in-Err.ensures)

pub returns-in-Err-clause-refused : goal.returns-in-Err-clause-refused
returns-in-Err-clause-refused c = λ node state event meets.
    let tables = c.args.self.now in
    let vote = c.args.vote in
    refused_refuses _ (new_by node state vote) (known_by tables vote) (vote_decision tables vote) c.in-Err.refusal
    (vote_answered c.votes_agree.ensures node state event tables vote c.limits_hold.ensures meets) (sym c.in-Err.ensures)

pub returns-in-Ok-Known-clause-answer : goal.returns-in-Ok-Known-clause-answer
returns-in-Ok-Known-clause-answer c = λ node state event meets.
    let tables = c.args.self.now in
    let vote = c.args.vote in
    known_answer _ (known_by tables vote) c.known_vote.result c.known_step.result (vote_answered c.votes_agree.ensures node state event tables vote c.limits_hold.ensures meets
    ∙ ap (reported (new_by node state vote) (known_by tables vote)) (sym c.in-Ok-Known.ensures ∙ ap (λ a. Ok a) c.in-Ok-Known.field-0-is))
    c.known_step.ensures.ok c.known_step.ensures.err c.known_vote.ensures

pub returns-in-Ok-Known-clause-refused : goal.returns-in-Ok-Known-clause-refused
returns-in-Ok-Known-clause-refused c = λ node state event meets.
    let tables = c.args.self.now in
    let vote = c.args.vote in
    known_refuses _ (known_by tables vote) _ (vote_answered c.votes_agree.ensures node state event tables vote c.limits_hold.ensures meets
    ∙ ap (reported (new_by node state vote) (known_by tables vote)) (sym c.in-Ok-Known.ensures ∙ ap (λ a. Ok a) c.in-Ok-Known.field-0-is))

pub new_vote-requires : goal.new_vote-requires
new_vote-requires c =
    let tables = c.args.self.now in
    let vote = c.args.vote in
    let node = c.requires.meets.0 in
    let state = c.requires.meets.1 in
    let event = c.requires.meets.2 in
    let meets = c.requires.meets.3 in
    let is = vote_answered c.votes_agree.ensures node state event tables vote c.limits_hold.ensures meets
    ∙ ap (reported (new_by node state vote) (known_by tables vote)) (sym c.in-Ok-New.ensures ∙ ap (λ a. Ok a) c.in-Ok-New.field-0-is) in
    record { meets = (node, state, event, meets, ap is_new is) }

pub returns-in-Ok-New-clause-answer : goal.returns-in-Ok-New-clause-answer
returns-in-Ok-New-clause-answer c = λ node state event meets.
    let tables = c.args.self.now in
    let vote = c.args.vote in
    let is = vote_answered c.votes_agree.ensures node state event tables vote c.limits_hold.ensures meets
    ∙ ap (reported (new_by node state vote) (known_by tables vote)) (sym c.in-Ok-New.ensures ∙ ap (λ a. Ok a) c.in-Ok-New.field-0-is) in
    put_out tables (message.Vote vote) c.new_vote.result c.new_step.result node state event c.new_step.ensures.ok c.new_step.ensures.err c.new_vote.ensures.outputs meets (ap is_new is)

pub returns-in-Ok-New-clause-refused : goal.returns-in-Ok-New-clause-refused
returns-in-Ok-New-clause-refused c = λ node state event meets.
    let tables = c.args.self.now in
    let vote = c.args.vote in
    new_refuses _ (new_by node state vote) c.new_step.result (vote_answered c.votes_agree.ensures node state event tables vote c.limits_hold.ensures meets
    ∙ ap (reported (new_by node state vote) (known_by tables vote)) (sym c.in-Ok-New.ensures ∙ ap (λ a. Ok a) c.in-Ok-New.field-0-is))

pub returns-in-Ok-New-clause-at : goal.returns-in-Ok-New-clause-at
returns-in-Ok-New-clause-at c = λ new. went c.new_vote.result c.new_step.result c.new_step.ensures.ok c.new_step.ensures.err new c.new_vote.ensures.at
