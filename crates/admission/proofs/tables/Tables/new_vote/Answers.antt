use Rattle.std.proofs.Common.{◌≡◌, ◌⊎◌, ap, sym, ◌∙◌, subst}
use Rattle.wire.specs.declared.message.Message.TheVariants as message
use Rattle.spec_model.specs.Admitting.{vote_outputs}
use Rattle.spec_model.specs.Histories.{as_coin}
use Rattle.header.specs.declared.admission.Admission.TheVariants as admission
use Rattle.spec_machine.specs.Machine.{grown}
use Rattle.dag.specs.Graph.{slots_in}
use Rattle.admission.specs.Decisions.{vote_decision, known_outputs}
use Rattle.admission.proofs.Answered.{vote_answered}
use Rattle.admission.proofs.Closing.{comes_of, new_is_reported}
use Rattle.admission.proofs.VoteCounting.{outputs_without, counted_or_complete}
use Rattle.certify.specs.declared.added.Added.TheVariants as added
use Rattle.admission.proofs.tables.Tables.new_vote.Goals as goal

pub returns-in-Counted-clause-outputs : goal.returns-in-Counted-clause-outputs
returns-in-Counted-clause-outputs c = λ node state event meets new.
    let tables = c.args.self.now in
    let vote = c.args.vote in
    let comes = comes_of node state event tables (message.Vote vote) meets new in
    let is = c.vote_comes.ensures node state event vote tables.headers comes c.limits_hold.ensures meets.at.headers meets.message in
    let none = is.counted (sym c.in_ok-certificate.ensures ∙ c.in-Counted.is) in
    let beside = c.others_stay.ensures.beside node state event tables comes meets.at none (ap as_coin meets.message) in
    new_is_reported _ (vote_outputs node state (grown node state (message.Vote vote)) vote.round) (known_outputs (slots_in tables.sequencer.graph vote.round tables.own.0)) (vote_decision tables vote)
    (vote_answered c.votes_agree.ensures node state event tables vote c.limits_hold.ensures meets) new
    ∙ ap admission.New (outputs_without node state event vote tables.headers meets.message is none (sym beside.sequence.order ∙ meets.at.sequence.order) ∙ sym c.new.ensures.items)

pub unreachable-requires : goal.unreachable-requires
unreachable-requires c =
    let meets = c.requires.meets in
    let comes = comes_of meets.0 meets.1 meets.2 c.args.self.now (message.Vote c.args.vote) meets.3 meets.4 in
    let is = c.vote_comes.ensures meets.0 meets.1 meets.2 c.args.vote c.args.self.now.headers comes c.limits_hold.ensures meets.3.at.headers meets.3.message in
    counted_or_complete _ (subst (λ a. (a ≡ added.Again) ⊎ (a ≡ added.NotOurs)) (c.in_ok-certificate.ensures ∙ is.answer) c.in-Again.is)
