use Rattle.std.proofs.Common.{ℕ, ◌++◌, ◌∷◌, List, [], ap, sym, subst, ◌∙◌}
use Rattle.wire.specs.declared.message.Message.TheVariants as message
use Rattle.wire.specs.declared.output.Output.TheVariants as output
use Rattle.spec_model.specs.Admitting.{order_outputs, vote_outputs}
use Rattle.spec_model.specs.Words.{Certificate, Output}
use Rattle.header.specs.declared.admission.Admission.TheVariants as admission
use Rattle.spec_machine.specs.Machine.{grown}
use Rattle.certify.specs.Answer.{completion_of}
use Rattle.admission.specs.Headers.{IsForgotten}
use Rattle.dag.specs.Graph.{slots_in}
use Rattle.admission.specs.Batches.{changes_batches}
use Rattle.admission.specs.Votes.{is_peers_header}
use Rattle.admission.specs.Decisions.{vote_decision, known_outputs}
use Rattle.admission.proofs.Answered.{vote_answered}
use Rattle.admission.proofs.Closing.{comes_of, new_is_reported}
use Rattle.admission.proofs.Committing.{comes_to, after_commit, with_high}
use Rattle.admission.proofs.VoteCounting.{vote_high, completed_digest, outputs_with}
use Rattle.admission.proofs.tables.Tables.complete.Goals as goal

pub hold_certificate-requires-clause-new : goal.hold_certificate-requires-clause-new
hold_certificate-requires-clause-new c =
    let tables = c.args.self.now in
    let vote = c.args.vote in
    let certificate = c.args.certificate in
    let node = c.requires.meets.0 in
    let state = c.requires.meets.1 in
    let event = c.requires.meets.2 in
    let meets = c.requires.meets.3 in
    let comes = comes_of node state event tables (message.Vote vote) meets c.requires.meets.4 in
    let is = c.vote_comes.ensures node state event vote tables.headers comes c.limits_hold.ensures meets.at.headers meets.message in
    c.certificates_are_new.ensures node state event tables.sequencer certificate (comes_to node state event tables comes meets.at)
    (is.complete certificate (sym c.requires.added))

pub hold_certificate-requires-clause-digested : goal.hold_certificate-requires-clause-digested
hold_certificate-requires-clause-digested c =
    ap (λ (t : List ℕ). record { 0 = t }) c.certificate_digest-digest.ensures
    ∙ completed_digest c.args.self.now.headers c.args.vote c.args.certificate c.requires.added

pub returns-clause-outputs : goal.returns-clause-outputs
returns-clause-outputs c = λ node state event meets new.
    let tables = c.args.self.now in
    let vote = c.args.vote in
    let certificate = c.args.certificate in
    let comes = comes_of node state event tables (message.Vote vote) meets new in
    let is = c.vote_comes.ensures node state event vote tables.headers comes c.limits_hold.ensures meets.at.headers meets.message in
    let completes = is.complete certificate (sym c.requires.added) in
    let puts = c.in_ok-hold_certificate.ensures.outputs node state event (comes_to node state event tables comes meets.at) completes in
    new_is_reported _ (vote_outputs node state (grown node state (message.Vote vote)) vote.round) (known_outputs (slots_in tables.sequencer.graph vote.round tables.own.0)) (vote_decision tables vote)
    (vote_answered c.votes_agree.ensures node state event tables vote c.limits_hold.ensures meets) new
    ∙ ap admission.New (outputs_with node state event vote tables.headers certificate meets.message is completes
    ∙ sym (c.into_vec.ensures ∙ puts
    ∙ ap (λ (l : List Output). l ++ order_outputs state (grown node state event.message)) (c.in_ok-push.ensures.ok
    ∙ ap (λ (l : List Output). l ++ output.Certificate c.in_ok-try_clone.field-0 ∷ []) c.new-outputs.ensures
    ∙ ap (λ (x : Certificate). output.Certificate x ∷ []) c.in_ok-try_clone.ensures)))

pub returns-clause-at : goal.returns-clause-at
returns-clause-at c = λ node state event meets new.
    let tables = c.args.self.now in
    let vote = c.args.vote in
    let certificate = c.args.certificate in
    let later = c.trim.new.self in
    let made = c.hold_certificate.new.sequencer in
    let before = c.floor-before.result in
    let counted = c.count.new.self in
    let others = c.others_stay.ensures in
    let comes = comes_of node state event tables (message.Vote vote) meets new in
    let is = c.vote_comes.ensures node state event vote tables.headers comes c.limits_hold.ensures meets.at.headers meets.message in
    let low = others.low node state event tables comes meets.at in
    let at = c.in_ok-hold_certificate.ensures.at node state event (comes_to node state event tables comes meets.at) (is.complete certificate (sym c.requires.added)) in
    let forgotten = with_high tables.headers counted _ vote.round _ low.headers c.count.ensures
    (vote_high others.high node state event tables vote meets new) in
    after_commit others node state event tables later made before comes meets.at (ap (changes_batches node) meets.message) (ap (is_peers_header node) meets.message)
    c.trim.ensures.own c.trim.ensures.batches at c.trim.ensures.sequencer c.floor-before.ensures c.trim.ensures.votes
    (is.after counted c.count.ensures later.headers (subst (λ (f : ℕ). IsForgotten counted later.headers f) at.floor
    (c.trim.ensures.headers (subst (λ (f : ℕ). IsForgotten counted counted f) (sym (c.floor-before.ensures ∙ meets.at.sequence.floor)) forgotten))))

pub count-requires : goal.count-requires
count-requires c = ap completion_of (sym c.requires.added)
