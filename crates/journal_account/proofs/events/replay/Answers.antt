use Rattle.std.proofs.Common.{refl, subst, ◌∙◌, arith}
use Rattle.std.proofs.lemmas.List.{drop_all}
use Rattle.std.proofs.lemmas.Result.{err_from_is_err_and}
use Rattle.journal.specs.Format.{FailsAs}
use Rattle.spec_model.specs.States.{State}
use Rattle.validator.specs.Setting.{node_of}
use Rattle.validator.specs.Standing.{AreAtSound}
use Rattle.opening.specs.Decoded.{read_event, StandsAt}
use Rattle.opening.proofs.Reporting.{here}
use Rattle.journal_account.proofs.Reached.{reached_first, reached_next, reached_end, fails_there}
use Rattle.journal_account.proofs.events.replay.Goals as goal

pub loop-one-init : goal.loop-one-init
loop-one-init g c = record {
  setting = refl;
  reached = λ state at. reached_first (node_of g.S.Sign.scheme c.args.validator.now.setting) state c.args.records.now c.args.validator.now.tables at;
}

pub loop-one-preserved : goal.loop-one-preserved
loop-one-preserved g c =
    let node = node_of g.S.Sign.scheme c.args.validator.now.setting in
    let one = c.one-item.result in
    let rest = here c.args.records.now c.loop-one.one-index one (omega arith) c.one-item.is in
    let stands = subst (λ s. (state : State) → AreAtSound (node_of g.S.Sign.scheme s) c.loop-one.validator.tables state
    → StandsAt (node_of g.S.Sign.scheme s) (read_event (node_of g.S.Sign.scheme s) state one) c.take_event.new.validator.tables)
    c.loop-one.invariant.setting c.in_ok-take_event.ensures.ok in
    record {
      setting = c.take_event.ensures.setting ∙ c.loop-one.invariant.setting;
      reached = λ state at. reached_next node state c.args.records.now c.loop-one.one-index one c.loop-one.validator.tables c.take_event.new.validator.tables rest stands
          (c.loop-one.invariant.reached state at);
    }

pub returns-in_err-take_event-clause-err : goal.returns-in_err-take_event-clause-err
returns-in_err-take_event-clause-err g c =
    let node = node_of g.S.Sign.scheme c.args.validator.now.setting in
    let one = c.one-item.result in
    let rest = here c.args.records.now c.loop-one.one-index one (omega arith) c.one-item.is in
    let fails = subst (λ s. (state : State) → AreAtSound (node_of g.S.Sign.scheme s) c.loop-one.validator.tables state
    → FailsAs c.in_err-take_event.field-0.0.error (read_event (node_of g.S.Sign.scheme s) state one))
    c.loop-one.invariant.setting c.in_err-take_event.ensures.err in
    let p = err_from_is_err_and c.from_residual.result c.from_residual.ensures.1 in
    rw (p.1, p.2) (λ state at. fails_there node state c.args.records.now c.loop-one.one-index one c.loop-one.validator.tables c.in_err-take_event.field-0.0.error rest fails
    (c.loop-one.invariant.reached state at))

pub returns-clause-ok : goal.returns-clause-ok
returns-clause-ok g c = λ state at.
    let node = node_of g.S.Sign.scheme c.args.validator.now.setting in
    reached_end node state c.args.records.now c.loop-one.one-index c.loop-one.validator.tables (drop_all c.loop-one.one-index c.args.records.now (omega arith))
    (c.loop-one.invariant.reached state at)
