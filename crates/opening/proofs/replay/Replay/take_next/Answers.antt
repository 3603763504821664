use Rattle.std.specs.Prelude.{◌&&◌, nat_lt}
use Rattle.std.proofs.Common.{rules, ◌≢◌, [], ◌∷◌, ◌++◌, Result, refl, sym, subst}
use Rattle.journal.specs.declared.error.JournalError.{JournalError}
use Rattle.journal.specs.declared.error.JournalError.TheVariants as errors
use Rattle.validator.specs.Standing.{ValidatorView}
use Rattle.opening.specs.Replayed.{HasReplayed}
use Rattle.opening.proofs.Replays.{took, failed, stayed}
use Rattle.opening.proofs.replay.Replay.take_next.Goals as goal

pub returns-in-Ok-take_event-clause-taken : goal.returns-in-Ok-take_event-clause-taken
returns-in-Ok-take_event-clause-taken g c before has =
    let was = c.args.self.now in
    took g.S.Sign.scheme was.config.now (record { bytes = c.args.bytes.now; gate = c.args.place }) was.alone was.first c.requires before c.in-Ok.validator c.take_event.new.validator
    (subst (λ (reached : Result (ValidatorView g.row.S.Denot) JournalError). HasReplayed g.S.Sign.scheme was.config.now was.first was.alone reached before) c.in-Ok.is has)
    c.take_event.ensures.setting c.is_text.ensures c.in-Ok-take_event.ensures.ok

pub returns-in-Err-take_event : goal.returns-in-Err-take_event
returns-in-Err-take_event g c =
    let was = c.args.self.now in
    let other : c.in-Err-take_event.fault ≢ errors.Memory = search rules in
    record {
      config = refl;
      taken = λ before has. failed g.S.Sign.scheme was.config.now (record { bytes = c.args.bytes.now; gate = c.args.place }) was.alone was.first c.requires before
          c.in-Ok.validator c.in-Err-take_event.fault
          (subst (λ (reached : Result (ValidatorView g.row.S.Denot) JournalError). HasReplayed g.S.Sign.scheme was.config.now was.first was.alone reached before) c.in-Ok.is has)
          other c.in-Err-take_event.ensures.err;
    }

pub returns-in-Err-clause-taken : goal.returns-in-Err-clause-taken
returns-in-Err-clause-taken g c before has =
    let was = c.args.self.now in
    subst (λ (reached : Result (ValidatorView g.row.S.Denot) JournalError). HasReplayed g.S.Sign.scheme was.config.now was.first (was.alone && nat_lt 0 c.args.place) reached
    (before ++ (record { bytes = c.args.bytes.now; gate = c.args.place }) ∷ [])) (sym c.in-Err.is)
    (stayed g.S.Sign.scheme was.config.now (record { bytes = c.args.bytes.now; gate = c.args.place }) was.alone was.first c.requires before c.in-Err.field-0
    (subst (λ (reached : Result (ValidatorView g.row.S.Denot) JournalError). HasReplayed g.S.Sign.scheme was.config.now was.first was.alone reached before) c.in-Err.is has))
