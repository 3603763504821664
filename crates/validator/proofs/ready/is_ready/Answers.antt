use Rattle.std.proofs.Common.{ap, sym, ◌∙◌}
use Rattle.admission.specs.Standing.{has_parents}
use Rattle.validator.proofs.Meeting.{no_parents}
use Rattle.validator.proofs.ready.is_ready.Goals as goal

pub returns-in_default : goal.returns-in_default
returns-in_default c = λ node state meets.
    sym (c.others_are_ready.ensures node state c.args.event.now (ap has_parents (sym c.message.ensures) ∙ no_parents c.message.result.now c.in_default.not-Header c.in_default.not-Certificate))
