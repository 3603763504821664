use Rattle.std.proofs.Common.{Ok, refl, ap, ◌∙◌}
use Rattle.waiter.specs.Rounds.{none_waits}
use Rattle.node_run.proofs.Brought.{brings_new, brings_known, brings_refusal, brings_waiting, waits_certificate}
use Rattle.node_run.proofs.intake.Intake.submit.Goals as goal

pub returns-in-Ok-New-clause-brings : goal.returns-in-Ok-New-clause-brings
returns-in-Ok-New-clause-brings g c =
    brings_new _ _ _ _ _ c.take.new.self _ _ c.take.result c.take.ensures.handles (c.in-Ok-New.is ∙ ap Ok c.in-Ok-New.field-0-is) refl

pub returns-in-Ok-Known-clause-brings : goal.returns-in-Ok-Known-clause-brings
returns-in-Ok-Known-clause-brings g c =
    brings_known _ _ _ _ _ c.take.new.self _ _ c.take.result c.take.ensures.handles (c.in-Ok-Known.is ∙ ap Ok c.in-Ok-Known.field-0-is) refl

pub returns-in-Ok-Waits-clause-brings : goal.returns-in-Ok-Waits-clause-brings
returns-in-Ok-Waits-clause-brings g c =
    brings_waiting _ _ _ _ _ c.take.new.self _ _ c.take.result c.take.ensures.handles c.offer.new.self.caller c.in-Ok-Waits.event c.offer.result
    c.offer.ensures.looks (c.in-Ok-Waits.is ∙ ap Ok c.in-Ok-Waits.field-0-is)
    c.offer.ensures.never_new c.offer.ensures.ok c.offer.ensures.err c.offer.ensures.why

pub returns-in-Err-clause-brings : goal.returns-in-Err-clause-brings
returns-in-Err-clause-brings g c =
    brings_refusal _ _ _ _ _ c.take.new.self _ _ c.take.result c.take.ensures.handles c.in-Err.reported c.in-Err.is refl

pub offer-requires : goal.offer-requires
offer-requires g c = waits_certificate _ _ _ _ _ c.take.new.self none_waits none_waits c.take.result c.take.ensures.handles c.in-Ok-Waits.event (c.in-Ok-Waits.is ∙ ap Ok c.in-Ok-Waits.field-0-is)
