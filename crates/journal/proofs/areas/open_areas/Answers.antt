use Rattle.std.proofs.Common.{◌≡◌, sym, ◌∙◌, inl}
use Rattle.std.proofs.lemmas.Result.{err_from_is_err_and}
use Rattle.diskmodel.proofs.Clock.{started, weaker}
use Rattle.journal.specs.declared.error.JournalError.TheVariants as errors
use Rattle.journal.specs.Areas.{chosen}
use Rattle.journal.specs.Journal.{IsAsOneOf}
use Rattle.journal.proofs.Openings.{over_opening, choice_fails}
use Rattle.journal.proofs.Stops.{damaged_at}
use Rattle.journal.proofs.areas.open_areas.Goals as goal

pub returns-in_err-reported-clause-first_moment : goal.returns-in_err-reported-clause-first_moment
returns-in_err-reported-clause-first_moment g c =
    let device = g.D.Disk.device in
    weaker device c.args.first.now c.reported_by.new.disk (IsAsOneOf (device.outcome c.args.first.now)) (device.outcome c.args.first.now) c.reported_by.ensures.any_moment (λ left now. inl now)

pub returns-in_err-reported-clause-second_moment : goal.returns-in_err-reported-clause-second_moment
returns-in_err-reported-clause-second_moment g c =
    let device = g.D.Disk.device in
    let old = c.args.second.now in
    started device old (IsAsOneOf (device.outcome old)) (λ left now. inl (g.met.D.Disk.only_now old left now))

pub returns-clause-first_moment : goal.returns-clause-first_moment
returns-clause-first_moment g c =
    let device = g.D.Disk.device in
    let old = c.args.first.now in
    over_opening device old c.reported_by.new.disk c.settle_side.new.first
    (g.met.D.Disk.content_is_outcome old) c.reported_by.ensures.any_moment c.reported_by.ensures.content c.settle_side.ensures.first_moment

pub returns-clause-second_moment : goal.returns-clause-second_moment
returns-clause-second_moment g c =
    let device = g.D.Disk.device in
    let old = c.args.second.now in
    over_opening device old c.reported_by-2.new.disk c.settle_side.new.second
    (g.met.D.Disk.content_is_outcome old) c.reported_by-2.ensures.any_moment c.reported_by-2.ensures.content c.settle_side.ensures.second_moment

pub returns-in_err-choice-clause-damaged : goal.returns-in_err-choice-clause-damaged
returns-in_err-choice-clause-damaged g c place is =
    let device = g.D.Disk.device in
    let exit = err_from_is_err_and c.from_residual-in_err-choice.result c.from_residual-in_err-choice.ensures.1 in
    let error_is : c.in_err-choice.field-0.0 ≡ errors.Damaged place = cc (exit.1, exit.2, is) in
    choice_fails (device.content c.args.first.now) (device.content c.args.second.now) place
    ((λ i. chosen (sym c.in_ok-reported.ensures.reported i) (sym c.in_ok-also.ensures.reported i))
    ∙ damaged_at c.in_err-choice.field-0.0 (chosen c.in_ok-reported.reported c.in_ok-also.also) place c.in_err-choice.ensures.err error_is)
