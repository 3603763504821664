use Rattle.std.proofs.Common.{◌≡◌, Err, ap, ◌∙◌, inl}
use Rattle.std.proofs.lemmas.Result.{err_from_is_err_and}
use Rattle.journal.specs.declared.error.JournalError.TheVariants as errors
use Rattle.journal.specs.Journal.{IsSameAs}
use Rattle.journal.proofs.Openings.{read_chosen, are_opened}
use Rattle.journal.proofs.Rewritten.{begins}
use Rattle.journal.proofs.areas.settle.Goals as goal

pub returns-clause-opened : goal.returns-clause-opened
returns-clause-opened g c =
    let device = g.D.Disk.device in
    let one = c.in_ok-len.ensures in
    let two = c.in_ok-rest_area.ensures in
    are_opened device c.args.side c.args.generation c.args.live.now c.args.other.now c.open_area.new.disk c.rest_area.new.disk c.requires.chosen
    one.ends_closed one.reports one.same one.content two.rested one.durable two.durable

pub returns-clause-records : goal.returns-clause-records
returns-clause-records g c =
    let device = g.D.Disk.device in
    let taken = c.in_ok-len.ensures.records in
    (taken.0, read_chosen c.args.side c.args.generation (device.content c.args.live.now) (device.content c.args.other.now) c.requires.chosen ∙ taken.1, taken.2)

pub returns-in_err-len-clause-other_moment : goal.returns-in_err-len-clause-other_moment
returns-in_err-len-clause-other_moment g c =
    let device = g.D.Disk.device in
    let old = c.args.other.now in
    (begins device old (IsSameAs (device.content old)) (g.met.D.Disk.only_now old) (λ left now. inl (c.requires.other_durable left now))).moments

pub returns-in_err-len-clause-damaged : goal.returns-in_err-len-clause-damaged
returns-in_err-len-clause-damaged g c place is =
    let device = g.D.Disk.device in
    let exit = err_from_is_err_and c.from_residual.result c.from_residual.ensures.1 in
    let error_is : c.in_err-len.field-0.0 ≡ errors.Damaged place = cc (exit.1, exit.2, is) in
    read_chosen c.args.side c.args.generation (device.content c.args.live.now) (device.content c.args.other.now) c.requires.chosen ∙ c.in_err-len.ensures.damaged place (ap Err error_is)
