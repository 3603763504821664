use Rattle.std.proofs.Common.{◌≡◌, ◌+◌, ◌<◌, ap, ◌∙◌, sym, arith}
use Rattle.std.proofs.lemmas.Result.{err_from_is_err_and}
use Rattle.journal.specs.declared.error.JournalError.TheVariants as errors
use Rattle.journal.specs.Format.{stands}
use Rattle.journal.proofs.Moments.{until_synced, until_read, until_closed}
use Rattle.journal.proofs.Stops.{gate_fits, damaged_at}
use Rattle.journal.proofs.journal.repair.Goals as goal

pub returns-in_err-close_end-clause-any_moment : goal.returns-in_err-close_end-clause-any_moment
returns-in_err-close_end-clause-any_moment g c =
    let device = g.D.Disk.device in
    let old = c.args.disk.now in
    let only_read = c.read_area.ensures.only_read in
    let read = until_read device old c.sync.new.self c.read_area.new.disk (λ left now. g.met.D.Disk.only_now old left now) c.sync.ensures.time c.sync.ensures.outcomes only_read.any_moment in
    let taken = c.in_ok-gate.ensures.taken in
    until_closed device old c.read_area.new.disk c.close_end.new.disk (device.content old) (device.content c.read_area.new.disk) taken.0 read (g.met.D.Disk.content_is_outcome old)
    (ap stands (sym c.sync.ensures.content) ∙ taken.1) (only_read.content ∙ c.sync.ensures.content) c.close_end.ensures.any_moment

pub returns-clause-any_moment : goal.returns-clause-any_moment
returns-clause-any_moment g c =
    let device = g.D.Disk.device in
    let old = c.args.disk.now in
    let only_read = c.read_area.ensures.only_read in
    let read = until_read device old c.sync.new.self c.read_area.new.disk (λ left now. g.met.D.Disk.only_now old left now) c.sync.ensures.time c.sync.ensures.outcomes only_read.any_moment in
    let taken = c.in_ok-gate.ensures.taken in
    until_closed device old c.read_area.new.disk c.close_end.new.disk (device.content old) (device.content c.read_area.new.disk) taken.0 read (g.met.D.Disk.content_is_outcome old)
    (ap stands (sym c.sync.ensures.content) ∙ taken.1) (only_read.content ∙ c.sync.ensures.content) c.close_end.ensures.any_moment

pub returns-in_err-gate-clause-damaged : goal.returns-in_err-gate-clause-damaged
returns-in_err-gate-clause-damaged g c gate is =
    let device = g.D.Disk.device in
    let exit = err_from_is_err_and c.from_residual-in_err-gate.result c.from_residual-in_err-gate.ensures.1 in
    let error_is : c.in_err-gate.field-0.0 ≡ errors.Damaged gate = cc (exit.1, exit.2, is) in
    ap stands (sym c.sync.ensures.content)
    ∙ damaged_at c.in_err-gate.field-0.0 (stands (device.content c.sync.new.self)) gate (c.in_err-gate.ensures.err (λ other. absurd (cc (error_is, other)))) error_is

pub overflow_add-result : goal.overflow_add-result
overflow_add-result g c =
    let file = g.D.Disk.device.content c.sync.new.self in
    let fits : c.in_ok-gate.gate + 1 < 18446744073709551616 = gate_fits file c.in_ok-gate.gate 18446744073709551616 c.in_ok-gate.ensures.gate (omega (arith, c.in_ok-gate.ensures.len)) (omega arith) in
    omega arith

pub returns-clause-records : goal.returns-clause-records
returns-clause-records g c =
    let taken = c.in_ok-gate.ensures.taken in
    (taken.0, ap stands (sym c.sync.ensures.content) ∙ taken.1, taken.2)

pub returns-in_err-sync-clause-any_moment : goal.returns-in_err-sync-clause-any_moment
returns-in_err-sync-clause-any_moment g c =
    let old = c.args.disk.now in
    until_synced g.D.Disk.device old c.sync.new.self (λ left now. g.met.D.Disk.only_now old left now) c.sync.ensures.time c.sync.ensures.outcomes

pub returns-in_err-gate-clause-any_moment : goal.returns-in_err-gate-clause-any_moment
returns-in_err-gate-clause-any_moment g c =
    let old = c.args.disk.now in
    until_read g.D.Disk.device old c.sync.new.self c.read_area.new.disk
    (λ left now. g.met.D.Disk.only_now old left now) c.sync.ensures.time c.sync.ensures.outcomes c.read_area.ensures.only_read.any_moment
