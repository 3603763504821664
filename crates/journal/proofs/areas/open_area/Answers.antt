use Rattle.std.proofs.Common.{◌≡◌, ◌+◌, ◌<◌, arith}
use Rattle.std.proofs.lemmas.Result.{err_from_is_err_and}
use Rattle.journal.specs.declared.error.JournalError.TheVariants as errors
use Rattle.journal.specs.Areas.{stands_at}
use Rattle.journal.proofs.Closing.{until_read, until_closed}
use Rattle.journal.proofs.Stops.{gate_fits, scan_ok, damaged_at}
use Rattle.journal.proofs.areas.open_area.Goals as goal

pub returns-in_err-gate-clause-any_moment : goal.returns-in_err-gate-clause-any_moment
returns-in_err-gate-clause-any_moment g c =
    until_read g.D.Disk.device c.args.disk.now c.read_area.new.disk c.args.disk.now c.requires c.read_area.ensures.only_read.any_moment

pub returns-in_err-close_end-clause-any_moment : goal.returns-in_err-close_end-clause-any_moment
returns-in_err-close_end-clause-any_moment g c =
    let device = g.D.Disk.device in
    let old = c.args.disk.now in
    let mid = c.read_area.new.disk in
    let scans = c.in_ok-gate.ensures.gate in
    let read = until_read device old mid old c.requires c.read_area.ensures.only_read.any_moment in
    until_closed device old mid c.close_end.new.disk scans.0 (scan_ok (device.content old) (scans.0, c.in_ok-gate.gate) scans.1)
    c.read_area.ensures.only_read.content read c.close_end.ensures.any_moment c.close_end.ensures.reporting

pub returns-clause-any_moment : goal.returns-clause-any_moment
returns-clause-any_moment g c =
    let device = g.D.Disk.device in
    let old = c.args.disk.now in
    let mid = c.read_area.new.disk in
    let scans = c.in_ok-gate.ensures.gate in
    let read = until_read device old mid old c.requires c.read_area.ensures.only_read.any_moment in
    until_closed device old mid c.close_end.new.disk scans.0 (scan_ok (device.content old) (scans.0, c.in_ok-gate.gate) scans.1)
    c.read_area.ensures.only_read.content read c.close_end.ensures.any_moment c.close_end.ensures.reporting

pub returns-in_err-gate-clause-damaged : goal.returns-in_err-gate-clause-damaged
returns-in_err-gate-clause-damaged g c place is =
    let exit = err_from_is_err_and c.from_residual.result c.from_residual.ensures.1 in
    let error_is : c.in_err-gate.field-0.0 ≡ errors.Damaged place = cc (exit.1, exit.2, is) in
    damaged_at c.in_err-gate.field-0.0 (stands_at c.args.side (g.D.Disk.device.content c.args.disk.now)) place
    (c.in_err-gate.ensures.err (λ other. absurd (cc (error_is, other)))) error_is

pub overflow_add-result : goal.overflow_add-result
overflow_add-result g c =
    let file = g.D.Disk.device.content c.args.disk.now in
    let fits : c.in_ok-gate.gate + 1 < 18446744073709551616 = gate_fits file c.in_ok-gate.gate 18446744073709551616 c.in_ok-gate.ensures.gate (omega (arith, c.in_ok-gate.ensures.len)) (omega arith) in
    omega arith
