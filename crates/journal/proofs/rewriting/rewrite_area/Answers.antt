use Rattle.std.proofs.Common.{inl, rules}
use Rattle.diskmodel.proofs.Clock.{joins, weaker}
use Rattle.journal.proofs.Rewritten.{made_first}
use Rattle.journal.specs.Areas.{IsOlder, IsOlderOrNew, clear_calls, fill_calls, rewrite_calls}
use Rattle.journal.specs.Journal.{MadeSome}
use Rattle.journal.proofs.rewriting.rewrite_area.Goals as goal

pub returns-in_err-clear-clause-any_moment : goal.returns-in_err-clear-clause-any_moment
returns-in_err-clear-clause-any_moment g c above at_rest =
    weaker g.D.Disk.device c.args.disk.now c.clear.new.disk (IsOlderOrNew above c.args.bytes.now) (IsOlder above) (c.clear.ensures.any_moment above at_rest) (λ left older. inl older)

pub returns-in_err-clear-clause-calls_err : goal.returns-in_err-clear-clause-calls_err
returns-in_err-clear-clause-calls_err g c =
    let some : MadeSome (rewrite_calls c.args.bytes.now) (g.D.Disk.device.calls c.args.disk.now) (g.D.Disk.device.calls c.clear.new.disk) =
    made_first clear_calls (fill_calls c.args.bytes.now) (g.D.Disk.device.calls c.args.disk.now) (g.D.Disk.device.calls c.clear.new.disk) c.in_err-clear.ensures.calls_err in
    search rules

pub returns-clause-any_moment : goal.returns-clause-any_moment
returns-clause-any_moment g c above at_rest =
    let device = g.D.Disk.device in
    let P = IsOlderOrNew above c.args.bytes.now in
    let cleared = weaker device c.args.disk.now c.clear.new.disk P (IsOlder above) (c.clear.ensures.any_moment above at_rest) (λ left older. inl older) in
    joins device c.args.disk.now c.clear.new.disk c.fill.new.disk P P cleared (c.fill.ensures.any_moment above) (λ left here. here)
