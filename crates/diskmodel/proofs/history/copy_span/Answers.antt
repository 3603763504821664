use Rattle.std.proofs.Common.{◌+◌, arith}
use Rattle.diskmodel.proofs.Spans.{within_span, part_read}
use Rattle.diskmodel.proofs.history.copy_span.Goals as goal

pub returns-clause-inside : goal.returns-clause-inside
returns-clause-inside c = λ place below held.
    let both = within_span c.args.span.now place held in
    part_read c.args.into.now c.args.from.now c.copy_from_slice.new.self c.min-start.result (c.min-start.result + c.min-count.result) place
    (omega (arith, c.min-start.ensures, c.min-count.ensures))
    (omega (arith, c.min-start.ensures, c.min-count.ensures, c.requires))
    c.copy_from_slice.ensures.after
    (omega (arith, c.min-start.ensures, both.0))
    (omega (arith, c.min-start.ensures, c.min-count.ensures, both.0, both.1, below))
