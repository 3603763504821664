use Rattle.std.proofs.Common.{ap, length, arith}
use Rattle.journal.proofs.Parts.{length-group}
use Rattle.journal.proofs.group.Group.written_len.Goals as goal

pub returns : goal.returns
returns c =
    let inside = c.self.inside.bytes in
    let group = c.self.inside.written in
    rw (← c.self.view_is) (omega (arith, c.len.ensures, inside.ok, ap length group.written, length-group group.records))
