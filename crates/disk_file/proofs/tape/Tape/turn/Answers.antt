use Rattle.std.proofs.Common.{rules, refl}
use Rattle.atomic_table.specs.Table.{keeps}
use Rattle.disk_file.proofs.tape.Tape.turn.Goals as goal

pub load-requires : goal.load-requires
load-requires g c = (search rules, search rules, λ s holds size at wide. (g.N.Turn.next, keeps, tt, tt, refl))
