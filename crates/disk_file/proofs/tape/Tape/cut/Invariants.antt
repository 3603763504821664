use Rattle.std.proofs.Common.{◌∷◌, ◌++◌, []}
use Rattle.diskmodel.specs.declared.call.Call.TheVariants.{Cut}
use Rattle.disk_file.proofs.tape.Tape.cut.Given as goal

abbrev pub ghosts-turn : goal.ghosts-turn
ghosts-turn a = record { next = record a.self.now { calls = a.self.now.calls ++ Cut a._given ∷ [] } }
