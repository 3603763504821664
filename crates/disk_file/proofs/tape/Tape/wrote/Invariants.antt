use Rattle.std.proofs.Common.{◌∷◌, ◌++◌, []}
use Rattle.diskmodel.specs.declared.call.Call.TheVariants.{Wrote}
use Rattle.disk_file.proofs.tape.Tape.wrote.Given as goal

abbrev pub ghosts-turn : goal.ghosts-turn
ghosts-turn a = record { next = record a.self.now { calls = a.self.now.calls ++ Wrote a._given.0 a._given.1.now ∷ [] } }
