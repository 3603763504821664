use Rattle.disk_file.specs.Stories.{with_more}
use Rattle.disk_file.proofs.tape.Tape.found.Given as goal

abbrev pub ghosts-turn : goal.ghosts-turn
ghosts-turn a = record { next = with_more a._given.now a.self.now }
