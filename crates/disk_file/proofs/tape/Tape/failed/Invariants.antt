use Rattle.disk_file.specs.Stories.{failing}
use Rattle.disk_file.proofs.tape.Tape.failed.Given as goal

abbrev pub ghosts-turn : goal.ghosts-turn
ghosts-turn a = record { next = failing a.self.now }
