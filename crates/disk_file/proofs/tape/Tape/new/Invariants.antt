use Rattle.disk_file.specs.Stories.{begun}
use Rattle.disk_file.proofs.tape.Tape.new.Given as goal

abbrev pub ghosts-turn : goal.ghosts-turn
ghosts-turn a = record { next = begun a._given.now }
