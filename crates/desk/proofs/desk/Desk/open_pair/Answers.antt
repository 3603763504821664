use Rattle.desk.proofs.desk.Desk.open_pair.Goals as goal

pub returns-in-Ok-clause-world : goal.returns-in-Ok-clause-world
returns-in-Ok-clause-world g c = λ world history begun beside is. c.in-Ok.ensures.world world history begun (λ some. beside) is
