use Rattle.node_shared.proofs.node.Node.submit.Given as goal

abbrev pub ghosts-accept : goal.ghosts-accept
ghosts-accept g a = record { event = a.event }
