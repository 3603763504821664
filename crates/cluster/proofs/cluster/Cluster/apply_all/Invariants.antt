use Rattle.std.proofs.Common.{◌≡◌, List}
use Rattle.cluster.specs.Applying.{Stage, StagesLead, AreAnswered}
use Rattle.cluster.proofs.cluster.Cluster.apply_all.Given as goal

-- the moves so far were applied, with the answers so far
abbrev pub invariant-loop-step : goal.invariant-loop-step
invariant-loop-step g l = record {
  verifier : l.self.verifier ≡ l.initial.self.verifier;
  stages : List (Stage g.row.S.Denot g.row.D.Denot);
  made : AreAnswered stages l.yielded l.answers.items;
  lead : StagesLead g.S.Sign.scheme g.D.Disk.device (g.V.Verify.accepts l.initial.self.verifier) l.initial.self.members stages l.self.members;
}
