use Rattle.std.proofs.Common.{length}
use Rattle.sequencer.specs.Restored.{HaveEntered}
use Rattle.sequencer.proofs.Entering.{EndsBefore}
use Rattle.sequencer.proofs.restoring.fill.Given as goal

-- those so far have come in, and no row is after the round of the next one
abbrev pub invariant-loop-certificate : goal.invariant-loop-certificate
invariant-loop-certificate l = record {
  entered : HaveEntered l.initial.dag l.dag l.yielded;
  ends : EndsBefore l.dag l.fn.certificates.items (length l.yielded);
}
