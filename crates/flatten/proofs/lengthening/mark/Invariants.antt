use Rattle.flatten.proofs.Marking.{IsSoFar}
use Rattle.flatten.proofs.lengthening.mark.Given as goal

-- of the rounds so far all that is in the sets is marked too
abbrev pub invariant-loop-place : goal.invariant-loop-place
invariant-loop-place l = IsSoFar l.fn.dag l.dag l.top l.place l.made.ordered
