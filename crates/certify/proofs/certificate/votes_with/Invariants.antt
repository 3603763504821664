use Rattle.std.proofs.Common.{◌≡◌}
use Rattle.certify.specs.Assembled.{with_vote}
use Rattle.certify.proofs.Places.{votes_below}
use Rattle.certify.proofs.certificate.votes_with.Given as goal

-- the votes of the members so far are there
abbrev pub invariant-loop-member : goal.invariant-loop-member
invariant-loop-member l = l.votes ≡ votes_below (with_vote l.places l.vote) l.member
