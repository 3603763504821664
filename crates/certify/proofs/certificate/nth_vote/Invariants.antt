use Rattle.std.proofs.Common.{◌≡◌, ◌-◌, length, slice_get}
use Rattle.certify.specs.Assembled.{votes_in}
use Rattle.certify.proofs.Places.{votes_from}
use Rattle.certify.proofs.certificate.nth_vote.Given as goal

-- of the votes from this member on it is still this place
abbrev pub invariant-loop-member : goal.invariant-loop-member
invariant-loop-member l = slice_get (votes_in l.places) l.place ≡ slice_get (votes_from l.places l.member (length l.places - l.member)) l.before
