use Rattle.std.proofs.Common.{length}
use Rattle.certify.proofs.VoteLaws.{rises-votes_below}
use Rattle.certify.proofs.laws.votes_rise.Goals as goal

pub returns : goal.returns
returns c places = rises-votes_below places (length places)
