use Rattle.std.proofs.Common.{length}
use Rattle.certify.proofs.VoteLaws.{members-votes_below}
use Rattle.certify.proofs.laws.voters_have_places.Goals as goal

pub returns : goal.returns
returns c places = members-votes_below places (length places)
