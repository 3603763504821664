use Rattle.std.proofs.Common.{sym}
use Rattle.std.specs.Prelude.{nat_lt}
use Rattle.wire.proofs.RisingLemmas.{follows-last}
use Rattle.wire.proofs.votes.«Entries+VoteEntry».may_follow.Goals as goal

pub returns-in-Some : goal.returns-in-Some
returns-in-Some c = sym (follows-last (λ a. nat_lt a.voter.0 c.args.voter.0) c.args.self.now c.in-Some.last.now (cc (c.in-Some.ensures.value)))
