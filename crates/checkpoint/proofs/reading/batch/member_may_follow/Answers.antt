use Rattle.std.proofs.Common.{sym}
use Rattle.std.specs.Prelude.{nat_lt}
use Rattle.wire.proofs.RisingLemmas.{follows-last}
use Rattle.checkpoint.proofs.reading.batch.member_may_follow.Goals as goal

pub returns-in-Some : goal.returns-in-Some
returns-in-Some c = sym (follows-last (λ one. nat_lt one c.args.member) c.args.before.now c.in-Some.last.now (cc (c.in-Some.ensures.value)))
