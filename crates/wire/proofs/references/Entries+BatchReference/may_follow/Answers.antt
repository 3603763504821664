use Rattle.wire.specs.References.{digest_before}
use Rattle.wire.proofs.RisingLemmas.{follows-last}
use Rattle.wire.proofs.references.«Entries+BatchReference».may_follow.Goals as goal

pub returns-in-Some : goal.returns-in-Some
returns-in-Some c = cc (follows-last (λ a. digest_before a.digest c.args.digest.now) c.args.self.now c.in-Some.last.now (cc (c.in-Some.ensures.value)), c.is_lt.ensures, c.cmp.ensures)
