use Rattle.std.proofs.Common.{refl, sym}
use Rattle.std.proofs.lemmas.Bool.{true≢false}
use Rattle.book.proofs.Queueing.{settled_first, nothing_first}
use Rattle.book.proofs.queue.has_settled_head.Goals as goal

pub returns-in-Some : goal.returns-in-Some
returns-in-Some c = settled_first c.args.queue.now.items c.in-Some.first.now c.args.settled c.args.queue.now.len c.args.queue.now.ok.0
    (c.in-Some.ensures.variant.0 refl) c.in-Some.ensures.lookup

pub returns-in-None : goal.returns-in-None
returns-in-None c = nothing_first c.args.queue.now.items c.args.settled c.args.queue.now.len c.args.queue.now.ok.0 (λ more. absurd (true≢false (sym (c.in-None.ensures.variant.1 more))))
