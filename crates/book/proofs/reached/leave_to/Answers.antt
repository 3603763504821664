use Rattle.std.proofs.Common.{◌≤◌, All, drop, refl, ◌∙◌, sym, subst}
use Rattle.std.proofs.lemmas.List.Elements.{All-tail}
use Rattle.book.specs.Queue.{length_at}
use Rattle.book.proofs.Lengths.{first_stands, left_to, said_here}
use Rattle.book.proofs.reached.leave_to.Goals as goal

pub loop-next-preserved : goal.loop-next-preserved
loop-next-preserved c =
    let reached = c.loop-next.reached in
    let next = c.in-Some.next in
    let is = first_stands reached.items c.pop_front.new.self.items c.front.result next reached.len reached.ok.0 c.front.ensures.variant
    c.front.ensures.lookup (sym c.copied.ensures ∙ c.in-Some.is) c.pop_front.ensures.rest in
    record {
      later = λ later le. left_to c.args.count later c.loop-next.length reached.items c.pop_front.new.self.items next is c.if-next-count.true le ∙ c.loop-next.invariant.later later le;
      tickets = λ limit all. All-tail (λ r. r.ticket ≤ limit) next c.pop_front.new.self.items (subst (All (λ r. r.ticket ≤ limit)) is (c.loop-next.invariant.tickets limit all));
    }

pub returns-else-next-count-clause-length : goal.returns-else-next-count-clause-length
returns-else-next-count-clause-length c =
    let reached = c.loop-next.reached in
    let next = c.in-Some.next in
    let is = first_stands reached.items (drop 1 reached.items) c.front.result next reached.len reached.ok.0 c.front.ensures.variant c.front.ensures.lookup (sym c.copied.ensures ∙ c.in-Some.is) refl in
    said_here c.args.count c.loop-next.length reached.items (drop 1 reached.items) next
    (λ later. length_at later c.args.first c.args.reached.now.items) is c.if-next-count.false c.loop-next.invariant.later
