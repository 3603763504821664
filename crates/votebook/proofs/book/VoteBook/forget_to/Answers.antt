use Rattle.std.proofs.Common.{rules}
use Rattle.votebook.proofs.Low.{forgets, none_low, none_left}
use Rattle.votebook.proofs.book.VoteBook.forget_to.Goals as goal

pub returns-then-slot-last : goal.returns-then-slot-last
returns-then-slot-last c =
    let left = c.loop-slot.self-inside.votes.entries in
    let last = c.number-last.result in
    forgets c.args.round last c.self.inside.votes.entries left c.args.self.now c.number-last.ensures.value c.self.view_is c.loop-slot.invariant
    (none_low left c.in-Some.slot.now last c.if-slot-last.true c.in-Some.ensures.least)

pub returns : goal.returns
returns c =
    let left = c.loop-slot.self-inside.votes.entries in
    let last = c.number-last.result in
    forgets c.args.round last c.self.inside.votes.entries left c.args.self.now c.number-last.ensures.value c.self.view_is c.loop-slot.invariant
    (none_left last left (search rules))
