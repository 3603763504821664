use Rattle.std.proofs.Common.{ap, ◌∙◌}
use Rattle.std.specs.FinMap as map
use Rattle.votebook.proofs.Lookups.{one_more}
use Rattle.votebook.proofs.book.VoteBook.vote.Goals as goal

pub returns-in_ok-insert-in-None-clause-votes : goal.returns-in_ok-insert-in-None-clause-votes
returns-in_ok-insert-in-None-clause-votes c =
    one_more c.self.inside.votes.entries c.insert.new.self.entries c.slot_of.result c.args.header c.in_ok-insert-in-None.ensures.updates.0
    ∙ ap (λ m. map.insert m c.slot_of.result c.args.header) c.self.view_is
    ∙ ap (λ s. map.insert c.args.self.now s c.args.header) c.slot_of.ensures
