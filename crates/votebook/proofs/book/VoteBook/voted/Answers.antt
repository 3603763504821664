use Rattle.std.proofs.Common.{sym, ap, ◌∙◌}
use Rattle.std.specs.FinMap as map
use Rattle.votebook.proofs.Lookups.{digest_at, get-entries}
use Rattle.votebook.specs.Slot.{slot_of}
use Rattle.votebook.proofs.book.VoteBook.voted.Goals as goal

pub returns : goal.returns
returns c =
    let slot = slot_of c.args.author c.args.round in
    let entries = c.self.inside.votes.entries in
    c.copied.ensures ∙ c.get.ensures.value ∙ ap (digest_at entries) c.slot_of.ensures ∙ sym (get-entries entries slot) ∙ ap (λ m. map.get m slot) c.self.view_is
