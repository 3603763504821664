use Rattle.std.proofs.Common.{sym, ap, ◌∙◌}
use Rattle.std.specs.Map.Iter.{deref_pair}
use Rattle.std.specs.Prelude.{option_map}
use Rattle.votebook.proofs.Rising.{nth_in}
use Rattle.votebook.proofs.book.VoteBook.nth.Goals as goal

pub returns : goal.returns
returns c =
    ap (option_map deref_pair) (sym c.in_ok-slot.was)
    ∙ nth_in _ c.self.inside.votes.entries c.args.self.now c.iter.result c.nth.new.self c.args.place c.nth.result c.iter.ensures.ordered c.self.view_is c.iter.ensures.rest c.nth.ensures.ran

pub returns-in_err-slot : goal.returns-in_err-slot
returns-in_err-slot c =
    c.from_residual.ensures ∙ ap (option_map deref_pair) (sym c.in_err-slot.was)
    ∙ nth_in _ c.self.inside.votes.entries c.args.self.now c.iter.result c.nth.new.self c.args.place c.nth.result c.iter.ensures.ordered c.self.view_is c.iter.ensures.rest c.nth.ensures.ran
