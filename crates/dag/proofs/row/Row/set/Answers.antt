use Rattle.dag.proofs.Unmarked.{of_set}
use Rattle.dag.proofs.row.Row.set.Goals as goal

pub invariant_of-self : goal.invariant_of-self
invariant_of-self c =
    let inside = c.self.inside in
    of_set inside.slots.items inside.unmarked c.insert.new.self c.args.author c.args.entry (rw (← c.self.view_is) at c.requires.within) c.requires.without_mark c.self.invariant c.insert.ensures
