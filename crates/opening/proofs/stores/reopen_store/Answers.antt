use Rattle.opening.proofs.stores.reopen_store.Goals as goal

pub returns-in-One-clause-kept : goal.returns-in-One-clause-kept
returns-in-One-clause-kept g c = rw c.in-One.is c.open_alone.ensures.kept

pub returns-in-Two-clause-kept : goal.returns-in-Two-clause-kept
returns-in-Two-clause-kept g c = rw c.in-Two.is c.open_both.ensures.kept
