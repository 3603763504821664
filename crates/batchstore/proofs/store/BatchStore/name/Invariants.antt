use Rattle.std.proofs.Common.{◌≡◌, take}
use Rattle.batchstore.specs.Answer.{with_names}
use Rattle.batchstore.proofs.store.BatchStore.name.Given as goal

-- the references so far are named
abbrev pub invariant-loop-reference : goal.invariant-loop-reference
invariant-loop-reference l = l.self ≡ with_names l.fn.self (take l.reference-index l.batches)
