use Rattle.std.proofs.Common.{◌≡◌, ◌++◌, take}
use Rattle.journal.proofs.reader.VecRecordReader.take.Given as goal

-- so many records of the group were added
abbrev pub invariant-loop-one : goal.invariant-loop-one
invariant-loop-one l = l.self.items ≡ l.initial.self.items ++ take l.one-index l.fn.group.items
