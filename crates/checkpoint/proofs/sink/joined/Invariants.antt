use Rattle.std.proofs.Common.{◌≡◌, take}
use Rattle.journal.specs.Drafts.{whole}
use Rattle.checkpoint.proofs.sink.joined.Given as goal

-- the parts so far have been put
abbrev pub invariant-loop-part : goal.invariant-loop-part
invariant-loop-part l = l.bytes.items ≡ whole (take l.part-index l.parts)
