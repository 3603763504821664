use Rattle.std.proofs.Common.{◌≡◌, ◌++◌, take}
use Rattle.journal.specs.Drafts.{whole}
use Rattle.journal.proofs.draft.put_parts.Given as goal

-- the parts so far stand after the bytes
abbrev pub invariant-loop-part : goal.invariant-loop-part
invariant-loop-part l = l.bytes.items ≡ l.initial.bytes.items ++ whole (take l.part-index l.parts)
