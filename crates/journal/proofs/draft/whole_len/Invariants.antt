use Rattle.std.proofs.Common.{◌≡◌, take, length}
use Rattle.journal.specs.Drafts.{whole}
use Rattle.journal.proofs.draft.whole_len.Given as goal

-- the length of the parts so far
abbrev pub invariant-loop-part : goal.invariant-loop-part
invariant-loop-part l = l.len ≡ length (whole (take l.part-index l.parts))
