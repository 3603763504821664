use Rattle.std.proofs.Common.{◌≡◌, false, length}
use Rattle.std.specs.Prelude.{nat_le}
use Rattle.votebook.specs.declared.slot.Slot.{Slot}
use Rattle.votebook.proofs.Lookups.{digest_at}
use Rattle.votebook.proofs.book.VoteBook.forget_to.Given as goal

-- the votes of later rounds are there
abbrev pub invariant-loop-slot : goal.invariant-loop-slot
invariant-loop-slot l = (slot : Slot) → nat_le slot.round l.last ≡ false → digest_at l.self-inside.votes.entries slot ≡ digest_at l.initial.self-inside.votes.entries slot

abbrev pub decreases-loop-slot : goal.decreases-loop-slot
decreases-loop-slot l = length l.self-inside.votes.entries
