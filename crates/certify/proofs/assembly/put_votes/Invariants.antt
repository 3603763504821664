use Rattle.std.proofs.Common.{◌≡◌, ℕ, take, length}
use Rattle.certify.specs.Assembled.{has_voted, with_entries}
use Rattle.committee.specs.Sets.{has}
use Rattle.certify.proofs.assembly.put_votes.Given as goal

-- the votes so far are in their places
abbrev pub invariant-loop-entry : goal.invariant-loop-entry
invariant-loop-entry l =
    (l.places.items ≡ with_entries l.fn.places.items (take l.entry-index l.votes)) × (length l.places.items ≡ length l.fn.places.items)
    × ((member : ℕ) → has l.voters member ≡ has_voted l.places.items member)
