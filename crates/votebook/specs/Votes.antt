-- The votes of a validator as a finite map, and what a new header changes.
use Rattle.std.specs.Prelude.{◌≡◌, ℕ, ◌≢◌, Option, Some, None, nat_le, if◌then◌else◌}
use Rattle.std.specs.FinMap as map
use Rattle.wire.specs.declared.keys.Author.{Author}
use Rattle.wire.specs.declared.keys.Digest.{Digest}
use Rattle.votebook.specs.declared.book.Voted.{Voted}
use Rattle.votebook.specs.declared.book.Voted.TheVariants.{New, Again, Equivocation}
use Rattle.votebook.specs.declared.slot.Slot.{Slot}
use Rattle.votebook.specs.Slot.{slot_cmp, slot_of}

-- the votes: for each round and author the digest of the header that was voted for, if any was
abbrev pub Votes : Type 0
Votes = map.FinMap slot_cmp Digest

-- the digest of the header of this author and round that was voted for, if any was
abbrev pub voted_in : Votes → Author → ℕ → Option Digest
voted_in votes author round = map.get votes (slot_of author round)

-- the answer to a header that asks for the vote for its round and author, given the digest that has this vote already, if any has
abbrev pub Answers : Option Digest → Digest → Voted → Type 0
Answers None header New = Unit {0}
Answers None header Again = ⊥
Answers None header Equivocation = ⊥
Answers (Some other) header New = ⊥
Answers (Some other) header Again = other ≡ header
Answers (Some other) header Equivocation = other ≢ header

-- the votes after an answer: only New adds one
abbrev pub votes_after : Voted → Votes → Author → ℕ → Digest → Votes
votes_after New votes author round header = map.insert votes (slot_of author round) header
votes_after Again votes author round header = votes
votes_after Equivocation votes author round header = votes

-- the new votes are the old ones without those of this round and of lower rounds
abbrev pub ForgetsTo : ℕ → Votes → Votes → Type 0
ForgetsTo round old new = (slot : Slot) → map.get new slot ≡ (if nat_le slot.round round then None else map.get old slot)
