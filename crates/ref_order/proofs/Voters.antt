-- The order of votes.
use Rattle.std.proofs.Common.{◌≡◌, ℕ, ◌+◌, List, [], ◌∷◌, ◌++◌, IsTrue, arith}
use Rattle.std.proofs.lemmas.Bool.{lt-ltb, ltb-true}
use Rattle.wire.specs.declared.votes.VoteEntry.{VoteEntry}
use Rattle.wire.specs.References.{vote_follows}

-- what follows the votes so far follows them with more room before it
pub follows_more : (votes : List VoteEntry) (voter : ℕ) → IsTrue (vote_follows votes (record { 0 = voter })) → IsTrue (vote_follows votes (record { 0 = voter + 1 }))
follows_more [] voter h = h
follows_more (v ∷ []) voter h = lt-ltb v.voter.0 (voter + 1) (omega (arith, ltb-true v.voter.0 voter h))
follows_more (v ∷ w ∷ rest) voter h = follows_more (w ∷ rest) voter h

-- the next voter follows a vote
pub follows_next : (votes : List VoteEntry) (vote : VoteEntry) (voter : ℕ) → vote.voter.0 ≡ voter → IsTrue (vote_follows (votes ++ vote ∷ []) (record { 0 = voter + 1 }))
follows_next [] vote voter h = lt-ltb vote.voter.0 (voter + 1) (omega (arith, h))
follows_next (v ∷ []) vote voter h = follows_next [] vote voter h
follows_next (v ∷ w ∷ rest) vote voter h = follows_next (w ∷ rest) vote voter h
