use Rattle.std.proofs.Common.{◌≡◌, take}
use Rattle.std.specs.Prelude.{map}
use Rattle.checkpoint.specs.Kept.{vote_of}
use Rattle.journal_account.specs.Accounts.{given_for}
use Rattle.journal_account.proofs.kept.given_to_others.Given as goal

-- the votes so far
abbrev pub invariant-loop-slot : goal.invariant-loop-slot
invariant-loop-slot l = record { so_far : l.votes.items ≡ map (λ entry. given_for (vote_of entry)) (take l.slot-index l.kept) }
