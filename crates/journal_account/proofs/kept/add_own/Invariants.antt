use Rattle.std.proofs.Common.{◌≡◌, ◌++◌, take}
use Rattle.std.specs.Prelude.{map}
use Rattle.checkpoint.specs.Kept.{header_of}
use Rattle.journal_account.specs.Accounts.{given_as}
use Rattle.journal_account.proofs.kept.add_own.Given as goal

-- the votes so far
abbrev pub invariant-loop-voted : goal.invariant-loop-voted
invariant-loop-voted l = record { so_far : l.votes.items ≡ l.initial.votes.items ++ map (λ voted. given_as (header_of voted)) (take l.voted-index l.kept) }
