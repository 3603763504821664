use Rattle.std.proofs.Common.{◌≡◌, ◌++◌, drop}
use Rattle.std.specs.List.{filter_map}
use Rattle.journal_account.specs.Accounts.{given_in}
use Rattle.journal_account.proofs.votes.given_in_each.Given as goal

-- the votes so far and those of the records that are left are all
abbrev pub invariant-loop-one : goal.invariant-loop-one
invariant-loop-one l = record {
  all : l.votes.items ++ filter_map (given_in l.committee) (drop l.one-index l.records) ≡ filter_map (given_in l.committee) l.records;
}
