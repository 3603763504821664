use Rattle.std.proofs.Common.{◌≡◌, ◌++◌, map, take}
use Rattle.spec_checkpoint.specs.Records.{vote_record}
use Rattle.ref_checkpoint.specs.Lists.{contents}
use Rattle.ref_checkpoint.proofs.writing.put_votes.Given as goal

-- those so far have been put
abbrev pub invariant-loop-vote : goal.invariant-loop-vote
invariant-loop-vote l = contents l.rows.items ≡ contents l.initial.rows.items ++ map vote_record (take l.vote-index l.votes)
