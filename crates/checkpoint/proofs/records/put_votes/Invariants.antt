use Rattle.std.proofs.Common.{◌≡◌, ◌++◌, map, take}
use Rattle.spec_checkpoint.specs.Records.{vote_record}
use Rattle.checkpoint.specs.Kept.{vote_of}
use Rattle.checkpoint.proofs.records.put_votes.Given as goal

-- those so far have been put
abbrev pub invariant-loop-vote : goal.invariant-loop-vote
invariant-loop-vote g l = g.S.RecordSink.records l.sink ≡ g.S.RecordSink.records l.initial.sink ++ map vote_record (map vote_of (take l.vote-index l.votes))
