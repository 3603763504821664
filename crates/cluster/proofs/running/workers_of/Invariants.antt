use Rattle.std.proofs.Common.{◌≡◌, ◌+◌, ◌++◌, map}
use Rattle.std.specs.Prelude.{vec_len}
use Rattle.cluster.proofs.running.workers_of.Given as goal

-- the first members have theirs
abbrev pub invariant-places : goal.invariant-places
invariant-places g l = record {
  all : map (λ worker. worker.member) l.workers.items ++ l.members.items ≡ l.fn.members.items;
  gates : vec_len l.gates ≡ vec_len l.members;
  left : l.place + vec_len l.members ≡ vec_len l.fn.members;
}
