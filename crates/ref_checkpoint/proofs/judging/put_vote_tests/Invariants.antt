use Rattle.std.proofs.Common.{◌≡◌, ◌++◌, map, take}
use Rattle.spec_checkpoint.specs.Faults.{is_vote_sound}
use Rattle.spec_model.specs.Nodes.{node_view}
use Rattle.ref_checkpoint.proofs.judging.put_vote_tests.Given as goal

-- the tests of those so far have been put
abbrev pub invariant-loop-vote : goal.invariant-loop-vote
invariant-loop-vote g l = l.tests.items ≡ l.initial.tests.items ++ map (is_vote_sound (node_view g.S.Sign.scheme l.node) l.checkpoint) (take l.vote-index l.votes)
