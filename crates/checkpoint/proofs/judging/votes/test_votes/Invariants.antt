use Rattle.std.proofs.Common.{◌≡◌, ◌+◌, map, take}
use Rattle.spec_model.specs.Nodes.{node_view}
use Rattle.checkpoint.specs.Judging.{NoneFails, is_vote_sound_at}
use Rattle.checkpoint.specs.Kept.{vote_of}
use Rattle.checkpoint.proofs.judging.votes.test_votes.Given as goal

-- none of the votes so far fails
abbrev pub invariant-loop-vote : goal.invariant-loop-vote
invariant-loop-vote g l = record {
  place : l.place ≡ l.first + l.vote-index;
  none : NoneFails l.first (map (λ vote. is_vote_sound_at (node_view g.S.Sign.scheme l.node) l.floor (vote_of vote)) (take l.vote-index l.votes));
}
