use Rattle.std.proofs.Common.{◌≡◌, ◌+◌, length, map}
use Rattle.std.specs.Prelude.{All}
use Rattle.spec_model.specs.Nodes.{node_view}
use Rattle.checkpoint.specs.Judging.{HasOwnVote, NoneFails, is_header_sound_at, slots_at}
use Rattle.checkpoint.specs.Kept.{header_of}
use Rattle.checkpoint.proofs.judging.headers.sound_headers.Given as goal

-- none of the own headers so far fails, and they are kept
abbrev pub invariant-loop-read : goal.invariant-loop-read
invariant-loop-read g l = record {
  place : l.place ≡ l.first + length l.yielded;
  none : NoneFails l.first (map (is_header_sound_at (node_view g.S.Sign.scheme l.node) l.floor (slots_at (node_view g.S.Sign.scheme l.node) l.floor l.list)) l.yielded);
  voted : All (HasOwnVote (node_view g.S.Sign.scheme l.node)) l.found.items;
  same : map header_of l.found.items ≡ l.yielded;
}
