use Rattle.std.proofs.Common.{◌+◌, ◌<◌, ◌≤◌, ℕ}
use Rattle.dag.specs.Graph.{stake_in}
use Rattle.sequencer.proofs.sequencer.Sequencer.round.Given as goal

-- none of the rounds so far is full
abbrev pub invariant-loop-past : goal.invariant-loop-past
invariant-loop-past l = (round : ℕ) → l.end ≤ round + l.past → round < l.end → stake_in l.self.graph round < l.quorum
