use Rattle.std.proofs.Common.{◌≡◌, ◌+◌, ◌-◌, ◌*◌, ◌≤◌, ◌++◌, ℕ, reverse, true}
use Rattle.std.specs.Prelude.{is_some}
use Rattle.committee.specs.Sets.{has}
use Rattle.dag.specs.Graph.{slots_in, reaches_in}
use Rattle.tusk.proofs.Downwards.{newer_slots}
use Rattle.tusk.proofs.coins.Coins.newer_to.Given as goal
use Rattle.tusk.specs.Chain.{ledger_in}

-- the leader that was taken last is held and lies above the waves that are left, whom it reaches is known of the round above them, and what is to be taken and was taken is all
abbrev pub invariant-loop-past : goal.invariant-loop-past
invariant-loop-past l = record {
  above : 2 * (l.wave - l.past) + 1 ≤ l.round;
  reached : (member : ℕ) → has l.reached member ≡ reaches_in l.dag l.round l.author.0 (2 * (l.wave - l.past) + 1) member;
  held : is_some (slots_in l.dag l.fn.leader.0 l.fn.leader.1.0) ≡ true → is_some (slots_in l.dag l.round l.author.0) ≡ true;
  all : newer_slots (ledger_in l.dag l.self) l.last (l.wave - l.past) l.round l.author.0 ++ reverse l.chain.items
      ≡ newer_slots (ledger_in l.dag l.self) l.last (l.wave - 1) l.fn.leader.0 l.fn.leader.1.0;
}
