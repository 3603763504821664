use Rattle.std.proofs.Common.{◌≡◌, List, take, ◌++◌}
use Rattle.journal.specs.declared.record.Record.{Record}
use Rattle.opening.specs.Replays.{HasTaken}
use Rattle.opening.proofs.replay.Replay.take_all.Given as goal

-- the records so far were taken
abbrev pub invariant-loop-one : goal.invariant-loop-one
invariant-loop-one g l = record {
  config : l.self.config.now ≡ l.initial.self.config.now;
  taken : (before : List Record) → HasTaken g.S.Sign.scheme l.initial.self before → HasTaken g.S.Sign.scheme l.self (before ++ take l.one-index l.records);
}
