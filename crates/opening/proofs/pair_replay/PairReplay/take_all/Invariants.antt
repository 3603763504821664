use Rattle.std.proofs.Common.{◌≡◌, List, take, ◌++◌}
use Rattle.journal.specs.declared.record.Record.{Record}
use Rattle.opening.specs.PairReplays.{HasTakenPair}
use Rattle.opening.proofs.pair_replay.PairReplay.take_all.Given as goal

-- the records so far were taken
abbrev pub invariant-loop-one : goal.invariant-loop-one
invariant-loop-one g l = record {
  config : l.self.config.now ≡ l.initial.self.config.now;
  taken : (before : List Record) → HasTakenPair g.S.Sign.scheme l.initial.self before → HasTakenPair g.S.Sign.scheme l.self (before ++ take l.one-index l.records);
}
