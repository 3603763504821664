-- A validator that takes the records of a journal on one disk while they are read.
use Rattle.std.specs.Prelude.{◌≡◌, List, ◌++◌}
use Rattle.journal.specs.declared.record.Record.{Record}
use Rattle.sigface.specs.Scheme.{Scheme}
use Rattle.opening.specs.Replayed.{HasReplayed}
use Rattle.opening.specs.declared.replay.Replay.{Replay}

-- the validator has taken just these records
abbrev pub HasTaken : {S : Type 0} → Scheme S → Replay S → List Record → Type 0
HasTaken scheme replay records = HasReplayed scheme replay.config.now replay.first replay.alone replay.reached records

-- the validator has taken these records after those that it had taken before
pub record TakesMore {S : Type 0} (scheme : Scheme S) (old : Replay S) (records : List Record) (new : Replay S) : Type 0 where
  pub config : new.config.now ≡ old.config.now
  pub taken : (before : List Record) → HasTaken scheme old before → HasTaken scheme new (before ++ records)
