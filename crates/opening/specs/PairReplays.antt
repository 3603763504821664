-- A reader that takes the records of a journal on two disks while they are read.
use Rattle.std.specs.Prelude.{◌≡◌, All, List, ◌++◌}
use Rattle.journal.specs.declared.record.Record.{Record}
use Rattle.sigface.specs.Scheme.{Scheme}
use Rattle.opening.specs.PairReplayed.{version_in, HasReached}
use Rattle.opening.specs.Decoded.{IsText}
use Rattle.opening.specs.declared.pair_replay.PairReplay.{PairReplay}

-- the reader has taken just these records
pub record HasTakenPair {S : Type 0} (scheme : Scheme S) (replay : PairReplay S) (records : List Record) : Type 0 where
  pub version : replay.version ≡ version_in records
  pub reached : HasReached scheme replay.config.now records replay.reached
  pub texts : All IsText records

-- the reader has taken these records after those that it had taken before
pub record TakesMorePair {S : Type 0} (scheme : Scheme S) (old : PairReplay S) (records : List Record) (new : PairReplay S) : Type 0 where
  pub config : new.config.now ≡ old.config.now
  pub taken : (before : List Record) → HasTakenPair scheme old before → HasTakenPair scheme new (before ++ records)
