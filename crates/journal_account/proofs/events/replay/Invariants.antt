use Rattle.std.proofs.Common.{◌≡◌}
use Rattle.spec_model.specs.States.{State}
use Rattle.validator.specs.Setting.{node_of}
use Rattle.validator.specs.Standing.{AreAtSound}
use Rattle.journal_account.proofs.Reached.{IsReachedFrom}
use Rattle.journal_account.proofs.events.replay.Given as goal

-- the validator is as it was set up, and stands at what the records so far lead to from each state at which it stood
abbrev pub invariant-loop-one : goal.invariant-loop-one
invariant-loop-one g l = record {
  setting : l.validator.setting ≡ l.initial.validator.setting;
  reached : (state : State) → AreAtSound (node_of g.S.Sign.scheme l.initial.validator.setting) l.initial.validator.tables state
      → IsReachedFrom (node_of g.S.Sign.scheme l.initial.validator.setting) state l.records l.one-index l.validator.tables;
}
