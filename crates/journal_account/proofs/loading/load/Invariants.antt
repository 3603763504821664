use Rattle.std.proofs.Common.{◌≡◌, ◌∷◌, take}
use Rattle.spec_world.specs.World.{bytes_of}
use Rattle.journal_account.proofs.loading.load.Given as goal

-- the first record and the records so far came
abbrev pub invariant-loop-one : goal.invariant-loop-one
invariant-loop-one g l = record {
  setting : l.loading.setting ≡ l.config;
  records : l.loading.records ≡ bytes_of (l.first ∷ take l.one-index l.state);
}
