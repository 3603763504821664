use Rattle.std.proofs.Common.{◌≡◌, take}
use Rattle.journal.specs.Format.{contents}
use Rattle.validator.proofs.validator.Validator.load.Given as goal

-- the records so far came
abbrev pub invariant-loop-record : goal.invariant-loop-record
invariant-loop-record g l = record {
  setting : l.loading.setting ≡ l.config;
  records : l.loading.records ≡ contents (take l.record-index l.fn.records.items);
}
