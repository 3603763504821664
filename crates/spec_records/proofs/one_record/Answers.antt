use Rattle.spec_records.proofs.Once.{one_record}
use Rattle.spec_records.proofs.one_record.Goals as goal

pub returns : goal.returns
returns c = one_record
