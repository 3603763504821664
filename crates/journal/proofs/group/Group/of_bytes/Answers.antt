use Rattle.journal.specs.OneGroup.{records_are}
use Rattle.journal.proofs.group.Group.of_bytes.Goals as goal

pub returns : goal.returns
returns c = λ records fits written. records_are c.args.bytes.items c.args.count c.result-1.given.0 records fits written
