use Rattle.wire_read.proofs.ByTable.{by_fault, by_none}
use Rattle.wire_read.proofs.decoding.faults_by_the_table.Goals as goal

pub returns-clause-fault : goal.returns-clause-fault
returns-clause-fault c = by_fault

pub returns-clause-none : goal.returns-clause-none
returns-clause-none c = by_none
