use Rattle.journal.proofs.Written.{written_stand, one_more}
use Rattle.journal.proofs.laws.written_groups_stand.Goals as goal

pub returns-clause-stand : goal.returns-clause-stand
returns-clause-stand c = written_stand

pub returns-clause-one_more : goal.returns-clause-one_more
returns-clause-one_more c = one_more
