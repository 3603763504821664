use Rattle.journal.proofs.Written.{groups_stand}
use Rattle.journal.proofs.Walks.{stands_short}
use Rattle.journal.proofs.ReadBack.{only_groups}
use Rattle.journal.proofs.laws.groups_stand.Goals as goal

pub returns-clause-stand : goal.returns-clause-stand
returns-clause-stand c = groups_stand

pub returns-clause-only : goal.returns-clause-only
returns-clause-only c = only_groups

pub returns-clause-short : goal.returns-clause-short
returns-clause-short c = stands_short
