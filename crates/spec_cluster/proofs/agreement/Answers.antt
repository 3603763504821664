use Rattle.spec_world.proofs.Law.{nothing_taken_back}
use Rattle.spec_cluster.proofs.Ever.{certificates_ever_agree, equals_need_others}
use Rattle.spec_cluster.proofs.Together.{agreement, runs_agree}
use Rattle.spec_cluster.proofs.agreement.Goals as goal

pub returns-clause-alone : goal.returns-clause-alone
returns-clause-alone c = nothing_taken_back

pub returns-clause-together : goal.returns-clause-together
returns-clause-together c = agreement

pub returns-clause-side_by_side : goal.returns-clause-side_by_side
returns-clause-side_by_side c = runs_agree

pub returns-clause-ever : goal.returns-clause-ever
returns-clause-ever c = certificates_ever_agree

pub returns-clause-equals : goal.returns-clause-equals
returns-clause-equals c = equals_need_others
