use Rattle.validator.proofs.Fitting.{parent_is}
use Rattle.validator.proofs.parents.parent.Goals as goal

pub returns-in-Some : goal.returns-in-Some
returns-in-Some c = parent_is c.args.dag.now c.limits_hold.ensures c.args.round c.args.author c.in-Some.digest.now c.in-Some.ensures
