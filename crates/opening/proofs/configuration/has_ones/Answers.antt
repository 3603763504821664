use Rattle.opening.proofs.Configured.{ones_counted}
use Rattle.opening.proofs.configuration.has_ones.Goals as goal

pub returns : goal.returns
returns c = ones_counted c.args.committee.now c.total.result c.size.result c.limits_hold.ensures c.total.ensures.value c.size.ensures.value
