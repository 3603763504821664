use Rattle.std.proofs.Common.{ap, ◌∙◌}
use Rattle.header.specs.Making.{batches_fault, parents_fault}
use Rattle.validator.proofs.Fitting.{batches_fit, parents_fit}
use Rattle.validator.proofs.proposing.header_for.Goals as goal

pub signed-requires-clause-batches : goal.signed-requires-clause-batches
signed-requires-clause-batches g c = ap batches_fault (c.deref.ensures.value ∙ c.in_ok-batches.ensures) ∙ batches_fit c.args.batches.now

pub signed-requires-clause-parents : goal.signed-requires-clause-parents
signed-requires-clause-parents g c =
    ap parents_fault (c.deref-2.ensures.value ∙ c.in_ok-parents.ensures) ∙ parents_fit c.args.dag.now c.limits_hold.ensures c.below.result
