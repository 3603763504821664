use Rattle.std.proofs.Common.{arith}
use Rattle.test_parts.proofs.OfOne.{of_one}
use Rattle.test_parts.proofs.accords.agreeing.are_of_one.Goals as goal

pub returns : goal.returns
returns g c =
    of_one _ _ _ _
    (c.same_committee.ensures.0 (grind (arith, c.if-not-same_committee.false, c.if-not-same_committee.ensures)))
    (c.in_ok-slots_agree.ensures.0 (grind (arith, c.if-not-branch.false)))
    c.waves_agree.result c.waves_agree.ensures
