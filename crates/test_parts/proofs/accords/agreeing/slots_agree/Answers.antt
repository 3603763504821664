use Rattle.std.proofs.Common.{◌∙◌}
use Rattle.test_parts.proofs.Slots.{slots_at}
use Rattle.test_parts.proofs.accords.agreeing.slots_agree.Goals as goal

pub returns : goal.returns
returns g c =
    slots_at _ _ c.deref.result.now c.deref-2.result.now c.have_one_header.result
    (c.deref.ensures.value ∙ c.in_ok-first.ensures) (c.deref-2.ensures.value ∙ c.in_ok-second.ensures) c.have_one_header.ensures
