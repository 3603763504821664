use Rattle.ref_admission.proofs.outputs.push_order.Goals as goal

pub returns : goal.returns
returns g c =
    rw (c.deref.ensures.value, c.deref-2.ensures.value, c.in_ok-before.ensures, c.in_ok-after.ensures) at c.push_grown.ensures
