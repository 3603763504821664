use Rattle.std.proofs.Common.{sym, ◌∙◌}
use Rattle.ref_admission.proofs.Lasts.{same_last}
use Rattle.ref_admission.proofs.runs.admit_last.Goals as goal

pub returns : goal.returns
returns g c = λ history event is.
    let same = same_last c.in-Some.history.now history c.in-Some.event.now event (sym c.in-Some.ensures.cases.0 ∙ is) in
    rw (sym same.0, sym same.1) c.admit.ensures
