use Rattle.std.proofs.Common.{◌≡◌, Some, ap, sym, ◌∙◌, option_copied}
use Rattle.ref_admission.proofs.Parents.{slot_author}
use Rattle.spec_model.specs.Slots.{slots_of}
use Rattle.ref_admission.proofs.proposing.parent_at.Goals as goal

pub returns-in-Some-clause-author : goal.returns-in-Some-clause-author
returns-in-Some-clause-author c =
    let held : slots_of c.args.certificates.now c.args.round c.args.author ≡ Some c.in-Some.certificate.now =
    sym c.slot.ensures ∙ ap option_copied c.in-Some.is in
    let by = slot_author c.args.certificates.now c.args.round c.args.author in
    ap (λ parent. parent.author.0) c.as_parent.ensures ∙ (rw held at by)
