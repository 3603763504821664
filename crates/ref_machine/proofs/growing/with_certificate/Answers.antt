use Rattle.std.proofs.Common.{ap, refl, option_copied}
use Rattle.spec_model.specs.Slots.{is_of_slot}
use Rattle.spec_model.specs.Words.{Certificate}
use Rattle.ref_machine.proofs.Lists.{found_more, found_same}
use Rattle.ref_machine.proofs.growing.with_certificate.Goals as goal
use Rattle.ref_machine.proofs.growing.with_certificate.Goals.{in-Some+in_ok-try_clone+in_ok-push, in_default}

pub returns : goal.returns
returns c = λ round author.
    elim c.match-certificate.branch [
      | in-Some+in_ok-try_clone+in_ok-push w ↦
          rw (w.certificates-is, w.in_ok-push.ensures.items, w.in_ok-try_clone.ensures)
          (found_more (λ (d : Certificate). is_of_slot round author d.header) c.args.certificates.items w.in-Some.certificate.now
          (option_copied c.args.certificate) _ (ap option_copied w.in-Some.is) refl)
      | in_default w ↦
          rw w.certificates-is
          (found_same (λ (d : Certificate). is_of_slot round author d.header) c.args.certificates.items (option_copied c.args.certificate) _ (ap option_copied w.in_default.is) refl)
    ]
