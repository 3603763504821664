use Rattle.std.proofs.Common.{rules, ◌≡◌, Some, sym, ap, ◌∙◌}
use Rattle.wire.specs.Events.{Event}
use Rattle.header.specs.declared.error.CheckError.TheVariants.{Memory}
use Rattle.header.proofs.Failing.{passes-accepts_all, fault_of-memory}
use Rattle.header.proofs.checked.check.Goals as goal

pub invariant_of-result : goal.invariant_of-result
invariant_of-result g c =
    let event : Event = record { sender = c.args.sender; message = c.args.message } in (
      record {
        charter = c.args.committee.now;
        committee = c.limits_hold.ensures;
        passed = passes-accepts_all c.args.committee.now (g.V.Verify.accepts c.args.verifier.now) event (sym c.in_ok-digested.ensures.refused);
      },
      c.in_ok-digested.ensures.digests,
    )

pub returns-clause-passed_unsigned : goal.returns-clause-passed_unsigned
returns-clause-passed_unsigned g c =
    let event : Event = record { sender = c.args.sender; message = c.args.message } in
    passes-accepts_all c.args.committee.now (g.V.Verify.accepts c.args.verifier.now) event (sym c.in_ok-digested.ensures.refused)

pub returns-in_err-digested-clause-no_memory : goal.returns-in_err-digested-clause-no_memory
returns-in_err-digested-clause-no_memory g c memory =
    let error : c.in_err-digested.field-0.0 ≡ Memory = search (rules, rw memory at c.from_residual.ensures.1) in
    fault_of-memory c.args.committee.now (g.V.Verify.accepts c.args.verifier.now) (record { sender = c.args.sender; message = c.args.message }) (sym c.in_err-digested.ensures.refused ∙ ap Some error)
