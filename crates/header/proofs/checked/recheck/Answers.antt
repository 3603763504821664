use Rattle.header.proofs.Failing.{fault_of-accepts_all}
use Rattle.header.proofs.checked.recheck.Goals as goal

pub returns-clause-no_bad_signature : goal.returns-clause-no_bad_signature
returns-clause-no_bad_signature c refused =
    fault_of-accepts_all c.args.committee.now (record { sender = c.args.sender; message = c.args.message }) (rw refused at c.check.ensures.refused)
