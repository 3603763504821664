use Rattle.ref_machine.specs.Tables.{counts_for}
use Rattle.ref_machine.proofs.Lists.{found_more, found_same}
use Rattle.ref_machine.proofs.growing.with_counted.Goals as goal
use Rattle.ref_machine.proofs.growing.with_counted.Goals.{in-Some+in_ok-push, in_default}

pub returns : goal.returns
returns g c = λ round voter.
    elim c.match-new_vote.branch [
      | in-Some+in_ok-push w ↦
          rw (w.counted-is, w.in_ok-push.ensures.items)
          (found_more (counts_for round voter) c.args.counted.items w.in-Some.vote c.new_vote.result _ w.in-Some.is (c.new_vote.ensures round voter))
      | in_default w ↦
          rw w.counted-is
          (found_same (counts_for round voter) c.args.counted.items c.new_vote.result _ w.in_default.is (c.new_vote.ensures round voter))
    ]
