use Rattle.std.proofs.Common.{ap, option_copied}
use Rattle.ref_machine.specs.Tables.{of_round}
use Rattle.ref_machine.proofs.Lists.{found_more, found_same}
use Rattle.ref_machine.proofs.growing.with_own_header.Goals as goal
use Rattle.ref_machine.proofs.growing.with_own_header.Goals.{in-Some+in_ok-try_clone+in_ok-push, in_default}

pub returns : goal.returns
returns g c = λ round.
    elim c.match-own_header.branch [
      | in-Some+in_ok-try_clone+in_ok-push w ↦
          rw (w.headers-is, w.in_ok-push.ensures.items, w.in_ok-try_clone.ensures)
          (found_more (of_round round) c.args.headers.items w.in-Some.header.now (option_copied c.own_header.result) _ (ap option_copied w.in-Some.is) (c.own_header.ensures round))
      | in_default w ↦
          rw w.headers-is
          (found_same (of_round round) c.args.headers.items (option_copied c.own_header.result) _ (ap option_copied w.in_default.is) (c.own_header.ensures round))
    ]
