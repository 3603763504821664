use Rattle.ref_machine.specs.Tables.{votes_for}
use Rattle.ref_machine.specs.declared.tables.SlotVote.{SlotVote}
use Rattle.ref_machine.proofs.Lists.{made_more, made_same}
use Rattle.ref_machine.proofs.growing.with_vote.Goals as goal
use Rattle.ref_machine.proofs.growing.with_vote.Goals.{in-Some+in_ok-push, in_default}

pub returns : goal.returns
returns c = λ round author.
    elim c.match-slot_vote.branch [
      | in-Some+in_ok-push w ↦
          rw (w.votes-is, w.in_ok-push.ensures.items)
          (made_more (λ (v : SlotVote). v.digest) (votes_for round author) c.args.votes.items w.in-Some.vote c.slot_vote.result _ w.in-Some.is (c.slot_vote.ensures round author))
      | in_default w ↦
          rw w.votes-is
          (made_same (λ (v : SlotVote). v.digest) (votes_for round author) c.args.votes.items c.slot_vote.result _ w.in_default.is (c.slot_vote.ensures round author))
    ]
