use Rattle.std.proofs.Common.{sym, subst}
use Rattle.spec_model.specs.Words.{Message}
use Rattle.spec_machine.specs.Laws.{Comes}
use Rattle.admission.specs.HeaderLaws.{VoteComesTo}
use Rattle.admission.proofs.VoteComing.{vote_comes}
use Rattle.admission.proofs.assemblies.facts.vote_comes.Goals as goal

pub returns : goal.returns
returns c node state event vote before step holds at is =
    let step' = subst (λ (m : Message). Comes node state (record { sender = event.sender; message = m })) is step in
    subst (λ (m : Message). VoteComesTo node state (record { sender = event.sender; message = m }) vote before) (sym is)
    (vote_comes c.floors_agree.ensures node state event.sender vote before step' holds at)
