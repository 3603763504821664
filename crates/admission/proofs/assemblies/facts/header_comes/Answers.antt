use Rattle.std.proofs.Common.{sym, subst}
use Rattle.spec_model.specs.Words.{Message}
use Rattle.spec_machine.specs.Laws.{Comes}
use Rattle.admission.specs.HeaderLaws.{HeaderComesTo}
use Rattle.admission.proofs.HeaderComing.{header_comes}
use Rattle.admission.proofs.assemblies.facts.header_comes.Goals as goal

pub returns : goal.returns
returns c node state event header before step at is own =
    let step' = subst (λ (m : Message). Comes node state (record { sender = event.sender; message = m })) is step in
    subst (λ (m : Message). HeaderComesTo node state (record { sender = event.sender; message = m }) header before) (sym is)
    (header_comes c.floors_agree.ensures node state event.sender header before step' at own)
