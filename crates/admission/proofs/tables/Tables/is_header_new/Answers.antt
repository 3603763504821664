use Rattle.std.proofs.Common.{refl, ap, ◌∙◌}
use Rattle.admission.specs.Decisions.{is_new_decision, header_decision, new_header_outputs, known_header_outputs}
use Rattle.admission.proofs.Answered.{header_answered}
use Rattle.admission.proofs.Closing.{newness_is_reported}
use Rattle.admission.proofs.tables.Tables.is_header_new.Goals as goal

pub returns : goal.returns
returns c = λ node state event meets.
    let tables = c.args.self.now in
    let header = c.args.header.now in
    c.is_new.ensures ∙ ap is_new_decision c.header_decision.ensures
    ∙ newness_is_reported _ (new_header_outputs tables node.sign header) (known_header_outputs tables node.sign header) (header_decision tables header)
    (header_answered node state event tables node.sign header meets refl)
