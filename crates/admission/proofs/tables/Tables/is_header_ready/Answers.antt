use Rattle.std.proofs.Common.{refl, ap, ◌∙◌}
use Rattle.std.specs.Prelude.{not}
use Rattle.admission.specs.Decisions.{lacks_parents, header_decision, new_header_outputs, known_header_outputs}
use Rattle.admission.proofs.Answered.{header_answered}
use Rattle.admission.proofs.Readying.{ready_is_reported}
use Rattle.admission.proofs.tables.Tables.is_header_ready.Goals as goal

pub returns : goal.returns
returns c = λ node state event meets.
    let tables = c.args.self.now in
    let header = c.args.header.now in
    ap not (c.lacks_parents.ensures ∙ ap lacks_parents c.header_decision.ensures)
    ∙ ready_is_reported node state event (new_header_outputs tables node.sign header) (known_header_outputs tables node.sign header) (header_decision tables header)
    (header_answered node state event tables node.sign header meets refl)
