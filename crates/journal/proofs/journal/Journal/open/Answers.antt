use Rattle.std.proofs.Common.{List, ◌++◌, Ok, sym, ap, ◌∙◌}
use Rattle.journal.specs.declared.record.Record.{Record}
use Rattle.journal.proofs.journal.Journal.open.Goals as goal

pub returns-in-Ok-clause-records : goal.returns-in-Ok-clause-records
returns-in-Ok-clause-records g c =
    let taken = c.in-Ok.ensures.records in
    taken.1 ∙ ap Ok (sym (taken.2 ∙ ap (λ (l : List Record). l ++ taken.0) c.new-records.ensures.items))
