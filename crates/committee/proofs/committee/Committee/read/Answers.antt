use Rattle.std.proofs.Common.{◌≡◌, sym, ◌∙◌}
use Rattle.std.proofs.lemmas.Bool.{false≢true}
use Rattle.std.proofs.lemmas.Option.{same_Some}
use Rattle.toml.specs.Data.{no_members}
use Rattle.toml.specs.View.{table_view}
use Rattle.committee.proofs.FileLemmas.{blank-file}
use Rattle.committee.proofs.committee.Committee.read.Goals as goal

pub returns-in-Ok-clause-memory : goal.returns-in-Ok-clause-memory
returns-in-Ok-clause-memory c refused blank =
    let empty : table_view c.in-Ok.table ≡ no_members = same_Some _ _ (sym c.in-Ok.ensures.ok ∙ blank-file c.args.text.now blank) in
    false≢true (sym (rw empty at (c.committee_in.ensures.memory refused)))
