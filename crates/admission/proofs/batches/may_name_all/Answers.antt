use Rattle.std.proofs.Common.{ap, ◌∙◌}
use Rattle.std.specs.List.{list_all}
use Rattle.admission.specs.Batches.{may_name_by}
use Rattle.admission.proofs.batches.may_name_all.Goals as goal

pub returns : goal.returns
returns c = c.may_name_each.ensures ∙ ap (list_all (may_name_by c.args.batches.now c.args.header.now.body.author)) c.as_slice-named.ensures.value
