use Rattle.std.proofs.Common.{◌∙◌}
use Rattle.std.specs.Prelude.{is_some}
use Rattle.spec_model.specs.Slots.{slots_of}
use Rattle.ref_order.proofs.Sets.{weighs}
use Rattle.ref_order.proofs.holdings.weight_of_authors.Goals as goal

pub returns : goal.returns
returns c =
    c.weight.ensures.value
    ∙ weighs c.args.committee.now c.authors_of.result (λ author. is_some (slots_of c.args.certificates.now c.args.round author)) c.authors_of.ensures
