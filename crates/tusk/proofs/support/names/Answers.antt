use Rattle.std.proofs.Common.{◌∙◌, List, ap}
use Rattle.std.specs.Prelude.{◌==◌, ◌&&◌}
use Rattle.std.specs.List.{list_any}
use Rattle.spec_model.specs.Slots.{same_digest}
use Rattle.spec_model.specs.Words.{ParentReference}
use Rattle.tusk.proofs.Supporting.{named_in}
use Rattle.tusk.proofs.support.names.Goals as goal

pub returns-in-Some : goal.returns-in-Some
returns-in-Some c held is =
    let leader = c.args.leader in
    c.is_among.ensures
    ∙ ap (λ (parents : List ParentReference). list_any (λ parent. (parent.author.0 == leader.1.0) && same_digest parent.certificate c.in-Some.digest.now) parents) c.as_slice.ensures.value
    ∙ named_in c.args.dag.now c.limits_hold.ensures leader.0 leader.1 held c.in-Some.digest.now c.args.certificate.now.header.parents is c.in-Some.ensures
