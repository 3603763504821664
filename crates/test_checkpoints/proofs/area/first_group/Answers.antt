use Rattle.std.proofs.Common.{◌≡◌, ◌∷◌, [], arith}
use Rattle.std.specs.Prelude.{IsSome}
use Rattle.journal.specs.Configuration.{shaped_version}
use Rattle.test_checkpoints.proofs.Begun.{alone}
use Rattle.test_checkpoints.proofs.area.first_group.Goals as goal

pub returns : goal.returns
returns c =
    let shaped : IsSome (shaped_version c.args.configuration.items) = grind (arith, c.if-is_none.ensures, c.shaped_version.ensures, c.deref.ensures.value) in
    let is : c.in-Some.group ≡ c.args.configuration.items ∷ [] = grind (arith, c.in_ok-group.ensures, c.in-Some.is, c.in_ok-records.ensures.items) in
    alone c.in-Some.group c.args.configuration.items shaped is
