use Rattle.std.proofs.Common.{◌≡◌, codes, Option, Some, None, Bor, refl}
use Rattle.std.specs.Prelude.{is_some, option_map}
use Rattle.toml.specs.View.{view}
use Rattle.toml.specs.declared.value.Value.{Value}
use Rattle.toml.proofs.Views.{table_get}
use Rattle.committee.proofs.stakes.has_stakes.Goals as goal

same_variant : (o : Option (Bor Value)) → is_some o ≡ is_some (option_map (λ x. view x.now) o)
same_variant None = refl
same_variant (Some x) = refl

pub returns : goal.returns
returns c =
    let found = table_get c.get.result (codes "stakes") c.args.table.now.entries c.get.ensures.value in
    rw (← found, c.is_some.ensures) (same_variant c.get.result)
