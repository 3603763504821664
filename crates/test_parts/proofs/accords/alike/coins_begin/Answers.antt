use Rattle.std.proofs.lemmas.Bool.Decides.{Decides-eqb}
use Rattle.test_parts.proofs.Beginning.{begins}
use Rattle.test_parts.proofs.accords.alike.coins_begin.Goals as goal

pub returns : goal.returns
returns c = begins Decides-eqb c.args.one.now c.args.other.now c.starts_with.result c.starts_with.ensures.value
