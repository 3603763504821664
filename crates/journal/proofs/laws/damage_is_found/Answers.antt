use Rattle.journal.proofs.ReadBack.{damage}
use Rattle.journal.proofs.laws.damage_is_found.Goals as goal

pub returns : goal.returns
returns c = damage
