use Rattle.std.proofs.Common.{◌<◌, arith}
use Rattle.std.proofs.lemmas.List.Elements.{All-from_get_or}
use Rattle.wire.proofs.keys.are_bytes.Goals as goal

pub returns : goal.returns
returns c = All-from_get_or (λ byte. byte < 256) c.args.bytes.now 0 (λ i _. omega (arith, c.type_inv.bytes i))
