use Rattle.std.proofs.Common.{◌<◌, refl, arith, rules}
use Rattle.std.proofs.lemmas.List.Elements.{All-from_get_or}
use Rattle.disk_file.proofs.tape.Tape.found.Goals as goal

pub returns : goal.returns
returns c = record {
  bytes = c.args.bytes.now;
  is = search rules;
  are_bytes = All-from_get_or (λ number. number < 256) c.args.bytes.now 0 (λ place inside. omega (arith, c.type_inv.bytes place));
  long = refl;
}
