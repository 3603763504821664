use Rattle.std.proofs.Common.{ap, sym, ◌∙◌, arith}
use Rattle.std.specs.Prelude.{◌==◌}
use Rattle.std.proofs.lemmas.Bool.{le-ltb}
use Rattle.std.proofs.lemmas.Nat.Bits.{bit_at_above}
use Rattle.committee.proofs.sets.is_set.Goals as goal

pub returns-else-place : goal.returns-else-place
returns-else-place c =
    le-ltb c.args.place 32 c.if-place.false
    ∙ sym (ap (λ bit. bit == 1) (bit_at_above c.args.bits 32 c.args.place (omega arith) c.if-place.false))
