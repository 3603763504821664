use Rattle.std.proofs.Common.{ap, ◌∙◌}
use Rattle.std.specs.Prelude.{◌==◌}
use Rattle.std.proofs.lemmas.Nat.Bits.{bit_at_and, bit_at-lt}
use Rattle.committee.proofs.Bits.{both_of_two}
use Rattle.committee.proofs.sets.MemberSet.retain.Goals as goal

pub returns : goal.returns
returns c member =
    let old = c.args.self.now.bits in
    let others = c.args.others.now.bits in
    ap (λ bit. bit == 1) (bit_at_and old others member) ∙ both_of_two _ _ (bit_at-lt old member) (bit_at-lt others member)
