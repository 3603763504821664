use Rattle.std.proofs.Common.{ap, ◌∙◌}
use Rattle.std.specs.Prelude.{◌==◌, ◌%◌, ◌+◌}
use Rattle.std.proofs.lemmas.Nat.Bits.{bit_at_and, bit_at_xor, bit_at-lt}
use Rattle.std.specs.Int.{bit_at}
use Rattle.committee.proofs.Bits.{first_of_two}
use Rattle.committee.proofs.sets.MemberSet.remove_all.Goals as goal

pub returns : goal.returns
returns c member =
    let old = c.args.self.now.bits in
    let others = c.args.others.now.bits in
    ap (λ bit. bit == 1) (bit_at_xor old _ member ∙ ap (λ bit. (bit_at old member + bit) % 2) (bit_at_and old others member))
    ∙ first_of_two _ _ (bit_at-lt old member) (bit_at-lt others member)
