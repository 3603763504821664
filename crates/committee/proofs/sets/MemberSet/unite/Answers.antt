use Rattle.std.proofs.Common.{ap, ◌∙◌}
use Rattle.std.specs.Prelude.{◌==◌}
use Rattle.std.proofs.lemmas.Nat.Bits.{bit_at_or, bit_at-lt}
use Rattle.committee.proofs.Bits.{one_of_two}
use Rattle.committee.proofs.sets.MemberSet.unite.Goals as goal

pub returns : goal.returns
returns c member =
    let old = c.args.self.now.bits in
    let more = c.args.more.now.bits in
    ap (λ bit. bit == 1) (bit_at_or old more member) ∙ one_of_two _ _ (bit_at-lt old member) (bit_at-lt more member)
