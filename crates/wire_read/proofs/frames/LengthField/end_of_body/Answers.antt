use Rattle.std.proofs.Common.{◌≡◌, ℕ, ◌≤◌, List, length, ap, arith, length-take}
use Rattle.wire_read.proofs.Begun.{found}
use Rattle.wire_read.proofs.frames.LengthField.end_of_body.Goals as goal

pub returns-in-Some-clause-whole : goal.returns-in-Some-clause-whole
returns-in-Some-clause-whole c =
    let told = c.self.told in
    let field = rw (c.in-Some.is, c.self.view_is) at c.in_ok-len.ensures.whole in
    let whole : length c.args.self.now ≡ 4 =
    omega (arith, field.0, ap (λ (l : List ℕ). length l) c.self.view_is, length-take c.self.inside.count c.self.inside.bytes, c.self.invariant) in
    let short : length c.args.body.now ≤ c.in-Some.len = omega (arith, field.1, c.requires) in
    found (λ p. p.0.now) (λ p. p.1.now) c.args.self.now c.args.body.now c.args.bytes.now c.in-Some.len c.split_at_checked.result whole field.1 field.2 field.3 short
    c.split_at_checked.ensures.cases
