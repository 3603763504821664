use Rattle.std.proofs.Common.{◌≡◌, ℕ, ◌-◌, ◌≤◌, List, length, take, drop, ap, ◌∙◌, arith, length-take}
use Rattle.wire_read.specs.Frames.{length_field}
use Rattle.wire_read.proofs.Steps.{IsBytes}
use Rattle.wire_read.proofs.Streams.{left, framed}
use Rattle.wire_read.proofs.frames.body_at.Goals as goal

pub returns-clause-whole : goal.returns-clause-whole
returns-clause-whole c =
    let bytes = c.args.bytes.now in
    let len = c.in-Some.len in
    let fits : IsBytes bytes = λ i. omega (arith, c.type_inv.bytes i) in
    let field = rw c.in-Some.is at c.in_ok-len.ensures.whole in
    let rest = take (length bytes - 4) (drop 4 bytes) in
    let all : rest ≡ drop 4 bytes = left bytes 4 field.0 in
    let whole : length_field bytes ≤ length (drop 4 bytes) = omega (arith, field.1, c.if-rest-len.false, ap (λ (l : List ℕ). length l) all) in
    let is : take len rest ≡ take (length_field bytes) (drop 4 bytes) =
    ap (λ (l : List ℕ). take len l) all ∙ ap (λ (n : ℕ). take n (drop 4 bytes)) field.1 in
    (omega (arith, length-take len rest, c.if-rest-len.false, field.3), framed bytes (take len rest) fits field.0 whole is)
