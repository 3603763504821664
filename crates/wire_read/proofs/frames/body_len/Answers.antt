use Rattle.std.proofs.Common.{◌≡◌, ℕ, ◌≤◌, length, take, ap, ◌∙◌, arith, length-take}
use Rattle.std.specs.Int.{w32, to_be_bytes}
use Rattle.wire_read.specs.Frames.{length_field}
use Rattle.wire_read.proofs.Steps.{IsBytes, IsBytes-take}
use Rattle.wire_read.proofs.Fields.{wide32}
use Rattle.wire_read.proofs.frames.body_len.Goals as goal

pub returns-clause-whole : goal.returns-clause-whole
returns-clause-whole c =
    let bytes = c.args.bytes.now in
    let fits : IsBytes bytes = λ i. omega (arith, c.type_inv.bytes i) in
    let field : c.from_be_bytes-len.result ≡ length_field bytes = cc (c.from_be_bytes-len.ensures, c.in-Some.ensures.cases.0) in
    let long : 4 ≤ length bytes = omega (arith, c.in-Some.ensures.cases.2) in
    let spelled : to_be_bytes w32 c.from_be_bytes-len.result ≡ take 4 bytes =
    ap (λ (n : ℕ). to_be_bytes w32 n) field ∙ wide32.back (take 4 bytes) (omega (arith, length-take 4 bytes, long)) (IsBytes-take 4 bytes fits) in
    (long, field, spelled, omega (arith, c.if-len-gt-MAX_FRAME_BYTES.false))
