use Rattle.std.proofs.Common.{◌≡◌, ◌<◌, ◌≢◌, ◌*◌, length, length-set, arith, get_or-set_other, get_or-set_same, below_more}
use Rattle.committee.proofs.KeyLemmas.{are_bytes_of}
use Rattle.committee.proofs.keys.key_in.Goals as goal

pub loop-i-preserved : goal.loop-i-preserved
loop-i-preserved c = record {
  count = rw length-set c.loop-i.invariant.count;
  each = below_more _ _
      (λ k h. let other : k ≢ c.loop-i.i = omega arith in rw get_or-set_other (c.loop-i.invariant.each k h))
      (let within : c.loop-i.i < length c.loop-i.bytes = omega arith in rw (get_or-set_same _ _ _ _ within, c.digit_value.ensures.value, c.digit_value-in-loop-i.ensures.value));
}

pub returns : goal.returns
returns c =
    let whole : length c.args.text.now ≡ 2 * 32 = omega arith in
    let bytes = are_bytes_of 32 c.args.text.now c.loop-i.bytes whole c.loop-i.invariant.count (λ k h. c.loop-i.invariant.each k (omega arith)) in
    rw (whole, ← c.if-not-are_digits.ensures, bytes)
