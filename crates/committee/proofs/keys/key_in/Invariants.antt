use Rattle.std.proofs.Common.{◌≡◌, ℕ, ◌*◌, ◌+◌, ◌<◌, length, get_or}
use Rattle.committee.specs.Keys.{digit_value}
use Rattle.committee.proofs.keys.key_in.Given as goal

-- each pair of digits so far was read
abbrev pub invariant-loop-i : goal.invariant-loop-i
invariant-loop-i l = record {
  count : length l.bytes ≡ 32;
  each : (k : ℕ) → k < l.i → get_or l.bytes k 0 ≡ 16 * digit_value (get_or l.text (2 * k) 0) + digit_value (get_or l.text (2 * k + 1) 0);
}
