use Rattle.std.proofs.Common.{◌≡◌, ℕ, ◌<◌, length, refl, arith}
use Rattle.std.proofs.lemmas.Bool.Decides.{nat_tests}
use Rattle.test_parts.specs.Accords.{IsSameMember}
use Rattle.test_parts.proofs.Members.{members}
use Rattle.test_parts.proofs.accords.alike.same_members.Goals as goal

-- each number below the size was looked at, and the limits hold of both
pub returns : goal.returns
returns c =
    let one = c.args.one.now in
    let other = c.args.other.now in
    let long : length one.keys ≡ length other.keys = grind (arith, nat_tests, c.if-size.false, c.size.ensures.value, c.size-2.ensures.value) in
    let each : (k : ℕ) → k < length one.keys → IsSameMember one other k =
    λ k within. c.loop-member.invariant k (omega (arith, within, c.loop-member-test.false, c.size-member-end.ensures.value)) in
    ((λ _. members one other c.limits_hold.ensures c.limits_hold-2.ensures long each), λ _. refl)
