use Rattle.std.proofs.Common.{rules, ◌≡◌, ◌∷◌}
use Rattle.node_io.proofs.Digits.{taken_value, taken_ahead, taken_back}
use Rattle.node_io.proofs.arguments.own_of.Goals as goal

pub loop-digit-preserved : goal.loop-digit-preserved
loop-digit-preserved c =
    let before = c.loop-digit.invariant in
    let is : c.loop-digit.rest.now ≡ c.in-Some.digit.now ∷ c.in-Some.after.now = search rules in
    let given = c.in_ok-number.ensures.some in
    record {
      some = before.some;
      value = taken_value _ _ _ _ _ _ is given.1 before.value;
      ahead = taken_ahead _ _ _ is given.0 before.ahead;
      back = λ all. taken_back _ _ _ is (before.back all);
    }
