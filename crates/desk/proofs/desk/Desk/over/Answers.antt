use Rattle.std.proofs.Common.{◌∙◌}
use Rattle.validator.specs.Setting.{node_of}
use Rattle.desk.proofs.Openings.{nothing_taken}
use Rattle.desk.proofs.desk.Desk.over.Goals as goal

pub invariant_of-result : goal.invariant_of-result
invariant_of-result g c =
    let node = node_of g.S.Sign.scheme c.args.validator.setting in
    let at = c.requires.stands in
    record {
      alive = λ up. c.requires.alive;
      settled = λ up. nothing_taken node at.0 c.new-book.result (c.new-book.ensures.stands at.0 at.1);
      begun = λ up. c.requires.begun;
    }

pub returns-clause-free : goal.returns-clause-free
returns-clause-free g c = c.is_down-down.ensures.up (c.is_down-down.ensures.value ∙ c.new-book.ensures.up)
