use Rattle.std.proofs.Common.{◌+◌, List, ◌++◌, length, arith, ap, ◌∙◌, drop}
use Rattle.std.proofs.lemmas.List.{take_rest}
use Rattle.journal.specs.declared.record.Record.{Record}
use Rattle.journal.specs.Format.{body_at, walk, with_front}
use Rattle.journal.proofs.Loops.{file_closed, file_no_body, file_no_group, file_inside, file_more, group_found, group_missed}
use Rattle.journal.proofs.reading.walk_from.Goals as goal

pub returns-in_default-clause-err : goal.returns-in_default-clause-err
returns-in_default-clause-err c =
    file_no_body c.args.base c.args.bytes.now c.loop-gate.gate c.loop-gate.invariant.inside c.loop-gate.records.items _ c.loop-gate.invariant.found c.loop-gate-test.true
    (c.in_default.ensures ∙ ap body_at (take_rest c.args.bytes.now (c.loop-gate.gate + 1)))

pub returns-in_default-2-clause-err : goal.returns-in_default-2-clause-err
returns-in_default-2-clause-err c =
    file_no_group c.args.base c.args.bytes.now c.loop-gate.gate c.loop-gate.invariant.inside c.loop-gate.records.items _ c.loop-gate.invariant.found c.in-Some.body.now c.loop-gate-test.true
    (c.in-Some.ensures ∙ ap body_at (take_rest c.args.bytes.now (c.loop-gate.gate + 1)))
    (group_missed (c.args.base + c.loop-gate.gate) _ (rw c.in_default-2.is at c.in_ok-group.ensures))

pub overflow_add-gate-in-loop-gate-3 : goal.overflow_add-gate-in-loop-gate-3
overflow_add-gate-in-loop-gate-3 c =
    omega (
      arith,
      file_inside c.args.base c.args.bytes.now c.loop-gate.gate c.loop-gate.invariant.inside c.loop-gate.records.items _ c.loop-gate.invariant.found c.in-Some.body.now
          (c.in-Some.ensures ∙ ap body_at (take_rest c.args.bytes.now (c.loop-gate.gate + 1))),
    )

pub loop-gate-preserved : goal.loop-gate-preserved
loop-gate-preserved c =
    let is_body = c.in-Some.ensures ∙ ap body_at (take_rest c.args.bytes.now (c.loop-gate.gate + 1)) in
    let group = group_found (c.args.base + c.loop-gate.gate) c.in-Some-2.group.items _ (rw c.in-Some-2.is at c.in_ok-group.ensures) in
    record {
      inside = file_inside c.args.base c.args.bytes.now c.loop-gate.gate c.loop-gate.invariant.inside c.loop-gate.records.items _ c.loop-gate.invariant.found c.in-Some.body.now is_body;
      found =
          ap (λ (l : List Record). with_front l
          (walk (c.args.base + (c.loop-gate.gate + (5 + length c.in-Some.body.now))) 0
          (drop (c.loop-gate.gate + (5 + length c.in-Some.body.now)) c.args.bytes.now)))
          (c.in_ok-take.ensures ∙ ap (λ (l : List Record). c.loop-gate.records.items ++ l) group.2)
          ∙ file_more c.args.base c.args.bytes.now c.loop-gate.gate c.loop-gate.invariant.inside c.loop-gate.records.items _ c.loop-gate.invariant.found
          c.in-Some.body.now group.0 c.loop-gate-test.true is_body group.1;
    }

pub returns-clause-ok : goal.returns-clause-ok
returns-clause-ok c = file_closed c.args.base c.args.bytes.now c.loop-gate.gate c.loop-gate.invariant.inside c.loop-gate.records.items _ c.loop-gate.invariant.found c.loop-gate-test.false
