use Rattle.std.proofs.Common.{◌<◌, length, sym, ◌∙◌, arith}
use Rattle.std.specs.Prelude.{count_by, is_some}
use Rattle.dag.proofs.Ordered.{in_first, in_rest}
use Rattle.dag.proofs.rows.nth.Goals as goal

pub loop-i-preserved : goal.loop-i-preserved
loop-i-preserved c =
    let within : c.loop-i.i < length c.args.rows.now.items = omega (arith, c.loop-i-test.true, c.len-i-end.ensures) in
    c.loop-i.invariant
    ∙ in_rest c.args.rows.now.items c.loop-i.i c.loop-i.before c.count-count.result c.index-row.result.now within c.index-row.ensures c.count-count.ensures c.if-before-count.false

pub returns-then-before-count : goal.returns-then-before-count
returns-then-before-count c =
    let rows = c.args.rows.now.items in
    let within : c.loop-i.i < length rows = omega (arith, c.loop-i-test.true, c.len-i-end.ensures) in
    let few : c.loop-i.before < count_by is_some c.index-row.result.now = omega (arith, c.if-before-count.true, c.count-count.ensures) in
    c.nth.ensures ∙ sym (c.loop-i.invariant ∙ in_first rows c.loop-i.i c.loop-i.before c.index-row.result.now within c.index-row.ensures few)
