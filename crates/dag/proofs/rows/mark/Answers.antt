use Rattle.std.proofs.Common.{◌<◌, ◌≤◌, ◌∙◌, length, ap, arith, slice_set}
use Rattle.committee.specs.Sets.{has}
use Rattle.dag.proofs.Changing.{marked_there, marked_past}
use Rattle.dag.proofs.rows.mark.Goals as goal

pub returns-then-place-len : goal.returns-then-place-len
returns-then-place-len c =
    let rows = c.args.rows.now.items in
    let all = c.args.rows.now.ok in
    let within : c.args.place < length rows = omega (arith, c.if-place-len.true, c.len.ensures, all) in
    ap (slice_set rows c.args.place) c.mark.ensures ∙ marked_there rows c.args.place (has c.args.authors.now) c.index_mut.result.now c.index_mut.ensures.value within

pub returns-else-place-len : goal.returns-else-place-len
returns-else-place-len c =
    let rows = c.args.rows.now.items in
    let all = c.args.rows.now.ok in
    let past : length rows ≤ c.args.place = omega (arith, c.if-place-len.false, c.len.ensures, all) in
    marked_past rows c.args.place (has c.args.authors.now) past
