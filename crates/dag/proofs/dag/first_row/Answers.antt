use Rattle.std.proofs.Common.{◌∙◌, List, Option, ap, arith, length, Some, slice_set}
use Rattle.dag.specs.declared.entry.Entry.{Entry}
use Rattle.dag.proofs.Steps.{firsts, firsts_more, length-all}
use Rattle.dag.proofs.dag.first_row.Goals as goal

pub set-requires : goal.set-requires
set-requires c =
    let long = ap length c.loop-author.invariant ∙ length-all c.args.size c.loop-author.author (omega (arith, c.loop-author-test.true)) in
    record {
      within = omega (arith, long, c.loop-author-test.true);
      member = omega (arith, c.requires, c.loop-author-test.true);
      without_mark = ap (λ (e : Entry). e.marked) c.first_entry.ensures;
    }

pub loop-author-preserved : goal.loop-author-preserved
loop-author-preserved c =
    let author = c.loop-author.author in
    c.set.ensures
    ∙ ap (λ (row : List (Option Entry)). slice_set row author (Some c.first_entry.result)) c.loop-author.invariant
    ∙ ap (λ (e : Entry). slice_set (firsts c.args.size author) author (Some e)) c.first_entry.ensures
    ∙ firsts_more c.args.size author c.loop-author-test.true
