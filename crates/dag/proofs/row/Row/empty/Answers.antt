use Rattle.std.proofs.Common.{◌≡◌, ◌++◌, ◌∷◌, [], None, List, Option, replicate, ap, sym, subst, ◌∙◌, arith}
use Rattle.std.proofs.lemmas.Result.{err_from_is_err_and}
use Rattle.dag.specs.Rows.{IsRow}
use Rattle.dag.specs.declared.entry.Entry.{Entry}
use Rattle.dag.proofs.Unmarked.{bare_more, of_nobody}
use Rattle.dag.proofs.row.Row.empty.Goals as goal

pub returns-in_err-push : goal.returns-in_err-push
returns-in_err-push c =
    let exit = err_from_is_err_and c.from_residual-in_err-push.result c.from_residual-in_err-push.ensures.1 in
    rw exit.1 tt

pub loop-preserved : goal.loop-preserved
loop-preserved c = c.in_ok-push.ensures.items ∙ ap (λ (row : List (Option Entry)). row ++ None ∷ []) c.loop.invariant ∙ bare_more c.loop.counter

pub invariant_of-result : goal.invariant_of-result
invariant_of-result c = subst (λ (row : List (Option Entry)). IsRow row c.none.result) (sym c.loop.invariant) (of_nobody c.loop.counter c.none.result c.none.ensures)

pub returns : goal.returns
returns c =
    let end : c.loop.counter ≡ c.args.size = omega arith in
    c.loop.invariant ∙ ap (λ n. replicate n None) end
