use Rattle.std.proofs.Common.{List, [], ◌∷◌, ◌++◌, sym, ap, ◌∙◌, subst}
use Rattle.std.specs.List.{AllZip}
use Rattle.cluster.proofs.Acting.{zip_more}
use Rattle.cluster.proofs.threads.+run_each.Goals as goal

pub returns : goal.returns
returns g t c =
    let ran = g.O.Runner.ran c.args.runner.now in
    let items = c.push_reserved.ensures.items ∙ ap (λ (l : List g.row.X.Denot). l ++ c.join.result ∷ []) c.in_ok-reserve.ensures.items in
    let kept = subst (λ p. g.O.Runner.ran p.runner.value p.job.value c.join.result) c.in-Ok.ensures.ok c.join.ensures in
    let of_runner = subst (λ r. g.O.Runner.ran r c.of-2.result.value c.join.result) c.of.ensures kept in
    let of_job = subst (λ j. ran j c.join.result) c.of-2.ensures of_runner in
    subst (λ (xs : List g.row.J.Denot). AllZip ran xs c.push_reserved.new.self.items) (sym c.in-Some.ensures.items)
    (subst (λ (ys : List g.row.X.Denot). AllZip ran (c.pop.new.self.items ++ c.in-Some.job ∷ []) ys) (sym items)
    (zip_more ran c.pop.new.self.items c.in_ok-results.results.items c.in-Some.job c.join.result c.in_ok-results.ensures of_job))
