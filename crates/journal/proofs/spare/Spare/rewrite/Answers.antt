use Rattle.std.proofs.Common.{ℕ, ◌+◌, List, sym, subst}
use Rattle.std.proofs.lemmas.Result.{err_from_is_err_and}
use Rattle.diskmodel.specs.Disk.{AtEachMoment}
use Rattle.journal.specs.Areas.{IsOlderOrNew}
use Rattle.journal.specs.Snapshot.{bytes_for}
use Rattle.journal.specs.Spares.{written_disk}
use Rattle.journal.proofs.spare.Spare.rewrite.Goals as goal

pub returns-in_err-write-clause-any_moment : goal.returns-in_err-write-clause-any_moment
returns-in_err-write-clause-any_moment g c at_rest =
    let spare = c.args.self.now in
    let exit = err_from_is_err_and c.from_residual.result c.from_residual.ensures.1 in
    let P : List ℕ → Type 0 = IsOlderOrNew spare.generation (bytes_for (spare.generation + 1) c.args.snapshot.now) in
    subst (λ r. AtEachMoment g.D.Disk.device spare.disk (written_disk r (record spare { disk = c.write.new.disk }) c.args.live.now) P) (sym exit.1)
    (c.write.ensures.any_moment spare.generation at_rest)

pub returns-clause-any_moment : goal.returns-clause-any_moment
returns-clause-any_moment g c at_rest =
    let spare = c.args.self.now in
    let P : List ℕ → Type 0 = IsOlderOrNew spare.generation (bytes_for (spare.generation + 1) c.args.snapshot.now) in
    subst (λ d. AtEachMoment g.D.Disk.device spare.disk d P) (sym c.swap.ensures.y_after) (c.write.ensures.any_moment spare.generation at_rest)
