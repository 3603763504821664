use Rattle.std.proofs.Common.{◌≡◌, ◌+◌, ◌-◌, ◌∷◌, suc, drop, slice_get, ap, sym, ◌∙◌, arith}
use Rattle.dag.specs.Graph.{held_in}
use Rattle.dag.proofs.Ordered.{without, with_one}
use Rattle.dag.proofs.row.nth_held.Goals as goal
use Rattle.dag.proofs.row.nth_held.Goals.{in-Some+else-before-eq0, in_default}

pub loop-author-preserved : goal.loop-author-preserved
loop-author-preserved c =
    let slots = c.args.slots.now in
    let author = c.loop-author.author in
    let before = c.loop-author.before in
    let slot = c.index-slots-author.result in
    elim c.match-slots-author.branch [
      | in-Some+else-before-eq0 w ↦
          let positive : before ≡ suc (before - 1) = omega (arith, w.if-before-eq0.false) in
          c.loop-author.invariant
          ∙ ap (λ l. slice_get l before) (with_one slots author slot w.in-Some.entry c.loop-author-test.true (sym c.index-slots-author.is ∙ w.in-Some.is))
          ∙ ap (slice_get (w.in-Some.entry ∷ held_in (drop (author + 1) slots))) positive
          ∙ ap (slice_get (held_in (drop (author + 1) slots))) (sym w.before-is)
      | in_default w ↦
          c.loop-author.invariant
          ∙ ap (λ l. slice_get l before) (without slots author slot c.loop-author-test.true (sym c.index-slots-author.is ∙ w.in_default.is))
          ∙ ap (slice_get (held_in (drop (author + 1) slots))) (sym w.before-is)
    ]
