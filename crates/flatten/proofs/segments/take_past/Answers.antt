use Rattle.std.proofs.Common.{◌≡◌, ℕ, ◌+◌, ◌-◌, Bool, true, false, ap, sym, ◌∙◌, subst, arith}
use Rattle.std.specs.Prelude.{not, is_some, ◌&&◌, sum_by}
use Rattle.std.specs.List.{range_with_len}
use Rattle.std.proofs.lemmas.Option.{same_Some}
use Rattle.spec_model.specs.Words.{Author}
use Rattle.dag.specs.Graph.{slots_in, reaches_in, references_of}
use Rattle.dag.proofs.Walking.{none_from}
use Rattle.flatten.specs.Sets.{is_free, is_past_in, orders_in, AreClosed, IsTakenFrom}
use Rattle.flatten.proofs.Taking.{some_copied, none_there, not_above, untaken, never_reached}
use Rattle.flatten.proofs.segments.take_past.Goals.{then-number-low-via-then-number-low, then-number-low-via-else-number-low+then-number, then-number-low-via-else-number-low+else-number+then-is_none}
use Rattle.flatten.proofs.segments.take_past.Goals as goal

pub returns-then-number-low-clause-sets : goal.returns-then-number-low-clause-sets
returns-then-number-low-clause-sets c from round author above below =
    let graph = c.args.dag.now in
    let before = c.in-Some.before in
    let inside = is_free graph c.args.top c.args.taken.now.items round author in
    let never : reaches_in graph before.0 before.1.0 round author ≡ false =
    elim c.then-number-low.branch [
      | then-number-low-via-then-number-low w ↦
          not_above graph c.limits_hold.ensures before.0 before.1.0 round author (omega (arith, w.if-number-low.true, c.number.ensures.value, above))
      | then-number-low-via-else-number-low+then-number w ↦
          never_reached graph before c.args.top (from.within before c.in-Some.is)
          (omega (arith, w.if-number.true, w.number-else-number-low.ensures.value, w.number-else-number-low-2.ensures.value)) round author
      | then-number-low-via-else-number-low+else-number+then-is_none w ↦
          let none : is_some (slots_in graph before.0 before.1.0) ≡ false = ap is_some (sym w.get.ensures) ∙ some_copied w.get.result ∙ w.is_none.ensures ∙ ap not w.if-is_none.true in
          none_from graph before.0 before.1.0 round author (none_there (slots_in graph before.0 before.1.0) none)
    ] in
    untaken graph before round author inside never
    ∙ ap (λ p. inside && not (is_past_in graph p round author)) (sym c.in-Some.is)

-- who is free is closed in the rounds that are walked
closed : (c : goal.After-drop-branch) → IsTakenFrom c.args.dag.now c.args.previous c.args.low c.args.top (is_free c.args.dag.now c.args.top c.args.taken.now.items)
    → AreClosed c.args.dag.now c.args.low c.in-Some.before.0 (is_free c.args.dag.now c.args.top c.args.taken.now.items)
closed c from r a other bottom less inside has =
    let graph = c.args.dag.now in
    let before = c.in-Some.before in
    let held : is_some (slots_in graph before.0 before.1.0) ≡ true = ap is_some (sym c.get.ensures) ∙ some_copied c.get.result ∙ c.if-is_none.ensures in
    let within = from.within before c.in-Some.is held in
    from.closed r a other bottom (omega (arith, less, within)) inside has

pub returns-clause-sets : goal.returns-clause-sets
returns-clause-sets c from round author above below =
    let graph = c.args.dag.now in
    let inside = is_free graph c.args.top c.args.taken.now.items round author in
    c.in_ok-reads.ensures.taken (closed c from) round author above below
    ∙ ap (λ p. inside && not (is_past_in graph p round author)) (sym c.in-Some.is)

pub returns-clause-reads : goal.returns-clause-reads
returns-clause-reads c before from same some =
    let graph = c.args.dag.now in
    let free : ℕ → ℕ → Bool = is_free graph c.args.top c.args.taken.now.items in
    subst (λ (b : ℕ × Author). c.in_ok-reads.reads ≡ sum_by (λ r. references_of graph r (orders_in graph b.0 b.1.0 free r)) (range_with_len (c.args.low + 1) (b.0 - c.args.low)))
    (same_Some c.in-Some.before before (sym c.in-Some.is ∙ same)) (c.in_ok-reads.ensures.reads (closed c from))
