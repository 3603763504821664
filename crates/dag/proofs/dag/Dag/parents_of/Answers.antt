use Rattle.std.proofs.Common.{◌≡◌, ◌-◌, ◌∙◌, ℕ, Bool, false, cond, ap, sym, arith, ◌||◌}
use Rattle.std.specs.Prelude.{◌&&◌}
use Rattle.std.specs.List.{list_any, range_with_len}
use Rattle.committee.specs.Sets.{has}
use Rattle.dag.specs.Graph.{has_parent_in, references_at}
use Rattle.dag.proofs.Steps.{or_false, any_more, sum_more}
use Rattle.dag.proofs.dag.Dag.parents_of.Goals as goal
use Rattle.dag.proofs.dag.Dag.parents_of.Goals.{then-contains, else-contains}

pub loop-author-preserved : goal.loop-author-preserved
loop-author-preserved c =
    let graph = c.args.self.now in
    let a = c.loop-author.author in
    let set = c.args.authors.now in
    let round = c.args.round in
    let f : ℕ → ℕ = λ x. cond (has set x) (references_at graph round x) 0 in
    elim c.if-contains.branch [
      | then-contains w ↦
          let in_set = sym c.contains.ensures ∙ w.if-contains.true in
          let read : f a ≡ references_at graph round a = ap (λ b. cond b (references_at graph round a) 0) in_set in (
            λ other.
                let test : ℕ → Bool = λ x. has set x && has_parent_in graph round x (round - 1) other in
                let here : test a ≡ has_parent_in graph round a (round - 1) other = ap (λ b. b && has_parent_in graph round a (round - 1) other) in_set in
                ap (λ s. has s other) w.parents-is ∙ w.unite.ensures other
                ∙ ap (λ b. b || has w.read_parents.result other) (c.loop-author.invariant.0 other)
                ∙ ap (λ b. list_any test (range_with_len 0 a) || b) (w.read_parents.ensures.parents other)
                ∙ ap (λ b. list_any test (range_with_len 0 a) || b) (sym here) ∙ sym (any_more test a),
            omega (arith, w.reads-is, w.read_parents.ensures.reads, c.loop-author.invariant.1, read, sum_more f a),
            omega (arith, w.reads-is, w.read_parents.ensures.few, c.loop-author.invariant.2),
          )
      | else-contains w ↦
          let out = sym c.contains.ensures ∙ w.if-contains.false in
          let none : f a ≡ 0 = ap (λ b. cond b (references_at graph round a) 0) out in (
            λ other.
                let test : ℕ → Bool = λ x. has set x && has_parent_in graph round x (round - 1) other in
                let here : test a ≡ false = ap (λ b. b && has_parent_in graph round a (round - 1) other) out in
                ap (λ s. has s other) w.parents-is ∙ c.loop-author.invariant.0 other
                ∙ sym (or_false (list_any test (range_with_len 0 a))) ∙ ap (λ b. list_any test (range_with_len 0 a) || b) (sym here) ∙ sym (any_more test a),
            omega (arith, w.reads-is, c.loop-author.invariant.1, none, sum_more f a),
            omega (arith, w.reads-is, c.loop-author.invariant.2),
          )
    ]
