use Rattle.std.proofs.Common.{◌≡◌, ◌<◌, ◌∙◌, ℕ, Bool, true, length, inl, inr, ap, sym, arith}
use Rattle.std.specs.Prelude.{is_some, nat_lt, ◌&&◌}
use Rattle.committee.specs.Sets.{has}
use Rattle.committee.specs.declared.sets.MemberSet.{MemberSet}
use Rattle.spec_laws.proofs.Lists.{given_or_none}
use Rattle.dag.specs.Graph.{DagView, slots_in}
use Rattle.dag.proofs.Entries.{of_members}
use Rattle.dag.proofs.Looking.{all_in, one_in, one_out, some_copied}
use Rattle.dag.proofs.dag.Dag.authors_at.Goals as goal
use Rattle.dag.proofs.dag.Dag.authors_at.Goals.{then-is_some, else-is_some}

pub loop-author-preserved : goal.loop-author-preserved
loop-author-preserved c other =
    let next = c.loop-author.author in
    let test : ℕ → Bool = λ a. is_some (slots_in c.args.self.now c.args.round a) in
    let tested : test next ≡ c.is_some.result = ap is_some (sym c.get.ensures) ∙ some_copied c.get.result ∙ sym c.is_some.ensures in
    elim c.if-is_some.branch [
      | then-is_some w ↦
          ap (λ (s : MemberSet). has s other) w.authors-is ∙ w.insert.ensures other
          ∙ one_in test next other (has c.loop-author.authors other) (c.loop-author.invariant other) (tested ∙ w.if-is_some.true)
      | else-is_some w ↦
          ap (λ (s : MemberSet). has s other) w.authors-is
          ∙ one_out test next other (has c.loop-author.authors other) (c.loop-author.invariant other) (tested ∙ w.if-is_some.false)
    ]

pub returns : goal.returns
returns c other =
    let inside = c.self.inside in
    let round = c.args.round in
    let size = length inside.committee.now.keys in
    let test : ℕ → Bool = λ a. is_some (slots_in c.args.self.now round a) in
    let members : test other ≡ true → other < size =
    λ passes. elim (given_or_none (slots_in c.args.self.now round other)) [
      | inl held ↦ of_members inside.committee.now inside.floor inside.base inside.rows.items c.self.invariant round other held.0 (ap (λ (g : DagView). slots_in g round other) c.self.view_is ∙ held.1)
      | inr none ↦ let bad = rw none at passes in absurd cc
    ] in
    let end : c.loop-author.author ≡ size = omega (arith, c.loop-author-test.false, c.loop-author.auto.author-end, c.size-author-end.ensures.value) in
    all_in test size other (has c.loop-author.authors other) (c.loop-author.invariant other ∙ ap (λ (k : ℕ). nat_lt other k && test other) end) members
