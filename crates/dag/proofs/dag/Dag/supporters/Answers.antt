use Rattle.std.proofs.Common.{◌≡◌, ◌<◌, ◌+◌, ◌-◌, ◌∙◌, ℕ, Bool, true, length, inl, inr, ap, sym, arith}
use Rattle.std.specs.Prelude.{nat_lt, ◌&&◌}
use Rattle.committee.specs.Sets.{has}
use Rattle.committee.specs.declared.sets.MemberSet.{MemberSet}
use Rattle.spec_laws.proofs.Lists.{given_or_none}
use Rattle.dag.specs.Graph.{DagView, slots_in, has_parent_in}
use Rattle.dag.proofs.Entries.{of_members}
use Rattle.dag.proofs.Looking.{all_in, one_in, one_out}
use Rattle.dag.proofs.dag.Dag.supporters.Goals as goal
use Rattle.dag.proofs.dag.Dag.supporters.Goals.{then-has_parent, else-has_parent}

pub loop-member-preserved : goal.loop-member-preserved
loop-member-preserved c other =
    let round = c.args.round in
    let author = c.args.author.0 in
    let next = c.loop-member.member in
    let test : ℕ → Bool = λ m. has_parent_in c.args.self.now (round + 1) m round author in
    let level : (round + 1) - 1 ≡ round = omega arith in
    let tested : c.has_parent.result ≡ test next =
    c.has_parent.ensures ∙ ap (λ (r : ℕ). has_parent_in c.args.self.now (r + 1) next ((r + 1) - 1) author) c.number.ensures.value
    ∙ ap (λ (r : ℕ). has_parent_in c.args.self.now (round + 1) next r author) level in
    elim c.if-has_parent.branch [
      | then-has_parent w ↦
          ap (λ (s : MemberSet). has s other) w.supporters-is ∙ w.insert.ensures other
          ∙ one_in test next other (has c.loop-member.supporters other) (c.loop-member.invariant other) (sym tested ∙ w.if-has_parent.true)
      | else-has_parent w ↦
          ap (λ (s : MemberSet). has s other) w.supporters-is
          ∙ one_out test next other (has c.loop-member.supporters other) (c.loop-member.invariant other) (sym tested ∙ w.if-has_parent.false)
    ]

pub returns : goal.returns
returns c other =
    let inside = c.self.inside in
    let round = c.args.round in
    let author = c.args.author.0 in
    let size = length inside.committee.now.keys in
    let test : ℕ → Bool = λ m. has_parent_in c.args.self.now (round + 1) m round author in
    let members : test other ≡ true → other < size =
    λ passes. elim (given_or_none (slots_in c.args.self.now (round + 1) other)) [
      | inl held ↦ of_members inside.committee.now inside.floor inside.base inside.rows.items c.self.invariant (round + 1) other held.0
          (ap (λ (g : DagView). slots_in g (round + 1) other) c.self.view_is ∙ held.1)
      | inr none ↦ let bad = rw none at passes in absurd cc
    ] in
    let end : c.loop-member.member ≡ size = omega (arith, c.loop-member-test.false, c.loop-member.auto.member-end, c.size-member-end.ensures.value) in
    all_in test size other (has c.loop-member.supporters other) (c.loop-member.invariant other ∙ ap (λ (k : ℕ). nat_lt other k && test other) end) members
