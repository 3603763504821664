use Rattle.std.proofs.Common.{◌≡◌, ◌∙◌, true, false, inl, inr, ap, sym, arith}
use Rattle.std.specs.Prelude.{is_some, ◌==◌, ◌||◌}
use Rattle.spec_laws.proofs.Lists.{given_or_none}
use Rattle.dag.specs.Graph.{slots_in}
use Rattle.dag.proofs.Looking.{some_copied}
use Rattle.dag.proofs.Walking.{own_round, none_from}
use Rattle.dag.proofs.dag.Dag.itself.Goals as goal

pub insert-requires : goal.insert-requires
insert-requires c =
    let graph = c.args.self.now in
    let is = c.limits_hold.ensures in
    let there : is_some (slots_in graph c.args.round c.args.author.0) ≡ true = ap is_some (sym c.get.ensures) ∙ some_copied c.get.result ∙ sym c.is_some.ensures ∙ c.if-is_some.true in
    elim (given_or_none (slots_in graph c.args.round c.args.author.0)) [
      | inl held ↦ let member = is.of_members c.args.round c.args.author.0 held.0 held.1 in let size = is.charter.size.1 in omega (arith, member, size)
      | inr none ↦ let bad = rw none at there in absurd cc
    ]

pub returns-then-is_some : goal.returns-then-is_some
returns-then-is_some c member =
    let graph = c.args.self.now in
    let round = c.args.round in
    let author = c.args.author.0 in
    let there : is_some (slots_in graph round author) ≡ true = ap is_some (sym c.get.ensures) ∙ some_copied c.get.result ∙ sym c.is_some.ensures ∙ c.if-is_some.true in
    c.insert.ensures member ∙ ap (λ b. b || (member == author)) (c.none-authors.ensures member) ∙ own_round graph c.limits_hold.ensures round author there member

pub returns-else-is_some : goal.returns-else-is_some
returns-else-is_some c member =
    let graph = c.args.self.now in
    let round = c.args.round in
    let author = c.args.author.0 in
    let out : is_some (slots_in graph round author) ≡ false = ap is_some (sym c.get.ensures) ∙ some_copied c.get.result ∙ sym c.is_some.ensures ∙ c.if-is_some.false in
    c.none-authors.ensures member
    ∙ elim (given_or_none (slots_in graph round author)) [
      | inl held ↦ let bad = rw held.1 at out in absurd cc
      | inr none ↦ sym (none_from graph round author round member none)
    ]
