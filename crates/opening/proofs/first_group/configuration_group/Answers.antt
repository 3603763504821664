use Rattle.std.proofs.Common.{◌≡◌, ◌∷◌, [], Option, Some, None, length, ap, sym, subst, ◌∙◌, rules, arith}
use Rattle.std.specs.Prelude.{SomeIff, is_some}
use Rattle.std.proofs.lemmas.Bool.{false≢true}
use Rattle.journal.specs.Format.{FitsGroup, contents}
use Rattle.opening.proofs.Configured.{shaped_is}
use Rattle.opening.proofs.first_group.configuration_group.Goals as goal

not_none : {T : Type 0} (r : Option T) (P : Type 0) (v : T) → SomeIff r P v → r ≡ None → P → ⊥
not_none None P v none is holds = none holds
not_none (Some x) P v some is holds = false≢true (sym (ap is_some is))

pub unreachable-requires : goal.unreachable-requires
unreachable-requires c =
    let fits : FitsGroup (c.in_ok-own.own.items ∷ []) = search rules in
    let records : contents c.push.new.self.items ≡ c.in_ok-own.own.items ∷ [] = search rules in
    not_none _ _ _ c.in_ok-group.ensures c.in-None.is (subst FitsGroup (sym records) fits)

pub returns-clause-shape : goal.returns-clause-shape
returns-clause-shape c = shaped_is c.args.version c.args.committee.now c.args.own (omega (arith, c.limits_hold.ensures.size)) (ap length (sym c.in_ok-own.ensures.bytes) ∙ c.in_ok-own.ensures.len)
