use Rattle.std.proofs.Common.{rules, ◌≡◌, [], true, false, sym, ◌∙◌, subst}
use Rattle.spec_machine.proofs.AfterAll.{legal_none}
use Rattle.spec_model.specs.States.{State}
use Rattle.validator.specs.Setting.{node_of}
use Rattle.validator.specs.Standing.{ValidatorView, AreAtSound, StandSomewhere}
use Rattle.book.specs.Book.{BookView, run_on, Stands}
use Rattle.node_shared.proofs.Standing.{at_home, none_rewrites}
use Rattle.node_shared.proofs.node.Node.new.Goals as goal

pub new-requires : goal.new-requires
new-requires g c = record { legal = λ base at. legal_none (node_of g.S.Sign.scheme c.args.validator.setting) base c.limits_hold.ensures.node at.sound }

pub new-requires-3 : goal.new-requires-3
new-requires-3 g c =
    let key = c.in_ok-words.ensures.key in
    let boxed : c.new-book.result ≡ c.in_ok-locked.locked.value.book = search rules in
    let stands = subst (λ (v : ValidatorView g.row.S.Denot). (base : State) → AreAtSound (node_of g.S.Sign.scheme v.setting) v.tables base
    → Stands (node_of g.S.Sign.scheme v.setting) (run_on base) c.new-book.result) (sym key) c.new-book.ensures.stands in
    at_home _ g.S.Sign.scheme c.in_ok-locked.locked.value.seat c.in_ok-locked.locked.value.book [] [] []
    (subst (λ (v : ValidatorView g.row.S.Denot). StandSomewhere (node_of g.S.Sign.scheme v.setting) v.tables) (sym key) c.limits_hold.ensures.sound)
    (search rules) (record { table = search rules; live = search rules; numbered = search rules })
    (λ base at. subst (λ (b : BookView g.row.S.Denot). Stands (node_of g.S.Sign.scheme c.in_ok-words.words.key.setting) (run_on base) b) boxed (stands base at))
    (search rules) (search rules) (λ down. let bad : true ≡ false = sym down ∙ (search rules) in absurd cc)
    (none_rewrites c.in_ok-locked.locked.value.book (search rules))
