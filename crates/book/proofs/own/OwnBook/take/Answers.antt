use Rattle.std.proofs.Common.{◌∷◌, [], ◌++◌, List, ℕ, sym, subst}
use Rattle.std.specs.Prelude.{IfOk, IfSome}
use Rattle.book.specs.Book.{BookView}
use Rattle.spec_model.specs.Nodes.{Node}
use Rattle.validator.specs.Setting.{ConfigView, node_of}
use Rattle.book.specs.InFlight.{AreInFlight, StandsSomewhere, RewritesOnlyDown}
use Rattle.book.proofs.InFlight.{way_took, took_somewhere, setting_stays}
use Rattle.book.proofs.own.OwnBook.take.Goals as goal

pub invariant_of-self : goal.invariant_of-self
invariant_of-self g c =
    let before : BookView g.row.S.Denot = c.self.inside.book in
    let later : BookView g.row.S.Denot = c.take.new.self in
    let node : Node = node_of g.S.Sign.scheme before.validator.setting in
    let setting = setting_stays before later c.take.result c.take.ensures.taken c.take.ensures.nothing c.take.ensures.err in
    subst (λ (s : ConfigView g.row.S.Denot). StandsSomewhere (node_of g.S.Sign.scheme s) later × RewritesOnlyDown later) (sym setting)
    (took_somewhere node before later c.take.result c.take.ensures.taken c.take.ensures.stands c.take.ensures.records c.take.ensures.nothing c.take.ensures.err c.self.invariant)

pub returns-clause-way : goal.returns-clause-way
returns-clause-way g c =
    let before : BookView g.row.S.Denot = c.self.inside.book in
    let later : BookView g.row.S.Denot = c.take.new.self in
    let node : Node = node_of g.S.Sign.scheme before.validator.setting in
    subst (λ (s : BookView g.row.S.Denot). IfOk c.take.result
    (λ taken. IfSome taken (λ group. (groups : List (List (List ℕ))) → AreInFlight (node_of g.S.Sign.scheme s.validator.setting) s groups
    → AreInFlight (node_of g.S.Sign.scheme s.validator.setting) later (groups ++ group ∷ [])))) c.self.view_is
    (way_took node before later c.take.result c.take.ensures.taken c.take.ensures.stands c.take.ensures.records)
