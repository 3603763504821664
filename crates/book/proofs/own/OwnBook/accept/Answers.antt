use Rattle.std.proofs.Common.{List, ℕ, sym, subst}
use Rattle.book.specs.Book.{BookView}
use Rattle.spec_model.specs.Nodes.{Node}
use Rattle.validator.specs.Setting.{ConfigView, node_of}
use Rattle.book.specs.InFlight.{AreInFlight, StandsSomewhere, RewritesOnlyDown}
use Rattle.book.proofs.InFlight.{accepted_somewhere, way_accepted}
use Rattle.book.proofs.own.OwnBook.accept.Goals as goal

pub invariant_of-self : goal.invariant_of-self
invariant_of-self g c =
    let before : BookView g.row.S.Denot = c.self.inside.book in
    let later : BookView g.row.S.Denot = c.accept.new.self in
    let node : Node = node_of g.S.Sign.scheme before.validator.setting in
    subst (λ (s : ConfigView g.row.S.Denot). StandsSomewhere (node_of g.S.Sign.scheme s) later × RewritesOnlyDown later) (sym c.accept.ensures.setting)
    (accepted_somewhere node before later c.args.event c.accept.result c.accept.ensures.new c.accept.ensures.known c.accept.ensures.err c.self.invariant)

pub returns-clause-way : goal.returns-clause-way
returns-clause-way g c =
    let before : BookView g.row.S.Denot = c.self.inside.book in
    let later : BookView g.row.S.Denot = c.accept.new.self in
    let node : Node = node_of g.S.Sign.scheme before.validator.setting in
    subst (λ (s : BookView g.row.S.Denot). (groups : List (List (List ℕ))) → AreInFlight (node_of g.S.Sign.scheme s.validator.setting) s groups
    → AreInFlight (node_of g.S.Sign.scheme s.validator.setting) later groups) c.self.view_is
    (λ groups way. way_accepted node before later groups c.args.event c.accept.result c.accept.ensures.new c.accept.ensures.known c.accept.ensures.err way)
