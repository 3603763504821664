use Rattle.std.proofs.Common.{◌∷◌, List, ℕ, length, inl, ap, sym, subst}
use Rattle.book.specs.Book.{BookView, SettlesNext, settled_by}
use Rattle.spec_model.specs.Nodes.{Node}
use Rattle.validator.specs.Setting.{ConfigView, node_of}
use Rattle.book.specs.InFlight.{AreInFlight, StandsSomewhere}
use Rattle.book.proofs.InFlight.{way_settled}
use Rattle.book.proofs.own.OwnBook.settle.Goals as goal

pub invariant_of-self : goal.invariant_of-self
invariant_of-self g c =
    let before : BookView g.row.S.Denot = c.self.inside.book in
    let later : BookView g.row.S.Denot = c.settle.new.self in
    let next = subst (λ (s : BookView g.row.S.Denot). SettlesNext (node_of g.S.Sign.scheme s.validator.setting) s c.args.synced) (sym c.self.view_is) c.requires in
    let rest = c.settle.ensures.rest in (
      subst (λ (s : ConfigView g.row.S.Denot). StandsSomewhere (node_of g.S.Sign.scheme s) later)
          (sym (ap (λ (s : BookView g.row.S.Denot). s.validator.setting) c.settle.ensures.rest))
          (settled_by next.0 before.rewriting (length c.args.synced), c.settle.ensures.stands next.0 next.1 next.2),
      inl (ap (λ (s : BookView g.row.S.Denot). s.rewriting) rest),
    )

pub returns-clause-way : goal.returns-clause-way
returns-clause-way g c =
    let before : BookView g.row.S.Denot = c.self.inside.book in
    let later : BookView g.row.S.Denot = c.settle.new.self in
    let node : Node = node_of g.S.Sign.scheme before.validator.setting in
    subst (λ (s : BookView g.row.S.Denot). (groups : List (List (List ℕ))) → AreInFlight (node_of g.S.Sign.scheme s.validator.setting) s
    (c.args.synced ∷ groups) → AreInFlight (node_of g.S.Sign.scheme s.validator.setting) later groups) c.self.view_is
    (λ groups way. way_settled node before later c.args.synced groups c.settle.ensures.stands (ap (λ (s : BookView g.row.S.Denot). s.rewriting) c.settle.ensures.rest) way)
