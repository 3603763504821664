use Rattle.std.proofs.Common.{◌+◌, ◌≤◌, ℕ, arith, List, length, refl, sym, ◌∙◌, subst, ap}
use Rattle.std.specs.Prelude.{None}
use Rattle.spec_model.specs.Nodes.{Node}
use Rattle.validator.specs.Setting.{node_of}
use Rattle.book.specs.Showing.{shown_of}
use Rattle.book.specs.Book.{BookView, Run, Stands, Settles, SettlesNext, settled_by, settled_to}
use Rattle.book.proofs.Due.{begins_length}
use Rattle.book.proofs.Flushing.{settles_within, stands_next}
use Rattle.book.proofs.book.Book.settle.Goals as goal

pub settled_with-self-inside-requires : goal.settled_with-self-inside-requires
settled_with-self-inside-requires g c = λ none.
    let b = c.self.inside in
    let node : Node = node_of g.S.Sign.scheme b.validator.setting in
    let before : BookView g.row.S.Denot = shown_of b in
    let next : SettlesNext node before c.args.synced =
    subst (λ (s : BookView g.row.S.Denot). SettlesNext (node_of g.S.Sign.scheme s.validator.setting) s c.args.synced) (sym c.self.view_is) c.requires in
    let at = next.1 in
    let begins : Settles node next.0 None c.args.synced = subst (λ r. Settles node next.0 r c.args.synced) none next.2 in
    let within = settles_within node next.0 before before at c.args.synced begins in
    let high : length next.0.taken ≤ length next.0.accepted = begins_length next.0.taken next.0.accepted at.taken_begins in
    omega (arith, within, high, at.accepted, at.settled, c.self.invariant.0, c.records.ensures)

pub returns-clause-stands : goal.returns-clause-stands
returns-clause-stands g c =
    let b = c.self.inside in
    let records : List (List ℕ) = c.args.synced in
    let node : Node = node_of g.S.Sign.scheme b.validator.setting in
    let before : BookView g.row.S.Denot = shown_of b in
    let later : BookView g.row.S.Denot =
    record before { settled = c.settled_with-self-inside.result; ordered = c.leave_to-self-inside.result; reached = c.leave_to-self-inside.new.reached.items; rewriting = None } in
    subst (λ (s : BookView g.row.S.Denot). (run : Run) → Stands (node_of g.S.Sign.scheme s.validator.setting) run s
    → Settles (node_of g.S.Sign.scheme s.validator.setting) run s.rewriting records
    → Stands (node_of g.S.Sign.scheme s.validator.setting) (settled_by run s.rewriting (length records)) later) c.self.view_is
    (λ run at settles. stands_next node run before later at records settles
    (c.settled_with-self-inside.ensures ∙ ap (λ (n : ℕ). settled_to b.rewriting (b.settled + n)) c.records.ensures) refl c.leave_to-self-inside.ensures.length
    c.leave_to-self-inside.ensures.later c.leave_to-self-inside.ensures.tickets)
