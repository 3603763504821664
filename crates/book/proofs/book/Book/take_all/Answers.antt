use Rattle.std.proofs.Common.{ℕ, List, ap, subst}
use Rattle.std.specs.Prelude.{Some}
use Rattle.spec_model.specs.Nodes.{Node}
use Rattle.validator.specs.Setting.{node_of}
use Rattle.book.specs.Showing.{shown_of}
use Rattle.book.specs.Book.{BookView, Run, Stands, IsCheckpointOfAll, with_all_taken}
use Rattle.book.proofs.Flushing.{stands_all}
use Rattle.book.proofs.Rewriting.{describes_all}
use Rattle.book.proofs.book.Book.take_all.Goals as goal

pub returns-clause-checkpoint : goal.returns-clause-checkpoint
returns-clause-checkpoint g c =
    let b = c.self.inside in
    let node : Node = node_of g.S.Sign.scheme b.validator.setting in
    let before : BookView g.row.S.Denot = shown_of b in
    subst (λ (s : BookView g.row.S.Denot). IsCheckpointOfAll (node_of g.S.Sign.scheme s.validator.setting) s c.in_ok-snapshot.snapshot) c.self.view_is
    (describes_all node before c.in_ok-snapshot.snapshot c.in_ok-snapshot.ensures)

pub returns-clause-stands : goal.returns-clause-stands
returns-clause-stands g c =
    let b = c.self.inside in
    let node : Node = node_of g.S.Sign.scheme b.validator.setting in
    let before : BookView g.row.S.Denot = shown_of b in
    let later : BookView g.row.S.Denot = record before { pending = c.new.result; taken = b.accepted; rewriting = Some b.accepted } in
    subst (λ (s : BookView g.row.S.Denot). (run : Run) → Stands (node_of g.S.Sign.scheme s.validator.setting) run s
    → Stands (node_of g.S.Sign.scheme s.validator.setting) (with_all_taken run) later) c.self.view_is
    (λ run at. stands_all node run before later at
    (ap (λ (l : List (List ℕ)). record before { pending = l; taken = b.accepted; rewriting = Some b.accepted }) c.new.ensures))

pub returns-clause-writable : goal.returns-clause-writable
returns-clause-writable g c = record { packs = c.limits_hold.ensures.packs; are_bytes = c.limits_hold.ensures.are_bytes }
