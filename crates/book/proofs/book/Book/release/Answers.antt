use Rattle.std.proofs.Common.{◌≡◌, List, refl, sym, ap, ◌∙◌, subst}
use Rattle.std.specs.Prelude.{Option, None, IfSome, if◌then◌else◌}
use Rattle.spec_model.specs.Words.{Output}
use Rattle.spec_model.specs.Nodes.{Node}
use Rattle.validator.specs.Setting.{node_of}
use Rattle.book.specs.Queue.{queue_of, settled_head}
use Rattle.spec_world.specs.World.{Waiting}
use Rattle.book.specs.Showing.{shown_of}
use Rattle.book.specs.Book.{BookView, Run, Stands, releasable, GoesOutSettled}
use Rattle.book.proofs.Flushing.{stands_released}
use Rattle.book.proofs.Queueing.{released_is}
use Rattle.book.proofs.Releasing.{none_of, IsHead, head_out, goes_out_settled}
use Rattle.book.proofs.book.Book.release.Goals as goal

pub returns-then-self-clause-output : goal.returns-then-self-clause-output
returns-then-self-clause-output g c =
    let b = c.self.inside in
    subst (λ (s : BookView g.row.S.Denot). ◌≡◌ {A = Option Output} None (releasable s)) c.self.view_is
    (ap (λ d. if d then None else settled_head b.settled (queue_of b.queue.items)) (sym c.if-self.true))

pub returns-then-not-has_settled_head-clause-output : goal.returns-then-not-has_settled_head-clause-output
returns-then-not-has_settled_head-clause-output g c =
    let b = c.self.inside in
    subst (λ (s : BookView g.row.S.Denot). ◌≡◌ {A = Option Output} None (releasable s)) c.self.view_is
    (none_of (settled_head b.settled (queue_of b.queue.items)) (sym c.has_settled_head.ensures ∙ c.if-not-has_settled_head.true)
    ∙ ap (λ d. if d then None else settled_head b.settled (queue_of b.queue.items)) (sym c.if-self.false))

pub returns-clause-output : goal.returns-clause-output
returns-clause-output g c =
    let b = c.self.inside in
    subst (λ (s : BookView g.row.S.Denot). c.dequeue.result ≡ releasable s) c.self.view_is
    (released_is b.settled (queue_of b.queue.items) (queue_of c.dequeue.new.queue.items) c.dequeue.result (sym c.has_settled_head.ensures ∙ c.if-not-has_settled_head.false) c.dequeue.ensures.output
    ∙ ap (λ d. if d then None else settled_head b.settled (queue_of b.queue.items)) (sym c.if-self.false))

pub returns-clause-stands : goal.returns-clause-stands
returns-clause-stands g c =
    let b = c.self.inside in
    let node : Node = node_of g.S.Sign.scheme b.validator.setting in
    let before : BookView g.row.S.Denot = shown_of b in
    let left : List Waiting = queue_of c.dequeue.new.queue.items in
    let later : BookView g.row.S.Denot = record before { queue = left } in
    let head : IsHead b.settled before.queue left c.dequeue.result = head_out b.settled before.queue left c.dequeue.result
    (sym c.has_settled_head.ensures ∙ c.if-not-has_settled_head.false) c.dequeue.ensures.output in
    let first : Waiting = record { ticket = head.ticket; output = head.output } in
    subst (λ (s : BookView g.row.S.Denot). (run : Run) → Stands (node_of g.S.Sign.scheme s.validator.setting) run s → Stands (node_of g.S.Sign.scheme s.validator.setting) run later) c.self.view_is
    (λ run at. stands_released node run before later first left head.parts refl at)

pub returns-clause-goes_out : goal.returns-clause-goes_out
returns-clause-goes_out g c =
    let b = c.self.inside in
    let node : Node = node_of g.S.Sign.scheme b.validator.setting in
    let before : BookView g.row.S.Denot = shown_of b in
    let left : List Waiting = queue_of c.dequeue.new.queue.items in
    let head : IsHead b.settled before.queue left c.dequeue.result = head_out b.settled before.queue left c.dequeue.result
    (sym c.has_settled_head.ensures ∙ c.if-not-has_settled_head.false) c.dequeue.ensures.output in
    subst (λ (s : BookView g.row.S.Denot). IfSome c.dequeue.result (λ output. (run : Run) → Stands (node_of g.S.Sign.scheme s.validator.setting) run s
    → GoesOutSettled (node_of g.S.Sign.scheme s.validator.setting) run output)) c.self.view_is
    (subst (λ (o : Option Output). IfSome o (λ output. (run : Run) → Stands node run before → GoesOutSettled node run output)) (sym head.is)
    (λ run at. goes_out_settled node run before at c.given_grows.ensures head.ticket head.output left head.parts head.within))
