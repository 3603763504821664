use Rattle.std.proofs.Common.{◌≡◌, ◌-◌, ◌<◌, List, ◌++◌, length, take, drop, sym, ap, subst, arith, length-append}
use Rattle.std.specs.Prelude.{All}
use Rattle.std.specs.VecDeque.{deque_len, deque_capacity}
use Rattle.std.proofs.lemmas.List.Elements.{All-nil}
use Rattle.spec_model.specs.Nodes.{Node}
use Rattle.spec_model.specs.Words.{Output}
use Rattle.validator.specs.Setting.{node_of}
use Rattle.book.specs.Queue.{queue_of, settled_front}
use Rattle.book.specs.Showing.{shown_of}
use Rattle.book.specs.Book.{BookView, Run, Stands, releasable_within, GoesOutSettled}
use Rattle.book.proofs.Flushing.{stands_moved}
use Rattle.book.proofs.Releasing.{adds_front, adds_none, all_go_out, front_within, moved, none_left, none_within, unmoved}
use Rattle.book.proofs.book.Book.release_into.Goals as goal

pub returns-then-self-clause-outputs : goal.returns-then-self-clause-outputs
returns-then-self-clause-outputs g c =
    let outputs = c.args.outputs.now in
    let room = deque_capacity outputs - deque_len outputs in
    subst (λ (s : BookView g.row.S.Denot). outputs.items ≡ outputs.items ++ releasable_within room s) c.self.view_is
    (adds_none (shown_of c.self.inside) room outputs.items c.if-self.true)

pub returns-then-self-clause-queue : goal.returns-then-self-clause-queue
returns-then-self-clause-queue g c =
    let room = deque_capacity c.args.outputs.now - deque_len c.args.outputs.now in
    subst (λ (s : BookView g.row.S.Denot). s ≡ record s { queue = drop (length (releasable_within room s)) s.queue }) c.self.view_is
    (unmoved (shown_of c.self.inside) room c.if-self.true)

pub returns-then-self-clause-goes_out : goal.returns-then-self-clause-goes_out
returns-then-self-clause-goes_out g c =
    let room = deque_capacity c.args.outputs.now - deque_len c.args.outputs.now in
    subst (λ (s : BookView g.row.S.Denot). (run : Run) → Stands (node_of g.S.Sign.scheme s.validator.setting) run s
    → All (GoesOutSettled (node_of g.S.Sign.scheme s.validator.setting) run) (releasable_within room s)) c.self.view_is
    (λ run at. subst (λ (l : List Output). All (GoesOutSettled (node_of g.S.Sign.scheme c.self.inside.validator.setting) run) l) (sym (none_within (shown_of c.self.inside) room c.if-self.true))
    (All-nil (GoesOutSettled (node_of g.S.Sign.scheme c.self.inside.validator.setting) run)))

pub returns-clause-outputs : goal.returns-clause-outputs
returns-clause-outputs g c =
    let outputs = c.args.outputs.now in
    let room = deque_capacity outputs - deque_len outputs in
    subst (λ (s : BookView g.row.S.Denot). c.move_settled.new.outputs.items ≡ outputs.items ++ releasable_within room s) c.self.view_is
    (adds_front (shown_of c.self.inside) room outputs.items c.move_settled.new.outputs.items c.if-self.false c.move_settled.ensures.outputs)

pub returns-clause-queue : goal.returns-clause-queue
returns-clause-queue g c =
    let room = deque_capacity c.args.outputs.now - deque_len c.args.outputs.now in
    let before : BookView g.row.S.Denot = shown_of c.self.inside in
    let left = queue_of c.move_settled.new.queue.items in
    subst (λ (s : BookView g.row.S.Denot). record before { queue = left } ≡ record s { queue = drop (length (releasable_within room s)) s.queue }) c.self.view_is
    (moved before room left c.if-self.false c.move_settled.ensures.queue)

pub returns-clause-all : goal.returns-clause-all
returns-clause-all g c = λ less.
    let outputs = c.args.outputs.now in
    let later = c.move_settled.new.outputs in
    let moves = c.move_settled.ensures in
    let room = deque_capacity outputs - deque_len outputs in
    let before : BookView g.row.S.Denot = shown_of c.self.inside in
    let front = take room (settled_front before.settled before.queue) in
    let few : length front < room =
    omega (arith, less, ap length moves.outputs, length-append outputs.items front, later.ok.0, outputs.ok.0, moves.capacity) in
    none_left before room (queue_of c.move_settled.new.queue.items) c.if-self.false moves.queue few

pub returns-clause-stands : goal.returns-clause-stands
returns-clause-stands g c =
    let room = deque_capacity c.args.outputs.now - deque_len c.args.outputs.now in
    let before : BookView g.row.S.Denot = shown_of c.self.inside in
    let left = queue_of c.move_settled.new.queue.items in
    let later : BookView g.row.S.Denot = record before { queue = left } in
    let count = length (take room (settled_front before.settled before.queue)) in
    subst (λ (s : BookView g.row.S.Denot). (run : Run) → Stands (node_of g.S.Sign.scheme s.validator.setting) run s → Stands (node_of g.S.Sign.scheme s.validator.setting) run later) c.self.view_is
    (λ run at. stands_moved (node_of g.S.Sign.scheme before.validator.setting) run before count left c.move_settled.ensures.queue at)

pub returns-clause-goes_out : goal.returns-clause-goes_out
returns-clause-goes_out g c =
    let room = deque_capacity c.args.outputs.now - deque_len c.args.outputs.now in
    let before : BookView g.row.S.Denot = shown_of c.self.inside in
    let node : Node = node_of g.S.Sign.scheme before.validator.setting in
    subst (λ (s : BookView g.row.S.Denot). (run : Run) → Stands (node_of g.S.Sign.scheme s.validator.setting) run s
    → All (GoesOutSettled (node_of g.S.Sign.scheme s.validator.setting) run) (releasable_within room s)) c.self.view_is
    (λ run at. subst (λ (l : List Output). All (GoesOutSettled node run) l) (sym (front_within before room c.if-self.false))
    (all_go_out node run before at c.given_grows.ensures room))
