use Rattle.std.proofs.Common.{◌≡◌, ◌+◌, ℕ, List, [], ◌∷◌, ◌++◌, length, None, refl, sym, ap, ◌∙◌, subst, arith, length-append}
use Rattle.std.proofs.lemmas.Bool.{true≢false}
use Rattle.wire.specs.Grammar.{IsMessage}
use Rattle.header.specs.Checks.{fault_of, accepts_all}
use Rattle.std.specs.Prelude.{Ok}
use Rattle.admission.specs.Answers.{IsAnswer, is_new_step}
use Rattle.admission.specs.declared.step.Step.{Step}
use Rattle.spec_machine.specs.Machine.{answered}
use Rattle.spec_model.specs.Admitting.{IsTaken}
use Rattle.spec_model.specs.Nodes.{Node}
use Rattle.spec_model.specs.States.{State}
use Rattle.spec_model.specs.Words.{Digest, Event, Message, Output}
use Rattle.spec_records.specs.Records.{record_of}
use Rattle.spec_world.specs.World.{Waiting}
use Rattle.spec_world.specs.Steps.{ticketed}
use Rattle.validator.specs.Setting.{ConfigView, node_of}
use Rattle.validator.specs.Standing.{AreAtSound}
use Rattle.book.specs.declared.queue.Queued.{Queued}
use Rattle.book.specs.declared.reached.Reached.{Reached}
use Rattle.book.specs.Queue.{queue_of}
use Rattle.book.specs.Showing.{shown_of}
use Rattle.book.specs.Book.{BookView, Run, Stands, state_in, TakesNew, TakesKnown, MayRefuse, HasPlace}
use Rattle.book.proofs.Accepting.{IsNoted}
use Rattle.book.proofs.Accepted.{takes_new, takes_known, queue_alone, may_refuse, one_more}
use Rattle.book.proofs.book.Book.accept.Goals as goal

pub invariant_of-self-in-Ok-New : goal.invariant_of-self-in-Ok-New
invariant_of-self-in-Ok-New g c =
    let b = c.self.inside in
    let event : Event = c.args.event in
    let node : Node = node_of g.S.Sign.scheme b.validator.setting in
    let before : BookView g.row.S.Denot = shown_of b in
    let place = subst (λ (s : BookView g.row.S.Denot). HasPlace (node_of g.S.Sign.scheme s.validator.setting) s event) (sym c.self.view_is) (c.has_no_place.ensures.room c.if-has_no_place.false) in (
      one_more node before event c.in-Ok-New.outputs.items place c.self.invariant.0
          (λ state at. subst (λ (st : Step). IsAnswer (answered node state event) (Ok st)) c.in-Ok-New.field-0-is
          (c.in-Ok-New.ensures.answer state at)),
      omega (arith, ap length c.in_ok-make_room.ensures.ok, length-append b.pending (record_of event ∷ []), c.self.invariant.1),
    )

pub returns-in-Ok-New-clause-limit : goal.returns-in-Ok-New-clause-limit
returns-in-Ok-New-clause-limit g c =
    let b = c.self.inside in
    let event : Event = c.args.event in
    let node : Node = node_of g.S.Sign.scheme b.validator.setting in
    let before : BookView g.row.S.Denot = shown_of b in
    let place = subst (λ (s : BookView g.row.S.Denot). HasPlace (node_of g.S.Sign.scheme s.validator.setting) s event) (sym c.self.view_is) (c.has_no_place.ensures.room c.if-has_no_place.false) in
    one_more node before event c.in-Ok-New.outputs.items place c.self.invariant.0
    (λ state at. subst (λ (st : Step). IsAnswer (answered node state event) (Ok st)) c.in-Ok-New.field-0-is (c.in-Ok-New.ensures.answer state at))

pub returns-in-Ok-New-clause-new : goal.returns-in-Ok-New-clause-new
returns-in-Ok-New-clause-new g c = λ yes.
    let b = c.self.inside in
    let event : Event = c.args.event in
    let node : Node = node_of g.S.Sign.scheme b.validator.setting in
    let before : BookView g.row.S.Denot = shown_of b in
    let passed : fault_of node.charter accepts_all event
    ≡ None = subst (λ (s : BookView g.row.S.Denot). fault_of s.validator.setting.charter accepts_all event ≡ None) (sym c.self.view_is)
    c.requires.passed in
    let within : IsMessage event.message = subst (λ (m : Message). IsMessage m) c.message.ensures c.limits_hold.ensures in
    let taken_by : IsTaken node event = record { message = within; passed = passed } in
    let outputs : List Output = c.in-Ok-New.outputs.items in
    let from : List Digest = c.order-ordered.result.now in
    let to : List Digest = c.order.result.now in
    let later : BookView g.row.S.Denot = record {
      validator = c.step.new.self;
      pending = c.make_room.new.pending;
      queue = queue_of c.enqueue.new.queue.items;
      accepted = b.accepted + 1;
      taken = b.taken;
      settled = b.settled;
      rewriting = b.rewriting;
      ordered = b.ordered;
      reached = c.note_order.new.reached.items;
      down = b.down;
    } in
    let queue = c.enqueue.ensures.queue ∙ ap (λ (l : List Queued). queue_of l ++ ticketed (b.accepted + 1) outputs) c.make_room.ensures.queue in
    let noted : IsNoted before.reached later.reached (b.accepted + 1) (length from) (length to) = (
      λ same. c.note_order.ensures.same same ∙ c.make_room.ensures.reached,
      λ other. c.note_order.ensures.other other ∙ ap (λ (l : List Reached). l ++ record { ticket = b.accepted + 1; length = length to } ∷ []) c.make_room.ensures.reached,
    ) in
    let tos = subst (λ (s : ConfigView g.row.S.Denot). (state : State) → AreAtSound (node_of g.S.Sign.scheme s) c.step.new.self.tables state
    → to ≡ state.order) c.step.ensures.setting c.order.ensures.at in
    subst (λ (s : BookView g.row.S.Denot). TakesNew (node_of g.S.Sign.scheme s.validator.setting) s later event) c.self.view_is
    (takes_new node before later event outputs taken_by
    (λ state at. subst (λ (st : Step). IsAnswer (answered node state event) (Ok st)) c.in-Ok-New.field-0-is
    (c.in-Ok-New.ensures.answer state at))
    (λ state at. c.in-Ok-New.ensures.at (ap (λ (st : Step). is_new_step (Ok st)) c.in-Ok-New.field-0-is) state at)
    c.in_ok-make_room.ensures.ok queue refl refl refl refl refl refl (length from) (length to) noted (λ state at. ap (λ (l : List Digest). length l) (c.order-ordered.ensures.at state at))
    (λ state at. ap (λ (l : List Digest). length l) (tos state at)))

pub returns-in-Ok-Known-clause-known : goal.returns-in-Ok-Known-clause-known
returns-in-Ok-Known-clause-known g c = λ no.
    let b = c.self.inside in
    let event : Event = c.args.event in
    let node : Node = node_of g.S.Sign.scheme b.validator.setting in
    let before : BookView g.row.S.Denot = shown_of b in
    let passed : fault_of node.charter accepts_all event
    ≡ None = subst (λ (s : BookView g.row.S.Denot). fault_of s.validator.setting.charter accepts_all event ≡ None) (sym c.self.view_is)
    c.requires.passed in
    let within : IsMessage event.message = subst (λ (m : Message). IsMessage m) c.message.ensures c.limits_hold.ensures in
    let taken_by : IsTaken node event = record { message = within; passed = passed } in
    let outputs : List Output = c.in-Ok-Known.outputs.items in
    let queue : List Waiting = before.queue ++ ticketed b.accepted outputs in
    let later : BookView g.row.S.Denot = record {
      validator = c.step.new.self;
      pending = c.take_back.new.self;
      queue = queue_of c.enqueue-in-Ok-Known.new.queue.items;
      accepted = b.accepted;
      taken = b.taken;
      settled = b.settled;
      rewriting = b.rewriting;
      ordered = b.ordered;
      reached = c.make_room.new.reached.items;
      down = b.down;
    } in
    let queue_is = c.enqueue-in-Ok-Known.ensures.queue ∙ ap (λ (l : List Queued). queue_of l ++ ticketed b.accepted outputs) c.make_room.ensures.queue in
    subst (λ (s : BookView g.row.S.Denot). TakesKnown (node_of g.S.Sign.scheme s.validator.setting) s later event) c.self.view_is
    (takes_known node before later event outputs taken_by
    (λ state at. subst (λ (st : Step). IsAnswer (answered node state event) (Ok st)) c.in-Ok-Known.field-0-is
    (c.in-Ok-Known.ensures.answer state at))
    (queue_alone before later queue (c.in-Ok-Known.ensures.same (ap (λ (st : Step). is_new_step (Ok st)) c.in-Ok-Known.field-0-is))
    (c.take_back.ensures b.pending (record_of event) c.in_ok-make_room.ensures.ok) queue_is c.make_room.ensures.reached refl refl refl refl refl refl))

pub returns-in-Err-clause-refused : goal.returns-in-Err-clause-refused
returns-in-Err-clause-refused g c =
    let b = c.self.inside in
    let event : Event = c.args.event in
    let node : Node = node_of g.S.Sign.scheme b.validator.setting in
    let before : BookView g.row.S.Denot = shown_of b in
    subst (λ (s : BookView g.row.S.Denot). (run : Run) → Stands (node_of g.S.Sign.scheme s.validator.setting) run s
    → MayRefuse (node_of g.S.Sign.scheme s.validator.setting) run s event c.in-Err.refusal) c.self.view_is
    (λ run at. may_refuse node run before event c.in-Err.refusal (c.in-Err.ensures.answer (state_in node run) at.at) c.in-Err.ensures.never_down)

pub returns-in-Ok-New-clause-setting : goal.returns-in-Ok-New-clause-setting
returns-in-Ok-New-clause-setting g c = c.step.ensures.setting ∙ ap (λ (s : BookView g.row.S.Denot). s.validator.setting) c.self.view_is

pub returns-in-Ok-Known-clause-setting : goal.returns-in-Ok-Known-clause-setting
returns-in-Ok-Known-clause-setting g c = c.step.ensures.setting ∙ ap (λ (s : BookView g.row.S.Denot). s.validator.setting) c.self.view_is

pub returns-in-Err-clause-setting : goal.returns-in-Err-clause-setting
returns-in-Err-clause-setting g c = c.step.ensures.setting ∙ ap (λ (s : BookView g.row.S.Denot). s.validator.setting) c.self.view_is

pub returns-in_err-make_room-clause-setting : goal.returns-in_err-make_room-clause-setting
returns-in_err-make_room-clause-setting g c = ap (λ (s : BookView g.row.S.Denot). s.validator.setting) c.self.view_is

pub returns-in-Ok-New-clause-known : goal.returns-in-Ok-New-clause-known
returns-in-Ok-New-clause-known g c = λ no. absurd (true≢false no)

pub returns-in-Ok-Known-clause-new : goal.returns-in-Ok-Known-clause-new
returns-in-Ok-Known-clause-new g c = λ yes. absurd (true≢false (sym yes))

pub invariant_of-self-in-Ok-Known : goal.invariant_of-self-in-Ok-Known
invariant_of-self-in-Ok-Known g c =
    let left : c.take_back.new.self ≡ c.self.inside.pending = c.take_back.ensures c.self.inside.pending (record_of c.args.event) c.in_ok-make_room.ensures.ok in
    (c.self.invariant.0, ap (λ (l : List (List ℕ)). c.self.inside.taken + length l) left ∙ c.self.invariant.1)

pub invariant_of-self-in-Err : goal.invariant_of-self-in-Err
invariant_of-self-in-Err g c =
    let left : c.take_back-in-Err.new.self ≡ c.self.inside.pending = c.take_back-in-Err.ensures c.self.inside.pending (record_of c.args.event) c.in_ok-make_room.ensures.ok in
    (c.self.invariant.0, ap (λ (l : List (List ℕ)). c.self.inside.taken + length l) left ∙ c.self.invariant.1)

pub enqueue-requires : goal.enqueue-requires
enqueue-requires g c = record { room = c.in_ok-make_room.ensures.queue_room }

pub enqueue-requires-in-Ok-Known : goal.enqueue-requires-in-Ok-Known
enqueue-requires-in-Ok-Known g c = record { room = c.in_ok-make_room.ensures.queue_room }

pub note_order-requires : goal.note_order-requires
note_order-requires g c = record { room = c.in_ok-make_room.ensures.reached_room }

pub returns-in-Ok-Known-clause-ticket : goal.returns-in-Ok-Known-clause-ticket
returns-in-Ok-Known-clause-ticket g c = refl

pub returns-in-Ok-Known-clause-limit : goal.returns-in-Ok-Known-clause-limit
returns-in-Ok-Known-clause-limit g c = c.self.invariant.0

pub take_back-requires : goal.take_back-requires
take_back-requires g c = (c.self.inside.pending, record_of c.args.event, c.in_ok-make_room.ensures.ok, sym c.record_len-len.ensures.len)

pub take_back-requires-in-Err : goal.take_back-requires-in-Err
take_back-requires-in-Err g c = (c.self.inside.pending, record_of c.args.event, c.in_ok-make_room.ensures.ok, sym c.record_len-len.ensures.len)

pub returns-in-Err-clause-err : goal.returns-in-Err-clause-err
returns-in-Err-clause-err g c =
    let b = c.self.inside in
    let before : BookView g.row.S.Denot = shown_of b in
    let later : BookView g.row.S.Denot =
    record before {
      validator = c.step.new.self;
      pending = c.take_back-in-Err.new.self;
      queue = queue_of c.make_room.new.queue.items;
      reached =
          c.make_room.new.reached.items;
    } in
    queue_alone before later before.queue (c.in-Err.ensures.same refl)
    (c.take_back-in-Err.ensures b.pending (record_of c.args.event) c.in_ok-make_room.ensures.ok) (ap queue_of c.make_room.ensures.queue)
    c.make_room.ensures.reached refl refl refl refl refl refl ∙ c.self.view_is
