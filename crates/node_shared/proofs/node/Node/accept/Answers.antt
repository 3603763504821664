use Rattle.std.proofs.Common.{rules, ◌∷◌, [], ◌++◌, length, sym, ap, ◌∙◌, subst}
use Rattle.std.proofs.lemmas.List.{length-map}
use Rattle.wire.specs.Lists.{Begins}
use Rattle.spec_machine.specs.After.{IsLegalAfter}
use Rattle.spec_model.specs.States.{State}
use Rattle.spec_model.specs.Words.{Event}
use Rattle.validator.specs.Setting.{node_of}
use Rattle.node_seats.specs.Views.{events, mark}
use Rattle.node_shared.specs.Calls.{Brought}
use Rattle.node_shared.specs.Home.{NodeView, IsBase}
use Rattle.node_shared.proofs.Called.{looked_stays, brought_none, brought_new}
use Rattle.node_shared.proofs.Submitted.{legal_with, home_with, home_known, submits_new, submits_known, submits_refused, is_up}
use Rattle.node_shared.proofs.node.Node.accept.Goals as goal

pub returns-in-Err-clause-submits : goal.returns-in-Err-clause-submits
returns-in-Err-clause-submits g c =
    let first = c.see_all.ensures in
    let reported = c.know_down.ensures in
    let afterwards = c.know_down.new.locked.seat in
    let seen = reported.stays.seen ∙ first.seen ∙ ap (λ l. l.seat.view.seen) (sym first.locked) ∙ sym reported.stays_locked.seen in
    submits_refused c.args.self.now g.S.Sign.scheme afterwards c.know_down.new.locked.book c.know_down.new.locked.book c.args.event reported.home
    c.args.seat.now.view c.know_down.new.seat.view _ (search rules)
    (subst (λ l. Begins c.args.seat.now.view.seen l) (sym reported.stays.seen ∙ seen) first.looked.more) seen (reported.stays.same.mine ∙ first.looked.same.mine)

pub returns-in-Err-clause-brought : goal.returns-in-Err-clause-brought
returns-in-Err-clause-brought g c =
    brought_none g.S.Sign.scheme c.args.self.now c.args.seat.now c.know_down.new.seat
    (looked_stays g.S.Sign.scheme c.args.self.now c.args.seat.now c.see_all.new.seat c.know_down.new.seat c.see_all.ensures.looked c.know_down.ensures.stays)

pub raise-requires-clause-legal : goal.raise-requires-clause-legal
raise-requires-clause-legal g c =
    let first = c.see_all.ensures in
    let reported = c.know_down.ensures in
    let mid = c.know_down.new.seat in
    let seen = reported.stays.seen ∙ first.seen ∙ ap (λ l. l.seat.view.seen) (sym first.locked) ∙ sym reported.stays_locked.seen in
    let legal = legal_with c.args.self.now g.S.Sign.scheme c.know_down.new.locked.seat c.know_down.new.locked.book c.accept.new.self c.args.event reported.home (c.in-Ok.ensures.new c.if-receipt.true)
    mid.view.seen seen in
    subst (λ (n : NodeView g.row.S.Denot). (base : State) → IsBase g.S.Sign.scheme n base
    → IsLegalAfter (node_of g.S.Sign.scheme n.setting) base (events mid.view.seen ++ g.C.Call.event ∷ [])) (sym c.self.view_is)
    (λ base at. subst (λ (e : Event). IsLegalAfter (node_of g.S.Sign.scheme c.args.self.now.setting) base (events mid.view.seen ++ e ∷ [])) (sym c.requires.call) (legal base at))

pub returns-then-receipt-clause-home : goal.returns-then-receipt-clause-home
returns-then-receipt-clause-home g c =
    let first = c.see_all.ensures in
    let reported = c.know_down.ensures in
    let raised = c.raise.ensures in
    let last = c.catch_up.ensures in
    let seen = reported.stays.seen ∙ first.seen ∙ ap (λ l. l.seat.view.seen) (sym first.locked) ∙ sym reported.stays_locked.seen in
    home_with c.args.self.now g.S.Sign.scheme c.know_down.new.locked.seat c.know_down.new.locked.book c.accept.new.self c.args.event reported.home (c.in-Ok.ensures.new c.if-receipt.true)
    c.catch_up.new.seat c.know_down.new.seat.view.number c.in-Ok.ensures.setting (search rules)
    (last.seen ∙ raised.seen ∙ ap (λ l. l ++ mark c.know_down.new.seat.view.number g.C.Call.event ∷ []) seen
    ∙ ap (λ e. c.know_down.new.locked.seat.view.seen ++ mark c.know_down.new.seat.view.number e ∷ []) c.requires.call)
    (search rules)
    (is_up c.accept.result c.in-Ok.receipt c.in-Ok.is c.know_down.new.locked.book c.accept.new.self (c.in-Ok.ensures.new c.if-receipt.true).down c.accept.ensures.down)

pub returns-then-receipt-clause-submits : goal.returns-then-receipt-clause-submits
returns-then-receipt-clause-submits g c =
    let first = c.see_all.ensures in
    let reported = c.know_down.ensures in
    let raised = c.raise.ensures in
    let last = c.catch_up.ensures in
    let mid = c.know_down.new.seat in
    let afterwards = c.know_down.new.locked.seat in
    let seen = reported.stays.seen ∙ first.seen ∙ ap (λ l. l.seat.view.seen) (sym first.locked) ∙ sym reported.stays_locked.seen in
    submits_new c.args.self.now g.S.Sign.scheme afterwards c.know_down.new.locked.book c.accept.new.self c.args.event reported.home (c.in-Ok.ensures.new c.if-receipt.true)
    c.args.seat.now.view c.catch_up.new.other.view c.in-Ok.receipt
    (subst (λ l. Begins c.args.seat.now.view.seen l) (sym reported.stays.seen ∙ seen) first.looked.more) c.if-receipt.true c.in-Ok.ensures.ticket c.in-Ok.ensures.limit
    (ap (λ s. s.view.seen) last.other ∙ raised.seen ∙ ap (λ l. l ++ mark mid.view.number g.C.Call.event ∷ []) seen ∙ ap (λ e. afterwards.view.seen ++ mark mid.view.number e ∷ []) c.requires.call
    ∙ ap (λ n. afterwards.view.seen ++ mark n c.args.event ∷ []) (reported.stays.same.number ∙ first.looked.same.number))
    (ap (λ s. s.view.mine) last.other ∙ raised.mine ∙ ap (λ l. l ++ g.C.Call.event ∷ []) (reported.stays.same.mine ∙ first.looked.same.mine)
    ∙ ap (λ e. c.args.seat.now.view.mine ++ e ∷ []) c.requires.call)

pub returns-then-receipt-clause-brought : goal.returns-then-receipt-clause-brought
returns-then-receipt-clause-brought g c =
    let first = c.see_all.ensures in
    let reported = c.know_down.ensures in
    let raised = c.raise.ensures in
    let mid = c.know_down.new.seat in
    let seen = reported.stays.seen ∙ first.seen ∙ ap (λ l. l.seat.view.seen) (sym first.locked) ∙ sym reported.stays_locked.seen in
    let legal = legal_with c.args.self.now g.S.Sign.scheme c.know_down.new.locked.seat c.know_down.new.locked.book c.accept.new.self c.args.event reported.home (c.in-Ok.ensures.new c.if-receipt.true)
    mid.view.seen seen in
    let looked = looked_stays g.S.Sign.scheme c.args.self.now c.args.seat.now c.see_all.new.seat mid first.looked reported.stays in
    subst (λ s. Brought g.S.Sign.scheme c.args.self.now c.args.seat.now s) (sym c.catch_up.ensures.other)
    (brought_new g.S.Sign.scheme c.args.self.now c.args.seat.now mid c.raise.new.seat g.C.Call.event looked raised.same raised.down raised.durable raised.seen raised.mine
    (λ base at. subst (λ (e : Event). IsLegalAfter (node_of g.S.Sign.scheme c.args.self.now.setting) base (events mid.view.seen ++ e ∷ [])) (sym c.requires.call) (legal base at)))

pub returns-else-receipt-clause-home : goal.returns-else-receipt-clause-home
returns-else-receipt-clause-home g c =
    home_known c.args.self.now g.S.Sign.scheme c.know_down.new.locked.seat c.know_down.new.locked.book c.accept.new.self c.args.event
    c.know_down.ensures.home (c.in-Ok.ensures.known c.if-receipt.false)

pub returns-else-receipt-clause-submits : goal.returns-else-receipt-clause-submits
returns-else-receipt-clause-submits g c =
    let first = c.see_all.ensures in
    let reported = c.know_down.ensures in
    let seen = reported.stays.seen ∙ first.seen ∙ ap (λ l. l.seat.view.seen) (sym first.locked) ∙ sym reported.stays_locked.seen in
    submits_known c.args.self.now g.S.Sign.scheme c.know_down.new.locked.seat c.know_down.new.locked.book c.accept.new.self c.args.event reported.home (c.in-Ok.ensures.known c.if-receipt.false)
    c.args.seat.now.view c.know_down.new.seat.view c.in-Ok.receipt
    (subst (λ l. Begins c.args.seat.now.view.seen l) (sym reported.stays.seen ∙ seen) first.looked.more) c.if-receipt.false c.in-Ok.ensures.ticket seen
    (reported.stays.same.mine ∙ first.looked.same.mine)

pub returns-else-receipt-clause-brought : goal.returns-else-receipt-clause-brought
returns-else-receipt-clause-brought g c =
    brought_none g.S.Sign.scheme c.args.self.now c.args.seat.now c.know_down.new.seat
    (looked_stays g.S.Sign.scheme c.args.self.now c.args.seat.now c.see_all.new.seat c.know_down.new.seat c.see_all.ensures.looked c.know_down.ensures.stays)

pub raise-requires-clause-seen : goal.raise-requires-clause-seen
raise-requires-clause-seen g c =
    let first = c.see_all.ensures in
    let reported = c.know_down.ensures in
    let seen = reported.stays.seen ∙ first.seen ∙ ap (λ l. l.seat.view.seen) (sym first.locked) ∙ sym reported.stays_locked.seen in
    ap length seen ∙ sym (length-map c.know_down.new.locked.seat.view.seen (λ one. one.event))
    ∙ sym (reported.home.stands reported.home.somewhere.0 reported.home.somewhere.1).accepted ∙ sym c.accepted-count.ensures.value
