use Rattle.std.proofs.Common.{rules, of_calls, ◌≡◌, Some, add-one, take, slice_get, refl, sym}
use Rattle.waiter.proofs.Keeping.{value_at, take_next, asked_more}
use Rattle.waiter.proofs.waiter.Waiter.first_ready.Goals as goal
use Rattle.waiter.proofs.waiter.Waiter.first_ready.Goals.{in-Some+else-ready, in_default}

pub returns-then-ready-clause-found : goal.returns-then-ready-clause-found
returns-then-ready-clause-found g c =
    let there = value_at c.self.inside.waiting.entries c.loop-place.place (c.in-Some.field-0-0.now, c.in-Some.checked.now) (sym c.in-Some.ensures.entry) in
    let at : slice_get c.args.self.now c.loop-place.place ≡ Some c.in-Some.checked.now = rw (← c.self.view_is) there in
    (c.in-Some.checked.now, c.loop-place.ready, c.ready.new.self, at, c.loop-place.invariant.1, record { shown = c.in-Some.checked; shows = refl; called = rw c.if-ready.true at c.ready.ensures })

pub loop-place-preserved : goal.loop-place-preserved
loop-place-preserved g c =
    elim c.match-get_index.branch [
      | in-Some+else-ready w ↦
          let there = value_at c.self.inside.waiting.entries c.loop-place.place (w.in-Some.field-0-0.now, w.in-Some.checked.now) (sym w.in-Some.ensures.entry) in
          let at : slice_get c.args.self.now c.loop-place.place ≡ Some w.in-Some.checked.now = rw (← c.self.view_is) there in
          rw (w.ready-is, add-one, take_next c.args.self.now c.loop-place.place w.in-Some.checked.now at) (
            search (rules, of_calls),
            asked_more g.F.FnMut c.args.ready c.loop-place.ready w.ready.new.self (take c.loop-place.place c.args.self.now) w.in-Some.checked.now c.loop-place.invariant.1
                record { shown = w.in-Some.checked; shows = refl; called = rw w.if-ready.false at w.ready.ensures },
          )
      | in_default w ↦ absurd (search rules)
    ]
