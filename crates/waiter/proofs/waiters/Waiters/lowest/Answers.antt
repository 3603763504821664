use Rattle.std.proofs.Common.{◌≡◌, Some, None, sym, ap, ◌∙◌}
use Rattle.std.specs.Prelude.{slice_get}
use Rattle.waiter.specs.Rounds.{WaitersView, held}
use Rattle.waiter.proofs.ByRound.{reported, first_is, nothing_first, some_there}
use Rattle.waiter.proofs.waiters.Waiters.lowest.Goals as goal

pub returns-in_err-first-clause-none : goal.returns-in_err-first-clause-none
returns-in_err-first-clause-none c =
    let events = c.in_ok-round.waiter.now in
    let none : slice_get events 0 ≡ None = sym c.in_err-first.ensures in
    absurd (some_there c.self.inside.rounds.entries c.in_ok-round.round.now events c.self.invariant.0 c.in_ok-round.ensures.value (nothing_first events none))

pub returns-clause-first : goal.returns-clause-first
returns-clause-first c =
    let events = c.in_ok-round.waiter.now in
    let is : slice_get events 0 ≡ Some c.in_ok-first.first.now = sym c.in_ok-first.ensures in
    let found = first_is events c.in_ok-first.first.now is in
    (found.0, ap (λ (w : WaitersView). held w c.in_ok-round.round.now) (sym c.self.view_is) ∙ ap reported c.in_ok-round.ensures.value ∙ found.1)
