use Rattle.std.proofs.Common.{◌≡◌, refl, sym, ap, subst, ◌∙◌, arith}
use Rattle.waiter.specs.declared.waiter.TheConstants.{MAX_WAITING}
use Rattle.waiter.specs.Rounds.{WaitersView, WaitsThere, held_in}
use Rattle.waiter.specs.Waiting.{Waits}
use Rattle.waiter.proofs.waiters.Waiters.offer.Goals as goal

pub returns-then-waits-clause-full : goal.returns-then-waits-clause-full
returns-then-waits-clause-full c =
    let found = c.waits.ensures.yes c.if-waits.true in
    let there : WaitsThere c.args.self.now c.args.checked =
    subst (λ (w : WaitersView). WaitsThere w c.args.checked) c.self.view_is (subst (λ n. Waits (held_in c.self.inside.rounds.entries n) c.args.checked) c.round_of-round.ensures found) in
    (λ e. absurd cc, λ h. absurd (h.1 there))

pub returns-then-waits-clause-added : goal.returns-then-waits-clause-added
returns-then-waits-clause-added c =
    let found = c.waits.ensures.yes c.if-waits.true in
    let there : WaitsThere c.args.self.now c.args.checked =
    subst (λ (w : WaitersView). WaitsThere w c.args.checked) c.self.view_is (subst (λ n. Waits (held_in c.self.inside.rounds.entries n) c.args.checked) c.round_of-round.ensures found) in
    λ h. absurd (h there)

pub returns-in_default-clause-again : goal.returns-in_default-clause-again
returns-in_default-clause-again c = λ waits.
    absurd (c.waits.ensures.no c.if-waits.false
    (subst (λ n. Waits (held_in c.self.inside.rounds.entries n) c.args.checked) (sym c.round_of-round.ensures) (subst (λ (w : WaitersView). WaitsThere w c.args.checked) (sym c.self.view_is) waits)))

pub returns-then-count-ge-MAX_WAITING-clause-full : goal.returns-then-count-ge-MAX_WAITING-clause-full
returns-then-count-ge-MAX_WAITING-clause-full c =
    let not_there : WaitsThere c.args.self.now c.args.checked → ⊥ = λ waits.
    c.waits.ensures.no c.if-waits.false
    (subst (λ n. Waits (held_in c.self.inside.rounds.entries n) c.args.checked) (sym c.round_of-round.ensures) (subst (λ (w : WaitersView). WaitsThere w c.args.checked) (sym c.self.view_is) waits)) in
    let all : c.args.self.now.count ≡ MAX_WAITING = let same = ap (λ (w : WaitersView). w.count) c.self.view_is in omega (arith, same, c.if-count-ge-MAX_WAITING.true, c.self.invariant.2) in
    (λ e. (λ none. let bad = sym none ∙ sym c.in-Some.ensures in absurd cc, not_there, all), λ h. refl)

pub returns-then-count-ge-MAX_WAITING-clause-again : goal.returns-then-count-ge-MAX_WAITING-clause-again
returns-then-count-ge-MAX_WAITING-clause-again c = λ waits.
    absurd (c.waits.ensures.no c.if-waits.false
    (subst (λ n. Waits (held_in c.self.inside.rounds.entries n) c.args.checked) (sym c.round_of-round.ensures) (subst (λ (w : WaitersView). WaitsThere w c.args.checked) (sym c.self.view_is) waits)))

pub returns-in_err-add-clause-again : goal.returns-in_err-add-clause-again
returns-in_err-add-clause-again c = λ waits.
    absurd (c.waits.ensures.no c.if-waits.false
    (subst (λ n. Waits (held_in c.self.inside.rounds.entries n) c.args.checked) (sym c.round_of-round.ensures) (subst (λ (w : WaitersView). WaitsThere w c.args.checked) (sym c.self.view_is) waits)))

pub returns-clause-same : goal.returns-clause-same
returns-clause-same c = λ waits.
    absurd (c.waits.ensures.no c.if-waits.false
    (subst (λ n. Waits (held_in c.self.inside.rounds.entries n) c.args.checked) (sym c.round_of-round.ensures) (subst (λ (w : WaitersView). WaitsThere w c.args.checked) (sym c.self.view_is) waits)))
