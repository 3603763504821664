use Rattle.std.proofs.Common.{◌≡◌, inr, sym, ◌∙◌, subst}
use Rattle.std.specs.Prelude.{IsTrue}
use Rattle.spec_machine.specs.Machine.{answered}
use Rattle.spec_model.specs.Admitting.{is_new}
use Rattle.validator.specs.Setting.{node_of}
use Rattle.book.specs.declared.book.TheConstants.{MAX_ACCEPTED}
use Rattle.book.specs.Book.{BookView, Run, Stands, state_in, HasPlace}
use Rattle.book.proofs.book.Book.has_no_place.Goals as goal

pub returns-then-self-eq-MAX_ACCEPTED-clause-full : goal.returns-then-self-eq-MAX_ACCEPTED-clause-full
returns-then-self-eq-MAX_ACCEPTED-clause-full g c = λ new.
    let event = c.args.event.now in
    subst (λ (s : BookView g.row.S.Denot). (run : Run) → Stands (node_of g.S.Sign.scheme s.validator.setting) run s
    → IsTrue (is_new (answered (node_of g.S.Sign.scheme s.validator.setting) (state_in (node_of g.S.Sign.scheme s.validator.setting) run) event)) × (s.accepted ≡ MAX_ACCEPTED)) c.self.view_is
    (λ run at. (sym (c.is_new.ensures.at (state_in (node_of g.S.Sign.scheme c.self.inside.validator.setting) run) at.at) ∙ new, c.if-self-eq-MAX_ACCEPTED.true))

pub returns-then-self-eq-MAX_ACCEPTED-clause-room : goal.returns-then-self-eq-MAX_ACCEPTED-clause-room
returns-then-self-eq-MAX_ACCEPTED-clause-room g c = λ old.
    let state = c.limits_hold.ensures.sound in
    subst (λ (s : BookView g.row.S.Denot). HasPlace (node_of g.S.Sign.scheme s.validator.setting) s c.args.event.now) c.self.view_is
    (inr (state.0, state.1, sym (c.is_new.ensures.at state.0 state.1) ∙ old))
