use Rattle.std.proofs.Common.{◌≡◌, [], ◌∷◌, inl, inr, refl, ap, sym, subst, ◌∙◌}
use Rattle.std.specs.Prelude.{All}
use Rattle.std.proofs.lemmas.List.Elements.{All-nil}
use Rattle.waiter.specs.Rounds.{WaitersView}
use Rattle.node_run.specs.Asking.{IsTakenOut}
use Rattle.node_run.specs.declared.due.Due.{Due}
use Rattle.node_run.specs.Asked.{AsksEach, AsksWhatWasDue, WasAsked}
use Rattle.node_run.specs.declared.due.Waiting.{Waiting}
use Rattle.node_run.specs.declared.due.Waiting.TheVariants.{Nothing, Rounds}
use Rattle.node_run.proofs.Asked.{asked_below, each_on, first_on, none_ready, one_ready}
use Rattle.node_run.proofs.intake.Intake.next_ready.Goals as goal

pub returns-in_default-lowest_round-clause-asks : goal.returns-in_default-lowest_round-clause-asks
returns-in_default-lowest_round-clause-asks g c =
    let old = c.args.self.now in
    let none = c.in_default-lowest_round.ensures.none in
    record {
      rounds = λ round due isnt.
          subst (All (WasAsked g.S.Sign.scheme old.caller.node old.caller old.caller)) (sym (none round)) (All-nil (WasAsked g.S.Sign.scheme old.caller.node old.caller old.caller));
      lowest = λ some over round first rest is below. let bad : [] ≡ first ∷ rest = sym (none round) ∙ is in absurd cc;
    }

pub returns-in_default-ready_from-clause-asks : goal.returns-in_default-ready_from-clause-asks
returns-in_default-ready_from-clause-asks g c =
    let scheme = g.S.Sign.scheme in
    let old = c.args.self.now in
    let mid = c.ready_outside.new.self in
    let later = c.ready_from.new.self in
    let low = c.in-Rounds.low in
    let end = c.in-Rounds.end in
    let lowest = c.in-Some.lowest in
    let each = each_on scheme c.max.result end old.caller mid.caller later.caller old.waiters mid.waiters c.ready_outside.ensures.only c.in_default-ready_outside.ensures.none
    c.in_default-ready_from.ensures.asked in
    subst (λ (w : Waiting). AsksWhatWasDue scheme old.caller.node w Nothing old.waiters old.caller later.caller) (sym c.in-Rounds.is)
    (none_ready scheme old.caller.node low end lowest old.waiters old.caller mid.caller later.caller c.in-Some.ensures.some c.in-Some.ensures.least
    c.in_default-ready_outside.ensures.asked c.ready_from.ensures.only.seen
    (subst (λ n. AsksEach scheme old.caller.node n end old.waiters old.caller later.caller) c.max.ensures each))

pub returns-clause-asks : goal.returns-clause-asks
returns-clause-asks g c =
    let scheme = g.S.Sign.scheme in
    let old = c.args.self.now in
    let mid = c.ready_outside.new.self in
    let later = c.ready_from.new.self in
    let low = c.in-Rounds.low in
    let end = c.in-Rounds.end in
    let lowest = c.in-Some.lowest in
    let at = c.in-Some-ready_from.round in
    let each = each_on scheme c.max.result at old.caller mid.caller later.caller old.waiters mid.waiters c.ready_outside.ensures.only c.in_default-ready_outside.ensures.none
    c.in-Some-ready_from.ensures.passed in
    subst (λ (w : Waiting). AsksWhatWasDue scheme old.caller.node w (Rounds at end) old.waiters old.caller later.caller) (sym c.in-Rounds.is)
    (one_ready scheme old.caller.node low end lowest at old.waiters old.caller later.caller c.in-Some.ensures.least
    (subst (λ n. AsksEach scheme old.caller.node n at old.waiters old.caller later.caller) c.max.ensures each))

pub returns-in-Some-ready_outside-clause-first : goal.returns-in-Some-ready_outside-clause-first
returns-in-Some-ready_outside-clause-first g c = record {
  round = c.in-Some.lowest;
  taken = c.in-Some-ready_outside.ensures.some;
  first = c.in-Some-ready_outside.ensures.first;
  turn = inl (ap (λ (d : Due). d.waiting) c.ready_outside.ensures.due, c.in-Some.ensures.least);
}

pub returns-clause-first : goal.returns-clause-first
returns-clause-first g c =
    let scheme = g.S.Sign.scheme in
    let old = c.args.self.now in
    let mid = c.ready_outside.new.self in
    let later = c.ready_from.new.self in
    let low = c.in-Rounds.low in
    let end = c.in-Rounds.end in
    let at = c.in-Some-ready_from.round in
    let found = c.in-Some-ready_from.found in
    let same : mid.waiters ≡ old.waiters = c.in_default-ready_outside.ensures.none in
    let some = c.in-Some-ready_from.ensures.some in
    let each = each_on scheme c.max.result at old.caller mid.caller later.caller old.waiters mid.waiters c.ready_outside.ensures.only same c.in-Some-ready_from.ensures.passed in
    record {
      round = at;
      taken = subst (λ (w : WaitersView). IsTakenOut found at w later.waiters) same some.0;
      first = first_on scheme old.caller mid.caller later.caller old.waiters mid.waiters at found c.ready_outside.ensures.only same c.in-Some-ready_from.ensures.first;
      turn = inr (
        low,
        end,
        c.in-Rounds.is,
        refl,
        some.2,
        asked_below scheme old.caller.node low c.in-Some.lowest at old.waiters old.caller later.caller c.in-Some.ensures.least
            (subst (λ n. AsksEach scheme old.caller.node n at old.waiters old.caller later.caller) c.max.ensures each),
      );
    }
