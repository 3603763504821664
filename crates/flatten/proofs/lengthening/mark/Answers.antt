use Rattle.std.proofs.Common.{◌≡◌, ◌+◌, ◌-◌, length, ap, ◌∙◌, subst, arith}
use Rattle.std.specs.Prelude.{is_some, nat_le, nat_lt, ◌&&◌, ◌||◌}
use Rattle.committee.specs.Sets.{has}
use Rattle.dag.specs.Changes.{IsMarked}
use Rattle.dag.specs.Graph.{slots_in}
use Rattle.flatten.specs.Lengthening.{LengtheningView}
use Rattle.flatten.specs.Sets.{is_in, lowest_in}
use Rattle.flatten.proofs.Marking.{IsSoFar, none_so_far, one_round, exact_marks, marked_past}
use Rattle.flatten.proofs.lengthening.mark.Goals as goal

pub loop-place-init : goal.loop-place-init
loop-place-init c = none_so_far c.args.dag.now c.number-top.result c.args.made.now.ordered

pub loop-place-preserved : goal.loop-place-preserved
loop-place-preserved c =
    let made = c.args.made.now in
    let place = c.loop-place.place in
    let top = c.number-top.result in
    let authors = has c.set_at.result in
    let more : IsMarked c.loop-place.dag c.mark.new.self (top - place) authors = subst (λ r. IsMarked c.loop-place.dag c.mark.new.self r authors) c.round_of.ensures c.mark.ensures in
    let sets : c.deref.result.now ≡ made.ordered = c.deref.ensures.value ∙ ap (λ (m : LengtheningView). m.ordered) c.made.view_is in
    one_round c.args.dag.now c.loop-place.dag c.mark.new.self top place made.ordered authors c.loop-place.invariant
    (omega (arith, c.loop-place-test.true, c.min-place-end.ensures, c.saturating_sub-rounds.ensures)) more
    (λ a. c.set_at.ensures a ∙ ap (λ l. is_in l place a) sets)

pub returns-clause-kept : goal.returns-clause-kept
returns-clause-kept c round author marked =
    let made = c.args.made.now in
    let top = c.number-top.result in
    c.loop-place.invariant.marked round author
    ∙ ap (λ b. b || ((nat_lt top (round + c.loop-place.place) && nat_le round top) && (is_some (slots_in c.args.dag.now round author) && is_in made.ordered (top - round) author))) marked

-- all rounds are done
exact : goal.returns-clause-exact
exact c of round author =
    let graph = c.args.dag.now in
    let made = c.args.made.now in
    let last : c.made.inside.last.0 ≡ made.last.0 = ap (λ (m : LengtheningView). m.last.0) c.made.view_is in
    let top : c.number-top.result ≡ made.last.0 = c.number-top.ensures.value ∙ last in
    let lowest : c.lowest.result ≡ lowest_in graph made.last.0 = c.lowest.ensures ∙ ap (lowest_in graph) last in
    let all : length c.made.inside.ordered.items ≡ length made.ordered = ap (λ (m : LengtheningView). length m.ordered) c.made.view_is in
    let done : IsSoFar graph c.loop-place.dag made.last.0 c.loop-place.place made.ordered = subst (λ t. IsSoFar graph c.loop-place.dag t c.loop-place.place made.ordered) top c.loop-place.invariant in
    exact_marks graph c.loop-place.dag c.limits_hold.ensures made of c.loop-place.place
    (let fine = c.made.inside.ordered.ok in
    omega (
      arith,
      c.loop-place-test.false,
      c.loop-place.auto.place-end,
      c.min-place-end.ensures,
      c.saturating_sub-rounds.ensures,
      c.len.ensures,
      top,
      lowest,
      all,
      fine,
    ))
    done round author

pub returns-clause-exact : goal.returns-clause-exact
returns-clause-exact c of round author = exact c of round author

pub returns-clause-marked : goal.returns-clause-marked
returns-clause-marked c of =
    marked_past c.args.dag.now c.loop-place.dag c.limits_hold.ensures c.args.made.now of c.loop-place.invariant.charter c.loop-place.invariant.slots (λ r a. exact c of r a)
