use Rattle.std.proofs.Common.{◌++◌, ◌∷◌, [], length, List, ap, sym, ◌∙◌, arith}
use Rattle.std.specs.Global.{Vec}
use Rattle.wire.specs.declared.votes.VoteEntry.{VoteEntry}
use Rattle.std.specs.Prelude.{filter}
use Rattle.std.proofs.lemmas.List.{take_all}
use Rattle.certify.specs.Assembled.{votes_in}
use Rattle.certify.proofs.Places.{length-votes_below}
use Rattle.checkpoint.specs.Parts.{is_other}
use Rattle.checkpoint.proofs.Counted.{other_more, own_more}
use Rattle.checkpoint.proofs.parts.assembled.others.Goals.{then-ne+in_ok-push, else-ne}
use Rattle.checkpoint.proofs.parts.assembled.others.Goals as goal

pub loop-place-preserved : goal.loop-place-preserved
loop-place-preserved c =
    let votes = votes_in c.args.assembly.now.places in
    elim c.if-ne.branch [
      | then-ne+in_ok-push w ↦
          ap (λ (v : Vec VoteEntry). v.items) w.votes-is ∙ w.in_ok-push.ensures.items ∙ ap (λ l. l ++ c.in-Some.entry ∷ []) c.loop-place.invariant
          ∙ sym (other_more c.args.own.0 votes c.loop-place.place c.in-Some.entry (sym c.nth.ensures ∙ c.in-Some.is) (sym c.ne.ensures ∙ w.if-ne.true))
      | else-ne w ↦
          ap (λ (v : Vec VoteEntry). v.items) w.votes-is ∙ c.loop-place.invariant
          ∙ sym (own_more c.args.own.0 votes c.loop-place.place c.in-Some.entry (sym c.nth.ensures ∙ c.in-Some.is) (sym c.ne.ensures ∙ w.if-ne.false))
    ]

pub returns : goal.returns
returns c =
    let places = c.args.assembly.now.places in
    let sound = c.limits_hold.ensures in
    c.loop-place.invariant
    ∙ ap (λ (l : List VoteEntry). filter (is_other c.args.own.0) l)
    (take_all c.loop-place.place (votes_in places) (omega (arith, length-votes_below places (length places), sound.size, sound.committee.size, c.loop-place-test.false)))
