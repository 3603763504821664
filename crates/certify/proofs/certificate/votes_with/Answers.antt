use Rattle.std.proofs.Common.{◌∙◌, ◌++◌, ◌∷◌, [], length, ap, sym, arith}
use Rattle.certify.specs.Assembled.{with_vote}
use Rattle.certify.proofs.Places.{entry, votes_below-some, votes_below-none, length-votes_below, follows-votes_below}
use Rattle.certify.proofs.certificate.votes_with.Goals as goal
use Rattle.certify.proofs.certificate.votes_with.Goals.{in-Some+in_ok-push, in_default}

pub push-requires-clause-room : goal.push-requires-clause-room
push-requires-clause-room c =
    let made = ap length c.loop-member.invariant in
    omega (arith, made, length-votes_below (with_vote c.args.places.now c.args.vote.now) c.loop-member.member)

pub push-requires-clause-follows : goal.push-requires-clause-follows
push-requires-clause-follows c = rw c.loop-member.invariant (follows-votes_below (with_vote c.args.places.now c.args.vote.now) c.loop-member.member)

pub loop-member-preserved : goal.loop-member-preserved
loop-member-preserved c =
    let places = with_vote c.args.places.now c.args.vote.now in
    let member = c.loop-member.member in
    elim c.match-signature_with.branch [
      | in-Some+in_ok-push w ↦
          let more = votes_below-some places member w.in-Some.signature (sym c.signature_with.ensures ∙ w.in-Some.is) in
          w.votes-is ∙ w.in_ok-push.ensures.ok ∙ ap (λ votes. votes ++ entry member w.in-Some.signature ∷ []) c.loop-member.invariant ∙ sym more
      | in_default w ↦
          let same = votes_below-none places member (sym c.signature_with.ensures ∙ w.in_default.is) in
          w.votes-is ∙ c.loop-member.invariant ∙ sym same
    ]
