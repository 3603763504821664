use Rattle.std.proofs.Common.{◌≡◌, ◌+◌, ◌-◌, ◌∷◌, suc, length, slice_get, ap, sym, ◌∙◌, arith}
use Rattle.certify.proofs.Places.{entry, votes_from, votes_from-none, votes_from-some}
use Rattle.certify.proofs.certificate.nth_vote.Goals as goal
use Rattle.certify.proofs.certificate.nth_vote.Goals.{in-Some+else-before-eq0, in_default}

pub loop-member-preserved : goal.loop-member-preserved
loop-member-preserved c =
    let places = c.args.places.now in
    let member = c.loop-member.member in
    let more : length places - member ≡ suc (length places - (member + 1)) = omega (arith, c.loop-member-test.true) in
    elim c.match-places-member.branch [
      | in-Some+else-before-eq0 w ↦
          let before = c.loop-member.before in
          let rest = length places - (member + 1) in
          let positive : before ≡ suc (before - 1) = omega (arith, w.if-before-eq0.false) in
          c.loop-member.invariant
          ∙ ap (λ n. slice_get (votes_from places member n) before) more
          ∙ ap (λ votes. slice_get votes before) (votes_from-some places member rest w.in-Some.signature w.in-Some.is)
          ∙ ap (slice_get (entry member w.in-Some.signature ∷ votes_from places (member + 1) rest)) positive
          ∙ ap (slice_get (votes_from places (member + 1) rest)) (sym w.before-is)
      | in_default w ↦
          c.loop-member.invariant
          ∙ ap (λ n. slice_get (votes_from places member n) c.loop-member.before) more
          ∙ ap (λ votes. slice_get votes c.loop-member.before) (votes_from-none places member (length places - (member + 1)) w.in_default.is)
          ∙ ap (slice_get (votes_from places (member + 1) (length places - (member + 1)))) (sym w.before-is)
    ]
