use Rattle.std.proofs.Common.{◌∙◌, ap, sym, arith}
use Rattle.certify.specs.Answer.{certificate_of}
use Rattle.certify.specs.Assembled.{AssemblyView, with_vote}
use Rattle.certify.specs.declared.added.Added.TheVariants.{Complete}
use Rattle.certify.proofs.Places.{ours_member, ours_on, counts, completes}
use Rattle.certify.proofs.assembly.Assembly.answer.Goals as goal

pub returns-then-weight-quorum : goal.returns-then-weight-quorum
returns-then-weight-quorum c =
    let inside = c.self.inside in
    let old : AssemblyView = record { charter = inside.committee.now; header = inside.header; places = inside.places.items; complete = inside.complete } in
    let ours = rw (← c.self.view_is) at (sym c.is_ours.ensures ∙ c.if-not-is_ours.false) in
    let member = ours_member old c.args.vote.now ours in
    let on = ours_on old c.args.vote.now ours in
    let absent = sym c.contains.ensures ∙ c.if-contains.false in
    rw (← c.self.view_is)
    (sym (counts old c.args.vote.now inside.digest inside.voters c.insert.new.self c.self.invariant member c.insert.ensures on c.if-self.false absent
    (omega (arith, c.if-weight-quorum.true, c.weight.ensures.value, c.quorum.ensures))))

pub returns : goal.returns
returns c =
    let inside = c.self.inside in
    let old : AssemblyView = record { charter = inside.committee.now; header = inside.header; places = inside.places.items; complete = inside.complete } in
    let ours = rw (← c.self.view_is) at (sym c.is_ours.ensures ∙ c.if-not-is_ours.false) in
    let member = ours_member old c.args.vote.now ours in
    let on = ours_on old c.args.vote.now ours in
    let absent = sym c.contains.ensures ∙ c.if-contains.false in
    rw (← c.self.view_is)
    (ap Complete (c.in_ok-certificate.ensures ∙ ap (λ places. certificate_of inside.header.body (with_vote places c.args.vote.now)) c.deref.ensures.value)
    ∙ sym (completes old c.args.vote.now inside.digest inside.voters c.insert.new.self c.self.invariant member c.insert.ensures on c.if-self.false
    absent (omega (arith, c.if-weight-quorum.false, c.weight.ensures.value, c.quorum.ensures))))
