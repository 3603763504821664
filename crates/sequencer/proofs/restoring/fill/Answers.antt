use Rattle.std.proofs.Common.{◌≡◌, ◌+◌, ◌<◌, ◌≤◌, length, sym, ap, ◌∙◌, subst, arith, rules, map-id}
use Rattle.std.proofs.lemmas.Iterator.Consumers.{YieldsList-so_far, YieldsList-turn, YieldsList-end}
use Rattle.std.proofs.lemmas.Iterator.Adapters.{YieldsList-from_vec}
use Rattle.committee.specs.Charter.{Charter}
use Rattle.dag.specs.Graph.{size_in, end_in}
use Rattle.sequencer.specs.Restored.{Digested, HaveEntered}
use Rattle.sequencer.proofs.Entering.{IsTurn, nothing_entered, one_more, is_free, parents_held, at_turn, ends_first, ends_next}
use Rattle.sequencer.proofs.restoring.fill.Goals as goal

-- the certificate of this turn
turn_of : (c : goal.After-restore-arg-1) → IsTurn c.args.certificates.items c.loop-certificate.yielded (c.in-Some.certificate, c.in-Some.digest)
turn_of c =
    let all = c.args.certificates.items in
    let done = c.loop-certificate.yielded in
    let chain = YieldsList-from_vec {s = c.into_iter-certificate-iterator.result} all (search rules) (search rules) in
    let turn = YieldsList-turn chain done c.loop-certificate.certificate-iterator c.loop-certificate.yielded_by c.next.result c.next.new.self
    (c.in-Some.certificate, c.in-Some.digest) c.in-Some.is c.next.ensures.steps in
    record {
      front = sym (map-id done) ∙ YieldsList-so_far chain done c.loop-certificate.certificate-iterator c.loop-certificate.yielded_by;
      within = turn.0;
      is = turn.1;
    }

pub loop-certificate-init : goal.loop-certificate-init
loop-certificate-init c = record {
  entered = nothing_entered c.args.dag.now;
  ends = ends_first c.args.dag.now c.args.certificates.items c.requires;
}

pub restore-requires-clause-member : goal.restore-requires-clause-member
restore-requires-clause-member c =
    let turn = turn_of c in
    let next : Digested = (c.in-Some.certificate, c.in-Some.digest) in
    let member = at_turn (λ one. one.0.header.author.0 < size_in c.args.dag.now) c.args.certificates.items c.loop-certificate.yielded next turn
    (c.requires.members (length c.loop-certificate.yielded) next turn.within) in
    let same : length c.loop-certificate.dag.charter.keys ≡ size_in c.args.dag.now = ap (λ (x : Charter). length x.keys) c.loop-certificate.invariant.entered.charter in
    omega (arith, member, same)

pub restore-requires-clause-above : goal.restore-requires-clause-above
restore-requires-clause-above c =
    let turn = turn_of c in
    let next : Digested = (c.in-Some.certificate, c.in-Some.digest) in
    let above = at_turn (λ one. c.args.dag.now.floor ≤ one.0.header.round) c.args.certificates.items c.loop-certificate.yielded next turn
    (c.requires.above (length c.loop-certificate.yielded) next turn.within) in
    let same = c.loop-certificate.invariant.entered.floor in
    omega (arith, above, same)

pub restore-requires-clause-last : goal.restore-requires-clause-last
restore-requires-clause-last c =
    let turn = turn_of c in
    let next : Digested = (c.in-Some.certificate, c.in-Some.digest) in
    at_turn (λ one. end_in c.loop-certificate.dag ≤ one.0.header.round + 1) c.args.certificates.items c.loop-certificate.yielded next turn
    (c.loop-certificate.invariant.ends (length c.loop-certificate.yielded) next (omega arith) turn.within)

pub restore-requires-clause-free : goal.restore-requires-clause-free
restore-requires-clause-free c = is_free c.args.dag.now c.loop-certificate.dag c.args.certificates.items c.loop-certificate.yielded
    (c.in-Some.certificate, c.in-Some.digest) c.requires c.loop-certificate.invariant.entered (turn_of c)

pub restore-requires-clause-held : goal.restore-requires-clause-held
restore-requires-clause-held c =
    let turn = turn_of c in
    parents_held c.args.dag.now c.loop-certificate.dag c.args.certificates.items c.loop-certificate.yielded
    (c.in-Some.certificate, c.in-Some.digest) c.requires c.loop-certificate.invariant.entered turn
    (at_turn (λ one. 0 < one.0.header.round) c.args.certificates.items c.loop-certificate.yielded (c.in-Some.certificate, c.in-Some.digest) turn
    (c.requires.listed.positive (length c.loop-certificate.yielded) (c.in-Some.certificate, c.in-Some.digest) turn.within))

pub loop-certificate-preserved : goal.loop-certificate-preserved
loop-certificate-preserved c =
    let all = c.args.certificates.items in
    let done = c.loop-certificate.yielded in
    let next : Digested = (c.in-Some.certificate, c.in-Some.digest) in
    let chain = YieldsList-from_vec {s = c.into_iter-certificate-iterator.result} all (search rules) (search rules) in
    let turn = YieldsList-turn chain done c.loop-certificate.certificate-iterator c.loop-certificate.yielded_by c.next.result c.next.new.self next c.in-Some.is c.next.ensures.steps in
    let front = sym (map-id done) ∙ YieldsList-so_far chain done c.loop-certificate.certificate-iterator c.loop-certificate.yielded_by in
    record {
      entered = one_more c.args.dag.now c.loop-certificate.dag c.restore.new.self done next c.loop-certificate.invariant.entered c.in_ok-restore.ensures.ok;
      ends = ends_next c.loop-certificate.dag c.restore.new.self all done next c.requires.listed (record { front = front; within = turn.0; is = turn.1 })
          c.in_ok-restore.ensures.ok c.loop-certificate.invariant.ends;
    }

pub returns : goal.returns
returns c =
    let all = c.args.certificates.items in
    let done = c.loop-certificate.yielded in
    let end = YieldsList-end (YieldsList-from_vec {s = c.into_iter-certificate-iterator.result} all (search rules) (search rules)) done
    c.loop-certificate.certificate-iterator c.loop-certificate.yielded_by c.next.result c.next.new.self c.in-None.is c.next.ensures.steps in
    subst (HaveEntered c.args.dag.now c.loop-certificate.dag) (sym (map-id done) ∙ end.0) c.loop-certificate.invariant.entered
