use Rattle.std.proofs.Common.{◌+◌, List, [], ◌∷◌, length, length-append, ap, sym, subst, ◌∙◌, arith}
use Rattle.wire.specs.declared.header.Header.{Header}
use Rattle.admission.specs.declared.kept.VotedHeader.{VotedHeader}
use Rattle.checkpoint.specs.Parts.{AreOf}
use Rattle.checkpoint.proofs.Headed.{AreApart, none_apart, one_apart, all_apart, whole, same_table}
use Rattle.checkpoint.proofs.parts.headers.headers_of.Goals as goal

pub loop-place-init : goal.loop-place-init
loop-place-init c = record { apart = none_apart c.args.headers.now c.new-found.result.items c.new-found.ensures.items; count = ap length c.new-found.ensures.items }

pub loop-place-preserved : goal.loop-place-preserved
loop-place-preserved c =
    let one = c.in_ok-voted_header.field-0 in
    record {
      count = ap length c.in_ok-push.ensures.items ∙ length-append c.loop-place.found.items (one ∷ []) ∙ ap (λ n. n + 1) c.loop-place.invariant.count;
      apart =
          subst (λ (l : List VotedHeader). AreApart c.args.headers.now l (c.loop-place.place + 1)) (sym c.in_ok-push.ensures.items)
          (one_apart c.args.headers.now c.loop-place.found.items c.loop-place.place c.in-Some.assembly.now one
          c.limits_hold.ensures c.loop-place.invariant.apart c.limits_hold-in-loop-place.ensures c.in-Some.ensures
          (subst (λ (h : Header). AreOf h.body.author.0 c.in-Some.assembly.now one.header one.vote one.votes.items) c.header.ensures
          c.in_ok-voted_header.ensures));
    }

pub returns-in_default-clause-voted : goal.returns-in_default-clause-voted
returns-in_default-clause-voted c =
    let found = c.loop-place.found.items in
    let apart = c.loop-place.invariant.apart in
    all_apart c.args.headers.now found c.limits_hold.ensures (whole c.args.headers.now found c.loop-place.place apart c.in_default.ensures) apart.each

pub returns-in_default-clause-table : goal.returns-in_default-clause-table
returns-in_default-clause-table c =
    same_table c.args.headers.now c.loop-place.found.items (whole c.args.headers.now c.loop-place.found.items c.loop-place.place c.loop-place.invariant.apart c.in_default.ensures)

pub returns-in_default-clause-others : goal.returns-in_default-clause-others
returns-in_default-clause-others c = c.loop-place.invariant.apart.others

pub unreachable-requires : goal.unreachable-requires
unreachable-requires c = omega (arith, c.loop-place.found.small, c.loop-place.invariant.count, c.loop-place-test.false)
