use Rattle.std.proofs.Common.{sym, arith}
use Rattle.std.proofs.lemmas.List.{take_all, length-take-le}
use Rattle.ref_admission.proofs.parts.first_of.Goals as goal

pub returns-then-list-most-clause-value : goal.returns-then-list-most-clause-value
returns-then-list-most-clause-value g c = sym (take_all c.args.most c.args.list.now c.if-list-most.true)

pub slice_bounds-result-end : goal.slice_bounds-result-end
slice_bounds-result-end g c = sym (length-take-le c.args.most c.args.list.now (omega (arith, c.if-list-most.false)))

pub returns-clause-few : goal.returns-clause-few
returns-clause-few g c = omega (arith, length-take-le c.args.most c.args.list.now (omega (arith, c.if-list-most.false)))
