use Rattle.std.proofs.Common.{◌≡◌, false, suc, [], ◌++◌, ◌∷◌, length, get_or, drop, ap, sym, ◌∙◌, inr, arith}
use Rattle.std.specs.Prelude.{nat_lt}
use Rattle.std.proofs.Math.Seq.{drop-cons}
use Rattle.std.proofs.lemmas.Bool.{le-ltb}
use Rattle.wire.specs.References.{parents_rise}
use Rattle.wire.specs.declared.limits.TheConstants.{MAX_PARENTS}
use Rattle.wire.specs.declared.references.ParentReference.{ParentReference}
use Rattle.header.proofs.RisingFaults.{rises-not, not-rising}
use Rattle.header.proofs.making.parents_of.Goals as goal

pub returns-then-not-may_follow-clause-err : goal.returns-then-not-may_follow-clause-err
returns-then-not-may_follow-clause-err c =
    let none : ParentReference = record { author = record { 0 = 0 }; certificate = record { 0 = [] } } in
    let place = c.loop-parent.parent-index in
    let this = get_or c.args.parents.now place none in
    let rest = drop (suc place) c.args.parents.now in
    let all : c.loop-parent.named ++ this ∷ rest ≡ c.args.parents.now =
    ap (λ l. c.loop-parent.named ++ l) (sym (drop-cons c.args.parents.now place none c.loop-parent-test.true)) ∙ c.loop-parent.invariant.all in
    let fails : parents_rise (c.loop-parent.named ++ this ∷ rest) ≡ false = rises-not (λ a b. nat_lt a.author.0 b.author.0) c.loop-parent.named this
    rest (sym c.may_follow.ensures ∙ c.if-not-may_follow.true) in
    inr (not-rising MAX_PARENTS (length c.args.parents.now) (parents_rise c.args.parents.now) (le-ltb MAX_PARENTS (length c.args.parents.now) (omega arith)) (ap parents_rise (sym all) ∙ fails))
