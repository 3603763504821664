use Rattle.std.proofs.Common.{◌≡◌, false, suc, [], ◌++◌, ◌∷◌, length, get_or, drop, ap, sym, ◌∙◌, inr, arith}
use Rattle.std.proofs.Math.Seq.{drop-cons}
use Rattle.std.proofs.lemmas.Bool.{le-ltb}
use Rattle.wire.specs.References.{digest_before, batches_rise}
use Rattle.wire.specs.declared.limits.TheConstants.{MAX_BATCHES}
use Rattle.wire.specs.declared.references.BatchReference.{BatchReference}
use Rattle.header.proofs.RisingFaults.{rises-not, not-rising}
use Rattle.header.proofs.making.batches_of.Goals as goal

pub returns-then-not-may_follow-clause-err : goal.returns-then-not-may_follow-clause-err
returns-then-not-may_follow-clause-err c =
    let none : BatchReference = record { digest = record { 0 = [] }; worker = 0 } in
    let place = c.loop-batch.batch-index in
    let this = get_or c.args.batches.now place none in
    let rest = drop (suc place) c.args.batches.now in
    let all : c.loop-batch.named ++ this ∷ rest ≡ c.args.batches.now =
    ap (λ l. c.loop-batch.named ++ l) (sym (drop-cons c.args.batches.now place none c.loop-batch-test.true)) ∙ c.loop-batch.invariant.all in
    let fails : batches_rise (c.loop-batch.named ++ this ∷ rest) ≡ false = rises-not (λ a b. digest_before a.digest b.digest) c.loop-batch.named this
    rest (sym c.may_follow.ensures ∙ c.if-not-may_follow.true) in
    inr (not-rising MAX_BATCHES (length c.args.batches.now) (batches_rise c.args.batches.now) (le-ltb MAX_BATCHES (length c.args.batches.now) (omega arith)) (ap batches_rise (sym all) ∙ fails))
