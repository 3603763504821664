use Rattle.std.proofs.Common.{◌≡◌, suc, [], ◌++◌, ◌∷◌, get_or, drop, ap, sym, ◌∙◌}
use Rattle.std.proofs.Math.Seq.{drop-cons}
use Rattle.spec_model.proofs.Placing.{follows-front}
use Rattle.wire.specs.References.{digest_before}
use Rattle.wire.specs.declared.references.BatchReference.{BatchReference}
use Rattle.ref_admission.proofs.proposing.named.Goals as goal

pub push-requires-clause-follows : goal.push-requires-clause-follows
push-requires-clause-follows c =
    let none : BatchReference = record { digest = record { 0 = [] }; worker = 0 } in
    let place = c.loop-batch.batch-index in
    let this = get_or c.args.batches.now place none in
    let rest = drop (suc place) c.args.batches.now in
    let all : c.loop-batch.found ++ this ∷ rest ≡ c.args.batches.now =
    ap (λ l. c.loop-batch.found ++ l) (sym (drop-cons c.args.batches.now place none c.loop-batch-test.true)) ∙ c.loop-batch.invariant.all in
    follows-front (λ a b. digest_before a.digest b.digest) c.loop-batch.found this rest (rw all c.requires.order)
