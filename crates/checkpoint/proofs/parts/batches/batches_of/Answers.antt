use Rattle.std.proofs.Common.{◌≡◌, ◌++◌, ◌∷◌, [], ap, sym, subst, ◌∙◌}
use Rattle.std.specs.Prelude.{All}
use Rattle.std.specs.Map.{values_of}
use Rattle.std.proofs.lemmas.List.Elements.{All-push}
use Rattle.batchstore.specs.Kept.{IsUnderItsDigest}
use Rattle.batchstore.specs.declared.held.Held.{Held}
use Rattle.batchstore.specs.Stock.{digest_of}
use Rattle.wire.specs.declared.keys.Digest.{Digest}
use Rattle.checkpoint.proofs.Copied.{one_more, values_more}
use Rattle.checkpoint.proofs.parts.batches.batches_of.Goals as goal

pub loop-place-preserved : goal.loop-place-preserved
loop-place-preserved c =
    let before = c.loop-place.found.items in
    let held = c.in-Some.held.now in
    let copy = c.in_ok-again-in-Some.field-0 in
    let entry : Digest × Held = (c.in-Some.digest.now, copy) in
    let same : copy ≡ held = c.in_ok-again-in-Some.ensures in
    record {
      digested = subst (λ l. All IsUnderItsDigest l) (sym c.in_ok-push-in-Some.ensures.items)
          (All-push IsUnderItsDigest before entry c.loop-place.invariant.digested (c.in-Some.ensures.digested ∙ ap (λ (h : Held). digest_of h.batch) (sym same)));
      held = ap values_of c.in_ok-push-in-Some.ensures.items ∙ values_more before entry ∙ ap (λ h. values_of before ++ h ∷ []) same
          ∙ ap (λ l. l ++ held ∷ []) c.loop-place.invariant.held
          ∙ sym (one_more c.args.batches.now.held c.loop-place.place held (sym c.in-Some.ensures.held));
    }
