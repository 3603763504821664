use Rattle.std.proofs.Common.{◌++◌, ◌∷◌, [], ap, sym, ◌∙◌}
use Rattle.checkpoint.proofs.Copied.{one_more}
use Rattle.checkpoint.proofs.parts.coins_of.Goals as goal

pub loop-place-preserved : goal.loop-place-preserved
loop-place-preserved c =
    c.in_ok-push-in-Some.ensures.items ∙ ap (λ l. l ++ c.in-Some.value ∷ []) c.loop-place.invariant
    ∙ sym (one_more c.args.coins.now c.loop-place.place c.in-Some.value (sym c.nth.ensures ∙ c.in-Some.is))
