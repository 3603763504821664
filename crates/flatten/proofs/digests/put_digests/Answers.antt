use Rattle.std.proofs.Common.{◌≡◌, ℕ, ◌-◌, List, ◌++◌, ap, sym, ◌∙◌, append_assoc, arith}
use Rattle.std.proofs.Math.Path.{fun_ext}
use Rattle.std.specs.Prelude.{flat_map, Bool}
use Rattle.std.specs.List.{range_with_len}
use Rattle.committee.specs.Sets.{has}
use Rattle.spec_model.specs.Words.{Digest}
use Rattle.flatten.specs.Sets.{is_in, digests_at}
use Rattle.flatten.proofs.Ranges.{lists_more}
use Rattle.flatten.proofs.digests.put_digests.Goals as goal

pub loop-number-preserved : goal.loop-number-preserved
loop-number-preserved c =
    let graph = c.args.dag.now in
    let sets = c.args.ordered.now in
    let number = c.loop-number.number in
    let make : ℕ → List Digest = λ r. digests_at graph r (is_in sets (c.args.round - r)) in
    let before = c.args.digests.now.items in
    let first = c.max-first.result in
    let authors : has c.set_at-set.result ≡ is_in sets (c.args.round - number) =
    fun_ext (λ a. c.set_at-set.ensures a ∙ ap (λ t. is_in sets (t - number) a) c.number-top.ensures.value) in
    c.in_ok-put_round.ensures
    ∙ ap (λ r. c.loop-number.digests.items ++ digests_at graph r (has c.set_at-set.result)) c.round_of.ensures
    ∙ ap (λ (f : ℕ → Bool). c.loop-number.digests.items ++ digests_at graph number f) authors
    ∙ ap (λ l. l ++ make number) c.loop-number.invariant
    ∙ append_assoc before (flat_map make (range_with_len first (number - first))) (make number)
    ∙ ap (λ l. before ++ l) (sym (lists_more make first number (omega (arith, c.loop-number.auto.number))))
