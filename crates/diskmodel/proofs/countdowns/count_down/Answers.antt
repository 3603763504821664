use Rattle.std.proofs.Common.{◌≡◌, ℕ, ◌-◌, List, length, ◌≤◌, get_or, take, ◌++◌, ◌∙◌, ap, arith, rules, nat_lt, drop}
use Rattle.std.specs.Prelude.{map}
use Rattle.std.specs.List.{filter}
use Rattle.std.proofs.lemmas.List.{take_all, drop_all, take_at, append-nil, get_or_default}
use Rattle.std.proofs.lemmas.List.Edits.{map_over_more}
use Rattle.std.proofs.lemmas.Fn.{filter_same}
use Rattle.diskmodel.proofs.countdowns.count_down.Goals as goal

pub loop-count-preserved : goal.loop-count-preserved
loop-count-preserved c =
    rw c.saturating_sub.ensures
    (map_over_more (λ count. count - 1) c.deref_mut-count-items.result.now c.loop-count.count-items c.loop-count.count-index (get_or c.loop-count.count-items c.loop-count.count-index 0)
    (omega (arith, c.loop-count.auto.count-items)) c.loop-count.invariant (get_or_default c.loop-count.count-items c.loop-count.count-index 0 _ (omega (arith, c.loop-count.auto.count-items))))

pub returns-clause-lowered : goal.returns-clause-lowered
returns-clause-lowered c =
    let before : List ℕ = c.args.counts.now.items in
    let items : List ℕ = c.loop-count.count-items in
    let value : c.deref_mut-count-items.result.now ≡ before = c.deref_mut-count-items.ensures.value in
    let last : length before ≤ c.loop-count.count-index = omega (arith, c.loop-count-test.false, ap length value) in
    let all : items ≡ map (λ count. count - 1) before =
    c.loop-count.invariant
    ∙ ap (λ (l : List ℕ). map (λ count. count - 1) (take c.loop-count.count-index l) ++ drop c.loop-count.count-index l) value
    ∙ (λ i. map (λ count. count - 1) (take_all c.loop-count.count-index before last i) ++ drop_all c.loop-count.count-index before last i)
    ∙ append-nil (map (λ count. count - 1) before) in
    let size : length items ≡ c.args.counts.now.len = omega (arith, c.loop-count.auto.count-items, ap length value, c.args.counts.now.ok) in
    filter_same _ (λ count. nat_lt 0 count) _ (λ x b f' t. search rules) _ _ c.retain.ensures.filtered
    ∙ ap (λ (l : List ℕ). filter (λ count. nat_lt 0 count) l) (take_at items (drop (length items) before) c.args.counts.now.len size ∙ all)
