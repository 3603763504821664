use Rattle.std.proofs.Common.{◌≡◌, ℕ, ◌+◌, get_or, set, sym, ap, ◌∙◌, arith}
use Rattle.std.proofs.lemmas.List.Edits.{map_over_more}
use Rattle.journal.specs.Areas.{moved_by}
use Rattle.journal.specs.declared.record.Record.{Record}
use Rattle.journal_account.proofs.areas.move_all.Goals as goal

pub loop-one-preserved : goal.loop-one-preserved
loop-one-preserved c =
    let items = c.loop-one.one-items in
    let n = c.loop-one.one-index in
    let one = c.one-item.result in
    let found : Record = get_or items n one in
    let sum : found.gate + 1099511627776 ≡ 1099511627776 + found.gate = omega arith in
    ap (λ (gate : ℕ). set items n (record { bytes = found.bytes; gate = gate })) sum
    ∙ ap (λ (r : Record). set items n (moved_by 1099511627776 r)) (sym c.one-item.is)
    ∙ map_over_more (moved_by 1099511627776) c.deref_mut-one-items.result.now items n one c.loop-one-test.true c.loop-one.invariant c.one-item.is
