use Rattle.std.proofs.Common.{◌≡◌, ◌<◌, ℕ, ◌∙◌, true, false, length, ap, sym, arith, slice_set}
use Rattle.std.specs.Prelude.{◌&&◌, not}
use Rattle.committee.specs.Sets.{has}
use Rattle.committee.specs.declared.sets.MemberSet.{MemberSet}
use Rattle.dag.specs.Rows.{IsRow, is_unmarked}
use Rattle.dag.proofs.Changing.{as_long_marked, mark_one, mark_not, marked_whole}
use Rattle.dag.proofs.Unmarked.{of_marked}
use Rattle.dag.proofs.row.Row.mark.Goals as goal
use Rattle.dag.proofs.row.Row.mark.Goals.{then-contains, else-contains}

pub loop-i-preserved : goal.loop-i-preserved
loop-i-preserved c =
    let authors = has c.args.authors.now in
    let old = c.args.self.now in
    let items = c.loop-i.self-inside.slots.items in
    let i = c.loop-i.i in
    let so_far = c.loop-i.invariant.slots in
    let long = ap length so_far ∙ as_long_marked authors old i in
    let all = ap length c.self.view_is in
    let within : i < length old = omega (arith, c.loop-i-test.true, c.len-i-end.ensures, long, all) in
    elim c.if-contains.branch [
      | then-contains w ↦
          let here : authors i ≡ true = sym c.contains.ensures ∙ w.if-contains.true in
          rw w.self-inside-is
          record {
            slots = ap (slice_set items i) w.mark.ensures ∙ mark_one authors old items i w.index_mut.result.now so_far within w.index_mut.ensures.value here;
            unmarked = c.loop-i.invariant.unmarked;
          }
      | else-contains w ↦
          let fails : authors i ≡ false = sym c.contains.ensures ∙ w.if-contains.false in
          rw w.self-inside-is record { slots = mark_not authors old items i so_far fails; unmarked = c.loop-i.invariant.unmarked }
    ]

pub invariant_of-self : goal.invariant_of-self
invariant_of-self c =
    let authors = has c.args.authors.now in
    let old = c.args.self.now in
    let items = c.loop-i.self-inside.slots.items in
    let set = c.self.inside.unmarked in
    let long = ap length c.loop-i.invariant.slots ∙ as_long_marked authors old c.loop-i.i in
    let all = ap length c.self.view_is in
    let whole = c.loop-i.invariant.slots ∙ marked_whole authors old c.loop-i.i (omega (arith, c.loop-i-test.false, c.len-i-end.ensures, long, all)) in
    let changed : (other : ℕ) → has c.remove_all.new.self other ≡ (has set other && not (authors other)) = λ other. c.remove_all.ensures other
    ∙ ap (λ (s : MemberSet). has s other && not (authors other)) c.loop-i.invariant.unmarked in
    let before : IsRow old set = rw c.self.view_is at c.self.invariant in
    λ author. of_marked old set c.remove_all.new.self authors before changed author ∙ ap (λ row. is_unmarked row author) (sym whole)
