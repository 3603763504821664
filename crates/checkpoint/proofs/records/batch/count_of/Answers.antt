use Rattle.std.proofs.Common.{◌+◌, ◌∷◌, [], length, length-append, ap, sym, ◌∙◌, arith, ◌≡◌}
use Rattle.checkpoint.specs.Kept.{members_below}
use Rattle.checkpoint.proofs.Members.{none_below, one_below, same_below}
use Rattle.checkpoint.proofs.records.batch.count_of.Goals.{then-contains, else-contains}
use Rattle.checkpoint.proofs.records.batch.count_of.Goals as goal

pub loop-member-init : goal.loop-member-init
loop-member-init c = record { counted = sym (ap length (none_below c.args.members.now)); few = omega arith }

pub loop-member-preserved : goal.loop-member-preserved
loop-member-preserved c =
    let set = c.args.members.now in
    let member = c.loop-member.member in
    let counted = c.loop-member.invariant.counted in
    let few = c.loop-member.invariant.few in
    elim c.if-contains.branch [
      | then-contains w ↦
          let more : length (members_below set (member + 1)) ≡ length (members_below set member) + 1 =
          ap length (one_below set member (sym c.contains.ensures ∙ w.if-contains.true)) ∙ length-append (members_below set member) (member ∷ []) in
          let next = w.count-is in
          record { counted = omega (arith, more, next, counted); few = omega (arith, next, few) }
      | else-contains w ↦
          let more : length (members_below set (member + 1)) ≡ length (members_below set member) = ap length (same_below set member (sym c.contains.ensures ∙ w.if-contains.false)) in
          let next = w.count-is in
          record { counted = omega (arith, more, next, counted); few = omega (arith, next, few) }
    ]
