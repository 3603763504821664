use Rattle.std.proofs.Common.{◌++◌, ℕ, List, ap, sym, ◌∙◌}
use Rattle.std.specs.Global.{Vec}
use Rattle.std.specs.Int.{w16, to_be_bytes}
use Rattle.std.specs.List.{flat_map}
use Rattle.std.proofs.lemmas.List.{append-nil}
use Rattle.checkpoint.proofs.Members.{bytes_more, none_below, same_below}
use Rattle.checkpoint.proofs.records.batch.put_members.Goals.{then-contains+in_ok-extend_from_slice, else-contains}
use Rattle.checkpoint.proofs.records.batch.put_members.Goals as goal

pub loop-member-init : goal.loop-member-init
loop-member-init c =
    let start = c.args.bytes.now.items in
    sym (ap (λ l. start ++ flat_map (to_be_bytes w16) l) (none_below c.args.members.now) ∙ append-nil start)

pub loop-member-preserved : goal.loop-member-preserved
loop-member-preserved c =
    let set = c.args.members.now in
    let member = c.loop-member.member in
    let start = c.args.bytes.now.items in
    let before = c.loop-member.bytes.items in
    elim c.if-contains.branch [
      | then-contains+in_ok-extend_from_slice w ↦
          ap (λ (v : Vec ℕ). v.items) w.bytes-is ∙ w.in_ok-extend_from_slice.ensures.items ∙ ap (λ (l : List ℕ). before ++ l) w.two_bytes.ensures.bytes
          ∙ bytes_more (to_be_bytes w16) set member start before (sym c.contains.ensures ∙ w.if-contains.true) c.loop-member.invariant
      | else-contains w ↦
          ap (λ (v : Vec ℕ). v.items) w.bytes-is ∙ c.loop-member.invariant
          ∙ ap (λ (l : List ℕ). start ++ flat_map (to_be_bytes w16) l) (sym (same_below set member (sym c.contains.ensures ∙ w.if-contains.false)))
    ]
