use Rattle.std.proofs.Common.{subst, arith}
use Rattle.spec_records.specs.Records.{record_of}
use Rattle.book.specs.Pending.{HasRoom, HasNoRoom}
use Rattle.book.proofs.Packs.{packed_in_last, packed_after, one_fits}
use Rattle.book.proofs.pending.Pending.put.Goals as goal

pub invariant_of-self : goal.invariant_of-self
invariant_of-self c =
    let items = c.self.inside.drafts.items in
    let room = subst (HasRoom items) c.requires.len (c.last_has_room.ensures.room c.if-last_has_room.true) in
    packed_in_last c.put_into_last.result items c.put_into_last.new.drafts.items (record_of c.args.event.now) room c.put_into_last.ensures.ok c.put_into_last.ensures.err c.self.invariant

pub invariant_of-self-else-last_has_room : goal.invariant_of-self-else-last_has_room
invariant_of-self-else-last_has_room c =
    let items = c.self.inside.drafts.items in
    let none = subst (HasNoRoom items) c.requires.len (c.last_has_room.ensures.none c.if-last_has_room.false) in
    packed_after c.put_after.result items c.put_after.new.drafts.items (record_of c.args.event.now) none
    (one_fits (record_of c.args.event.now) (omega (arith, c.requires.short, c.requires.len))) c.put_after.ensures.ok c.put_after.ensures.err
    c.self.invariant
