use Rattle.std.proofs.Common.{◌<◌, List, length, refl, ap, ◌∙◌, slice_set}
use Rattle.std.specs.Map.{values_of}
use Rattle.std.proofs.lemmas.List.Elements.{recursion_from_All, All-from_recursion}
use Rattle.indexmap.specs.IndexMap.{set_value_at}
use Rattle.wire.specs.declared.keys.Digest.{Digest}
use Rattle.batchstore.specs.Kept.{IsUnderItsDigest, TableView}
use Rattle.batchstore.specs.declared.held.Held.{Held}
use Rattle.batchstore.proofs.Keyed.{stands_at, values-set, keyed-set, table_is}
use Rattle.batchstore.proofs.table.Table.set_members.Goals as goal

pub invariant_of-self : goal.invariant_of-self
invariant_of-self c =
    let entries = c.self.inside.batches.entries in
    let low : c.args.place < length (values_of entries) = rw (← c.self.view_is) at c.requires in
    let there = stands_at (values_of entries) c.args.place low in
    let new : Held = record there.0 { acknowledged = c.args.members } in
    rw (c.write_members.ensures.entries there.0 there.1)
    (All-from_recursion IsUnderItsDigest (set_value_at entries c.args.place new)
    (keyed-set entries c.args.place there.0 new there.1 refl (recursion_from_All IsUnderItsDigest entries c.self.invariant)))

pub returns : goal.returns
returns c = λ before is.
    let entries = c.self.inside.batches.entries in
    let new : Held = record before { acknowledged = c.args.members } in
    let entry = c.write_members.ensures.entries before (rw (← c.self.view_is) at is) in
    table_is c.write_members.ensures.hasher (ap (λ (es : List (Digest × Held)). values_of es) entry ∙ values-set entries c.args.place new)
    ∙ ap (λ (t : TableView). record t { held = slice_set t.held c.args.place new }) c.self.view_is
