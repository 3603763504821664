use Rattle.std.proofs.Common.{◌≡◌, List, ◌∷◌, [], ◌++◌, None, ap, ◌∙◌}
use Rattle.std.specs.Map.{values_of}
use Rattle.std.specs.Str.{bytes_eq}
use Rattle.std.proofs.lemmas.List.Elements.{recursion_from_All, All-from_recursion}
use Rattle.indexmap.specs.IndexMap.{get}
use Rattle.indexmap.proofs.CallerLemmas.{insert_entry-new}
use Rattle.wire.specs.declared.keys.Digest.{Digest}
use Rattle.batchstore.specs.Kept.{IsUnderItsDigest, TableView}
use Rattle.batchstore.specs.Stock.{found}
use Rattle.batchstore.specs.declared.held.Held.{Held}
use Rattle.batchstore.proofs.Keyed.{lookup-found, values-push, keyed-push, table_is}
use Rattle.batchstore.proofs.table.Table.push.Goals as goal

pub invariant_of-self-2 : goal.invariant_of-self-2
invariant_of-self-2 c =
    let entries = c.self.inside.batches.entries in
    let keyed = recursion_from_All IsUnderItsDigest entries c.self.invariant in
    let unfound : found c.args.digest (values_of entries) ≡ None = rw (← c.self.view_is) at c.requires.new in
    let absent : get (λ (x y : Digest). bytes_eq x.0 y.0) c.self.inside.batches c.args.digest ≡ None = lookup-found c.args.digest entries keyed ∙ unfound in
    let grown : c.insert.new.self.entries ≡ entries ++ (c.args.digest, c.args.held) ∷ [] =
    c.in_ok-insert.ensures.entries ∙ insert_entry-new (λ (x y : Digest). bytes_eq x.0 y.0) c.self.inside.batches c.args.digest c.args.held absent in
    rw grown (All-from_recursion IsUnderItsDigest (entries ++ (c.args.digest, c.args.held) ∷ []) (keyed-push entries c.args.digest c.args.held c.requires.digested keyed))

pub returns-clause-ok : goal.returns-clause-ok
returns-clause-ok c =
    let entries = c.self.inside.batches.entries in
    let keyed = recursion_from_All IsUnderItsDigest entries c.self.invariant in
    let unfound : found c.args.digest (values_of entries) ≡ None = rw (← c.self.view_is) at c.requires.new in
    let absent : get (λ (x y : Digest). bytes_eq x.0 y.0) c.self.inside.batches c.args.digest ≡ None = lookup-found c.args.digest entries keyed ∙ unfound in
    let grown : c.insert.new.self.entries ≡ entries ++ (c.args.digest, c.args.held) ∷ [] =
    c.in_ok-insert.ensures.entries ∙ insert_entry-new (λ (x y : Digest). bytes_eq x.0 y.0) c.self.inside.batches c.args.digest c.args.held absent in
    table_is c.insert.ensures.hasher (ap (λ (es : List (Digest × Held)). values_of es) grown ∙ values-push entries c.args.digest c.args.held)
    ∙ ap (λ (t : TableView). record t { held = t.held ++ c.args.held ∷ [] }) c.self.view_is
