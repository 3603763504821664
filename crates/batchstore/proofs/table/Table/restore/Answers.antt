use Rattle.std.proofs.Common.{◌≡◌, [], List, ◌∙◌, ap, sym, subst, All}
use Rattle.std.specs.Map.{values_of}
use Rattle.std.specs.Str.{bytes_eq}
use Rattle.std.proofs.lemmas.Iterator.Adapters.{items_from_extend, YieldsList-from_vec}
use Rattle.std.proofs.lemmas.List.Elements.{recursion_from_All}
use Rattle.std.proofs.lemmas.Result.{IfOk-at_ok}
use Rattle.indexmap.specs.IndexMap.{Extends, hasher_of, insert_all}
use Rattle.wire.specs.declared.keys.Digest.{Digest}
use Rattle.batchstore.specs.Kept.{IsUnderItsDigest}
use Rattle.batchstore.proofs.Keyed.{table_is}
use Rattle.batchstore.proofs.Restored.{Entry, all_inserted}
use Rattle.batchstore.proofs.table.Table.restore.Goals as goal

-- the map has the entries of the list, and the seed with which it was made
made : (c : goal.In_ok-extend) → (c.extend.new.self.entries ≡ c.args.batches.items) × (hasher_of c.extend.new.self ≡ c.args.seed)
made c =
    let list = c.args.batches.items in
    let eq = λ (one other : Digest). bytes_eq one.0 other.0 in
    let road = YieldsList-from_vec list c.into_iter.ensures.rest (c.into_iter.ensures.len ∙ c.args.batches.ok.0) in
    let ran = items_from_extend {P = λ xs. Extends eq c.with_hasher-entries.result xs c.extend.new.self} c.extend.result c.extend.ensures.ran road in
    let fact = IfOk-at_ok (λ _. Extends eq c.with_hasher-entries.result list c.extend.new.self) c.in_ok-extend.was ran in (
      fact.0 ∙ ap (λ es. insert_all eq es list) c.with_hasher-entries.ensures.empty
          ∙ all_inserted [] list (recursion_from_All IsUnderItsDigest list c.requires.digested) c.requires.distinct,
      fact.2.1 ∙ c.with_hasher-entries.ensures.hasher,
    )

pub invariant_of-result : goal.invariant_of-result
invariant_of-result c = subst (All IsUnderItsDigest) (sym (made c).0) c.requires.digested

pub returns : goal.returns
returns c = table_is (made c).1 (ap (λ (es : List Entry). values_of es) (made c).0)
