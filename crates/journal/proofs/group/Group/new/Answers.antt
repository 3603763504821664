use Rattle.std.proofs.Common.{◌≡◌, ◌≤◌, ap, ◌∙◌, sym, length, arith, List, ℕ, Vec, Global}
use Rattle.std.proofs.lemmas.List.{length-map}
use Rattle.std.proofs.lemmas.Bool.{eqb-false}
use Rattle.std.specs.Vec.{vec_len}
use Rattle.journal.specs.Format.{FitsGroup, IsGroup, contents, group_bytes}
use Rattle.journal.specs.OneGroup.{records_are}
use Rattle.journal.proofs.Parts.{fits_from}
use Rattle.journal.proofs.group.Group.new.Goals as goal

pub invariant_of-result : goal.invariant_of-result
invariant_of-result c =
    let records = c.args.records.items in
    let counts : c.len.result ≡ length records = omega (arith, c.len.ensures, c.args.records.ok) in
    let some : 1 ≤ c.len.result = omega (arith, eqb-false (vec_len c.args.records) 0 (sym c.if-is_empty.ensures), c.len.ensures) in
    let fits : FitsGroup (contents records) = fits_from records c.deref.result.now c.len.result c.in-Some.len c.deref.ensures.value counts some (omega arith) c.in-Some.ensures in (
      record {
        records = contents records;
        fits = fits;
        written = c.in_ok-bytes.ensures ∙ ap (λ (rs : List (Vec ℕ Global)). group_bytes (contents rs)) c.deref-2.ensures.value;
        counts = omega (arith, c.len-count.ensures, c.args.records.ok, length-map records (λ (v : Vec ℕ Global). v.items));
      },
      tt,
    )

pub returns : goal.returns
returns c =
    let records = c.args.records.items in
    let counts : c.len.result ≡ length records = omega (arith, c.len.ensures, c.args.records.ok) in
    let some : 1 ≤ c.len.result = omega (arith, eqb-false (vec_len c.args.records) 0 (sym c.if-is_empty.ensures), c.len.ensures) in
    let fits : FitsGroup (contents records) = fits_from records c.deref.result.now c.len.result c.in-Some.len c.deref.ensures.value counts some (omega arith) c.in-Some.ensures in
    let bytes_are : c.in_ok-bytes.bytes.items ≡ group_bytes (contents records) = c.in_ok-bytes.ensures ∙ ap (λ (rs : List (Vec ℕ Global)). group_bytes (contents rs)) c.deref-2.ensures.value in
    let named : (group : IsGroup c.in_ok-bytes.bytes.items c.len-count.result) → group.records
    ≡ contents records = λ group. records_are c.in_ok-bytes.bytes.items c.len-count.result group (contents records) fits bytes_are in
    (fits, named (assumption c))
