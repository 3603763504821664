use Rattle.std.proofs.Common.{◌≡◌, ℕ, ◌+◌, ◌-◌, Bool, true, false, List, [], ◌∷◌, ◌++◌, Some, None, refl, sym, ap, subst, ◌∙◌, arith}
use Rattle.std.specs.Prelude.{if◌then◌else◌}
use Rattle.spec_checkpoint.specs.Loading.{at_record, is_configuration, load_fault}
use Rattle.spec_checkpoint.specs.Reading.{is_cut_short, kind_of, with_record}
use Rattle.spec_checkpoint.specs.Records.{state_records}
use Rattle.spec_model.specs.Nodes.{node_view}
use Rattle.spec_records.specs.Records.{configuration_of}
use Rattle.checkpoint.specs.Reader.{IsReading, ReaderView, node_of, reader_of, records_so_far}
use Rattle.checkpoint.proofs.ReadOn.{begun_reading, cut_fault, first_fault, next_fault, next_reading, nothing_before}
use Rattle.checkpoint.proofs.reader.CheckpointReader.put.Given as given
use Rattle.checkpoint.proofs.reader.CheckpointReader.put.Goals as goal

pub returns-then-is_none-clause-fault : goal.returns-then-is_none-clause-fault
returns-then-is_none-clause-fault g c apart more =
    let inside = c.self.inside in
    let node = node_view g.S.Sign.scheme inside.node.now in
    let bytes = c.args.bytes.now in
    let off : is_configuration node bytes ≡ false = c.in_ok-found-in-None.ensures.is node refl refl ∙ c.if-is_none.ensures in
    subst (λ r. load_fault (node_of g.S.Sign.scheme r) (r.records ++ bytes ∷ more) ≡ Some (at_record 0)) c.self.view_is
    (ap (load_fault node) (nothing_before node inside.version inside.so_far (bytes ∷ more) c.in-None.is) ∙ first_fault node bytes more off)

pub invariant_of-self : goal.invariant_of-self
invariant_of-self g c =
    let inside = c.self.inside in
    let node = node_view g.S.Sign.scheme inside.node.now in
    (begun_reading node inside.version c.in_ok-found-in-None.found inside.count inside.so_far c.args.bytes.now c.in-None.is c.self.invariant c.if-is_none.ensures c.in_ok-found-in-None.ensures.found
    (c.in_ok-found-in-None.ensures.is node refl refl)).0

pub returns-then-is_cut_short-clause-fault : goal.returns-then-is_cut_short-clause-fault
returns-then-is_cut_short-clause-fault g c apart more =
    let inside = c.self.inside in
    let node = node_view g.S.Sign.scheme inside.node.now in
    let bytes = c.args.bytes.now in
    let version = c.in-Some.field-0 in
    let reading : IsReading node (Some version) inside.count inside.so_far = subst (λ v. IsReading node v inside.count inside.so_far) c.in-Some.is c.self.invariant in
    let short : is_cut_short inside.so_far (kind_of bytes) ≡ true = ap (is_cut_short inside.so_far) (sym c.kind_of.ensures) ∙ sym c.is_cut_short.ensures ∙ c.if-is_cut_short.true in
    let most = c.max.ensures in
    let place : inside.count - 1 - 1 + 1 ≡ c.max.result = omega (arith, most) in
    subst (λ r. load_fault (node_of g.S.Sign.scheme r) (r.records ++ bytes ∷ more) ≡ Some (at_record c.max.result)) c.self.view_is
    (ap (λ v. load_fault node (records_so_far node v inside.so_far ++ bytes ∷ more)) c.in-Some.is
    ∙ cut_fault c.read_as_written.ensures node version inside.count inside.so_far reading bytes more short ∙ ap (λ n. Some (at_record n)) place)

pub returns-then-not-branch-clause-fault : goal.returns-then-not-branch-clause-fault
returns-then-not-branch-clause-fault g c apart more =
    let inside = c.self.inside in
    let node = node_view g.S.Sign.scheme inside.node.now in
    let bytes = c.args.bytes.now in
    let version = c.in-Some.field-0 in
    let reading : IsReading node (Some version) inside.count inside.so_far = subst (λ v. IsReading node v inside.count inside.so_far) c.in-Some.is c.self.invariant in
    let uncut : is_cut_short inside.so_far (kind_of bytes) ≡ false = ap (is_cut_short inside.so_far) (sym c.kind_of.ensures) ∙ sym c.is_cut_short.ensures ∙ c.if-is_cut_short.false in
    let none : with_record node inside.so_far bytes ≡ None =
    c.in_ok-put-in-Some.ensures.read ∙ ap (λ (b : Bool). if b then Some c.put.new.self else None) c.if-not-branch.true in
    let counted = reading.counted in
    let place : inside.count - 1 + 1 ≡ inside.count = omega (arith, counted) in
    subst (λ r. load_fault (node_of g.S.Sign.scheme r) (r.records ++ bytes ∷ more) ≡ Some (at_record inside.count)) c.self.view_is
    (ap (λ v. load_fault node (records_so_far node v inside.so_far ++ bytes ∷ more)) c.in-Some.is
    ∙ next_fault c.read_as_written.ensures node version inside.count inside.so_far reading bytes more uncut none ∙ ap (λ n. Some (at_record n)) place)

-- what was read goes on
next_of : (g : given.Over) (c : goal.After-self-in-Some-1 g)
    → IsReading (node_view g.S.Sign.scheme c.self.inside.node.now) (Some c.in-Some.field-0) (c.self.inside.count + 1) c.put.new.self
    × (state_records c.put.new.self ≡ state_records c.self.inside.so_far ++ c.args.bytes.now ∷ [])
next_of g c =
    let inside = c.self.inside in
    let node = node_view g.S.Sign.scheme inside.node.now in
    let bytes = c.args.bytes.now in
    let version = c.in-Some.field-0 in
    let reading : IsReading node (Some version) inside.count inside.so_far = subst (λ v. IsReading node v inside.count inside.so_far) c.in-Some.is c.self.invariant in
    let uncut : is_cut_short inside.so_far (kind_of bytes) ≡ false = ap (is_cut_short inside.so_far) (sym c.kind_of.ensures) ∙ sym c.is_cut_short.ensures ∙ c.if-is_cut_short.false in
    let some : with_record node inside.so_far bytes ≡ Some c.put.new.self =
    c.in_ok-put-in-Some.ensures.read ∙ ap (λ (b : Bool). if b then Some c.put.new.self else None) c.if-not-branch.false in
    next_reading c.read_as_written.ensures node version inside.count inside.so_far reading bytes c.put.new.self uncut some c.are_bytes.ensures

pub invariant_of-self-in-Some : goal.invariant_of-self-in-Some
invariant_of-self-in-Some g c =
    let inside = c.self.inside in
    let node = node_view g.S.Sign.scheme inside.node.now in
    let more = c.in-Some-checked_add.ensures.1 in
    subst (λ (n : ℕ). IsReading node inside.version n c.put.new.self) (sym more) (subst (λ v. IsReading node v (inside.count + 1) c.put.new.self) (sym c.in-Some.is) (next_of g c).0)

-- a reader to which a record more came
abbrev with_more : {S : Type 0} → ReaderView S → List ℕ → ReaderView S
with_more reader bytes = record reader { records = reader.records ++ bytes ∷ [] }

pub returns-else-not-branch-clause-ok : goal.returns-else-not-branch-clause-ok
returns-else-not-branch-clause-ok g c =
    let inside = c.self.inside in
    let node = node_view g.S.Sign.scheme inside.node.now in
    let bytes = c.args.bytes.now in
    let version = c.in-Some.field-0 in
    let grown : records_so_far node inside.version c.put.new.self ≡ records_so_far node inside.version inside.so_far ++ bytes ∷ [] =
    ap (λ v. records_so_far node v c.put.new.self) c.in-Some.is
    ∙ ap (λ (l : List (List ℕ)). configuration_of version node.charter node.own ∷ l) (next_of g c).1
    ∙ sym (ap (λ v. records_so_far node v inside.so_far ++ bytes ∷ []) c.in-Some.is) in
    ap (reader_of inside.node.now) grown ∙ ap (λ r. with_more r bytes) c.self.view_is
