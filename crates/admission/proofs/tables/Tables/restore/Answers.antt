use Rattle.std.proofs.Common.{◌≡◌, ◌∙◌, ap, sym, subst}
use Rattle.std.specs.Map.{values_of}
use Rattle.committee.specs.Charter.{Charter}
use Rattle.batchstore.specs.Stock.{BatchStoreView, IsStock}
use Rattle.spec_model.specs.Words.{Author}
use Rattle.sequencer.specs.Restored.{ArePartsOf}
use Rattle.admission.specs.Batches.{HasBatches}
use Rattle.admission.specs.Kept.{IsSameTable, table_of, parts_of}
use Rattle.admission.proofs.Restored.{stock_in, votes_in, headers_in}
use Rattle.admission.proofs.tables.Tables.restore.Goals as goal

pub restore-requires-clause-stock : goal.restore-requires-clause-stock
restore-requires-clause-stock c =
    let kept = c.requires in
    let node = kept.0 in
    let held = values_of c.args.kept.batches.items in
    let stock : Charter → Author → BatchStoreView = λ x o. record { charter = x; own = o.0; seed = c.args.seed; held = held } in
    subst (λ (x : Charter). IsStock (stock x c.args.own)) kept.2
    (subst (λ (o : Author). IsStock (stock node.charter o)) kept.3
    (stock_in node kept.1 (stock node.charter node.own) kept.4.node_is kept.4.sound (kept.4.batches c.args.seed)))

pub returns-clause-at : goal.returns-clause-at
returns-clause-at c = λ node state charter own kept.
    let held = values_of c.args.kept.batches.items in
    let voted = c.args.kept.headers.items in
    let stock : Charter → Author → BatchStoreView = λ x o. record { charter = x; own = o.0; seed = c.args.seed; held = held } in
    let same : stock node.charter node.own ≡ c.in_ok-restore.field-0 =
    ap (λ (x : Charter). stock x node.own) charter ∙ ap (λ (o : Author). stock c.args.committee.now o) own ∙ sym c.in_ok-restore.ensures in
    let table : IsSameTable c.in_ok-restore-3.field-0 (table_of node.charter node.own.0 voted) =
    subst (λ (x : Charter). IsSameTable c.in_ok-restore-3.field-0 (table_of x node.own.0 voted)) (sym charter)
    (subst (λ (o : Author). IsSameTable c.in_ok-restore-3.field-0 (table_of c.args.committee.now o.0 voted)) (sym own) c.in_ok-restore-3.ensures) in
    record {
      own = sym own;
      batches = subst (HasBatches node state) same (kept.batches c.args.seed);
      votes = votes_in node state c.in_ok-restore-2.field-0 c.args.kept.votes.items c.in_ok-restore-2.ensures kept.votes;
      headers = headers_in node state c.in_ok-restore-3.field-0 (table_of node.charter node.own.0 voted) table kept.headers;
      sequence = c.in_ok-restore-4.ensures node state (subst (λ (x : Charter). ArePartsOf node state (parts_of x c.args.kept)) charter kept.parts);
    }
