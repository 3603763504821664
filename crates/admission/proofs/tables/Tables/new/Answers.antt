use Rattle.std.proofs.Common.{◌≡◌, ℕ, [], ap, sym, subst, ◌∙◌}
use Rattle.committee.specs.Charter.{Charter}
use Rattle.spec_model.specs.Words.{Author}
use Rattle.spec_machine.specs.Machine.{fresh}
use Rattle.votebook.specs.Votes.{Votes}
use Rattle.batchstore.specs.Stock.{BatchStoreView}
use Rattle.admission.specs.Headers.{AssembliesView, empty}
use Rattle.admission.specs.Headers as headers
use Rattle.admission.specs.Batches.{HasBatches}
use Rattle.admission.specs.Votes.{HasVotes}
use Rattle.admission.proofs.tables.Tables.new.Goals as goal

pub returns-clause-at : goal.returns-clause-at
returns-clause-at c = λ node charter own.
    let nothing = c.starts_empty.ensures node in
    let stock : Charter → ℕ → BatchStoreView = λ x o. record { charter = x; own = o; seed = c.args.seed; held = [] } in
    let none : stock node.charter node.own.0 ≡ c.new.result =
    ap (λ (x : Charter). stock x node.own.0) charter ∙ ap (λ (o : Author). stock c.args.committee.now o.0) own ∙ sym c.new.ensures in
    let unheaded : empty node.charter node.own.0 ≡ c.new-3.result =
    ap (λ (x : Charter). empty x node.own.0) charter ∙ ap (λ (o : Author). empty c.args.committee.now o.0) own ∙ sym c.new-3.ensures in
    record {
      own = sym own;
      batches = subst (λ (s : BatchStoreView). HasBatches node (fresh node) s) none (nothing.batches c.args.seed);
      votes = subst (λ (v : Votes). HasVotes node (fresh node) v) (sym c.new-2.ensures) nothing.votes;
      headers = subst (λ (h : AssembliesView). headers.IsAt node (fresh node) h) unheaded (c.starts_fresh.ensures node);
      sequence = c.in_ok-new.ensures node charter;
    }
