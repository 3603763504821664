use Rattle.std.proofs.Common.{◌∷◌, [], List, take, get_or, ap, sym, ◌∙◌}
use Rattle.std.proofs.lemmas.List.{take_more}
use Rattle.wire.specs.declared.references.BatchReference.{BatchReference}
use Rattle.batchstore.specs.Stock.{BatchStoreView}
use Rattle.batchstore.specs.Answer.{with_names}
use Rattle.batchstore.specs.declared.held.Held.{Held}
use Rattle.batchstore.proofs.Steps.{named_more, named_none}
use Rattle.batchstore.proofs.store.BatchStore.name.Goals as goal

pub loop-reference-init : goal.loop-reference-init
loop-reference-init c = sym (ap (λ (l : List Held). record c.args.self.now { held = l }) (named_none c.args.self.now.own c.args.self.now.held))

pub loop-reference-preserved : goal.loop-reference-preserved
loop-reference-preserved c =
    let stock = c.args.self.now in
    let references = c.args.batches.now in
    let index = c.loop-reference.reference-index in
    let default : BatchReference = record { digest = record { 0 = [] }; worker = 0 } in
    let last : BatchReference = get_or references index default in
    c.name_one.ensures ∙ ap (λ (s : BatchStoreView). with_names s (last ∷ [])) c.loop-reference.invariant
    ∙ ap (λ (l : List Held). record stock { held = l }) (named_more stock.own (take index references) last stock.held)
    ∙ ap (λ (rs : List BatchReference). with_names stock rs) (sym (take_more references index default c.loop-reference-test.true))
