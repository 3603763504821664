use Rattle.std.proofs.Common.{ap, ◌∙◌}
use Rattle.std.proofs.lemmas.List.Elements.{recursion_from_All}
use Rattle.batchstore.specs.Kept.{IsUnderItsDigest, TableView}
use Rattle.batchstore.specs.Stock.{found}
use Rattle.batchstore.proofs.Keyed.{lookup-found, value_at}
use Rattle.batchstore.proofs.table.Table.find.Goals as goal

pub returns-in-Some-clause-held : goal.returns-in-Some-clause-held
returns-in-Some-clause-held c =
    let entries = c.self.inside.batches.entries in
    c.in-Some.ensures.value ∙ lookup-found c.args.digest.now entries (recursion_from_All IsUnderItsDigest entries c.self.invariant)
    ∙ ap (λ (t : TableView). found c.args.digest.now t.held) c.self.view_is

pub returns-in-Some-clause-place : goal.returns-in-Some-clause-place
returns-in-Some-clause-place c =
    rw (← c.self.view_is) (value_at c.self.inside.batches.entries c.in-Some.place (c.in-Some.field-0-1.now, c.in-Some.held.now) c.in-Some.ensures.entry)

pub returns-in-None-clause-held : goal.returns-in-None-clause-held
returns-in-None-clause-held c =
    let entries = c.self.inside.batches.entries in
    c.in-None.ensures.value ∙ lookup-found c.args.digest.now entries (recursion_from_All IsUnderItsDigest entries c.self.invariant)
    ∙ ap (λ (t : TableView). found c.args.digest.now t.held) c.self.view_is
