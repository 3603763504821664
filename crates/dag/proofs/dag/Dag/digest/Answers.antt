use Rattle.std.proofs.Common.{◌≡◌, ◌∙◌, ℕ, ap, sym, Some, None}
use Rattle.std.specs.Prelude.{option_map}
use Rattle.spec_model.specs.Slots.{certificate_digest}
use Rattle.spec_model.specs.Words.{Certificate}
use Rattle.dag.specs.Graph.{DagView, digest_in}
use Rattle.dag.specs.Kept.{entry_at}
use Rattle.dag.proofs.Entries.{entry_seen, nothing_seen}
use Rattle.dag.proofs.dag.Dag.digest.Goals as goal

pub returns-in-Some : goal.returns-in-Some
returns-in-Some c =
    let inside = c.self.inside in
    let round = c.args.round in
    let author = c.args.author.0 in
    let there : entry_at inside.floor inside.rows.items round author ≡ Some c.in-Some.held.now =
    ap (λ (r : ℕ). entry_at inside.floor inside.rows.items r author) (sym c.number.ensures.value) ∙ sym c.in-Some.ensures in
    let facts = c.self.invariant.entries round author c.in-Some.held.now there in
    ap Some facts.digest
    ∙ sym (ap (option_map (λ (held : Certificate). certificate_digest held.header)) (entry_seen inside.committee.now inside.floor inside.base inside.rows.items round author c.in-Some.held.now there))
    ∙ ap (λ (g : DagView). digest_in g round author) c.self.view_is

pub returns-in-None : goal.returns-in-None
returns-in-None c =
    let inside = c.self.inside in
    let round = c.args.round in
    let author = c.args.author.0 in
    let none : entry_at inside.floor inside.rows.items round author ≡ None =
    ap (λ (r : ℕ). entry_at inside.floor inside.rows.items r author) (sym c.number.ensures.value) ∙ sym c.in-None.ensures in
    sym (ap (option_map (λ (held : Certificate). certificate_digest held.header)) (nothing_seen inside.committee.now inside.floor inside.base inside.rows.items round author none))
    ∙ ap (λ (g : DagView). digest_in g round author) c.self.view_is
