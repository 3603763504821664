use Rattle.std.proofs.Common.{◌≡◌, ◌-◌, ◌∙◌, ℕ, List, ap, sym, true, false, arith}
use Rattle.std.specs.Prelude.{nat_lt, nat_le, ◌&&◌}
use Rattle.std.specs.List.{list_all}
use Rattle.spec_model.specs.Holdings.{all_held}
use Rattle.spec_model.specs.Words.{ParentReference}
use Rattle.dag.specs.Graph.{DagView, slots_in}
use Rattle.dag.specs.Kept.{graph_of, entry_at}
use Rattle.dag.specs.Rows.{names}
use Rattle.dag.proofs.Entries.{all_low, all_named}
use Rattle.dag.proofs.dag.Dag.has_parents.Goals as goal

pub returns-then-is_under : goal.returns-then-is_under
returns-then-is_under c =
    let inside = c.self.inside in
    let header = c.args.header.now in
    let graph = graph_of inside.committee.now inside.floor inside.base inside.rows.items in
    let below : c.saturating_sub-below.result ≡ header.round - 1 = omega (arith, c.saturating_sub-below.ensures, c.number.ensures.value) in
    let low : (nat_lt 0 inside.floor && nat_le (header.round - 1) inside.floor) ≡ true =
    ap (λ (r : ℕ). nat_lt 0 inside.floor && nat_le r inside.floor) (sym below) ∙ sym c.is_under.ensures ∙ c.if-is_under.true in
    c.if-is_under.true ∙ sym (ap (λ (g : DagView). all_held (slots_in g) g.floor header) (sym c.self.view_is) ∙ all_low (slots_in graph) inside.floor header.round header.parents low)

pub returns-else-is_under : goal.returns-else-is_under
returns-else-is_under c =
    let inside = c.self.inside in
    let header = c.args.header.now in
    let rows = inside.rows.items in
    let below : c.saturating_sub-below.result ≡ header.round - 1 = omega (arith, c.saturating_sub-below.ensures, c.number.ensures.value) in
    let high : (nat_lt 0 inside.floor && nat_le (header.round - 1) inside.floor) ≡ false =
    ap (λ (r : ℕ). nat_lt 0 inside.floor && nat_le r inside.floor) (sym below) ∙ sym c.is_under.ensures ∙ c.if-is_under.false in
    c.are_there.ensures
    ∙ ap (λ (parents : List ParentReference). list_all (λ p. names (entry_at inside.floor rows c.saturating_sub-below.result p.author.0) p) parents) c.as_slice.ensures.value
    ∙ ap (λ (r : ℕ). list_all (λ (p : ParentReference). names (entry_at inside.floor rows r p.author.0) p) header.parents) below
    ∙ all_named inside.committee.now inside.floor inside.base rows c.self.invariant header.round high header.parents
    ∙ ap (λ (g : DagView). all_held (slots_in g) g.floor header) c.self.view_is
