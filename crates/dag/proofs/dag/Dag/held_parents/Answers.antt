use Rattle.std.proofs.Common.{◌≡◌, ◌-◌, ◌<◌, ◌∙◌, ℕ, List, ap, sym, subst, true, false, arith}
use Rattle.std.specs.Prelude.{◌==◌, ◌&&◌, All, nat_le, nat_lt}
use Rattle.std.specs.List.{list_all, list_any}
use Rattle.std.proofs.lemmas.List.Elements.{All-from_recursion}
use Rattle.committee.specs.declared.members.TheConstants.{MAX_MEMBERS}
use Rattle.spec_model.specs.Holdings.{all_held}
use Rattle.spec_model.specs.Words.{ParentReference}
use Rattle.dag.specs.Graph.{DagView, slots_in}
use Rattle.dag.specs.Kept.{entry_at, has_below}
use Rattle.dag.specs.Rows.{names}
use Rattle.dag.proofs.Entries.{all_named, all_within, any_besides, parent_bit}
use Rattle.dag.proofs.dag.Dag.held_parents.Goals as goal

pub authors_of-requires : goal.authors_of-requires
authors_of-requires c k d within =
    let full = c.self.invariant.full k d within in
    let size = c.self.invariant.valid.size.1 in
    omega (arith, full, size)

pub returns-then-is_under : goal.returns-then-is_under
returns-then-is_under c author =
    let inside = c.self.inside in
    let rows = inside.rows.items in
    let x = c.args.certificate.now in
    c.authors_of.ensures author
    ∙ ap (λ (r : ℕ). list_any (λ p. names (entry_at inside.floor rows (r - 1) p.author.0) p && (author == p.author.0)) c.as_slice-parents.result.now) c.number-below.ensures.value
    ∙ ap (λ (parents : List ParentReference). list_any (λ p. names (entry_at inside.floor rows (x.header.round - 1) p.author.0) p && (author == p.author.0)) parents)
    c.as_slice-parents.ensures.value
    ∙ parent_bit inside.committee.now inside.floor inside.base rows c.self.invariant x c.requires.positive author
    ∙ ap (λ (g : DagView). has_below (slots_in g) x author) c.self.view_is

-- above the floor each parent is there
all_there : (c : goal.Else-is_under) → let inside = c.self.inside in let header = c.args.certificate.now.header in
    list_all (λ (p : ParentReference). names (entry_at inside.floor inside.rows.items (header.round - 1) p.author.0) p) header.parents ≡ true
all_there c =
    let inside = c.self.inside in
    let header = c.args.certificate.now.header in
    let high : (nat_lt 0 inside.floor && nat_le (header.round - 1) inside.floor) ≡ false =
    ap (λ (r : ℕ). nat_lt 0 inside.floor && nat_le (r - 1) inside.floor) (sym c.number-below.ensures.value) ∙ sym c.is_under.ensures ∙ c.if-is_under.false in
    all_named inside.committee.now inside.floor inside.base inside.rows.items c.self.invariant header.round high header.parents
    ∙ ap (λ (g : DagView). all_held (slots_in g) g.floor header) c.self.view_is ∙ c.requires.held

pub authors-requires : goal.authors-requires
authors-requires c =
    let inside = c.self.inside in
    let header = c.args.certificate.now.header in
    subst (λ (parents : List ParentReference). All (λ p. p.author.0 < MAX_MEMBERS) parents) (sym c.as_slice-parents.ensures.value)
    (All-from_recursion (λ (p : ParentReference). p.author.0 < MAX_MEMBERS) header.parents
    (all_within _ MAX_MEMBERS inside.floor inside.rows.items (header.round - 1) c.self.invariant.valid.size.1 c.self.invariant.full header.parents (all_there c)))

pub returns : goal.returns
returns c author =
    let inside = c.self.inside in
    let rows = inside.rows.items in
    let x = c.args.certificate.now in
    c.authors.ensures author
    ∙ ap (λ (parents : List ParentReference). list_any (λ p. author == p.author.0) parents) c.as_slice-parents.ensures.value
    ∙ any_besides (λ p. names (entry_at inside.floor rows (x.header.round - 1) p.author.0) p) (λ p. author == p.author.0) x.header.parents (all_there c.before)
    ∙ parent_bit inside.committee.now inside.floor inside.base rows c.self.invariant x c.requires.positive author
    ∙ ap (λ (g : DagView). has_below (slots_in g) x author) c.self.view_is
