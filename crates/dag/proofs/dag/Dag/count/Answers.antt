use Rattle.std.proofs.Common.{◌-◌, ◌∙◌, ℕ, ap, sym, None, slice_get}
use Rattle.std.specs.Prelude.{nat_le, count_by, is_some, if◌then◌else◌}
use Rattle.std.specs.Option.{option_map_or}
use Rattle.dag.specs.Graph.{DagView, count_in}
use Rattle.dag.proofs.Looking.{count_kept}
use Rattle.dag.proofs.dag.Dag.count.Goals as goal

pub returns-in-Some : goal.returns-in-Some
returns-in-Some c =
    let inside = c.self.inside in
    let round = c.args.round in
    c.count.ensures ∙ ap (λ o. option_map_or (λ row. count_by is_some row) o 0) c.in-Some.ensures
    ∙ ap (λ (r : ℕ). option_map_or (λ row. count_by is_some row) (if nat_le inside.floor r then slice_get inside.rows.items (r - inside.floor) else None) 0) c.number.ensures.value
    ∙ sym (count_kept inside.committee.now inside.floor inside.base inside.rows.items round)
    ∙ ap (λ (g : DagView). count_in g round) c.self.view_is

pub returns-in-None : goal.returns-in-None
returns-in-None c =
    let inside = c.self.inside in
    let round = c.args.round in
    ap (λ o. option_map_or (λ row. count_by is_some row) o 0) c.in-None.ensures
    ∙ ap (λ (r : ℕ). option_map_or (λ row. count_by is_some row) (if nat_le inside.floor r then slice_get inside.rows.items (r - inside.floor) else None) 0) c.number.ensures.value
    ∙ sym (count_kept inside.committee.now inside.floor inside.base inside.rows.items round)
    ∙ ap (λ (g : DagView). count_in g round) c.self.view_is
