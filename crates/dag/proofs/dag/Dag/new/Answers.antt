use Rattle.std.proofs.Common.{◌≡◌, ◌∙◌, ◌++◌, ◌∷◌, [], ℕ, List, Option, length, ap}
use Rattle.dag.specs.Graph.{slots_in, marked_in, end_in}
use Rattle.dag.specs.Kept.{Rows, graph_of}
use Rattle.dag.specs.declared.entry.Entry.{Entry}
use Rattle.dag.proofs.First.{first_rows, first_kept, first_slots, first_marks}
use Rattle.dag.proofs.dag.Dag.new.Goals as goal

pub invariant_of-result : goal.invariant_of-result
invariant_of-result c =
    let charter = c.args.committee.now in
    let size : c.size-size.result ≡ length charter.keys = c.size-size.ensures.value in
    let rows : c.push_back.new.self.items ≡ first_rows (length charter.keys) =
    c.in_ok-push_back.ensures.items ∙ ap (λ (l : Rows). l ++ c.in_ok-first_row.field-0 ∷ []) c.new-rows.ensures.items ∙ ap (λ (row : List (Option Entry)). row ∷ []) c.in_ok-first_row.ensures
    ∙ ap first_rows size in
    rw (rows, c.genesis.ensures, c.round_of.ensures) (first_kept charter c.limits_hold.ensures)

pub returns-clause-slots : goal.returns-clause-slots
returns-clause-slots c round author =
    let charter = c.args.committee.now in
    let size : c.size-size.result ≡ length charter.keys = c.size-size.ensures.value in
    let rows : c.push_back.new.self.items ≡ first_rows (length charter.keys) =
    c.in_ok-push_back.ensures.items ∙ ap (λ (l : Rows). l ++ c.in_ok-first_row.field-0 ∷ []) c.new-rows.ensures.items ∙ ap (λ (row : List (Option Entry)). row ∷ []) c.in_ok-first_row.ensures
    ∙ ap first_rows size in
    ap (λ (l : Rows). slots_in (graph_of charter c.genesis.result c.round_of.result l) round author) rows
    ∙ ap (λ (f : ℕ). slots_in (graph_of charter f c.round_of.result (first_rows (length charter.keys))) round author) c.genesis.ensures
    ∙ first_slots charter c.round_of.result round author

pub returns-clause-marked : goal.returns-clause-marked
returns-clause-marked c round author =
    let charter = c.args.committee.now in
    let size : c.size-size.result ≡ length charter.keys = c.size-size.ensures.value in
    let rows : c.push_back.new.self.items ≡ first_rows (length charter.keys) =
    c.in_ok-push_back.ensures.items ∙ ap (λ (l : Rows). l ++ c.in_ok-first_row.field-0 ∷ []) c.new-rows.ensures.items ∙ ap (λ (row : List (Option Entry)). row ∷ []) c.in_ok-first_row.ensures
    ∙ ap first_rows size in
    ap (λ (l : Rows). marked_in (graph_of charter c.genesis.result c.round_of.result l) round author) rows
    ∙ ap (λ (f : ℕ). marked_in (graph_of charter f c.round_of.result (first_rows (length charter.keys))) round author) c.genesis.ensures
    ∙ first_marks charter c.round_of.result round author

pub returns-clause-end : goal.returns-clause-end
returns-clause-end c =
    let charter = c.args.committee.now in
    let size : c.size-size.result ≡ length charter.keys = c.size-size.ensures.value in
    let rows : c.push_back.new.self.items ≡ first_rows (length charter.keys) =
    c.in_ok-push_back.ensures.items ∙ ap (λ (l : Rows). l ++ c.in_ok-first_row.field-0 ∷ []) c.new-rows.ensures.items ∙ ap (λ (row : List (Option Entry)). row ∷ []) c.in_ok-first_row.ensures
    ∙ ap first_rows size in
    ap (λ (l : Rows). end_in (graph_of charter c.genesis.result c.round_of.result l)) rows
    ∙ ap (λ (f : ℕ). end_in (graph_of charter f c.round_of.result (first_rows (length charter.keys)))) c.genesis.ensures
