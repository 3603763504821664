use Rattle.std.proofs.Common.{◌≡◌, ◌<◌, ◌-◌, ◌∙◌, Some, [], length, ap, sym, refl, subst, false, true, arith}
use Rattle.std.specs.Prelude.{All, get_or}
use Rattle.spec_model.specs.Holdings.{all_held}
use Rattle.dag.specs.Changes.{IsWith}
use Rattle.dag.specs.Graph.{DagView, slots_in}
use Rattle.dag.specs.Kept.{Rows, graph_of, IsKept}
use Rattle.dag.specs.declared.entry.Entry.{Entry}
use Rattle.dag.proofs.Inserting.{Enters, extended, entered, is_near, long_enough, full_row, kept_with, is_with}
use Rattle.dag.proofs.Slots.{set_slot}
use Rattle.dag.proofs.dag.Dag.place.Goals as goal

pub invariant_of-self-2 : goal.invariant_of-self-2
invariant_of-self-2 c =
    let inside = c.self.inside in
    let charter = inside.committee.now in
    let rows = inside.rows.items in
    let x = c.args.certificate in
    let entry : Entry = record { certificate = x; digest = c.args.digest; parents = c.held_parents-parents.result; marked = false } in
    let size : c.size-size.result ≡ length charter.keys = c.size-size.ensures.value in
    let place : c.slot_of-place.result.0 ≡ x.header.round - inside.floor =
    ap (λ p. p.0) c.slot_of-place.ensures.value ∙ ap (λ (g : DagView). x.header.round - g.floor) (sym c.self.view_is) in
    let author : c.slot_of-place.result.1 ≡ x.header.author = ap (λ p. p.1) c.slot_of-place.ensures.value in
    let all : c.put.new.rows.items ≡ entered (length charter.keys) inside.floor rows entry =
    c.put.ensures
    ∙ ap (λ (l : Rows). set_slot l c.slot_of-place.result.0 c.slot_of-place.result.1.0 (Some entry)) c.in_ok-extend.ensures.ok
    ∙ ap (λ n. set_slot (extended n rows c.slot_of-place.result.0) c.slot_of-place.result.0 c.slot_of-place.result.1.0 (Some entry)) size
    ∙ ap (λ p. set_slot (extended (length charter.keys) rows p) p c.slot_of-place.result.1.0 (Some entry)) place
    ∙ ap (λ a. set_slot (extended (length charter.keys) rows (x.header.round - inside.floor)) (x.header.round - inside.floor) a.0 (Some entry)) author in
    let held : all_held (slots_in (graph_of charter inside.floor inside.base rows)) inside.floor x.header ≡ true = rw (← c.self.view_is) at c.requires.held in
    let enters : Enters charter inside.floor inside.base rows entry = record {
      kept = c.self.invariant;
      member = rw (← c.self.view_is) at c.requires.member;
      limit = c.slot_of-place.ensures.round;
      positive = c.requires.positive;
      above = rw (← c.self.view_is) at c.requires.above;
      unnamed = rw (← c.self.view_is) at c.requires.unnamed;
      free = rw (← c.self.view_is) at c.requires.free;
      held = held;
      digest = c.requires.digested;
      parents = rw (← c.self.view_is) at c.held_parents-parents.ensures;
      without_mark = refl;
      near = is_near charter inside.floor inside.base rows x c.requires.named held;
    } in
    subst (λ l. IsKept charter inside.floor inside.base l) (sym all) (kept_with charter inside.floor inside.base rows entry enters)

pub returns-clause-ok : goal.returns-clause-ok
returns-clause-ok c =
    let inside = c.self.inside in
    let charter = inside.committee.now in
    let rows = inside.rows.items in
    let x = c.args.certificate in
    let entry : Entry = record { certificate = x; digest = c.args.digest; parents = c.held_parents-parents.result; marked = false } in
    let size : c.size-size.result ≡ length charter.keys = c.size-size.ensures.value in
    let place : c.slot_of-place.result.0 ≡ x.header.round - inside.floor =
    ap (λ p. p.0) c.slot_of-place.ensures.value ∙ ap (λ (g : DagView). x.header.round - g.floor) (sym c.self.view_is) in
    let author : c.slot_of-place.result.1 ≡ x.header.author = ap (λ p. p.1) c.slot_of-place.ensures.value in
    let all : c.put.new.rows.items ≡ entered (length charter.keys) inside.floor rows entry =
    c.put.ensures
    ∙ ap (λ (l : Rows). set_slot l c.slot_of-place.result.0 c.slot_of-place.result.1.0 (Some entry)) c.in_ok-extend.ensures.ok
    ∙ ap (λ n. set_slot (extended n rows c.slot_of-place.result.0) c.slot_of-place.result.0 c.slot_of-place.result.1.0 (Some entry)) size
    ∙ ap (λ p. set_slot (extended (length charter.keys) rows p) p c.slot_of-place.result.1.0 (Some entry)) place
    ∙ ap (λ a. set_slot (extended (length charter.keys) rows (x.header.round - inside.floor)) (x.header.round - inside.floor) a.0 (Some entry)) author in
    let held : all_held (slots_in (graph_of charter inside.floor inside.base rows)) inside.floor x.header ≡ true = rw (← c.self.view_is) at c.requires.held in
    let enters : Enters charter inside.floor inside.base rows entry = record {
      kept = c.self.invariant;
      member = rw (← c.self.view_is) at c.requires.member;
      limit = c.slot_of-place.ensures.round;
      positive = c.requires.positive;
      above = rw (← c.self.view_is) at c.requires.above;
      unnamed = rw (← c.self.view_is) at c.requires.unnamed;
      free = rw (← c.self.view_is) at c.requires.free;
      held = held;
      digest = c.requires.digested;
      parents = rw (← c.self.view_is) at c.held_parents-parents.ensures;
      without_mark = refl;
      near = is_near charter inside.floor inside.base rows x c.requires.named held;
    } in
    let with : IsWith (graph_of charter inside.floor inside.base rows) (graph_of charter inside.floor inside.base c.put.new.rows.items) x =
    subst (λ l. IsWith (graph_of charter inside.floor inside.base rows) (graph_of charter inside.floor inside.base l) x) (sym all) (is_with charter inside.floor inside.base rows entry enters) in
    subst (λ (g : DagView). IsWith g (graph_of charter inside.floor inside.base c.put.new.rows.items) x) c.self.view_is with

pub put-requires-clause-row : goal.put-requires-clause-row
put-requires-clause-row c =
    let place = c.slot_of-place.result.0 in
    subst (λ (l : Rows). place < length l) (sym c.in_ok-extend.ensures.ok) (long_enough c.size-size.result c.self.inside.rows.items place)

pub put-requires-clause-slot : goal.put-requires-clause-slot
put-requires-clause-slot c =
    let inside = c.self.inside in
    let rows = inside.rows.items in
    let place = c.slot_of-place.result.0 in
    let author = c.slot_of-place.result.1 in
    let size = c.size-size.ensures.value in
    let full = full_row c.size-size.result rows place (subst (λ n. All (λ row. length row ≡ n) rows) (sym size) c.self.invariant.full) in
    let is : author.0 ≡ c.args.certificate.header.author.0 = ap (λ p. p.1.0) c.slot_of-place.ensures.value in
    let member : c.args.certificate.header.author.0 < length inside.committee.now.keys = rw (← c.self.view_is) at c.requires.member in
    subst (λ (l : Rows). author.0 < length (get_or l place [])) (sym c.in_ok-extend.ensures.ok) (omega (arith, full, is, size, member))
