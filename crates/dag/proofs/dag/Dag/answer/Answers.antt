use Rattle.std.proofs.Common.{◌≡◌, ◌∙◌, ℕ, ap, sym, false, Some, None}
use Rattle.spec_model.specs.Holdings.{is_low}
use Rattle.dag.specs.Graph.{DagView, slots_in}
use Rattle.dag.specs.Kept.{entry_at}
use Rattle.dag.proofs.Answering.{answer_held, answer_free}
use Rattle.dag.proofs.Entries.{entry_seen, nothing_seen}
use Rattle.dag.proofs.dag.Dag.answer.Goals as goal

pub held_answer-requires-clause-held : goal.held_answer-requires-clause-held
held_answer-requires-clause-held c =
    let inside = c.self.inside in
    let header = c.args.certificate.now.header in
    let there : entry_at inside.floor inside.rows.items header.round header.author.0 ≡ Some c.in-Some.held.now =
    ap (λ (r : ℕ). entry_at inside.floor inside.rows.items r header.author.0) (sym c.number.ensures.value) ∙ sym c.in-Some.ensures in
    (c.self.invariant.entries header.round header.author.0 c.in-Some.held.now there).digest

pub returns-in-Some : goal.returns-in-Some
returns-in-Some c =
    let inside = c.self.inside in
    let header = c.args.certificate.now.header in
    let there : entry_at inside.floor inside.rows.items header.round header.author.0 ≡ Some c.in-Some.held.now =
    ap (λ (r : ℕ). entry_at inside.floor inside.rows.items r header.author.0) (sym c.number.ensures.value) ∙ sym c.in-Some.ensures in
    let seen : slots_in c.args.self.now header.round header.author.0 ≡ Some c.in-Some.held.now.certificate =
    ap (λ (g : DagView). slots_in g header.round header.author.0) (sym c.self.view_is)
    ∙ entry_seen inside.committee.now inside.floor inside.base inside.rows.items header.round header.author.0 c.in-Some.held.now there in
    let high : is_low c.args.self.now.floor header.round ≡ false = sym c.is_low.ensures ∙ c.if-is_low.false in
    c.held_answer.ensures ∙ sym (answer_held c.args.self.now c.args.certificate.now c.in-Some.held.now.certificate high seen)

pub returns-in-None : goal.returns-in-None
returns-in-None c =
    let inside = c.self.inside in
    let header = c.args.certificate.now.header in
    let none : entry_at inside.floor inside.rows.items header.round header.author.0 ≡ None =
    ap (λ (r : ℕ). entry_at inside.floor inside.rows.items r header.author.0) (sym c.number.ensures.value) ∙ sym c.in-None.ensures in
    let free : slots_in c.args.self.now header.round header.author.0 ≡ None =
    ap (λ (g : DagView). slots_in g header.round header.author.0) (sym c.self.view_is)
    ∙ nothing_seen inside.committee.now inside.floor inside.base inside.rows.items header.round header.author.0 none in
    let high : is_low c.args.self.now.floor header.round ≡ false = sym c.is_low.ensures ∙ c.if-is_low.false in
    c.free_answer.ensures ∙ sym (answer_free c.args.self.now c.args.certificate.now high free)
