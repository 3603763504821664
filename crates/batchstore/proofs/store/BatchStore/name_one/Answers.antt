use Rattle.std.proofs.Common.{◌≡◌, List, ◌∷◌, [], Some, None, false, ap, sym, subst, ◌∙◌, slice_get}
use Rattle.std.specs.Prelude.{◌==◌, find}
use Rattle.std.proofs.lemmas.Bool.{eqb-true, not-true, not-false}
use Rattle.wire.specs.declared.keys.Author.{Author}
use Rattle.batchstore.specs.Stock.{BatchStoreView, IsStock, held_at}
use Rattle.batchstore.specs.Answer.{with_names}
use Rattle.batchstore.specs.Kept.{TableView}
use Rattle.batchstore.specs.declared.held.Held.{Held}
use Rattle.batchstore.proofs.Among.{is_of}
use Rattle.batchstore.proofs.Steps.{Stands, stands, marked, marked_view, unmarked, unheld}
use Rattle.batchstore.proofs.store.BatchStore.name_one.Goals as goal

pub returns-in-None : goal.returns-in-None
returns-in-None c =
    let stock = c.args.self.now in
    let none : held_at stock c.args.reference.now.digest ≡ None = sym c.in-None.ensures.held in
    sym (ap (λ (l : List Held). record stock { held = l }) (unheld stock.own stock.held c.args.reference.now none))

pub returns-then-ne : goal.returns-then-ne
returns-then-ne c =
    let stock = c.args.self.now in
    let digest = c.args.reference.now.digest in
    let old = c.in-Some.found.1.now in
    let valid : IsStock stock = subst IsStock c.self.view_is c.self.invariant.valid in
    let there : Stands stock.held digest c.in-Some.found.0 old = stands stock.held digest c.in-Some.found.0 old valid.distinct (sym c.in-Some.ensures.held) c.in-Some.ensures.place in
    let theirs : (old.batch.author.0 == stock.own) ≡ false =
    ap (λ (a : Author). a.0 == stock.own) (sym c.author.ensures) ∙ ap (λ (s : BatchStoreView). c.author.result.0 == s.own) (sym c.self.view_is)
    ∙ not-true (c.author.result.0 == c.self.inside.own.0) (sym c.ne.ensures ∙ c.if-ne.true) in
    sym (ap (λ (l : List Held). record stock { held = l }) (unmarked stock.own stock.held c.args.reference.now c.in-Some.found.0 old there theirs))

pub invariant_of-self : goal.invariant_of-self
invariant_of-self c =
    let inside = c.self.inside in
    let batches = inside.table.held in
    let place = c.in-Some.found.0 in
    let old = c.in-Some.found.1.now in
    let digest = c.args.reference.now.digest in
    let now_at : held_at c.args.self.now digest ≡ Some old = sym c.in-Some.ensures.held in
    let found : find (is_of digest) batches ≡ Some old = rw (← c.self.view_is) at now_at in
    let at : slice_get batches place ≡ Some old = rw (← c.self.view_is) at c.in-Some.ensures.place in
    let there : Stands batches digest place old = stands batches digest place old c.self.invariant.valid.distinct found at in
    let ours : old.batch.author.0 ≡ inside.own.0 =
    ap (λ (a : Author). a.0) (sym c.author.ensures) ∙ eqb-true c.author.result.0 inside.own.0 (not-false (c.author.result.0 == inside.own.0) (sym c.ne.ensures ∙ c.if-ne.false)) in
    rw (c.set_mark.ensures old at, c.remove.ensures.entries)
    (marked inside.committee.now inside.own.0 batches inside.nameable.entries digest place old c.self.invariant there ours)

pub returns : goal.returns
returns c =
    let inside = c.self.inside in
    let batches = inside.table.held in
    let place = c.in-Some.found.0 in
    let old = c.in-Some.found.1.now in
    let digest = c.args.reference.now.digest in
    let now_at : held_at c.args.self.now digest ≡ Some old = sym c.in-Some.ensures.held in
    let found : find (is_of digest) batches ≡ Some old = rw (← c.self.view_is) at now_at in
    let at : slice_get batches place ≡ Some old = rw (← c.self.view_is) at c.in-Some.ensures.place in
    let there : Stands batches digest place old = stands batches digest place old c.self.invariant.valid.distinct found at in
    let ours : old.batch.author.0 ≡ inside.own.0 =
    ap (λ (a : Author). a.0) (sym c.author.ensures) ∙ eqb-true c.author.result.0 inside.own.0 (not-false (c.author.result.0 == inside.own.0) (sym c.ne.ensures ∙ c.if-ne.false)) in
    let store : TableView → BatchStoreView = λ t. record { charter = inside.committee.now; own = inside.own.0; seed = t.seed; held = t.held } in
    ap store (c.set_mark.ensures old at) ∙ ap (λ (l : List Held). store (record inside.table { held = l })) (marked_view inside.own.0 batches c.args.reference.now place old there ours)
    ∙ ap (λ (s : BatchStoreView). with_names s (c.args.reference.now ∷ [])) c.self.view_is
