use Rattle.std.proofs.Common.{◌≡◌, ◌<◌, ◌++◌, ◌∷◌, [], List, None, length, false, refl, ap, ◌∙◌}
use Rattle.std.specs.Prelude.{find}
use Rattle.std.proofs.lemmas.Bool.{leb-false}
use Rattle.committee.specs.declared.sets.MemberSet.{MemberSet}
use Rattle.batchstore.specs.Answer.{with_batch}
use Rattle.batchstore.specs.Kept.{TableView}
use Rattle.batchstore.specs.Stock.{BatchStoreView}
use Rattle.batchstore.specs.declared.held.Held.{Held}
use Rattle.batchstore.proofs.Among.{is_of}
use Rattle.batchstore.proofs.Answering.{unheld, has_room}
use Rattle.batchstore.proofs.Members.{none_is}
use Rattle.batchstore.proofs.Steps.{pushed}
use Rattle.batchstore.proofs.store.BatchStore.hold.Goals as goal

pub invariant_of-self-2 : goal.invariant_of-self-2
invariant_of-self-2 c =
    let inside = c.self.inside in
    let added : Held = record { batch = c.args.batch; acknowledged = c.none.result; named = false } in
    let unfound : find (is_of c.args.digest) inside.table.held ≡ None = rw (← c.self.view_is) at (unheld c.args.self.now c.args.digest c.args.batch c.requires.digested c.requires.new) in
    let room : length inside.table.held < inside.committee.now.batches = leb-false inside.committee.now.batches (length inside.table.held)
    (rw (← c.self.view_is) at (has_room c.args.self.now c.args.batch c.requires.new)) in
    rw c.in_ok-push.ensures.ok
    (pushed inside.committee.now inside.own.0 inside.table.held inside.nameable.entries c.args.digest added c.self.invariant c.requires.digested unfound room c.none.ensures refl)

pub push-requires-clause-new : goal.push-requires-clause-new
push-requires-clause-new c = rw (← c.self.view_is) at (unheld c.args.self.now c.args.digest c.args.batch c.requires.digested c.requires.new)

pub returns-clause-ok : goal.returns-clause-ok
returns-clause-ok c =
    let inside = c.self.inside in
    let store : TableView → BatchStoreView = λ t. record { charter = inside.committee.now; own = inside.own.0; seed = t.seed; held = t.held } in
    let one : MemberSet → Held = λ m. record { batch = c.args.batch; acknowledged = m; named = false } in
    ap store c.in_ok-push.ensures.ok ∙ ap (λ (m : MemberSet). store (record inside.table { held = inside.table.held ++ one m ∷ [] })) (none_is c.none.result c.none.ensures)
    ∙ ap (λ (s : BatchStoreView). with_batch s c.args.batch) c.self.view_is
