use Rattle.std.proofs.Common.{◌≡◌, ◌≢◌, ◌<◌, List, Some, refl, ap, sym, ◌∙◌, slice_get, slice_set, length}
use Rattle.std.specs.Prelude.{find}
use Rattle.batchstore.specs.Stock.{BatchStoreView, held_at}
use Rattle.batchstore.specs.Answer.{with_ack}
use Rattle.batchstore.specs.Kept.{TableView}
use Rattle.batchstore.specs.declared.held.Held.{Held}
use Rattle.batchstore.proofs.Among.{is_of}
use Rattle.batchstore.proofs.Steps.{Stands, stands, with_acks, acked_new, acked_same, acked_view, own_of, other_than}
use Rattle.batchstore.proofs.store.BatchStore.count.Goals as goal
use Rattle.batchstore.proofs.store.BatchStore.count.Goals.{then-becomes_nameable+in_ok-insert, else-becomes_nameable}

pub invariant_of-self-2 : goal.invariant_of-self-2
invariant_of-self-2 c =
    let inside = c.self.inside in
    let table = inside.table in
    let batches = table.held in
    let place = c.args.place in
    let old = c.in-Some.held.now in
    let members = c.insert.new.self in
    let digest = c.args.digest.now in
    let at : slice_get batches place ≡ Some old = sym c.in-Some.ensures in
    let now_at : held_at c.args.self.now digest ≡ Some old =
    sym c.requires.place ∙ ap (λ (s : BatchStoreView). slice_get s.held place) (sym c.self.view_is) ∙ at in
    let found : find (is_of digest) batches ≡ Some old = rw (← c.self.view_is) at now_at in
    let there : Stands batches digest place old = stands batches digest place old c.self.invariant.valid.distinct found at in
    let ours : old.batch.author.0 ≡ inside.own.0 = own_of c.args.self.now digest old now_at c.requires.ours ∙ ap (λ (s : BatchStoreView). s.own) (sym c.self.view_is) in
    let other : c.args.author.0 ≢ inside.own.0 = λ e. other_than c.args.self.now digest c.args.author.0 c.requires.other (e ∙ ap (λ (s : BatchStoreView). s.own) c.self.view_is) in
    let within : c.args.author.0 < length inside.committee.now.keys = rw (← c.self.view_is) at c.requires.member in
    elim c.if-becomes_nameable.branch [
      | then-becomes_nameable+in_ok-insert w ↦
          let same : c.if-becomes_nameable.self-inside.table ≡ table = rw w.self-inside-is refl in
          let at_inside : slice_get c.if-becomes_nameable.self-inside.table.held place ≡ Some old = rw same at in
          let set : c.set_members.new.self ≡ record table { held = slice_set batches place (with_acks old members) } =
          c.set_members.ensures old at_inside ∙ ap (λ (t : TableView). record t { held = slice_set t.held place (with_acks old members) }) same in
          rw (w.self-inside-is, set, w.in_ok-insert.ensures.entries, c.worker-worker.ensures)
          (acked_new inside.committee.now inside.own.0 batches inside.nameable.entries digest place old c.args.author.0 members
          c.self.invariant there ours within other c.insert.ensures (sym c.becomes_nameable.ensures ∙ w.if-becomes_nameable.true))
      | else-becomes_nameable w ↦
          let same : c.if-becomes_nameable.self-inside.table ≡ table = rw w.self-inside-is refl in
          let at_inside : slice_get c.if-becomes_nameable.self-inside.table.held place ≡ Some old = rw same at in
          let set : c.set_members.new.self ≡ record table { held = slice_set batches place (with_acks old members) } =
          c.set_members.ensures old at_inside ∙ ap (λ (t : TableView). record t { held = slice_set t.held place (with_acks old members) }) same in
          rw (w.self-inside-is, set)
          (acked_same inside.committee.now inside.own.0 batches inside.nameable.entries digest place old c.args.author.0 members
          c.self.invariant there ours within other c.insert.ensures (sym c.becomes_nameable.ensures ∙ w.if-becomes_nameable.false))
    ]

pub returns-clause-ok : goal.returns-clause-ok
returns-clause-ok c =
    let inside = c.self.inside in
    let table = inside.table in
    let batches = table.held in
    let place = c.args.place in
    let old = c.in-Some.held.now in
    let members = c.insert.new.self in
    let digest = c.args.digest.now in
    let at : slice_get batches place ≡ Some old = sym c.in-Some.ensures in
    let now_at : held_at c.args.self.now digest ≡ Some old =
    sym c.requires.place ∙ ap (λ (s : BatchStoreView). slice_get s.held place) (sym c.self.view_is) ∙ at in
    let found : find (is_of digest) batches ≡ Some old = rw (← c.self.view_is) at now_at in
    let there : Stands batches digest place old = stands batches digest place old c.self.invariant.valid.distinct found at in
    let store : TableView → BatchStoreView = λ t. record { charter = inside.committee.now; own = inside.own.0; seed = t.seed; held = t.held } in
    elim c.if-becomes_nameable.branch [
      | then-becomes_nameable+in_ok-insert w ↦
          let same : c.if-becomes_nameable.self-inside.table ≡ table = rw w.self-inside-is refl in
          let at_inside : slice_get c.if-becomes_nameable.self-inside.table.held place ≡ Some old = rw same at in
          let set : c.set_members.new.self ≡ record table { held = slice_set batches place (with_acks old members) } =
          c.set_members.ensures old at_inside ∙ ap (λ (t : TableView). record t { held = slice_set t.held place (with_acks old members) }) same in
          rw (w.self-inside-is)
          (ap store set ∙ ap (λ (l : List Held). store (record table { held = l })) (acked_view batches digest place old c.args.author.0 members there c.insert.ensures)
          ∙ ap (λ (s : BatchStoreView). with_ack s digest c.args.author.0) c.self.view_is)
      | else-becomes_nameable w ↦
          let same : c.if-becomes_nameable.self-inside.table ≡ table = rw w.self-inside-is refl in
          let at_inside : slice_get c.if-becomes_nameable.self-inside.table.held place ≡ Some old = rw same at in
          let set : c.set_members.new.self ≡ record table { held = slice_set batches place (with_acks old members) } =
          c.set_members.ensures old at_inside ∙ ap (λ (t : TableView). record t { held = slice_set t.held place (with_acks old members) }) same in
          rw (w.self-inside-is)
          (ap store set ∙ ap (λ (l : List Held). store (record table { held = l })) (acked_view batches digest place old c.args.author.0 members there c.insert.ensures)
          ∙ ap (λ (s : BatchStoreView). with_ack s digest c.args.author.0) c.self.view_is)
    ]
