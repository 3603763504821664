use Rattle.std.proofs.Common.{◌≡◌, ◌+◌, ◌<◌, ◌++◌, ◌∷◌, [], ℕ, List, drop, refl, ap, arith}
use Rattle.std.proofs.lemmas.List.Elements.{All-from_get_or}
use Rattle.wire.specs.Batches.{IsOpen, IsTransaction, transaction_bytes, transactions_in}
use Rattle.wire.proofs.Transactions.{few, grows, so_many}
use Rattle.wire.proofs.batch.OpenBatch.push.Goals.{After-put_transaction}
use Rattle.wire.proofs.batch.OpenBatch.push.Goals as goal

pub overflow_add-self : goal.overflow_add-self
overflow_add-self c =
    let transactions = transactions_in c.self.inside.count (drop 8 c.self.inside.body.items) in
    omega (arith, few transactions, so_many c.self.inside.count (drop 8 c.self.inside.body.items), c.self.invariant.fits.short)

-- the body with the transaction is one that grows, and has the transaction after the others
grown : (c : After-put_transaction)
    → IsOpen c.self.inside.author c.self.inside.worker (c.self.inside.count + 1) c.put_transaction.new.body.items
    × (transactions_in (c.self.inside.count + 1) (drop 8 c.put_transaction.new.body.items)
    ≡ transactions_in c.self.inside.count (drop 8 c.self.inside.body.items) ++ c.args.transaction.now ∷ [])
grown c =
    let batch = c.self.inside in
    let t = c.args.transaction.now in
    let fits : IsTransaction t = record { short = c.requires.short; bytes = All-from_get_or (λ byte. byte < 256) t 0 (λ i _. omega (arith, c.type_inv.transaction i)) } in
    let whole : c.put_transaction.new.body.items ≡ batch.body.items ++ transaction_bytes t =
    rw (c.put_transaction.ensures, c.in_ok-reserve.ensures.items, c.four_bytes-len.ensures.bytes) refl in
    rw whole (grows batch.author batch.worker batch.count batch.body.items t c.self.invariant fits (rw (← c.self.view_is) at c.requires.room))

pub invariant_of-self-2 : goal.invariant_of-self-2
invariant_of-self-2 c = (grown (goal.at.invariant_of-self-2 c).After-put_transaction).0

pub returns-clause-ok : goal.returns-clause-ok
returns-clause-ok c =
    let batch = c.self.inside in
    rw (← c.self.view_is)
    (ap (λ (ts : List (List ℕ)). record { author = batch.author; worker = batch.worker; transactions = ts }) (grown (goal.at.returns-clause-ok c).After-put_transaction).1)
