use Rattle.std.proofs.Common.{ap, subst, length, arith}
use Rattle.std.proofs.lemmas.Bool.{and_parts}
use Rattle.batchstore.specs.Stock.{BatchStoreView, IsStock, has_own, holds}
use Rattle.batchstore.proofs.Steps.{holds_member}
use Rattle.batchstore.proofs.store.BatchStore.ack.Goals as goal

-- who is no member holds no batch
pub returns-then-author-size-clause-known : goal.returns-then-author-size-clause-known
returns-then-author-size-clause-known c = (
  λ known. absurd cc,
  λ both.
      let stock = c.args.self.now in
      let digest = c.args.digest.now in
      let author = c.args.author.0 in
      let member = holds_member stock digest author (subst IsStock c.self.view_is c.self.invariant.valid) (and_parts (has_own stock digest) (holds stock digest author) both).1 in
      let size = ap (λ (s : BatchStoreView). length s.charter.keys) c.self.view_is in
      absurd (omega (arith, member, size, c.if-author-size.true, c.size.ensures.value)),
)
