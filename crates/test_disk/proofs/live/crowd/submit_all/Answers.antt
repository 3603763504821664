use Rattle.std.proofs.Common.{subst, sym}
use Rattle.std.specs.Prelude.{Bool, IsSome, IsTrue}
use Rattle.diskmodel.specs.contracts.memory.MemDiskDisk.TheImpl.{device-value}
use Rattle.flusher.specs.Rounds.{journal_of}
use Rattle.flusher.specs.declared.flusher.Flusher.{Flusher}
use Rattle.journal.specs.Journal.{spare_of}
use Rattle.test_disk.proofs.Stores.{has_both}
use Rattle.test_disk.proofs.live.crowd.submit_all.Goals as goal

pub submit_beside-requires-clause-pair : goal.submit_beside-requires-clause-pair
submit_beside-requires-clause-pair g c κs within two =
    subst (λ (f : Flusher _). IsSome (spare_of (journal_of f))) (sym c.new-rounds.ensures.flusher)
    (has_both device-value.it _ c.args.store (journal_of c.in_ok-node.flusher) c.in_ok-node.ensures.disks (subst (λ (b : Bool). IsTrue b) c.has_two-rewrites.ensures two))
