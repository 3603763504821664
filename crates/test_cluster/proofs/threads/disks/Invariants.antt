use Rattle.std.proofs.Common.{◌≡◌, []}
use Rattle.std.specs.Prelude.{All, vec_len}
use Rattle.diskmodel.specs.Memory.{content_of}
use Rattle.test_cluster.proofs.threads.disks.Given as goal

-- so many disks so far, and they are empty
abbrev pub invariant-made : goal.invariant-made
invariant-made l = record {
  many : vec_len l.disks ≡ l.counter;
  empty : All (λ disk. content_of disk ≡ []) l.disks.items;
}
