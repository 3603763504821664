use Rattle.std.proofs.Common.{◌≡◌, []}
use Rattle.std.specs.Prelude.{All}
use Rattle.diskmodel.specs.Memory.{content_of}
use Rattle.test_cluster.proofs.disks.disks_of.Given as goal

-- the disks so far are empty
abbrev pub invariant-loop-grip : goal.invariant-loop-grip
invariant-loop-grip l = All (λ gripped. content_of gripped.disk ≡ []) l.disks.items
