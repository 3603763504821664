use Rattle.std.proofs.Common.{◌≡◌, []}
use Rattle.std.specs.Prelude.{All}
use Rattle.diskmodel.specs.Memory.{content_of}
use Rattle.node_cluster.proofs.play.empty_disks.Given as goal

-- the disks so far are empty
abbrev pub invariant-loop : goal.invariant-loop
invariant-loop l = All (λ disk. content_of disk ≡ []) l.disks.items
