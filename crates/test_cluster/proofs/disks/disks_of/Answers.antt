use Rattle.std.proofs.Common.{◌≡◌, [], subst, sym}
use Rattle.std.specs.Prelude.{All}
use Rattle.std.proofs.lemmas.List.Elements.{All-push}
use Rattle.diskmodel.specs.Memory.{content_of}
use Rattle.test_cluster.proofs.disks.disks_of.Goals as goal
use Rattle.test_cluster.specs.declared.disks.GrippedDisk.{GrippedDisk}

abbrev IsEmpty : GrippedDisk → Type 0
IsEmpty gripped = content_of gripped.disk ≡ []

pub loop-grip-preserved : goal.loop-grip-preserved
loop-grip-preserved c =
    subst (All IsEmpty) (sym c.in_ok-push.ensures.items) (All-push IsEmpty c.loop-grip.disks.items c.in_ok-disk.field-0 c.loop-grip.invariant c.in_ok-disk.ensures)
