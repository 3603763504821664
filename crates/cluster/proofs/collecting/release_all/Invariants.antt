use Rattle.std.proofs.Common.{◌≡◌, length}
use Rattle.desk.specs.AtWorld.{IsAt}
use Rattle.spec_world.specs.World.{World}
use Rattle.validator.specs.Setting.{node_of}
use Rattle.cluster.specs.Collecting.{IsWhole, HasReleased}
use Rattle.cluster.proofs.collecting.release_all.Given as goal

-- some of what may go out went out
abbrev pub invariant-releasing : goal.invariant-releasing
invariant-releasing g l = record {
  so_far : (world : World) → IsAt (node_of g.S.Sign.scheme l.initial.desk.book.validator.setting) g.D.Disk.device world l.initial.desk
      → IsWhole (node_of g.S.Sign.scheme l.initial.desk.book.validator.setting) world l.initial.given
      → HasReleased (node_of g.S.Sign.scheme l.initial.desk.book.validator.setting) g.D.Disk.device world l.initial.desk l.desk l.initial.given l.given;
  setting : l.desk.book.validator.setting ≡ l.initial.desk.book.validator.setting;
  journal : l.desk.journal ≡ l.initial.desk.journal;
}

abbrev pub decreases-releasing : goal.decreases-releasing
decreases-releasing g l = length l.desk.book.queue
