use Rattle.std.proofs.Common.{◌≡◌, ◌≢◌, ◌+◌, None, [], length, map, take, drop}
use Rattle.std.specs.List.{AllZip}
use Rattle.std.specs.Prelude.{All, vec_len}
use Rattle.spec_world.specs.Steps.{IsRun}
use Rattle.validator.specs.Setting.{node_of}
use Rattle.cluster.specs.Applying.{first_world}
use Rattle.cluster.specs.Member.{MemberView, StandsAt, IsOn, IsNew}
use Rattle.cluster.proofs.cluster.Cluster.new.Given as goal

-- the nodes so far are of the first settings, and so many disks are left
abbrev pub invariant-loop-config : goal.invariant-loop-config
invariant-loop-config g l = record {
  settings : map (λ (m : MemberView g.row.S.Denot g.row.D.Denot). m.setting) l.members.items ≡ take l.config-index l.configs;
  runs : All (λ (m : MemberView g.row.S.Denot g.row.D.Denot). IsRun (node_of g.S.Sign.scheme m.setting) [] (first_world (node_of g.S.Sign.scheme m.setting))) l.members.items;
  begins : All (λ (m : MemberView g.row.S.Denot g.row.D.Denot). StandsAt (node_of g.S.Sign.scheme m.setting) g.D.Disk.device
      (first_world (node_of g.S.Sign.scheme m.setting)) m) l.members.items;
  new : All (IsNew g.S.Sign.scheme g.D.Disk.device) l.members.items;
  up : All (λ (m : MemberView g.row.S.Denot g.row.D.Denot). m.desk ≢ None) l.members.items;
  disks : AllZip (IsOn g.D.Disk.device) (take l.config-index l.fn.disks.items) l.members.items;
  left : l.disks.items ≡ drop l.config-index l.fn.disks.items;
  rest : l.config-index + vec_len l.disks ≡ length l.configs;
  empty : All (λ (d : g.row.D.Denot). g.D.Disk.device.content d ≡ []) l.disks.items;
}
