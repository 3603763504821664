use Rattle.std.proofs.Common.{◌≡◌, ◌≤◌, length}
use Rattle.std.specs.Prelude.{All}
use Rattle.journal.specs.Pairs.{areas_in, store_of}
use Rattle.journal.specs.Stores.{faults_in}
use Rattle.validator.specs.Setting.{node_of}
use Rattle.spec_world.specs.Scripts.{IsTakenIn}
use Rattle.recovery.specs.Script.{is_two, script_of}
use Rattle.recovery.proofs.Carrying.{IsCarriedOut}
use Rattle.recovery.proofs.driving.drive_store.Given as goal

-- the commands so far were carried out
abbrev pub invariant-loop-command : goal.invariant-loop-command
invariant-loop-command g l = record {
  so_far : IsCarriedOut (node_of g.S.Sign.scheme l.config) g.D.Disk.device (areas_in g.D.Disk.device l.fn.store) (script_of l.yielded) l.desk.book
      l.desk.journal (g.W.Write.contents l.initial.writer) (g.W.Write.contents l.writer);
  taken : All (IsTakenIn (node_of g.S.Sign.scheme l.config)) (script_of l.yielded);
  setting : l.desk.book.validator.setting ≡ l.config;
  count : l.desk.book.accepted ≤ length l.yielded;
  no_fault : faults_in g.D.Disk.device (store_of l.desk.journal) ≡ faults_in g.D.Disk.device l.fn.store;
  disks : is_two (store_of l.desk.journal) ≡ is_two l.fn.store;
}
