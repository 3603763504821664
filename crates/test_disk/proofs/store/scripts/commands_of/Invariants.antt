use Rattle.std.specs.Prelude.{All}
use Rattle.recovery.specs.Script.{Passes, CarriesOut}
use Rattle.test_disk.proofs.store.scripts.commands_of.Given as goal

-- each of the commands so far passes, and can be carried out on as many disks
abbrev pub invariant-loop-line : goal.invariant-loop-line
invariant-loop-line l = record {
  passed : All (Passes l.config.charter) l.commands.items;
  on_disks : All (CarriesOut l.two) l.commands.items;
}
