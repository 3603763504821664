use Rattle.sim_members.specs.Settings.{AreOfFile}
use Rattle.sim_members.proofs.settings.configs_of.Given as goal

-- those of the members before this one
abbrev pub invariant-loop-own : goal.invariant-loop-own
invariant-loop-own l = AreOfFile l.file l.own l.configs.items
