use Rattle.admission.specs.Kept.{IsSameTable, table_of}
use Rattle.admission.proofs.assemblies.Assemblies.restore.Given as goal

-- the headers so far are in the table
abbrev pub invariant-loop-header : goal.invariant-loop-header
invariant-loop-header l = IsSameTable l.made (table_of l.committee l.fn.own.0 l.yielded)
