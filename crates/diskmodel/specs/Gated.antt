-- The two parts of a disk whose syncs wait for a gate: the inner disk, and the gate.
use Rattle.diskmodel.specs.declared.gated.GatedDisk.{GatedDisk}

-- the inner disk
abbrev pub disk_of : {D G : Type 0} → GatedDisk D G → D
disk_of gated = gated.disk

-- the gate of the disk
abbrev pub gate_of : {D G : Type 0} → GatedDisk D G → G
gate_of gated = gated.gate
