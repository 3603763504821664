-- What contracts see of a disk whose machine stops right before a sync.
use Rattle.std.specs.Prelude.{ℕ, ◌+◌, if◌then◌else◌}
use Rattle.diskmodel.specs.declared.memory.MemDisk.{MemDisk}
use Rattle.sim_run.specs.declared.stopping.StoppingDisk.{StoppingDisk}

-- the disk in memory on which a `StoppingDisk` stands
abbrev pub memory_of : StoppingDisk → MemDisk
memory_of stopping = stopping.disk

-- how many calls have failed: those of the disk in memory, and one more if the machine stopped before a sync
abbrev pub faults_in : StoppingDisk → ℕ
faults_in stopping = stopping.disk.faults.count + (if stopping.is_stopped then 1 else 0)
