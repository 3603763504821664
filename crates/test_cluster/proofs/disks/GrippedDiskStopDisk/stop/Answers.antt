use Rattle.test_cluster.proofs.disks.GrippedDiskStopDisk.stop.Goals as goal

pub returns-clause-time : goal.returns-clause-time
returns-clause-time c = rw c.choose.ensures.history at c.stop.ensures.time
