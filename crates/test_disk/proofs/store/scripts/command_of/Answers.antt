use Rattle.test_disk.proofs.store.scripts.command_of.Goals as goal

-- an event is carried out on one disk and on two alike
pub returns-in-Event-clause-on_disks : goal.returns-in-Event-clause-on_disks
returns-in-Event-clause-on_disks c = c.event_of.ensures.on_disks c.args.two
