use Rattle.std.proofs.Common.{◌∷◌, []}
use Rattle.test_disk.proofs.Settling.{settles_here}
use Rattle.test_disk.proofs.store.rounds.settle_two.Goals as goal

pub settle-requires-2 : goal.settle-requires-2
settle-requires-2 c = settles_here c.args.own.now.validator.setting c.settle.new.self c.args.second [] c.settle.ensures.setting (c.settle.ensures.way (c.args.second ∷ []) c.requires)
