use Rattle.recovery.proofs.Carrying.{all_on_two}
use Rattle.recovery.proofs.driving.any_on_two.Goals as goal

pub returns : goal.returns
returns c = all_on_two c.args.commands.now.items
