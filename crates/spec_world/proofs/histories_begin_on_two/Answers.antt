use Rattle.spec_world.proofs.Beside.{histories_begin_on_two}
use Rattle.spec_world.proofs.histories_begin_on_two.Goals as goal

pub returns : goal.returns
returns c = histories_begin_on_two c.blank_is_fresh.ensures
