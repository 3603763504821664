use Rattle.spec_machine.proofs.Floors.{low_is_to_the_floor}
use Rattle.spec_machine.proofs.low_is_to_the_floor.Goals as goal

pub returns : goal.returns
returns c = low_is_to_the_floor
