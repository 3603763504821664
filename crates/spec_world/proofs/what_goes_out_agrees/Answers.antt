use Rattle.spec_world.proofs.Agreeing.{what_goes_out_agrees}
use Rattle.spec_world.proofs.what_goes_out_agrees.Goals as goal

pub returns : goal.returns
returns c = what_goes_out_agrees
