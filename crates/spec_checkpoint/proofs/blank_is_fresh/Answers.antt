use Rattle.spec_checkpoint.proofs.Blank.{blank_is_fresh}
use Rattle.spec_checkpoint.proofs.blank_is_fresh.Goals as goal

pub returns : goal.returns
returns c = blank_is_fresh
