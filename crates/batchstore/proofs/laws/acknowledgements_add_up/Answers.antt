use Rattle.batchstore.proofs.Members.{has-with_member}
use Rattle.batchstore.proofs.laws.acknowledgements_add_up.Goals as goal

pub returns : goal.returns
returns c = has-with_member
