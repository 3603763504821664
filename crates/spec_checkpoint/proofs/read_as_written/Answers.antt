use Rattle.spec_checkpoint.proofs.Loadable.{read_as_written}
use Rattle.spec_checkpoint.proofs.read_as_written.Goals as goal

pub returns : goal.returns
returns c = read_as_written
