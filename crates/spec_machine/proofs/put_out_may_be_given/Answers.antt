use Rattle.spec_machine.proofs.AfterAll.{put_out_may_be_given}
use Rattle.spec_machine.proofs.put_out_may_be_given.Goals as goal

pub returns : goal.returns
returns c = put_out_may_be_given
