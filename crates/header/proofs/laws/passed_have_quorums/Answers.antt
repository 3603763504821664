use Rattle.header.proofs.Passing.{message_passes}
use Rattle.header.proofs.laws.passed_have_quorums.Goals as goal

pub returns : goal.returns
returns c charter accepts event is within none = message_passes charter accepts event.sender event.message is within none
