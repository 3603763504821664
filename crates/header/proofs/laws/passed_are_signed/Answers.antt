use Rattle.header.proofs.Signing.{message_signed}
use Rattle.header.proofs.laws.passed_are_signed.Goals as goal

pub returns : goal.returns
returns c charter accepts event none = message_signed charter accepts event.sender event.message none
