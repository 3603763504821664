use Rattle.cluster.proofs.Sent.{sent}
use Rattle.cluster.proofs.routing.Envelope.new.Goals as goal

pub invariant_of-result : goal.invariant_of-result
invariant_of-result c = sent c.args.sender c.args.output.now c.args.message c.receiver_of.result c.requires c.receiver_of.ensures.some c.receiver_of.ensures.none
