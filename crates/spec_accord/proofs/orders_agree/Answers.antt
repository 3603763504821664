use Rattle.spec_accord.proofs.Agreeing.{orders_agree}
use Rattle.spec_accord.proofs.orders_agree.Goals as goal

pub returns : goal.returns
returns c = orders_agree
