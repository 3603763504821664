use Rattle.dag.proofs.Dropping.{still_reaches}
use Rattle.dag.proofs.facts.reach_stays_above.Goals as goal

pub returns : goal.returns
returns c before after low graph dropped round author below other least = still_reaches before after low graph dropped round author below other least
