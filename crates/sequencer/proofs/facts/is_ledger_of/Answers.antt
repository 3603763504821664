use Rattle.std.proofs.Common.{ap}
use Rattle.committee.specs.Charter.{Charter}
use Rattle.spec_model.specs.Ordering.{Ledger}
use Rattle.dag.specs.Graph.{slots_in}
use Rattle.sequencer.proofs.facts.is_ledger_of.Goals as goal

pub returns : goal.returns
returns c node graph values charter = ap (λ (x : Charter). let l : Ledger = record { charter = x; slots = slots_in graph; coins = values } in l) charter
