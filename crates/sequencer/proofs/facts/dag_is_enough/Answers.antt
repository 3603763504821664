use Rattle.spec_laws.proofs.FromFloor.{held_is_enough}
use Rattle.dag.specs.Graph.{slots_in}
use Rattle.sequencer.proofs.facts.dag_is_enough.Goals as goal

pub returns : goal.returns
returns c node before more low graph legal within from = held_is_enough node before more low (slots_in graph) legal within from
