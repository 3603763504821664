-- Runs of one move.
use Rattle.std.proofs.Common.{[], ◌∷◌, refl}
use Rattle.spec_model.specs.Nodes.{Node}
use Rattle.spec_world.specs.World.{World}
use Rattle.spec_world.specs.Steps.{Move, IsStep, Leads}

pub leads_one : (node : Node) (world : World) (move : Move) (next : World) → IsStep node world move next → Leads node world (move ∷ []) next
leads_one node world move next step = (next, step, refl)
