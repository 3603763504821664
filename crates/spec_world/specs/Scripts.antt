-- That what a script writes is what some run of a node gives out.
use Rattle.std.specs.Prelude.{◌≡◌, ⊤, List, [], ◌++◌, map, All, Contains}
use Rattle.spec_model.specs.Admitting.{IsTaken}
use Rattle.spec_model.specs.Giving.{kept}
use Rattle.spec_model.specs.Histories.{History}
use Rattle.spec_model.specs.Nodes.{Node, IsNode}
use Rattle.spec_world.specs.World.{Opened, not_begun, Waiting, put_out, Given, World, run_on}
use Rattle.spec_world.specs.Steps.{Move, Leads, IsRun}
use Rattle.spec_world.specs.Text.{Command, take_in, Desk, desk_on, frames, text, desk_after}

-- A world is in the situation of a desk, as scripts see a node: no group is in flight, and both have accepted, settled and put out the
-- same.
pub record IsAtDesk (node : Node) (world : World) (desk : Desk) : Type 0 where
  -- the desk's base is the state kept of the history with which the world's run began; both accepted and settled the same events
  pub base : kept node world.began ≡ desk.base
  pub accepted : world.accepted ≡ desk.accepted
  pub settled : world.settled ≡ desk.settled
  -- no group is in flight
  pub groups : world.groups ≡ []
  pub phase : world.phase ≡ not_begun
  -- each output that waits at the desk waits in the world too, where an output stays in the list after it has gone out
  pub waits : (waiting : Waiting) → Contains desk.waiting waiting → Contains world.waiting waiting

-- between two worlds exactly these outputs went out, in this order
pub record WentOut (world later : World) (outputs : List Waiting) : Type 0 where
  pub more : List Given
  pub given : later.given ≡ world.given ++ more
  pub are : map (λ given. given.outgoing) more ≡ map (λ one. put_out one.output) outputs

-- the event that a command hands in, if it does, is one that the node can take
abbrev pub IsTakenIn : Node → Command → Type 0
IsTakenIn node (take_in event) = IsTaken node event
IsTakenIn node other = ⊤

-- a run at this desk can go on by moves at which it gives out exactly what these commands write, as frames
pub record GivesOutText (node : Node) (moves : List Move) (world : World) (desk : Desk) (commands : List Command) : Type 0 where
  pub more : List Move
  pub later : World
  pub run : IsRun node (moves ++ more) later
  -- further moves lead from this world to a later one
  pub leads : Leads node world more later
  pub at_desk : IsAtDesk node later (desk_after node desk commands)
  pub outputs : List Waiting
  pub went_out : WentOut world later outputs
  pub is_text : frames outputs ≡ text node desk commands

-- every run that is at a desk can go on and give out what any commands write, if the node can take their events
abbrev pub ScriptsAreRuns : Type 0
ScriptsAreRuns = (node : Node) (moves : List Move) (world : World) (desk : Desk) (commands : List Command) → IsNode node → IsRun node moves world → IsAtDesk node world desk
    → All (IsTakenIn node) commands → GivesOutText node moves world desk commands

-- a run that has just begun is at a desk whose base is the state kept of its history. On an empty disk that is the empty history, and after
-- a stop the recovered one
abbrev pub ScriptsBegin : Type 0
ScriptsBegin = (node : Node) (on : Opened) (began : History) (given : List Given) → IsAtDesk node (run_on on began given) (desk_on (kept node began))
