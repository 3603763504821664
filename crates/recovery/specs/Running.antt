-- That what a script writes is what runs of the node give out.
use Rattle.std.specs.Prelude.{◌≡◌, ⊤, ℕ, List, Option, Ok}
use Rattle.std.specs.Io.KnownBytes.{Appends}
use Rattle.spec_model.specs.Giving.{kept}
use Rattle.spec_model.specs.Histories.{History}
use Rattle.wire.specs.Lists.{Begins}
use Rattle.spec_model.specs.Nodes.{Node}
use Rattle.spec_world.specs.World.{World, Opened, run_on}
use Rattle.spec_world.specs.Steps.{Move, IsRun}
use Rattle.spec_world.specs.Scripts.{GivesOutText}
use Rattle.spec_world.specs.Text as script
use Rattle.journal.specs.Areas.{Areas}
use Rattle.opening.specs.Decoded.{decoded_in}
use Rattle.wire.specs.Grammar.{IsMessage}
use Rattle.recovery.specs.declared.driving.Command.{Command}
use Rattle.recovery.specs.declared.driving.Command.TheVariants.{Event}

-- if the command hands in an event, its message is within all limits
abbrev pub IsWithinLimits : Command → Type 0
IsWithinLimits (Event event) = IsMessage event.message
IsWithinLimits other = ⊤

-- a run of the node has just begun with this history, on one disk or on two
pub record HasBegun (node : Node) (history : History) (moves : List Move) (world : World) : Type 0 where
  pub run : IsRun node moves world
  pub on : Opened
  pub is : world ≡ run_on on history world.given

-- P holds of every run of the node that has just begun with a history, if these areas decode to the state kept of that history
abbrev pub EachRunOn : Node → Areas → (History → List Move → World → Type 0) → Type 0
EachRunOn node before P = (history : History) (moves : List Move) (world : World) → decoded_in node before ≡ Ok (kept node history) → HasBegun node history moves world → P history moves world

-- the run can go on as the commands say, and the outputs that then go out are what was written, as frames
pub record GivesOut (node : Node) (commands : List script.Command) (old new : Option (List ℕ)) (history : History) (moves : List Move) (world : World) : Type 0 where
  pub goes_on : GivesOutText node moves world (script.desk_on (kept node history)) commands
  pub writes : Appends old new (script.frames goes_on.outputs)

-- the run can go on as some first ones of the commands say, and what was written is a prefix of the outputs that then go out
pub record GivesOutNoLess (node : Node) (commands : List script.Command) (old new : Option (List ℕ)) (history : History) (moves : List Move) (world : World) : Type 0 where
  pub some : List script.Command
  pub are_first : Begins some commands
  pub goes_on : GivesOutText node moves world (script.desk_on (kept node history)) some
  pub written : List ℕ
  pub writes : Appends old new written
  pub begins : Begins written (script.frames goes_on.outputs)
