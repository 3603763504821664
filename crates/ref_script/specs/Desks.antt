-- What the commands and desks of the running code are in the definitions.
use Rattle.std.specs.Prelude.{take}
use Rattle.ref_machine.specs.Tables.{state_of}
use Rattle.ref_script.specs.declared.command.Command.{Command}
use Rattle.ref_script.specs.declared.command.Command.TheVariants.{Event, Flush, Checkpoint, Stop}
use Rattle.ref_script.specs.declared.desk.Desk as declared
use Rattle.spec_world.specs.Text as script

-- a command of the running code as the definition of a script has it
abbrev pub said : Command → script.Command
said (Event event) = script.take_in event
said Flush = script.flush
said Checkpoint = script.checkpoint
said Stop = script.stop

-- A desk (a script's node between two commands) as the definition has it: the run began with the state that the tables stand for, and the
-- first `settled` of the accepted events are settled.
abbrev pub desk_of : declared.Desk → script.Desk
desk_of desk = record {
  base = state_of desk.base;
  accepted = desk.accepted.items;
  settled = take desk.settled desk.accepted.items;
  waiting = desk.waiting.items;
}
