use Rattle.std.proofs.Common.{◌≡◌, ◌++◌, map}
use Rattle.spec_machine.specs.After.{after_all}
use Rattle.spec_machine.specs.Machine.{fresh}
use Rattle.spec_model.specs.Nodes.{node_view}
use Rattle.ref_script.specs.Desks.{desk_of, said}
use Rattle.spec_world.specs.Text.{desk_on, text}
use Rattle.ref_script.proofs.writing.text.Given as goal

-- what is written so far and what the commands write that are left is what all write
abbrev pub invariant-loop-command : goal.invariant-loop-command
invariant-loop-command g l =
    l.written.items ++ text (node_view g.S.Sign.scheme l.node) (desk_of l.desk) (map said l.command-iterator.rest.items)
    ≡ text (node_view g.S.Sign.scheme l.node) (desk_on (after_all (node_view g.S.Sign.scheme l.node) (fresh (node_view g.S.Sign.scheme l.node)) l.fn.history.items)) (map said l.fn.commands.items)
