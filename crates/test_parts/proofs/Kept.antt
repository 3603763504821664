-- What a member's tables keep.
use Rattle.std.specs.Prelude.{IfOk, Result, Ok, Err}
use Rattle.std.specs.declared.alloc.AllocError.{AllocError}
use Rattle.admission.specs.Kept.{IsKeptOf}
use Rattle.admission.specs.Standing.{AreAt}
use Rattle.admission.specs.declared.kept.Kept.{Kept}
use Rattle.admission.specs.declared.tables.Tables.{Tables}
use Rattle.spec_machine.specs.Sound.{IsSound}
use Rattle.spec_model.specs.Nodes.{Node, IsNode}
use Rattle.spec_model.specs.States.{State}
use Rattle.validator.specs.Standing.{StandSomewhere}

-- where the tables stand at some sound state, what they are taken apart to is what is kept of such a one
pub some_kept : (node : Node) (tables : Tables) (result : Result Kept AllocError)
    → IfOk result (λ kept. (node : Node) (state : State) → IsNode node → IsSound node state → AreAt node state tables → IsKeptOf node state kept)
    → IsNode node → StandSomewhere node tables → IfOk result (λ kept. (state : State) × IsKeptOf node state kept)
some_kept node tables (Ok kept) each node_is somewhere = (somewhere.0, each node somewhere.0 node_is somewhere.1.sound somewhere.1.at)
some_kept node tables (Err error) each node_is somewhere = each
