-- What a rewriting settles.
use Rattle.std.proofs.Common.{◌≡◌, ℕ, ◌≤◌, List, length, sym, ap, ◌∙◌}
use Rattle.std.specs.Prelude.{Some}
use Rattle.admission.proofs.OneState.{one_state}
use Rattle.checkpoint.specs.Describes.{Describes}
use Rattle.spec_checkpoint.specs.Meaning as checkpoint
use Rattle.spec_model.specs.Nodes.{Node}
use Rattle.spec_model.specs.States.{State}
use Rattle.spec_model.specs.Words.{Event}
use Rattle.book.specs.Book.{BookView, Run, Stands, IsCheckpoint, IsCheckpointOfAll, Settles, state_in, state_to, with_accepted, with_all_taken}
use Rattle.book.proofs.Due.{state_stays, state_now}

-- what describes the tables of a book is a checkpoint of all that it accepted, since these stand at one sound state
pub describes_all : {S : Type 0} (node : Node) (book : BookView S) (records : List (List ℕ)) → Describes node book.validator.tables records → IsCheckpointOfAll node book records
describes_all node book records is = λ run at. record {
  kept = is.checkpoint;
  written = is.written;
  is = one_state node book.validator.tables (checkpoint.state_in node is.checkpoint) (state_in node run) is.sound is.at at.at.sound at.at.at;
  are = is.are;
}

-- a checkpoint of another state that is the same one
pub checkpoint_of : (node : Node) (one other : State) (records : List (List ℕ)) → one ≡ other → IsCheckpoint node one records → IsCheckpoint node other records
checkpoint_of node one other records same is = record { kept = is.kept; written = is.written; is = is.is ∙ same; are = is.are }

-- so it is settled where all of that is taken
pub settles_all : {S : Type 0} (node : Node) (run : Run) (book : BookView S) (records : List (List ℕ)) → Stands node run book → IsCheckpointOfAll node book records
    → Settles node (with_all_taken run) (Some book.accepted) records
settles_all node run book records at all =
    checkpoint_of node (state_in node run) (state_to node book.accepted (with_all_taken run)) records
    (sym (state_now node run) ∙ ap (λ (n : ℕ). state_to node n run) (sym at.accepted)) (all run at)

-- and after one more is accepted
pub settles_after : (node : Node) (run : Run) (event : Event) (count : ℕ) (records : List (List ℕ)) → count ≤ length run.accepted → Settles node run (Some count) records
    → Settles node (with_accepted run event) (Some count) records
settles_after node run event count records within is =
    checkpoint_of node (state_to node count run) (state_to node count (with_accepted run event)) records (sym (state_stays node run event count within)) is
