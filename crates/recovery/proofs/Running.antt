-- What is written is what runs of the node give out.
use Rattle.std.proofs.Common.{◌≡◌, ℕ, List, [], ◌∷◌, ◌++◌, Option, refl, sym, ap, ◌∙◌, subst, append_assoc, append-nil}
use Rattle.std.proofs.KnownBytes.{Appends-trans}
use Rattle.std.specs.Prelude.{All}
use Rattle.std.specs.Io.KnownBytes.{Keeps, Appends}
use Rattle.book.specs.Book.{BookView}
use Rattle.journal.specs.Areas.{Areas}
use Rattle.journal.specs.declared.journal.Journal.{Journal}
use Rattle.spec_model.specs.Giving.{kept}
use Rattle.spec_model.specs.Histories.{History}
use Rattle.wire.specs.Lists.{Begins}
use Rattle.spec_model.specs.Nodes.{Node, IsNode}
use Rattle.spec_model.specs.States.{State}
use Rattle.spec_world.specs.World.{World}
use Rattle.spec_world.specs.Steps.{Move, IsRun}
use Rattle.spec_world.specs.Scripts.{IsAtDesk, IsTakenIn, GivesOutText}
use Rattle.spec_world.specs.Text as script
use Rattle.spec_world.proofs.Scripts.{scripts_are_runs, scripts_begin}
use Rattle.recovery.specs.Running.{IsWithinLimits, HasBegun, EachRunOn, GivesOut, GivesOutNoLess}
use Rattle.recovery.specs.Script.{said, Passes, HasRun}
use Rattle.recovery.specs.Writing.{AppendsPart}
use Rattle.recovery.specs.declared.driving.Command.{Command}
use Rattle.recovery.specs.declared.driving.Command.TheVariants.{Event, Flush, Checkpoint, Stop}
use Rattle.recovery.specs.declared.driving.DriveError.{DriveError}
use Rattle.wire_write.proofs.Appending.{keeps_appends}
use Rattle.recovery.proofs.Carrying.{IsCarriedOut}
use Rattle.recovery.proofs.DeskOpening.{ok_is}
use Rattle.recovery.proofs.Scripts.{text_push, text_nil, desk_nil}
use Rattle.diskmodel.specs.Disk.{Device}

-- an event that passed the checks, within all limits, is one that the node takes
pub taken_in : (node : Node) (command : Command) → Passes node.charter command → IsWithinLimits command → IsTakenIn node (said command)
taken_in node (Event event) passed within = record { message = within; passed = passed }
taken_in node Flush passed within = tt
taken_in node Checkpoint passed within = tt
taken_in node Stop passed within = tt

module _ (node : Node) (sound : IsNode node) where
  -- a run that has just begun goes on by a script
  goes_on : (history : History) (moves : List Move) (world : World) (commands : List script.Command) → All (IsTakenIn node) commands → HasBegun node history moves world
      → GivesOutText node moves world (script.desk_on (kept node history)) commands
  goes_on history moves world commands taken begun =
      scripts_are_runs node moves world (script.desk_on (kept node history)) commands sound begun.run
      (subst (λ (w : World). IsAtDesk node w (script.desk_on (kept node history))) (sym begun.is) (scripts_begin node begun.on history world.given)) taken

  -- and gives out what was written
  pub run_given : (commands : List script.Command) (before later : Areas) (outcome : Areas → Type 0) (old new : Option (List ℕ))
      → All (IsTakenIn node) commands → HasRun node commands before later outcome old new
      → EachRunOn node before (GivesOut node commands old new)
  run_given commands before later outcome old new taken run = λ history moves world is begun.
      let goes = goes_on history moves world commands taken begun in
      let same : run.state ≡ kept node history = ok_is run.state (kept node history) (sym run.decoded_first ∙ is) in
      record {
        goes_on = goes;
        writes = subst (Appends old new) (ap (λ (s : State). script.text node (script.desk_on s) commands) same ∙ sym goes.is_text) run.writes;
      }

  -- also where the next command failed
  pub cut_given : {S D : Type 0} (device : Device D) (before : Areas) (done : List script.Command) (next : script.Command) (book : BookView S) (journal : Journal D) (old mid new : Option (List ℕ))
      (so_far : IsCarriedOut node device before done book journal old mid) (commands rest : List script.Command) (error : DriveError) → commands ≡ done ++ next ∷ rest
      → AppendsPart error mid new (script.frames (script.due (script.after node (script.desk_after node (script.desk_on so_far.state) done) next))) → All (IsTakenIn node) (done ++ next ∷ [])
      → EachRunOn node before (GivesOutNoLess node commands old new)
  cut_given device before done next book journal old mid new so_far commands rest error parts appends taken = λ history moves world is begun.
      let some = done ++ next ∷ [] in
      let first = script.desk_on so_far.state in
      let text_done = script.text node first done in
      let goes = goes_on history moves world some taken begun in
      let same : so_far.state ≡ kept node history = ok_is so_far.state (kept node history) (sym so_far.decoded_first ∙ is) in
      let within : Begins (text_done ++ appends.part) (script.text node first some) = record {
        rest = appends.begins.rest;
        parts = text_push node first done next ∙ ap (λ (l : List ℕ). text_done ++ l) appends.begins.parts ∙ sym (append_assoc text_done appends.part appends.begins.rest);
      } in
      record {
        some = some;
        are_first = record { rest = rest; parts = parts ∙ sym (append_assoc done (next ∷ []) rest) };
        goes_on = goes;
        written = text_done ++ appends.part;
        writes = Appends-trans old mid new text_done appends.part so_far.writes appends.appends;
        begins = subst (Begins (text_done ++ appends.part)) (ap (λ (s : State). script.text node (script.desk_on s) some) same ∙ sym goes.is_text) within;
      }

-- where nothing was written a run goes nowhere
pub nothing_given : (node : Node) (commands : List script.Command) (before : Areas) (old new : Option (List ℕ)) → Keeps old new → EachRunOn node before (GivesOutNoLess node commands old new)
nothing_given node commands before old new keeps = λ history moves world is begun.
    let desk = script.desk_on (kept node history) in
    record {
      some = [];
      are_first = record { rest = commands; parts = refl };
      goes_on = record {
        more = [];
        later = world;
        run = subst (λ (l : List Move). IsRun node l world) (sym (append-nil moves)) begun.run;
        leads = refl;
        at_desk = subst (IsAtDesk node world) (sym (desk_nil node desk)) (subst (λ (w : World). IsAtDesk node w desk) (sym begun.is) (scripts_begin node begun.on history world.given));
        outputs = [];
        went_out = record { more = []; given = sym (append-nil world.given); are = refl };
        is_text = sym (text_nil node desk);
      };
      written = [];
      writes = keeps_appends old new keeps;
      begins = record { rest = []; parts = refl };
    }
