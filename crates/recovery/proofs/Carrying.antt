-- A script, command by command.
use Rattle.std.proofs.Common.{◌≡◌, ℕ, zero, suc, ◌+◌, ◌<◌, append_assoc, append-nil, drop-cons, List, [], ◌∷◌, ◌++◌, length, take, drop, get_or}
use Rattle.std.proofs.Common.{Option, Ok, refl, sym, ap, ◌∙◌, subst, arith, length-append}
use Rattle.std.proofs.KnownBytes.{Appends-nil, Appends-trans}
use Rattle.std.specs.Prelude.{All, true}
use Rattle.std.specs.Io.KnownBytes.{Appends}
use Rattle.std.proofs.lemmas.List.{map-append, take-append-drop}
use Rattle.std.proofs.lemmas.List.Elements.{All-nil, All-cons, All-head, All-tail}
use Rattle.journal.specs.declared.journal.Journal.{Journal}
use Rattle.spec_model.specs.Nodes.{Node}
use Rattle.spec_model.specs.States.{State}
use Rattle.spec_world.specs.Text as script
use Rattle.book.specs.Book.{BookView}
use Rattle.committee.specs.Charter.{Charter}
use Rattle.recovery.specs.Script.{said, script_of, CarriesOut, Passes, IsOf, IsOpenedOf, HasRun, Breaks, IsCutShort}
use Rattle.opening.specs.Decoded.{decoded_in}
use Rattle.recovery.specs.Writing.{AppendsPart}
use Rattle.recovery.specs.declared.driving.Command.{Command}
use Rattle.recovery.specs.declared.driving.Command.TheVariants.{Event, Flush, Checkpoint, Stop}
use Rattle.recovery.specs.declared.driving.DriveError.{DriveError}
use Rattle.desk.specs.Disks.{Leaves}
use Rattle.desk.proofs.Stores.{durable_store}
use Rattle.journal.specs.Areas.{Areas}
use Rattle.journal.specs.Pairs.{areas_in, store_of}
use Rattle.recovery.proofs.Desks.{reported_now}
use Rattle.recovery.proofs.Scripts.{text_push, desk_push, text_nil, desk_nil}
use Rattle.diskmodel.specs.Disk.{Device}

-- the first of the commands were carried out
pub record IsCarriedOut {S D : Type 0} (node : Node) (device : Device D) (before : Areas) (done : List script.Command) (book : BookView S)
    (journal : Journal D) (old new : Option (List ℕ)) : Type 0 where
  pub state : State
  pub decoded_first : decoded_in node before ≡ Ok state
  pub is_of : IsOf node device (script.desk_after node (script.desk_on state) done) book journal
  pub writes : Appends old new (script.text node (script.desk_on state) done)

module _ {S D : Type 0} (node : Node) (device : Device D) (before : Areas) where
  -- none at first
  pub first_carried : (book : BookView S) (journal : Journal D) (old : Option (List ℕ)) → IsOpenedOf node device before book journal → IsCarriedOut node device before [] book journal old old
  first_carried book journal old opened = record {
    state = opened.state;
    decoded_first = opened.decoded_first;
    is_of = subst (λ (d : script.Desk). IsOf node device d book journal) (sym (desk_nil node (script.desk_on opened.state))) opened.is_of;
    writes = subst (Appends old old) (sym (text_nil node (script.desk_on opened.state))) (Appends-nil old);
  }

  module _ (done : List script.Command) (next : script.Command) (book : BookView S) (journal : Journal D) (old mid : Option (List ℕ))
      (so_far : IsCarriedOut node device before done book journal old mid) where
    abbrev desk : script.Desk
    desk = script.desk_after node (script.desk_on so_far.state) done

    -- one more
    pub next_carried : (later : BookView S) (new_journal : Journal D) (new : Option (List ℕ)) → IsOf node device (script.carried_out node desk next) later new_journal
        → Appends mid new (script.frames (script.due (script.after node desk next))) → IsCarriedOut node device before (done ++ next ∷ []) later new_journal old new
    next_carried later new_journal new is appends = record {
      state = so_far.state;
      decoded_first = so_far.decoded_first;
      is_of = subst (λ (d : script.Desk). IsOf node device d later new_journal) (sym (desk_push node (script.desk_on so_far.state) done next)) is;
      writes = subst (Appends old new) (sym (text_push node (script.desk_on so_far.state) done next))
          (Appends-trans old mid new (script.text node (script.desk_on so_far.state) done) (script.frames (script.due (script.after node desk next))) so_far.writes appends);
    }

    -- the next one failed
    pub cut_short : (commands rest : List script.Command) (error : DriveError) (later : Areas) (left : Areas → Type 0) (new : Option (List ℕ)) → commands ≡ done ++ next ∷ rest
        → Breaks node desk next error later left → AppendsPart error mid new (script.frames (script.due (script.after node desk next))) → IsCutShort node commands error before later left old new
    cut_short commands rest error later left new parts breaks appends =
        let text_done = script.text node (script.desk_on so_far.state) done in
        record {
          state = so_far.state;
          decoded_first = so_far.decoded_first;
          done = done;
          next = next;
          rest = rest;
          parts = parts;
          written = text_done ++ appends.part;
          writes = Appends-trans old mid new text_done appends.part so_far.writes appends.appends;
          no_less = record { rest = appends.part; parts = refl };
          no_more = record {
            rest = appends.begins.rest;
            parts = text_push node (script.desk_on so_far.state) done next ∙ ap (λ (l : List ℕ). text_done ++ l) appends.begins.parts ∙ sym (append_assoc text_done appends.part appends.begins.rest);
          };
          less = λ output.
              let more = appends.less output in
              let due = script.frames (script.due (script.after node desk next)) in
              omega (arith, more, length-append text_done appends.part, length-append text_done due, ap length (text_push node (script.desk_on so_far.state) done next));
          nothing = λ disk. ap (λ (l : List ℕ). text_done ++ l) (appends.none disk) ∙ append-nil text_done;
          breaks = breaks;
        }

  -- all of them
  pub all_carried : (commands done : List script.Command) (book : BookView S) (journal : Journal D) (old new : Option (List ℕ)) → commands ≡ done
      → IsCarriedOut node device before done book journal old new
      → HasRun node commands before (areas_in device (store_of journal)) (Leaves device (store_of journal)) old new
  all_carried commands done book journal old new same so_far = record {
    state = so_far.state;
    decoded_first = so_far.decoded_first;
    writes = subst (λ (l : List script.Command). Appends old new (script.text node (script.desk_on so_far.state) l)) (sym same) so_far.writes;
    decoded_later = reported_now node device _ book journal so_far.is_of
        ∙ ap (λ (l : List script.Command). Ok (script.settled_in node (script.desk_after node (script.desk_on so_far.state) l))) (sym same);
    durable = λ areas may. durable_store device journal so_far.is_of.alive areas may;
  }

-- ---- the commands one by one

drop_here : (commands : List Command) (count : ℕ) (next : Command) → count < length commands → next ≡ get_or commands count next → drop count commands ≡ next ∷ drop (count + 1) commands
drop_here commands count next within is =
    let more : suc count ≡ count + 1 = omega arith in
    drop-cons commands count next within ∙ (λ i. sym is i ∷ drop (more i) commands)

-- what comes after those that were carried out
pub script_parts : (commands done : List Command) (next : Command) → done ≡ take (length done) commands → length done < length commands → next ≡ get_or commands (length done) next
    → script_of commands ≡ script_of done ++ said next ∷ script_of (drop (length done + 1) commands)
script_parts commands done next front within is =
    let at = length done in
    let here : drop at commands ≡ next ∷ drop (at + 1) commands = drop_here commands at next within is in
    ap script_of (sym (take-append-drop at commands)) ∙ map-append said (take at commands) (drop at commands)
    ∙ (λ i. script_of (sym front i) ++ script_of (here i))

-- what holds of all commands holds of the next one
pub each_at : (P : Command → Type 0) (commands : List Command) (count : ℕ) (next : Command) → All P commands → count < length commands
    → next ≡ get_or commands count next → P next
each_at P [] count next all within is = absurd (omega (arith, within))
each_at P (command ∷ commands) zero next all within is = subst P (sym is) (All-head P command commands all)
each_at P (command ∷ commands) (suc count) next all within is =
    each_at P commands count next (All-tail P command commands all) (omega (arith, within)) is

-- so each passes
pub passes_at : (charter : Charter) (commands : List Command) (count : ℕ) (next : Command) → All (Passes charter) commands → count < length commands
    → next ≡ get_or commands count next → Passes charter next
passes_at charter commands count next all within is = each_at (Passes charter) commands count next all within is

pub script_push : (done : List Command) (next : Command) → script_of (done ++ next ∷ []) ≡ script_of done ++ said next ∷ []
script_push done next = map-append said done (next ∷ [])

-- on two disks each command can be carried out
on_two : (command : Command) → CarriesOut true command
on_two (Event event) = tt
on_two Flush = tt
on_two Checkpoint = refl
on_two Stop = tt

pub all_on_two : (commands : List Command) → All (CarriesOut true) commands
all_on_two [] = All-nil (CarriesOut true)
all_on_two (command ∷ commands) = All-cons (CarriesOut true) command commands (on_two command) (all_on_two commands)
