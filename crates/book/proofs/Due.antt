-- What may go out after what a ticket counts.
use Rattle.std.proofs.Common.{◌≡◌, ℕ, ◌+◌, ◌≤◌, List, [], ◌∷◌, ◌++◌, length, take, refl, sym, ap, ◌∙◌, subst, arith}
use Rattle.std.specs.Prelude.{All, Contains}
use Rattle.std.proofs.lemmas.List.{take_all, take-append-le, length_push, length-append}
use Rattle.std.proofs.lemmas.List.Elements.{All-map, All-weaker, All-append, All-head, All-tail, All-contains_itself}
use Rattle.spec_machine.specs.After.{after_all, IsLegalAfter, WasPutOutAfter, by_new, by_known}
use Rattle.spec_machine.specs.Machine.{answered, after}
use Rattle.spec_machine.proofs.AfterAll.{after_last, put_out_may_be_given}
use Rattle.spec_model.specs.Admitting.{IsTaken}
use Rattle.spec_model.specs.Histories.{History}
use Rattle.wire.specs.Lists.{Begins}
use Rattle.spec_model.specs.Nodes.{Node}
use Rattle.spec_model.specs.States.{State}
use Rattle.spec_model.specs.Words.{Event, Output}
use Rattle.header.specs.declared.admission.Admission.TheVariants.{New, Known}
use Rattle.spec_world.specs.World.{Waiting}
use Rattle.spec_world.specs.Steps.{ticketed}
use Rattle.book.specs.Book.{Run, GoesOutAfter, IsDue, state_in, state_to, with_accepted}
use Rattle.book.specs.Queue.{TicketsRise}

-- a beginning is no longer
pub begins_length : {X : Type 0} (one other : List X) → Begins one other → length one ≤ length other
begins_length one other begins = omega (arith, ap length begins.parts, length-append one begins.rest)

-- ---- the state after the first events

-- one more changes nothing of it
pub events_stay : (run : Run) (event : Event) (count : ℕ) → count ≤ length run.accepted → take count (with_accepted run event).accepted ≡ take count run.accepted
events_stay run event count within = take-append-le count run.accepted (event ∷ []) within

pub state_stays : (node : Node) (run : Run) (event : Event) (count : ℕ) → count ≤ length run.accepted → state_to node count (with_accepted run event) ≡ state_to node count run
state_stays node run event count within = ap (after_all node run.base) (events_stay run event count within)

-- all of them are what was accepted
pub events_now : (run : Run) → take (length run.accepted) run.accepted ≡ run.accepted
events_now run = take_all (length run.accepted) run.accepted (omega arith)

pub state_now : (node : Node) (run : Run) → state_to node (length run.accepted) run ≡ state_in node run
state_now node run = ap (after_all node run.base) (events_now run)

-- with one more it is the state after that
pub state_more : (node : Node) (run : Run) (event : Event) → state_in node (with_accepted run event) ≡ after node (state_in node run) event
state_more node run event = after_last node run.base run.accepted event

-- ---- outputs

-- outputs with a ticket are due
due_all : (node : Node) (run : Run) (ticket : ℕ) (outputs : List Output) → ticket ≤ length run.accepted → All (GoesOutAfter node run.base (take ticket run.accepted)) outputs
    → All (IsDue node run) (ticketed ticket outputs)
due_all node run ticket outputs within out =
    All-map (IsDue node run) (λ (output : Output). record { ticket = ticket; output = output }) outputs
    (All-weaker (GoesOutAfter node run.base (take ticket run.accepted)) (λ o. IsDue node run (record { ticket = ticket; output = o }))
    (λ o is. record { within = within; goes_out = is }) outputs out)

-- what was due is so after one event more
still_due : (node : Node) (run : Run) (event : Event) (waiting : Waiting) → IsDue node run waiting → IsDue node (with_accepted run event) waiting
still_due node run event waiting due = record {
  within = omega (arith, due.within, length_push run.accepted event);
  goes_out = subst (λ (l : History). GoesOutAfter node run.base l waiting.output) (sym (events_stay run event waiting.ticket due.within)) due.goes_out;
}

-- what was put out goes out
goes_out : (node : Node) (base : State) (events : History) (output : Output) → IsLegalAfter node base events → WasPutOutAfter node base events output → GoesOutAfter node base events output
goes_out node base events output legal put = record { legal = legal; put = put; may = put_out_may_be_given node base events output legal put }

-- what a new event puts out, and what a known one does
put_new : (node : Node) (base : State) (events : History) (event : Event) (outputs : List Output) → IsLegalAfter node base (events ++ event ∷ [])
    → answered node (after_all node base events) event ≡ New outputs → All (GoesOutAfter node base (events ++ event ∷ [])) outputs
put_new node base events event outputs legal is =
    All-weaker (Contains outputs) (GoesOutAfter node base (events ++ event ∷ []))
    (λ o inside. goes_out node base (events ++ event ∷ []) o legal (by_new events event outputs refl is inside)) outputs (All-contains_itself outputs)

put_known : (node : Node) (base : State) (events : History) (event : Event) (outputs : List Output) → IsLegalAfter node base events → IsTaken node event
    → answered node (after_all node base events) event ≡ Known outputs → All (GoesOutAfter node base events) outputs
put_known node base events event outputs legal taken is =
    All-weaker (Contains outputs) (GoesOutAfter node base events)
    (λ o inside. goes_out node base events o legal (by_known event outputs taken is inside)) outputs (All-contains_itself outputs)

-- tickets go on rising after outputs whose ticket is no lower
all_from : (low ticket : ℕ) (outputs : List Output) → low ≤ ticket → All (λ w. low ≤ w.ticket) (ticketed ticket outputs)
all_from low ticket outputs le =
    All-map (λ w. low ≤ w.ticket) (λ (output : Output). record { ticket = ticket; output = output }) outputs
    (All-weaker (Contains outputs) (λ o. low ≤ ticket) (λ o inside. le) outputs (All-contains_itself outputs))

rise_same : (ticket : ℕ) (outputs : List Output) → TicketsRise (ticketed ticket outputs)
rise_same ticket [] = tt
rise_same ticket (output ∷ outputs) = (all_from ticket ticket outputs (omega arith), rise_same ticket outputs)

rise_more : (queue : List Waiting) (ticket : ℕ) (outputs : List Output) → All (λ w. w.ticket ≤ ticket) queue → TicketsRise queue → TicketsRise (queue ++ ticketed ticket outputs)
rise_more [] ticket outputs upto rise = rise_same ticket outputs
rise_more (w ∷ queue) ticket outputs upto rise = (
  All-append (λ v. w.ticket ≤ v.ticket) queue (ticketed ticket outputs) rise.0 (all_from w.ticket ticket outputs (All-head (λ v. v.ticket ≤ ticket) w queue upto)),
  rise_more queue ticket outputs (All-tail (λ v. v.ticket ≤ ticket) w queue upto) rise.1,
)

pub rise_new : (node : Node) (run : Run) (ticket : ℕ) (outputs : List Output) (queue : List Waiting) → length run.accepted ≤ ticket → All (IsDue node run) queue → TicketsRise queue
    → TicketsRise (queue ++ ticketed ticket outputs)
rise_new node run ticket outputs queue le due rise =
    rise_more queue ticket outputs (All-weaker (IsDue node run) (λ w. w.ticket ≤ ticket) (λ w is. omega (arith, is.within, le)) queue due) rise

-- the queue after a new event
pub due_new : (node : Node) (run : Run) (event : Event) (outputs : List Output) (queue : List Waiting) → IsLegalAfter node run.base (with_accepted run event).accepted
    → answered node (state_in node run) event ≡ New outputs → All (IsDue node run) queue
    → All (IsDue node (with_accepted run event)) (queue ++ ticketed (length run.accepted + 1) outputs)
due_new node run event outputs queue legal is due =
    let longer = run.accepted ++ event ∷ [] in
    let long : length run.accepted + 1 ≡ length longer = omega (arith, length_push run.accepted event) in
    let now : take (length run.accepted + 1) longer ≡ longer = ap (λ n. take n longer) long ∙ events_now (with_accepted run event) in
    let out = subst (λ (l : History). All (GoesOutAfter node run.base l) outputs) (sym now) (put_new node run.base run.accepted event outputs legal is) in
    All-append (IsDue node (with_accepted run event)) queue (ticketed (length run.accepted + 1) outputs)
    (All-weaker (IsDue node run) (IsDue node (with_accepted run event)) (still_due node run event) queue due)
    (due_all node (with_accepted run event) (length run.accepted + 1) outputs (omega (arith, long)) out)

-- and after a known one
pub due_known : (node : Node) (run : Run) (event : Event) (outputs : List Output) (queue : List Waiting) → IsLegalAfter node run.base run.accepted → IsTaken node event
    → answered node (state_in node run) event ≡ Known outputs → All (IsDue node run) queue
    → All (IsDue node run) (queue ++ ticketed (length run.accepted) outputs)
due_known node run event outputs queue legal taken is due =
    let out = subst (λ (l : History). All (GoesOutAfter node run.base l) outputs) (sym (events_now run)) (put_known node run.base run.accepted event outputs legal taken is) in
    All-append (IsDue node run) queue (ticketed (length run.accepted) outputs) due (due_all node run (length run.accepted) outputs (omega arith) out)
