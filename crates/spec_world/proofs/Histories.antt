-- Each legal history is where some run begins.
use Rattle.std.proofs.Common.{◌≡◌, Option, true, List, [], ◌∷◌, ◌++◌, length, map, take, drop, refl, sym, ap, ◌∙◌, subst}
use Rattle.std.proofs.lemmas.List.{append-nil}
use Rattle.header.specs.declared.admission.Admission.{Admission}
use Rattle.header.specs.declared.admission.Admission.TheVariants.{New, Known, Refused}
use Rattle.journal.specs.Format.{FitsGroup}
use Rattle.spec_laws.proofs.Legal.{Adds, legal-induction}
use Rattle.spec_model.specs.Admitting.{admit, is_new, IsLegal}
use Rattle.spec_model.specs.Giving.{kept}
use Rattle.spec_model.specs.Histories.{History}
use Rattle.spec_model.specs.Nodes.{Node, IsNode}
use Rattle.spec_model.specs.Words.{Event}
use Rattle.spec_records.specs.Records.{record_of}
use Rattle.spec_world.specs.World.{World, Spare, StandsFor, alone_on, events_of, taken_in, run_on}
use Rattle.spec_world.specs.Steps.{Move, accept, take_to, device_call, settle, restart, with_new, group_to, IsAnswered, IsRecovered, IsRestarted, Leads, IsRun}
use Rattle.spec_world.specs.Runs.{areas_in, first_bytes, HistoriesBegin}
use Rattle.spec_world.proofs.Beginning.{runs_begin}
use Rattle.spec_world.proofs.GoingOn.{stops_are_possible, groups_settle}
use Rattle.spec_world.proofs.Law.{nothing_taken_back}
use Rattle.spec_world.proofs.Scripts.{run_more}
use Rattle.spec_world.proofs.Sizes.{event_fits}

-- a run that began with nothing on disks of which this is the other one, if there are two, and has accepted and settled these events
pub record HasSettled (node : Node) (spare : Option Spare) (history : History) : Type 0 where
  pub moves : List Move
  pub world : World
  pub run : IsRun node moves world
  pub began : world.began ≡ []
  pub accepted : world.accepted ≡ history
  pub settled : world.settled ≡ history
  pub idle : world.groups ≡ []
  pub beside : world.spare ≡ spare

new_of : (answer : Admission) → is_new answer ≡ true → (world : World) (event : Event) → (next : World) × IsAnswered world event answer next
    × (next.accepted ≡ world.accepted ++ event ∷ []) × (next.settled ≡ world.settled) × (next.groups ≡ world.groups) × (next.began ≡ world.began) × (next.spare ≡ world.spare)
new_of (New outputs) new world event = (with_new world event outputs, refl, refl, refl, refl, refl, refl)
new_of (Known outputs) new world event = absurd cc
new_of (Refused why) new world event = absurd cc

-- all of a list, and what follows as many as there are in front
take_all : (history : History) → take (length history) history ≡ history
take_all [] = refl
take_all (first ∷ history) = ap (λ l. first ∷ l) (take_all history)

drop_front : (history : History) (event : Event) → drop (length history) (history ++ event ∷ []) ≡ event ∷ []
drop_front [] event = refl
drop_front (first ∷ history) event = drop_front history event

-- with one more
one_more : (node : Node) (spare : Option Spare) (history : History) (event : Event) → IsNode node → Adds node history event → HasSettled node spare history
    → HasSettled node spare (history ++ event ∷ [])
one_more node spare history event sound adds so_far =
    let world = so_far.world in
    let all : world.began ++ world.accepted ≡ history = (λ i. so_far.began i ++ so_far.accepted i) in
    let new : is_new (admit node (world.began ++ world.accepted) event) ≡ true = ap (λ (h : History). is_new (admit node h event)) all ∙ adds.new in
    let next = new_of (admit node (world.began ++ world.accepted) event) new world event in
    let leads : Leads node world (accept event ∷ []) next.0 = (next.0, record { is_taken = adds.taken; is = next.1 }, refl) in
    let run = run_more node so_far.moves (accept event ∷ []) world next.0 so_far.run leads in
    let accepted : next.0.accepted ≡ history ++ event ∷ [] = next.2 ∙ ap (λ (l : History). l ++ event ∷ []) so_far.accepted in
    let idle : next.0.groups ≡ [] = next.4 ∙ so_far.idle in
    let taken : taken_in next.0 ≡ history = (λ i. (next.3 ∙ so_far.settled) i ++ events_of (idle i)) ∙ append-nil history in
    let longer = history ++ event ∷ [] in
    let count = length longer in
    let group : group_to next.0 count ≡ event ∷ [] =
    (λ i. drop (length (taken i)) (take count (accepted i))) ∙ ap (drop (length history)) (take_all longer) ∙ drop_front history event in
    let fits : FitsGroup (map record_of (group_to next.0 count)) = subst (λ (l : History). FitsGroup (map record_of l)) (sym group) (event_fits event adds.taken.message) in
    let there = groups_settle node (so_far.moves ++ accept event ∷ []) next.0 count sound run idle fits in
    let steps = take_to count ∷ device_call ∷ device_call ∷ device_call ∷ device_call ∷ settle ∷ [] in
    record {
      moves = (so_far.moves ++ accept event ∷ []) ++ steps;
      world = there.0;
      run = run_more node (so_far.moves ++ accept event ∷ []) steps next.0 there.0 run there.1;
      began = there.2.began ∙ next.5 ∙ so_far.began;
      accepted = there.2.accepted ∙ accepted;
      settled = there.2.settled ∙ ap (take count) accepted ∙ take_all longer;
      idle = there.2.groups;
      beside = there.2.spare ∙ next.6 ∙ so_far.beside;
    }

-- from the first world of a run on all events of a history can be settled
pub all_settled : (node : Node) (first : World) (moves : List Move) (history : History) → IsLegal node history → IsRun node moves first → first.began ≡ [] → first.accepted ≡ []
    → first.settled ≡ [] → first.groups ≡ [] → HasSettled node first.spare history
all_settled node first moves history legal run began accepted settled idle =
    legal-induction node (HasSettled node first.spare)
    (record { moves = moves; world = first; run = run; began = began; accepted = accepted; settled = settled; idle = idle; beside = refl })
    (λ so_far event adds done. one_more node first.spare so_far event legal.sound adds done) history legal

pub histories_begin : HistoriesBegin
histories_begin node history on legal keys opened =
    let first = run_on (alone_on (first_bytes node)) [] [] in
    let settled = all_settled node first [] history legal (runs_begin node legal.sound keys) refl refl refl refl in
    let world = settled.world in
    let found = areas_in world in
    let all : world.began ++ world.settled ≡ history = (λ i. settled.began i ++ settled.settled i) in
    let sound = legal.sound in
    let may = stops_are_possible node settled.moves world sound settled.run in
    let never = nothing_taken_back node settled.moves world sound settled.run in
    let is = never.stands found may in
    let same : is.0 ≡ history = is.1.without_group settled.idle ∙ all in
    let next = run_on on history world.given in
    let restarted : IsRestarted node world found next = record {
      left = may;
      recovered = subst (IsRecovered node world) same is.1;
      stands_for = subst (λ h. StandsFor node found (kept node h)) same is.2;
      disks = on;
      opened = opened;
      is = refl;
    } in
    (world.given, settled.moves ++ restart found ∷ [], run_more node settled.moves (restart found ∷ []) world next settled.run (next, restarted, refl))
