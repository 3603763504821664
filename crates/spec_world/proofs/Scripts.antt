-- Every text of a script is what some run gives out.
use Rattle.std.proofs.Common.{◌≡◌, ◌≤◌, ℕ, ◌+◌, List, [], ◌∷◌, ◌++◌, length, map, take, drop, inl, inr, refl, sym, ap, ◌∙◌, subst, append_assoc, append-nil}
use Rattle.std.specs.Prelude.{All, Contains, not}
use Rattle.std.proofs.lemmas.Bool.{leb-true}
use Rattle.std.proofs.lemmas.Grind.{flat_map-append}
use Rattle.std.proofs.lemmas.List.{map-append, drop_at, take_at}
use Rattle.std.proofs.lemmas.List.Elements.{All-head, All-tail, All-drop, Contains-append_left, Contains-append_right, Contains-append_cases}
use Rattle.journal.specs.Format.{FitsGroup}
use Rattle.spec_laws.proofs.Lists.{Contains-nothing, Contains-first, Contains-later}
use Rattle.spec_machine.specs.After.{after_all}
use Rattle.spec_machine.specs.Machine.{answered}
use Rattle.spec_machine.proofs.AfterAll.{after_is_kept, answered_kept}
use Rattle.spec_model.specs.Admitting.{admit, IsTaken, IsLegal}
use Rattle.spec_model.specs.Giving.{kept}
use Rattle.spec_model.specs.Histories.{History}
use Rattle.spec_model.specs.Nodes.{Node, IsNode}
use Rattle.spec_model.specs.Words.{Event}
use Rattle.header.specs.declared.admission.Admission.{Admission}
use Rattle.header.specs.declared.admission.Admission.TheVariants.{New, Known, Refused}
use Rattle.spec_records.specs.Records.{record_of}
use Rattle.spec_world.specs.World.{Waiting, put_out, Given, World, events_of}
use Rattle.spec_world.specs.Runs.{areas_in}
use Rattle.spec_world.specs.Steps.{Move, accept, take_to, device_call, settle, release, restart, ticketed, with_new, with_known, with_given, IsAnswered, group_to, Leads, IsRun}
use Rattle.spec_world.specs.Text.{Command, take_in, flush, checkpoint, stop, Desk, desk_on, state_in, settled_in, with_answer, group_of, flushed, after, is_due}
use Rattle.spec_world.specs.Text.{due, without_due, frames, carried_out, text, desk_after}
use Rattle.wire.specs.Outputs.{frame_of}
use Rattle.spec_world.specs.Scripts.{IsAtDesk, WentOut, IsTakenIn, ScriptsAreRuns, ScriptsBegin}
use Rattle.spec_world.proofs.Ballots.{picked_of}
use Rattle.spec_world.proofs.Sizes.{event_fits}
use Rattle.spec_world.proofs.Filling.{group_fits}
use Rattle.spec_world.proofs.GoingOn.{stops_are_possible, runs_begin_with_what_stands, groups_settle}
use Rattle.spec_world.proofs.Law.{nothing_taken_back, run_stands}
use Rattle.spec_world.proofs.Standing.{settled_accepted}

-- ---- longer runs

-- moves after moves
pub leads_join : (node : Node) (world : World) (one two : List Move) (middle last : World) → Leads node world one middle → Leads node middle two last → Leads node world (one ++ two) last
leads_join node world [] two middle last same more = subst (λ (w : World). Leads node w two last) (sym same) more
leads_join node world (move ∷ one) two middle last leads more = (leads.0, leads.1, leads_join node leads.0 one two middle last leads.2 more)

-- a run goes on by moves
pub run_more : (node : Node) (moves more : List Move) (world last : World) → IsRun node moves world → Leads node world more last → IsRun node (moves ++ more) last
run_more node moves more world last run leads = record {
  first = run.first;
  begins = run.begins;
  leads = leads_join node run.first moves more world last run.leads leads;
}

-- moves lead from a world to one that stands at a desk, and these outputs go out
pub record Goes (node : Node) (world : World) (desk : Desk) (outputs : List Waiting) : Type 0 where
  pub more : List Move
  pub later : World
  pub leads : Leads node world more later
  pub at_desk : IsAtDesk node later desk
  pub went_out : WentOut world later outputs

went_none : (world later : World) → later.given ≡ world.given → WentOut world later []
went_none world later same = record { more = []; given = same ∙ sym (append-nil world.given); are = refl }

went_join : (world middle last : World) (one two : List Waiting) → WentOut world middle one → WentOut middle last two → WentOut world last (one ++ two)
went_join world middle last one two first second =
    let outgoing = λ (given : Given). given.outgoing in
    let out = λ (w : Waiting). put_out w.output in
    record {
      more = first.more ++ second.more;
      given = second.given ∙ ap (λ (l : List Given). l ++ second.more) first.given ∙ append_assoc world.given first.more second.more;
      are = map-append outgoing first.more second.more ∙ (λ i. first.are i ++ second.are i) ∙ sym (map-append out one two);
    }

goes_join : (node : Node) (world : World) (middle desk : Desk) (one two : List Waiting) (first : Goes node world middle one) → Goes node first.later desk two → Goes node world desk (one ++ two)
goes_join node world middle desk one two first second = record {
  more = first.more ++ second.more;
  later = second.later;
  leads = leads_join node world first.more second.more first.later second.later first.leads second.leads;
  at_desk = second.at_desk;
  went_out = went_join world first.later second.later one two first.went_out second.went_out;
}

-- no move
goes_nowhere : (node : Node) (world : World) (desk : Desk) → IsAtDesk node world desk → Goes node world desk []
goes_nowhere node world desk at = record { more = []; later = world; leads = refl; at_desk = at; went_out = went_none world world refl }

-- ---- an event comes in

-- with more that waits at both
more_waits : (at_world at_desk : List Waiting) (more also : List Waiting) → ((w : Waiting) → Contains at_desk w → Contains at_world w) → also ≡ more
    → (w : Waiting) → Contains (at_desk ++ more) w → Contains (at_world ++ also) w
more_waits at_world at_desk more also waits same w inside =
    elim (Contains-append_cases at_desk more w inside) [
      | inl before ↦ Contains-append_left at_world also w (waits w before)
      | inr new ↦ Contains-append_right at_world also w (subst (λ (l : List Waiting). Contains l w) (sym same) new)
    ]

answer_goes : (node : Node) (world : World) (desk : Desk) (event : Event) (answer : Admission) → IsAtDesk node world desk → IsTaken node event
    → admit node (world.began ++ world.accepted) event ≡ answer
    → Goes node world (with_answer desk event answer) []
answer_goes node world desk event (New outputs) at taken is =
    let later = with_new world event outputs in
    let tickets : ticketed (length world.accepted + 1) outputs ≡ ticketed (length desk.accepted + 1) outputs = ap (λ (l : History). ticketed (length l + 1) outputs) at.accepted in
    record {
      more = accept event ∷ [];
      later = later;
      leads = (later, record { is_taken = taken; is = subst (λ (a : Admission). IsAnswered world event a later) (sym is) refl }, refl);
      at_desk = record {
        base = at.base;
        accepted = ap (λ (l : History). l ++ event ∷ []) at.accepted;
        settled = at.settled;
        groups = at.groups;
        phase = at.phase;
        waits = more_waits world.waiting desk.waiting (ticketed (length desk.accepted + 1) outputs) (ticketed (length world.accepted + 1) outputs) at.waits tickets;
      };
      went_out = went_none world later refl;
    }
answer_goes node world desk event (Known outputs) at taken is =
    let later = with_known world outputs in
    let tickets : ticketed (length world.accepted) outputs ≡ ticketed (length desk.accepted) outputs = ap (λ (l : History). ticketed (length l) outputs) at.accepted in
    record {
      more = accept event ∷ [];
      later = later;
      leads = (later, record { is_taken = taken; is = subst (λ (a : Admission). IsAnswered world event a later) (sym is) refl }, refl);
      at_desk = record {
        base = at.base;
        accepted = at.accepted;
        settled = at.settled;
        groups = at.groups;
        phase = at.phase;
        waits = more_waits world.waiting desk.waiting (ticketed (length desk.accepted) outputs) (ticketed (length world.accepted) outputs) at.waits tickets;
      };
      went_out = went_none world later refl;
    }
answer_goes node world desk event (Refused refusal) at taken is = goes_nowhere node world desk at

-- ---- what is pending is settled

module _ (node : Node) (sound : IsNode node) (moves : List Move) (world : World) (run : IsRun node moves world) (desk : Desk) (at : IsAtDesk node world desk) where
  -- with nothing more settled
  same_flushed : (group : History) → group ≡ [] → Goes node world (record desk { settled = desk.settled ++ group }) []
  same_flushed group none = goes_nowhere node world (record desk { settled = desk.settled ++ group }) (record {
    base = at.base;
    accepted = at.accepted;
    settled = at.settled ∙ sym (append-nil desk.settled) ∙ ap (λ (l : History). desk.settled ++ l) (sym none);
    groups = at.groups;
    phase = at.phase;
    waits = at.waits;
  })

  -- with a group that fits
  group_flushed : (group rest : History) → drop (length desk.settled) desk.accepted ≡ group ++ rest → FitsGroup (map record_of group)
      → Goes node world (record desk { settled = desk.settled ++ group }) []
  group_flushed group rest parts fits =
      let begins = settled_accepted node world (run_stands node moves world sound run) in
      let pending : begins.rest ≡ group ++ rest =
      sym (drop_at world.settled begins.rest (length world.settled) refl) ∙ ap (drop (length world.settled)) (sym begins.parts) ∙ (λ i. drop (length (at.settled i)) (at.accepted i)) ∙ parts in
      let all : world.accepted ≡ (world.settled ++ group) ++ rest = begins.parts ∙ ap (λ (l : History). world.settled ++ l) pending ∙ sym (append_assoc world.settled group rest) in
      let count = length (world.settled ++ group) in
      let front : take count world.accepted ≡ world.settled ++ group = ap (take count) all ∙ take_at (world.settled ++ group) rest count refl in
      let taken : world.settled ++ events_of world.groups ≡ world.settled = ap (λ (l : List History). world.settled ++ events_of l) at.groups ∙ append-nil world.settled in
      let is_group : group_to world count ≡ group = (λ i. drop (length (taken i)) (front i)) ∙ drop_at world.settled group (length world.settled) refl in
      let made = groups_settle node moves world count sound run at.groups (subst (λ (l : History). FitsGroup (map record_of l)) (sym is_group) fits) in
      let next = made.0 in
      let is = made.2 in
      record {
        more = take_to count ∷ device_call ∷ device_call ∷ device_call ∷ device_call ∷ settle ∷ [];
        later = next;
        leads = made.1;
        at_desk = record {
          base = ap (kept node) is.began ∙ at.base;
          accepted = is.accepted ∙ at.accepted;
          settled = is.settled ∙ front ∙ ap (λ (l : History). l ++ group) at.settled;
          groups = is.groups;
          phase = is.phase;
          waits = λ w inside. subst (λ (l : List Waiting). Contains l w) (sym is.waiting) (at.waits w inside);
        };
        went_out = went_none world next is.given;
      }

  flush_goes : Goes node world (flushed desk) []
  flush_goes =
      let is = group_fits (drop (length desk.settled) desk.accepted) in
      elim is.fits [
        | inl none ↦ same_flushed (group_of (drop (length desk.settled) desk.accepted)) none
        | inr fits ↦ group_flushed (group_of (drop (length desk.settled) desk.accepted)) is.rest is.parts fits
      ]

-- ---- all that is accepted is settled

-- what is pending, one event after the other
each_goes : (node : Node) (sound : IsNode node) (pending : History) (moves : List Move) (world : World) (run : IsRun node moves world) (desk : Desk) → IsAtDesk node world desk
    → desk.accepted ≡ desk.settled ++ pending → All (IsTaken node) pending → Goes node world (record desk { settled = desk.accepted }) []
each_goes node sound [] moves world run desk at parts taken =
    let all : desk.settled ≡ desk.accepted = sym (append-nil desk.settled) ∙ sym parts in
    goes_nowhere node world (record desk { settled = desk.accepted })
    (record { base = at.base; accepted = at.accepted; settled = at.settled ∙ all; groups = at.groups; phase = at.phase; waits = at.waits })
each_goes node sound (event ∷ pending) moves world run desk at parts taken =
    let here : drop (length desk.settled) desk.accepted ≡ (event ∷ []) ++ pending = ap (drop (length desk.settled)) parts ∙ drop_at desk.settled (event ∷ pending) (length desk.settled) refl in
    let first = group_flushed node sound moves world run desk at (event ∷ []) pending here (event_fits event (All-head (IsTaken node) event pending taken).message) in
    let next : Desk = record desk { settled = desk.settled ++ event ∷ [] } in
    goes_join node world next (record desk { settled = desk.accepted }) [] [] first
    (each_goes node sound pending (moves ++ first.more) first.later (run_more node moves first.more world first.later run first.leads) next first.at_desk
    (parts ∙ sym (append_assoc desk.settled (event ∷ []) pending)) (All-tail (IsTaken node) event pending taken))

module _ (node : Node) (sound : IsNode node) (moves : List Move) (world : World) (run : IsRun node moves world) (desk : Desk) (at : IsAtDesk node world desk) where
  -- ---- the machine stops

  stop_goes : Goes node world (desk_on (settled_in node desk)) []
  stop_goes =
      let found = areas_in world in
      let may = stops_are_possible node moves world sound run in
      let never = nothing_taken_back node moves world sound run in
      let is = never.stands found may in
      let all : is.0 ≡ world.began ++ world.settled = is.1.without_group at.groups in
      let settled : kept node is.0 ≡ settled_in node desk =
      ap (kept node) all ∙ sym (after_is_kept node world.began world.settled (subst (IsLegal node) all is.1.legal)) ∙ (λ i. after_all node (at.base i) (at.settled i)) in
      let begun = runs_begin_with_what_stands node moves world found is.0 sound run may is.1 is.2 in
      let next = begun.0 in
      let step = begun.1 in
      record {
        more = restart found ∷ [];
        later = next;
        leads = (next, step, refl);
        at_desk = record {
          base = ap (kept node) begun.2 ∙ settled;
          accepted = ap (λ (w : World). w.accepted) step.is;
          settled = ap (λ (w : World). w.settled) step.is;
          groups = ap (λ (w : World). w.groups) step.is;
          phase = ap (λ (w : World). w.phase) step.is;
          waits = λ w inside. absurd (Contains-nothing w inside);
        };
        went_out = went_none world next begun.3;
      }

  -- all that is accepted is settled
  checkpoint_goes : Goes node world (record desk { settled = desk.accepted }) []
  checkpoint_goes =
      let stands = run_stands node moves world sound run in
      let begins = settled_accepted node world stands in
      let accepted : All (IsTaken node) world.accepted =
      subst (All (IsTaken node)) (drop_at world.began world.accepted (length world.began) refl) (All-drop (IsTaken node) (length world.began) (world.began ++ world.accepted) stands.legal.taken) in
      let pending : All (IsTaken node) begins.rest =
      subst (All (IsTaken node)) (ap (drop (length world.settled)) begins.parts ∙ drop_at world.settled begins.rest (length world.settled) refl)
      (All-drop (IsTaken node) (length world.settled) world.accepted accepted) in
      each_goes node sound begins.rest moves world run desk at (sym at.accepted ∙ begins.parts ∙ ap (λ (l : History). l ++ begins.rest) at.settled) pending

  -- what a command makes of it
  after_goes : (command : Command) → IsTakenIn node command → Goes node world (after node desk command) []
  unfolding after
  after_goes (take_in event) taken =
      let legal = (run_stands node moves world sound run).legal in
      answer_goes node world desk event (answered node (state_in node desk) event) at taken
      (answered_kept node world.began world.accepted event legal taken ∙ (λ i. answered node (after_all node (at.base i) (at.accepted i)) event))
  after_goes flush taken = flush_goes node sound moves world run desk at
  after_goes checkpoint taken = checkpoint_goes
  after_goes stop taken = stop_goes

-- ---- what is due goes out

-- one output
release_goes : (node : Node) (world : World) (desk : Desk) (w : Waiting) → IsAtDesk node world desk → Contains desk.waiting w → w.ticket ≤ length desk.settled → Goes node world desk (w ∷ [])
release_goes node world desk w at waits ready =
    let history = world.began ++ take w.ticket world.accepted in
    let later = with_given world (put_out w.output) history in
    record {
      more = release w ∷ [];
      later = later;
      leads = (later, record { waits = at.waits w waits; ready = subst (λ (l : History). w.ticket ≤ length l) (sym at.settled) ready; is = refl }, refl);
      at_desk = record { base = at.base; accepted = at.accepted; settled = at.settled; groups = at.groups; phase = at.phase; waits = at.waits };
      went_out = record { more = record { outgoing = put_out w.output; history = history } ∷ []; given = refl; are = refl };
    }

-- and one after the other
releases_go : (node : Node) (world : World) (desk : Desk) (outputs : List Waiting) → IsAtDesk node world desk
    → ((w : Waiting) → Contains outputs w → Contains desk.waiting w × (w.ticket ≤ length desk.settled))
    → Goes node world desk outputs
releases_go node world desk [] at each = goes_nowhere node world desk at
releases_go node world desk (w ∷ outputs) at each =
    let is = each w (Contains-first outputs w) in
    let first = release_goes node world desk w at is.0 is.1 in
    goes_join node world desk desk (w ∷ []) outputs first
    (releases_go node first.later desk outputs first.at_desk (λ other inside. each other (Contains-later w outputs other inside)))

-- they no longer wait at the desk
without_waits : (node : Node) (world : World) (desk : Desk) → IsAtDesk node world desk → IsAtDesk node world (without_due desk)
without_waits node world desk at = record {
  base = at.base;
  accepted = at.accepted;
  settled = at.settled;
  groups = at.groups;
  phase = at.phase;
  waits = λ w inside. at.waits w (picked_of (λ (one : Waiting). not (is_due desk one)) desk.waiting w inside).0;
}

due_goes : (node : Node) (world : World) (desk : Desk) → IsAtDesk node world desk → Goes node world (without_due desk) (due desk)
due_goes node world desk at =
    let each : (w : Waiting) → Contains (due desk) w → Contains desk.waiting w × (w.ticket ≤ length desk.settled) =
    λ w inside. let picked = picked_of (λ (one : Waiting). is_due desk one) desk.waiting w inside in (picked.0, leb-true w.ticket (length desk.settled) picked.1) in
    let out = releases_go node world desk (due desk) at each in
    record { more = out.more; later = out.later; leads = out.leads; at_desk = without_waits node out.later desk out.at_desk; went_out = out.went_out }

-- ---- commands

command_goes : (node : Node) (sound : IsNode node) (moves : List Move) (world : World) (run : IsRun node moves world) (desk : Desk) (command : Command) → IsAtDesk node world desk
    → IsTakenIn node command
    → Goes node world (carried_out node desk command) (due (after node desk command))
command_goes node sound moves world run desk command at taken =
    let first = after_goes node sound moves world run desk at command taken in
    goes_join node world (after node desk command) (carried_out node desk command) [] (due (after node desk command)) first
    (due_goes node first.later (after node desk command) first.at_desk)

-- the text of commands goes out
pub record GoesWith (node : Node) (world : World) (desk : Desk) (commands : List Command) : Type 0 where
  pub outputs : List Waiting
  pub goes : Goes node world (desk_after node desk commands) outputs
  pub is_text : frames outputs ≡ text node desk commands

commands_go : (node : Node) (sound : IsNode node) (moves : List Move) (world : World) (run : IsRun node moves world) (desk : Desk) (commands : List Command) → IsAtDesk node world desk
    → All (IsTakenIn node) commands → GoesWith node world desk commands
unfolding text desk_after
commands_go node sound moves world run desk [] at taken = record { outputs = []; goes = goes_nowhere node world desk at; is_text = refl }
commands_go node sound moves world run desk (command ∷ commands) at taken =
    let now = due (after node desk command) in
    let next = carried_out node desk command in
    let first = command_goes node sound moves world run desk command at (All-head (IsTakenIn node) command commands taken) in
    let rest = commands_go node sound (moves ++ first.more) first.later (run_more node moves first.more world first.later run first.leads) next commands first.at_desk
    (All-tail (IsTakenIn node) command commands taken) in
    record {
      outputs = now ++ rest.outputs;
      goes = goes_join node world next (desk_after node next commands) now rest.outputs first rest.goes;
      is_text = flat_map-append (λ (one : Waiting). frame_of one.output) now rest.outputs ∙ ap (λ (l : List ℕ). frames now ++ l) rest.is_text;
    }

pub scripts_are_runs : ScriptsAreRuns
scripts_are_runs node moves world desk commands sound run at taken =
    let is = commands_go node sound moves world run desk commands at taken in
    let goes = is.goes in
    record {
      more = goes.more;
      later = goes.later;
      run = run_more node moves goes.more world goes.later run goes.leads;
      leads = goes.leads;
      at_desk = goes.at_desk;
      outputs = is.outputs;
      went_out = goes.went_out;
      is_text = is.is_text;
    }

pub scripts_begin : ScriptsBegin
scripts_begin node on began given = record { base = refl; accepted = refl; settled = refl; groups = refl; phase = refl; waits = λ w inside. absurd (Contains-nothing w inside) }
