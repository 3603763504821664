-- Each step keeps what holds of the world.
use Rattle.std.proofs.Common.{◌≡◌, ◌⊎◌, inl, inr, ℕ, suc, ◌+◌, ◌-◌, ◌<◌, ◌≤◌, List, [], ◌∷◌, ◌++◌, map, length, take, drop, Option, Some, None, refl, ap, sym, ◌∙◌, subst, arith, append_assoc, length-take, length-drop, take-append-drop}
use Rattle.std.specs.Prelude.{◌≢◌, ◌==◌, All, Bool, true, false, if◌then◌else◌, slice_get}
use Rattle.std.proofs.lemmas.List.{take_all as all_taken, take-append-le, drop-append-le, drop_all, drop_at, append-nil, length_push, length-map}
use Rattle.std.proofs.lemmas.Bool.{cases_Bool, eqb-true, eq-eqb, true≢false}
use Rattle.std.proofs.lemmas.Option.{none-some}
use Rattle.std.proofs.lemmas.List.Elements.{All-nil, All-cons, All-append, All-push, All-map, All-weaker, All-contains, All-drop}
use Rattle.diskmodel.specs.declared.call.Call.{Call}
use Rattle.diskmodel.specs.Outcomes.{State, state, all_durable}
use Rattle.diskmodel.proofs.Calls.{after_all-push}
use Rattle.journal.specs.Format.{file_with}
use Rattle.spec_laws.proofs.Legal.{legal-push}
use Rattle.spec_model.specs.Admitting.{admit, is_new, IsTaken, IsLegal}
use Rattle.spec_model.specs.Histories.{History}
use Rattle.wire.specs.Lists.{Begins}
use Rattle.spec_model.specs.Holdings.{order}
use Rattle.spec_model.specs.Nodes.{Node}
use Rattle.spec_model.specs.Words.{Event, Output}
use Rattle.header.specs.declared.admission.Admission.{Admission}
use Rattle.header.specs.declared.admission.Admission.TheVariants.{New, Known, Refused}
use Rattle.spec_records.specs.Records.{record_of}
use Rattle.spec_world.specs.World.{Phase, not_begun, gate_opened, Waiting, Outgoing, put_out, read, World, Holds, events_of, taken_in, durable_in, undurable_in, first_of, group_in, content_in, call_in, call_for, next_call, Spare, Rewriting, IsCheckpointOf}
use Rattle.spec_world.specs.Steps.{Move, accept, take_to, device_call, settle, release, read_order, take_all, spare_call, restart, IsTakenAll, with_spare_call, with_rewritten, after_spare_call, IsSpareCalled, ticketed, with_new, with_known}
use Rattle.spec_world.specs.Steps.{with_given, IsAnswered, IsTakenTo, IsCalled, IsSettled, IsReleased, IsRestarted, next_phase, next_durable, group_to, IsStep}
use Rattle.spec_world.specs.Steps.{Leads}
use Rattle.spec_world.proofs.Answered.{new_put, known_put}
use Rattle.spec_world.proofs.Bytes.{group_in_bytes, longer_bytes}
use Rattle.spec_world.proofs.Disks.{Stage, stage_of, stage_after, IsAt, FitsAsGroup, due_first, called, longer_stands, longer_ends, whole_keeps, IsNextStage, last_stage, earlier_stage, next_stage}
use Rattle.spec_world.proofs.Groups.{with_first, events_split, take_next, take_none, some_after, first_of_durable, same_undurable, drop_next, taken_more}
use Rattle.spec_world.proofs.Orders.{begins_same, begins_trans, begins_join, shorter_begins, IsPut, IsEnded}
use Rattle.spec_world.proofs.Recovering.{holds_more}
use Rattle.spec_world.proofs.Standing.{IsDue, IsKept, Stands, IsAtRestBeside, IsBeside, IsRewritingAt, IsSpareAt, to_append, areas_with, side_of, spare_same, none_rewritten, fit_to_write}
use Rattle.spec_world.proofs.Standing.{settled_accepted, first_between, legal_between, group_events, pair_is, pair_stays, reads_live, beside_older, fresh_disk, checkpoint_holds, begins_standing}
use Rattle.spec_world.proofs.Rewriting.{keeps_reporting, get_inside, made_state, last_state, made_more}
use Rattle.journal.specs.Areas.{Areas, pair_of, other_side, reports, stands_at, stands_in, IsAtRest, rewrite_calls}
use Rattle.journal.proofs.Reporting.{at_rest_older, both_older}
use Rattle.spec_laws.proofs.Legal.{legal-begins}
use Rattle.spec_machine.proofs.AfterAll.{kept_is_sound}
use Rattle.spec_model.specs.Giving.{kept}
use Rattle.std.specs.Option.{option_map_or}

-- ---- an event is accepted

-- outputs with a ticket are due
due_all : (node : Node) (began accepted : History) (ticket : ℕ) (outputs : List Output) → ticket ≤ length accepted → All (IsPut node (began ++ take ticket accepted)) outputs
    → All (IsDue node began accepted) (ticketed ticket outputs)
due_all node began accepted ticket outputs within put =
    All-map (IsDue node began accepted) (λ (output : Output). record { ticket = ticket; output = output }) outputs
    (All-weaker (IsPut node (began ++ take ticket accepted)) (λ o. IsDue node began accepted (record { ticket = ticket; output = o }))
    (λ o is. record { within = within; put = is }) outputs put)

-- what was due is so after one event more
still_due : (node : Node) (began accepted : History) (event : Event) (waiting : Waiting) → IsDue node began accepted waiting → IsDue node began (accepted ++ event ∷ []) waiting
still_due node began accepted event waiting due = record {
  within = omega (arith, due.within, length_push accepted event);
  put = subst (λ h. IsPut node (began ++ h) waiting.output) (sym (take-append-le waiting.ticket accepted (event ∷ []) due.within)) due.put;
}

new_accepted : (node : Node) (world : World) (event : Event) (outputs : List Output) → Stands node world → IsTaken node event → admit node (world.began ++ world.accepted) event ≡ New outputs
    → Stands node (with_new world event outputs)
new_accepted node world event outputs at is_taken is =
    let history = world.began ++ world.accepted in
    let longer = world.accepted ++ event ∷ [] in
    let legal = legal-push node history event at.legal is_taken (ap is_new is) in
    let joined : history ++ event ∷ [] ≡ world.began ++ longer = append_assoc world.began world.accepted (event ∷ []) in
    let all : take (length world.accepted + 1) longer ≡ longer = all_taken (length world.accepted + 1) longer (omega (arith, length_push world.accepted event)) in
    let put : All (IsPut node (world.began ++ take (length world.accepted + 1) longer)) outputs =
    subst (λ h. All (IsPut node h) outputs) (joined ∙ ap (λ l. world.began ++ l) (sym all)) (new_put node history event outputs legal is) in
    record {
      legal = subst (IsLegal node) joined legal;
      taken = begins_trans (taken_in world) world.accepted longer at.taken (record { rest = event ∷ []; parts = refl });
      within = at.within;
      file = at.file;
      ends_closed = at.ends_closed;
      are_bytes = at.are_bytes;
      holds = at.holds;
      rest = at.rest;
      beside = at.beside;
      spare = at.spare;
      disk = at.disk;
      fits = at.fits;
      idle = at.idle;
      waiting = All-append (IsDue node world.began longer) world.waiting (ticketed (length world.accepted + 1) outputs)
          (All-weaker (IsDue node world.began world.accepted) (IsDue node world.began longer) (still_due node world.began world.accepted event) world.waiting at.waiting)
          (due_all node world.began longer (length world.accepted + 1) outputs (omega (arith, length_push world.accepted event)) put);
      given = at.given;
    }

known_accepted : (node : Node) (world : World) (event : Event) (outputs : List Output) → Stands node world → admit node (world.began ++ world.accepted) event ≡ Known outputs
    → Stands node (with_known world outputs)
known_accepted node world event outputs at is =
    let all : take (length world.accepted) world.accepted ≡ world.accepted = all_taken (length world.accepted) world.accepted (omega arith) in
    let put : All (IsPut node (world.began ++ take (length world.accepted) world.accepted)) outputs =
    subst (λ h. All (IsPut node h) outputs) (ap (λ l. world.began ++ l) (sym all)) (known_put node (world.began ++ world.accepted) event outputs is) in
    record {
      legal = at.legal;
      taken = at.taken;
      within = at.within;
      file = at.file;
      ends_closed = at.ends_closed;
      are_bytes = at.are_bytes;
      holds = at.holds;
      rest = at.rest;
      beside = at.beside;
      spare = at.spare;
      disk = at.disk;
      fits = at.fits;
      idle = at.idle;
      waiting = All-append (IsDue node world.began world.accepted) world.waiting (ticketed (length world.accepted) outputs) at.waiting
          (due_all node world.began world.accepted (length world.accepted) outputs (omega arith) put);
      given = at.given;
    }

answered_stands : (node : Node) (world next : World) (event : Event) (answer : Admission) → Stands node world → IsTaken node event → admit node (world.began ++ world.accepted) event ≡ answer
    → IsAnswered world event answer next → Stands node next
answered_stands node world next event (New outputs) at is_taken is answered = subst (Stands node) (sym answered) (new_accepted node world event outputs at is_taken is)
answered_stands node world next event (Known outputs) at is_taken is answered = subst (Stands node) (sym answered) (known_accepted node world event outputs at is)
answered_stands node world next event (Refused refusal) at is_taken is answered = absurd answered

-- ---- an append

-- where there is a group to write, its phase stays, and where there is none, none has begun
taken_at : (groups : List History) (phase : Phase) (s : State) (file : List ℕ) (more : History) → (groups ≡ [] → phase ≡ not_begun) → IsAt (stage_of phase) s file (map record_of (first_of groups))
    → IsAt (stage_of phase) s file (map record_of (first_of (groups ++ more ∷ [])))
taken_at [] phase s file more idle is =
    subst (λ (p : Phase). IsAt (stage_of p) s file (map record_of more)) (sym (idle refl)) (subst (λ (p : Phase). IsAt (stage_of p) s file []) (idle refl) is)
taken_at (group ∷ groups) phase s file more idle is = is

-- where a rewriting is in flight it is of the first group
some_rewritten : (node : Node) (spare : Option Spare) (rewriting : Option Rewriting) (rest : List ℕ) (history : History) (groups : List History) (durable : ℕ) (phase : Phase)
    → IsSpareAt node history groups durable phase spare rewriting rest → (rewriting ≡ None) ⊎ (1 ≤ length groups)
some_rewritten node spare None rest history groups durable phase is = inl refl
some_rewritten node None (Some rewriting) rest history groups durable phase is = absurd is
some_rewritten node (Some spare) (Some rewriting) rest history groups durable phase is = inr is.some

first_stays : (groups : List History) (more : History) → 1 ≤ length groups → first_of (groups ++ more ∷ []) ≡ first_of groups
first_stays [] more some = absurd (omega (arith, some))
first_stays (group ∷ groups) more some = refl

-- a group more changes nothing of it
spare_taken : (node : Node) (began settled : History) (groups : List History) (more : History) (durable : ℕ) (phase : Phase) (spare : Option Spare) (rewriting : Option Rewriting) (rest : List ℕ)
    → IsSpareAt node (began ++ (settled ++ first_of groups)) groups durable phase spare rewriting rest
    → IsSpareAt node (began ++ (settled ++ first_of (groups ++ more ∷ []))) (groups ++ more ∷ []) durable phase spare rewriting rest
spare_taken node began settled groups more durable phase None None rest is = tt
spare_taken node began settled groups more durable phase None (Some rewriting) rest is = is
spare_taken node began settled groups more durable phase (Some spare) None rest is = is
spare_taken node began settled groups more durable phase (Some spare) (Some rewriting) rest is = record {
  few = is.few;
  disk = is.disk;
  checkpoint = subst (λ l. IsCheckpointOf node (spare.generation + 1) (kept node (began ++ (settled ++ l))) rewriting.bytes) (sym (first_stays groups more is.some)) is.checkpoint;
  none_durable = is.none_durable;
  not_begun = is.not_begun;
  some = omega (arith, is.some, length_push groups more);
}

fits_taken : (rewriting : Option Rewriting) (durable : ℕ) (groups : List History) (more : History) → durable ≤ length groups → (rewriting ≡ None) ⊎ (1 ≤ length groups)
    → All FitsAsGroup (to_append rewriting durable groups) → FitsAsGroup more → All FitsAsGroup (to_append rewriting durable (groups ++ more ∷ []))
fits_taken None durable groups more within some fits also =
    subst (All FitsAsGroup) (sym (drop-append-le durable groups (more ∷ []) within)) (All-push FitsAsGroup (drop durable groups) more fits also)
fits_taken (Some rewriting) durable [] more within some fits also = elim some [ inl none ↦ absurd (none-some rewriting (sym none)) | inr long ↦ absurd (omega (arith, long)) ]
fits_taken (Some rewriting) durable (group ∷ groups) more within some fits also = All-push FitsAsGroup groups more fits also

some_more : (groups : List History) (more : History) → groups ++ more ∷ [] ≡ [] → ⊥
some_more [] more none = cc
some_more (group ∷ groups) more none = cc

take_stands : (node : Node) (world next : World) (count : ℕ) → Stands node world → IsTakenTo world count next → Stands node next
take_stands node world next count at step =
    let more = group_to world count in
    let some : 1 ≤ length more = omega (arith, step.fits.some, length-map more record_of) in
    let undurable : drop world.durable (world.groups ++ more ∷ []) ≡ undurable_in world ++ more ∷ [] = drop-append-le world.durable world.groups (more ∷ []) at.within in
    let durable : take world.durable (world.groups ++ more ∷ []) ≡ take world.durable world.groups = take-append-le world.durable world.groups (more ∷ []) at.within in
    subst (Stands node) (sym step.is) (record {
      legal = at.legal;
      taken = record { rest = drop count world.accepted; parts = sym (take-append-drop count world.accepted) ∙ ap (λ l. l ++ drop count world.accepted) (sym (taken_more world count at.taken some)) };
      within = omega (arith, at.within, length_push world.groups more);
      file = at.file;
      ends_closed = at.ends_closed;
      are_bytes = at.are_bytes;
      holds = subst (λ (l : List History). Holds node (areas_with world.spare at.file at.rest) (kept node (world.began ++ (world.settled ++ events_of l)))) (sym durable) at.holds;
      disk = subst (λ (l : List History). IsAt (stage_of world.phase) (state world.bytes_at_start world.calls) at.file (map record_of (first_of l))) (sym undurable)
          (taken_at (undurable_in world) world.phase (state world.bytes_at_start world.calls) at.file more at.idle at.disk);
      fits = fits_taken world.rewriting world.durable world.groups more at.within
          (some_rewritten node world.spare world.rewriting at.rest _ world.groups world.durable world.phase at.spare) at.fits step.fits;
      rest = at.rest;
      beside = at.beside;
      spare = spare_taken node world.began world.settled world.groups more world.durable world.phase world.spare world.rewriting at.rest at.spare;
      idle = λ none. absurd (some_more (undurable_in world) more (sym undurable ∙ none));
      waiting = at.waiting;
      given = at.given;
    })

-- no call is due where there is no group to write
none_due : (groups : List History) (phase : Phase) (content : List ℕ) (call : Call) → call_for groups phase content ≡ Some call → groups ≡ [] → ⊥
none_due [] phase content call due none = none-some call due
none_due (group ∷ groups) phase content call due none = cc

-- and none while a rewriting is in flight
pub due_alone : (rewriting : Option Rewriting) (appends : Option Call) (call : Call) → option_map_or (λ one. None) rewriting appends ≡ Some call → (rewriting ≡ None) × (appends ≡ Some call)
due_alone None appends call due = (refl, due)
due_alone (Some rewriting) appends call due = absurd (none-some call due)

-- the other disk beside a file that tells the same
beside_longer : (spare : Option Spare) (file longer rest : List ℕ) → ((reported : Option ℕ) → reports file ≡ Some reported → reports longer ≡ reports file) → IsBeside spare file rest
    → IsBeside spare longer rest
beside_longer None file longer rest same is = tt
beside_longer (Some spare) file longer rest same is = record { reported = same (Some spare.generation) is.reported ∙ is.reported; at_rest = is.at_rest; are_bytes = is.are_bytes }

-- the file with the group that is written
longer_beside : (node : Node) (world : World) (at : Stands node world) → FitsAsGroup (first_of (undurable_in world)) → IsBeside world.spare (file_with at.file (group_in world)) at.rest
longer_beside node world at fits =
    beside_longer world.spare at.file (file_with at.file (group_in world)) at.rest
    (λ reported is. keeps_reporting at.file (file_with at.file (group_in world)) reported at.ends_closed is (whole_keeps at.file at.ends_closed (group_in world))) at.beside

longer_holds : (node : Node) (world : World) (at : Stands node world) → FitsAsGroup (first_of (undurable_in world))
    → Holds node (areas_with world.spare (file_with at.file (group_in world)) at.rest) (kept node (world.began ++ with_first world))
longer_holds node world at fits =
    let more = first_of (undurable_in world) in
    let longer = file_with at.file (group_in world) in
    let spare = world.spare in
    let joined : (world.began ++ durable_in world) ++ more ≡ world.began ++ with_first world = append_assoc world.began (durable_in world) more in
    subst (λ h. Holds node (areas_with spare longer at.rest) (kept node h)) joined
    (holds_more node (areas_with spare at.file at.rest) (areas_with spare longer at.rest) (side_of spare) at.file longer (world.began ++ durable_in world) more at.holds
    (pair_stays spare at.file at.rest longer at.rest)
    (reads_live spare at.file at.rest (beside_older spare at.file at.rest at.beside))
    (reads_live spare longer at.rest (beside_older spare longer at.rest (longer_beside node world at fits)))
    at.ends_closed (longer_stands at.file at.ends_closed (group_in world) fits)
    (subst (IsLegal node) (sym joined) (legal_between node world (world.began ++ with_first world) at (first_between node world at))))

-- where one group more is durable, the others fit
fits_next : (rewriting : Option Rewriting) (durable : ℕ) (groups : List History) → rewriting ≡ None → All FitsAsGroup (to_append rewriting durable groups)
    → All FitsAsGroup (to_append rewriting (durable + 1) groups)
fits_next None durable groups none fits = subst (All FitsAsGroup) (drop_next durable groups) (All-drop FitsAsGroup 1 (drop durable groups) fits)
fits_next (Some rewriting) durable groups none fits = absurd (none-some rewriting (sym none))

-- a device call before the last of an append, or the last one
module _ (node : Node) (world : World) (at : Stands node world) (step_call : Call) (due : next_call world ≡ Some step_call) where
  abbrev s : State
  s = state world.bytes_at_start world.calls

  alone_due : (world.rewriting ≡ None) × (call_for (undurable_in world) world.phase (content_in world) ≡ Some step_call)
  alone_due = due_alone world.rewriting (call_for (undurable_in world) world.phase (content_in world)) step_call due

  first : FitsAsGroup (first_of (undurable_in world)) × (call_in world.phase s.content (group_in world) ≡ Some step_call)
  first = due_first (undurable_in world) world.phase s.content step_call (fit_to_write node world at alone_due.0) alone_due.1

  now : IsAt (stage_after world.phase) (state world.bytes_at_start (world.calls ++ step_call ∷ [])) at.file (group_in world)
  now =
      subst (λ t. IsAt (stage_after world.phase) t at.file (group_in world)) (sym (after_all-push (all_durable world.bytes_at_start) world.calls step_call))
      (called at.file at.ends_closed (group_in world) world.phase s step_call first.0 at.disk first.1)

  some : undurable_in world ≡ [] → ⊥
  some none = none_due (undurable_in world) world.phase s.content step_call alone_due.1 none

  within_call : stage_after world.phase ≡ stage_of (next_phase world.phase)
      → Stands node (record world { calls = world.calls ++ step_call ∷ []; phase = next_phase world.phase })
  within_call same = record {
    legal = at.legal;
    taken = at.taken;
    within = at.within;
    file = at.file;
    ends_closed = at.ends_closed;
    are_bytes = at.are_bytes;
    holds = at.holds;
    rest = at.rest;
    beside = at.beside;
    spare = spare_same node world.spare world.rewriting at.rest _ _ world.groups world.groups world.durable world.durable world.phase (next_phase world.phase) alone_due.0 at.spare;
    disk = subst (λ (g : Stage). IsAt g (state world.bytes_at_start (world.calls ++ step_call ∷ [])) at.file (group_in world)) same now;
    fits = at.fits;
    idle = λ none. absurd (some none);
    waiting = at.waiting;
    given = at.given;
  }

  last_call : world.phase ≡ gate_opened
      → Stands node (record world { calls = world.calls ++ step_call ∷ []; phase = not_begun; durable = world.durable + 1 })
  last_call is_last =
      let group = group_in world in
      let whole : state world.bytes_at_start (world.calls ++ step_call ∷ []) ≡ all_durable (file_with at.file group) =
      subst (λ (p : Phase). IsAt (stage_after p) (state world.bytes_at_start (world.calls ++ step_call ∷ [])) at.file group) is_last now in
      let grown : world.settled ++ events_of (take (world.durable + 1) world.groups) ≡ with_first world =
      ap (λ l. world.settled ++ l) (take_next world.durable world.groups) ∙ sym (append_assoc world.settled (events_of (take world.durable world.groups)) (first_of (undurable_in world))) in
      record {
        legal = at.legal;
        taken = at.taken;
        within = some_after world.durable world.groups some;
        file = file_with at.file group;
        ends_closed = longer_ends at.file at.ends_closed group first.0;
        are_bytes = longer_bytes at.file group at.are_bytes (group_in_bytes node (first_of (undurable_in world)) (group_events node world at));
        holds = subst (λ (l : History). Holds node (areas_with world.spare (file_with at.file group) at.rest) (kept node (world.began ++ l))) (sym grown) (longer_holds node world at first.0);
        rest = at.rest;
        beside = longer_beside node world at first.0;
        spare = spare_same node world.spare world.rewriting at.rest _ _ world.groups world.groups world.durable (world.durable + 1) world.phase not_begun alone_due.0 at.spare;
        disk = whole;
        fits = fits_next world.rewriting world.durable world.groups alone_due.0 at.fits;
        idle = λ none. refl;
        waiting = at.waiting;
        given = at.given;
      }

  call_made : IsNextStage world.phase
      → Stands node (record world { calls = world.calls ++ step_call ∷ []; phase = next_phase world.phase; durable = next_durable world.phase world.durable })
  call_made (last_stage _ is) =
      subst (λ (p : Phase). Stands node (record world { calls = world.calls ++ step_call ∷ []; phase = next_phase p; durable = next_durable p world.durable })) (sym is) (last_call is)
  call_made (earlier_stage _ same none) =
      subst (λ (n : ℕ). Stands node (record world { calls = world.calls ++ step_call ∷ []; phase = next_phase world.phase; durable = n })) (sym (none world.durable)) (within_call same)

call_stands : (node : Node) (world next : World) → Stands node world → IsCalled world next → Stands node next
call_stands node world next at step = subst (Stands node) (sym step.is) (call_made node world at step.call step.due (next_stage world.phase))

others_fit : (rewriting : Option Rewriting) (durable : ℕ) (groups : List History) → 1 ≤ durable → rewriting ≡ None → All FitsAsGroup (to_append rewriting durable groups)
    → All FitsAsGroup (to_append rewriting (durable - 1) (drop 1 groups))
others_fit None durable groups some none all = subst (All FitsAsGroup) (sym (same_undurable durable groups some)) all
others_fit (Some rewriting) durable groups some none all = absurd (none-some rewriting (sym none))

settle_stands : (node : Node) (world next : World) → Stands node world → IsSettled world next → Stands node next
settle_stands node world next at step =
    let more = first_of world.groups in
    let settled = world.settled ++ more in
    let none = none_rewritten node world.spare world.rewriting at.rest _ world.groups world.durable world.phase at.spare (inl step.done) in
    let undurable : drop (world.durable - 1) (drop 1 world.groups) ≡ undurable_in world = same_undurable world.durable world.groups step.done in
    let durable : settled ++ events_of (take (world.durable - 1) (drop 1 world.groups)) ≡ durable_in world =
    append_assoc world.settled more (events_of (take (world.durable - 1) (drop 1 world.groups))) ∙ ap (λ l. world.settled ++ l) (sym (first_of_durable world.durable world.groups step.done)) in
    let taken : settled ++ events_of (drop 1 world.groups) ≡ taken_in world =
    append_assoc world.settled more (events_of (drop 1 world.groups)) ∙ ap (λ l. world.settled ++ l) (sym (events_split world.groups)) in
    let grown = begins_join world.began world.settled settled (record { rest = more; parts = refl }) in
    subst (Stands node) (sym step.is) (record {
      legal = at.legal;
      taken = subst (λ l. Begins l world.accepted) (sym taken) at.taken;
      within = omega (arith, at.within, step.done, length-drop 1 world.groups);
      file = at.file;
      ends_closed = at.ends_closed;
      are_bytes = at.are_bytes;
      holds = subst (λ l. Holds node (areas_with world.spare at.file at.rest) (kept node (world.began ++ l))) (sym durable) at.holds;
      rest = at.rest;
      beside = at.beside;
      spare = spare_same node world.spare world.rewriting at.rest _ _ world.groups (drop 1 world.groups) world.durable (world.durable - 1) world.phase world.phase none at.spare;
      disk = subst (λ (l : List History). IsAt (stage_of world.phase) (state world.bytes_at_start world.calls) at.file (map record_of (first_of l))) (sym undurable) at.disk;
      fits = others_fit world.rewriting world.durable world.groups step.done none at.fits;
      idle = λ none. at.idle (sym undurable ∙ none);
      waiting = at.waiting;
      given = All-weaker (IsKept node (world.began ++ world.settled)) (IsKept node (world.began ++ settled))
          (λ g kept. record { begins = begins_trans g.history (world.began ++ world.settled) (world.began ++ settled) kept.begins grown; ended = kept.ended }) world.given at.given;
    })

-- ---- a checkpoint

-- where no group is in flight, none is durable and none is begun
pub none_durable : (node : Node) (world : World) → Stands node world → world.groups ≡ [] → world.durable ≡ 0
none_durable node world at none = omega (arith, at.within, ap length none)

pub none_begun : (node : Node) (world : World) → Stands node world → world.groups ≡ [] → world.phase ≡ not_begun
none_begun node world at none = at.idle (drop_all world.durable world.groups (omega (arith, ap length none)))

-- the disk of a phase in which no append has begun, with any group
begun_disk : (phase : Phase) (s : State) (file : List ℕ) (group : List (List ℕ)) → phase ≡ not_begun → s ≡ all_durable file → IsAt (stage_of phase) s file group
begun_disk phase s file group idle fresh = subst (λ (p : Phase). IsAt (stage_of p) s file group) (sym idle) fresh

-- of two disks the other one is is_durable where no rewriting is in flight
durable_rest : (node : Node) (history : History) (groups : List History) (durable : ℕ) (phase : Phase) (spare : Spare) (rewriting : Option Rewriting) (rest : List ℕ)
    → rewriting ≡ None → IsSpareAt node history groups durable phase (Some spare) rewriting rest → state spare.bytes_at_start spare.calls ≡ all_durable rest
durable_rest node history groups durable phase spare None rest none is = is
durable_rest node history groups durable phase spare (Some rewriting) rest none is = absurd (none-some rewriting (sym none))

module _ (node : Node) (world : World) (at : Stands node world) (spare : Spare) (is_spare : world.spare ≡ Some spare) where
  pub spare_at : IsSpareAt node (world.began ++ (world.settled ++ first_of world.groups)) world.groups world.durable world.phase (Some spare) world.rewriting at.rest
  spare_at = subst (λ (s : Option Spare). IsSpareAt node (world.began ++ (world.settled ++ first_of world.groups)) world.groups world.durable world.phase s world.rewriting at.rest) is_spare at.spare

  pub beside_at : IsAtRestBeside spare at.file at.rest
  beside_at = subst (λ (s : Option Spare). IsBeside s at.file at.rest) is_spare at.beside

  -- a rewriting that is in flight
  pub rewriting_at : (rewriting : Rewriting) → world.rewriting ≡ Some rewriting
      → IsRewritingAt node (world.began ++ (world.settled ++ first_of world.groups)) world.groups world.durable world.phase spare rewriting at.rest
  rewriting_at rewriting in_flight =
      subst (λ (r : Option Rewriting). IsSpareAt node (world.began ++ (world.settled ++ first_of world.groups)) world.groups world.durable world.phase (Some spare) r at.rest) in_flight spare_at

-- what isn't settled, after what is
pub pending_parts : (node : Node) (world : World) → Stands node world → world.settled ++ drop (length world.settled) world.accepted ≡ world.accepted
pending_parts node world at =
    let begins = settled_accepted node world at in
    ap (λ l. world.settled ++ l) (ap (drop (length world.settled)) begins.parts ∙ drop_at world.settled begins.rest (length world.settled) refl) ∙ sym begins.parts

take_all_stands : (node : Node) (world : World) (bytes : List ℕ) (next : World) → Stands node world → IsTakenAll node world bytes next → Stands node next
take_all_stands node world bytes next at step =
    let pending = drop (length world.settled) world.accepted in
    let all = pending_parts node world at in
    let zero_durable = none_durable node world at step.idle in
    let begun = none_begun node world at step.idle in
    let none = none_rewritten node world.spare world.rewriting at.rest _ world.groups world.durable world.phase at.spare (inr step.idle) in
    let groups : List History = pending ∷ [] in
    let durable : world.settled ++ events_of (take world.durable groups) ≡ durable_in world =
    ap (λ (n : ℕ). world.settled ++ events_of (take n groups)) zero_durable
    ∙ ap (λ (l : List History). world.settled ++ events_of l) (sym (take_none world.durable) ∙ ap (take world.durable) (sym step.idle)) in
    let taken : world.settled ++ events_of groups ≡ world.accepted = ap (λ l. world.settled ++ l) (append-nil pending) ∙ all in
    let fresh = fresh_disk node world at begun in
    let is_durable = durable_rest node _ world.groups world.durable world.phase step.spare world.rewriting at.rest none (spare_at node world at step.spare step.pair) in
    subst (Stands node) (sym step.is) (record {
      legal = at.legal;
      taken = subst (λ l. Begins l world.accepted) (sym taken) (begins_same world.accepted);
      within = omega (arith, zero_durable);
      file = at.file;
      ends_closed = at.ends_closed;
      are_bytes = at.are_bytes;
      holds = subst (λ l. Holds node (areas_with world.spare at.file at.rest) (kept node (world.began ++ l))) (sym durable) at.holds;
      rest = at.rest;
      beside = at.beside;
      spare = subst (λ (s : Option Spare). IsSpareAt node (world.began ++ (world.settled ++ pending)) groups world.durable world.phase s (Some (record { bytes = bytes; made = 0 })) at.rest)
          (sym step.pair) (record {
            few = omega arith;
            disk = is_durable;
            checkpoint = subst (λ l. IsCheckpointOf node (step.spare.generation + 1) (kept node (world.began ++ l)) bytes) (sym all) step.checkpoint;
            none_durable = zero_durable;
            not_begun = begun;
            some = omega arith;
          });
      disk = begun_disk world.phase (state world.bytes_at_start world.calls) at.file (map record_of (first_of (drop world.durable groups))) begun fresh;
      fits = All-nil FitsAsGroup;
      idle = λ is. begun;
      waiting = at.waiting;
      given = at.given;
    })

-- a device call of a rewriting is the last one, which ends it, or an earlier one
pub data IsCallOfEight (world : World) (spare : Spare) (rewriting : Rewriting) (call : Call) (next : World) : Type 0 where
  eighth : rewriting.made + 1 ≡ 8 → next ≡ with_rewritten world spare call → IsCallOfEight world spare rewriting call next
  earlier : rewriting.made + 1 < 8 → next ≡ with_spare_call world spare rewriting call → IsCallOfEight world spare rewriting call next

pub of_eight : (world : World) (spare : Spare) (rewriting : Rewriting) (call : Call) (next : World) → slice_get (rewrite_calls rewriting.bytes) rewriting.made ≡ Some call
    → next ≡ after_spare_call world spare rewriting call → IsCallOfEight world spare rewriting call next
of_eight world spare rewriting call next due is =
    let inside : rewriting.made < 8 = get_inside (rewrite_calls rewriting.bytes) rewriting.made call due in
    let chosen : (last : Bool) → (rewriting.made + 1 == 8) ≡ last → next ≡ (if last then with_rewritten world spare call else with_spare_call world spare rewriting call) =
    λ last same. is ∙ ap (λ (b : Bool). if b then with_rewritten world spare call else with_spare_call world spare rewriting call) same in
    elim (cases_Bool (rewriting.made + 1 == 8)) [
      | inl same ↦ eighth (eqb-true (rewriting.made + 1) 8 same) (chosen true same)
      | inr differs ↦
          let other : rewriting.made + 1 ≢ 8 = λ same. true≢false (sym (eq-eqb (rewriting.made + 1) 8 same) ∙ differs) in
          earlier (omega (arith, inside, other)) (chosen false differs)
    ]

pub not_eighth : (world : World) (spare : Spare) (rewriting : Rewriting) (call : Call) → (rewriting.made + 1 == 8) ≡ false
    → with_spare_call world spare rewriting call ≡ after_spare_call world spare rewriting call
not_eighth world spare rewriting call more = ap (λ (b : Bool). if b then with_rewritten world spare call else with_spare_call world spare rewriting call) (sym more)

-- it keeps these
pub spare_call_keeps : (world next : World) → IsSpareCalled world next
    → (next.began ≡ world.began) × (next.accepted ≡ world.accepted) × (next.settled ≡ world.settled) × (next.given ≡ world.given)
spare_call_keeps world next step = kept_by (of_eight world step.spare step.rewriting step.call next step.due step.is)
  where
    kept_by : IsCallOfEight world step.spare step.rewriting step.call next
        → (next.began ≡ world.began) × (next.accepted ≡ world.accepted) × (next.settled ≡ world.settled) × (next.given ≡ world.given)
    kept_by (eighth last is) = (ap (λ (w : World). w.began) is, ap (λ (w : World). w.accepted) is, ap (λ (w : World). w.settled) is, ap (λ (w : World). w.given) is)
    kept_by (earlier few is) = (ap (λ (w : World). w.began) is, ap (λ (w : World). w.accepted) is, ap (λ (w : World). w.settled) is, ap (λ (w : World). w.given) is)

-- the first group, which one call more makes durable, where none was
first_durable : (durable : ℕ) (groups : List History) → durable ≡ 0 → first_of groups ≡ events_of (take (durable + 1) groups)
first_durable durable groups none = sym (take_next 0 groups) ∙ ap (λ (n : ℕ). events_of (take (n + 1) groups)) (sym none)

module _ (node : Node) (world : World) (at : Stands node world) (spare : Spare) (pair : world.spare ≡ Some spare) (rewriting : Rewriting) (in_flight : world.rewriting ≡ Some rewriting)
    (call : Call) (due : slice_get (rewrite_calls rewriting.bytes) rewriting.made ≡ Some call) where
  in_rewriting : IsRewritingAt node (world.began ++ (world.settled ++ first_of world.groups)) world.groups world.durable world.phase spare rewriting at.rest
  in_rewriting = rewriting_at node world at spare pair rewriting in_flight

  called_state : state spare.bytes_at_start (spare.calls ++ call ∷ []) ≡ made_state at.rest rewriting.bytes (suc rewriting.made)
  called_state =
      after_all-push (all_durable spare.bytes_at_start) spare.calls call
      ∙ made_more at.rest rewriting.bytes rewriting.made (state spare.bytes_at_start spare.calls) call in_rewriting.disk due

  earlier_stands : rewriting.made + 1 < 8 → Stands node (with_spare_call world spare rewriting call)
  earlier_stands few =
      let is = in_rewriting in
      let one_more : suc rewriting.made ≡ rewriting.made + 1 = omega arith in
      let beside = beside_at node world at spare pair in
      record {
        legal = at.legal;
        taken = at.taken;
        within = at.within;
        file = at.file;
        ends_closed = at.ends_closed;
        are_bytes = at.are_bytes;
        holds = subst (λ (a : Areas). Holds node a (kept node (world.began ++ durable_in world))) (ap (λ (s : Option Spare). areas_with s at.file at.rest) pair) at.holds;
        rest = at.rest;
        beside = record { reported = beside.reported; at_rest = beside.at_rest; are_bytes = beside.are_bytes };
        spare = record {
          few = few;
          disk = called_state ∙ ap (λ (n : ℕ). made_state at.rest rewriting.bytes n) one_more;
          checkpoint = is.checkpoint;
          none_durable = is.none_durable;
          not_begun = is.not_begun;
          some = is.some;
        };
        disk = at.disk;
        fits = subst (λ (r : Option Rewriting). All FitsAsGroup (to_append r world.durable world.groups)) in_flight at.fits;
        idle = at.idle;
        waiting = at.waiting;
        given = at.given;
      }

  rewritten_stands : rewriting.made + 1 ≡ 8 → Stands node (with_rewritten world spare call)
  rewritten_stands last =
      let is = in_rewriting in
      let bytes = rewriting.bytes in
      let generation = spare.generation in
      let side = other_side spare.side in
      let beside = beside_at node world at spare pair in
      let more = first_of world.groups in
      let settled = world.settled ++ more in
      let eight : suc rewriting.made ≡ 8 = omega (arith, last) in
      let whole : state spare.bytes_at_start (spare.calls ++ call ∷ []) ≡ all_durable (1 ∷ bytes) = called_state ∙ ap (λ (n : ℕ). made_state at.rest bytes n) eight ∙ last_state at.rest bytes in
      let durable : settled ≡ world.settled ++ events_of (take (world.durable + 1) world.groups) =
      ap (λ l. world.settled ++ l) (first_durable world.durable world.groups is.none_durable) in
      let taken : settled ++ events_of (drop 1 world.groups) ≡ taken_in world =
      append_assoc world.settled more (events_of (drop 1 world.groups)) ∙ ap (λ l. world.settled ++ l) (sym (events_split world.groups)) in
      let accepted : Begins settled world.accepted =
      begins_trans settled (taken_in world) world.accepted (record { rest = events_of (drop 1 world.groups); parts = sym taken }) at.taken in
      let joined = begins_join world.began settled world.accepted accepted in
      let legal : IsLegal node (world.began ++ settled) = legal-begins node (world.began ++ settled) joined.rest (subst (IsLegal node) joined.parts at.legal) in
      let rested : IsAtRest (generation + 1) at.file = inr (generation, beside.reported, omega arith) in
      let areas = pair_of side (1 ∷ bytes) at.file in
      let reads : stands_in areas ≡ stands_at side (1 ∷ bytes) =
      both_older side (generation + 1) (1 ∷ bytes) at.file is.checkpoint.reported (at_rest_older (generation + 1) at.file rested) in
      let held_sound = kept_is_sound node (world.began ++ settled) legal in
      let held : Holds node areas (kept node (world.began ++ settled)) =
      checkpoint_holds node areas side (generation + 1) (kept node (world.began ++ settled)) bytes (pair_is side (1 ∷ bytes) at.file) reads legal.sound held_sound is.checkpoint in
      record {
        legal = at.legal;
        taken = at.taken;
        within = omega (arith, is.none_durable, is.some);
        file = 1 ∷ bytes;
        ends_closed = is.checkpoint.ends_closed;
        are_bytes = All-cons (λ n. n < 256) 1 bytes (omega arith) is.checkpoint.are_bytes;
        holds = subst (λ l. Holds node areas (kept node (world.began ++ l))) durable held;
        rest = at.file;
        beside = record { reported = is.checkpoint.reported; at_rest = rested; are_bytes = at.are_bytes };
        spare = fresh_disk node world at is.not_begun;
        disk = begun_disk world.phase (state spare.bytes_at_start (spare.calls ++ call ∷ [])) (1 ∷ bytes) (map record_of (first_of (drop (world.durable + 1) world.groups))) is.not_begun whole;
        fits = subst (λ (n : ℕ). All FitsAsGroup (drop (n + 1) world.groups)) (sym is.none_durable)
            (subst (λ (r : Option Rewriting). All FitsAsGroup (to_append r world.durable world.groups)) in_flight at.fits);
        idle = λ none. is.not_begun;
        waiting = at.waiting;
        given = at.given;
      }

  of_eight_stands : (next : World) → IsCallOfEight world spare rewriting call next → Stands node next
  of_eight_stands next (eighth last is) = subst (Stands node) (sym is) (rewritten_stands last)
  of_eight_stands next (earlier few is) = subst (Stands node) (sym is) (earlier_stands few)

spare_call_stands : (node : Node) (world next : World) → Stands node world → IsSpareCalled world next → Stands node next
spare_call_stands node world next at step =
    of_eight_stands node world at step.spare step.pair step.rewriting step.in_flight step.call step.due next (of_eight world step.spare step.rewriting step.call next step.due step.is)

-- ---- something goes out

given_stands : (node : Node) (world next : World) (outgoing : Outgoing) (history : History) → Stands node world → Begins history (world.began ++ world.settled) → IsEnded node history outgoing
    → next ≡ with_given world outgoing history → Stands node next
given_stands node world next outgoing history at begins ended is =
    subst (Stands node) (sym is) (record {
      legal = at.legal;
      taken = at.taken;
      within = at.within;
      file = at.file;
      ends_closed = at.ends_closed;
      are_bytes = at.are_bytes;
      holds = at.holds;
      rest = at.rest;
      beside = at.beside;
      spare = at.spare;
      disk = at.disk;
      fits = at.fits;
      idle = at.idle;
      waiting = at.waiting;
      given = All-push (IsKept node (world.began ++ world.settled)) world.given (record { outgoing = outgoing; history = history }) at.given (record { begins = begins; ended = ended });
    })

release_stands : (node : Node) (world next : World) (waiting : Waiting) → Stands node world → IsReleased world waiting next → Stands node next
release_stands node world next waiting at step =
    let due = All-contains (IsDue node world.began world.accepted) world.waiting waiting at.waiting step.waits in
    let some = take waiting.ticket world.accepted in
    let all = settled_accepted node world at in
    let short : length some ≤ length world.settled = omega (arith, step.ready, length-take waiting.ticket world.accepted) in
    let begins = shorter_begins some world.settled world.accepted (record { rest = drop waiting.ticket world.accepted; parts = sym (take-append-drop waiting.ticket world.accepted) }) all short in
    given_stands node world next (put_out waiting.output) (world.began ++ some) at (begins_join world.began some world.settled begins) due.put step.is

-- ---- a restart

restart_stands : (node : Node) (world next : World) (found : Areas) → Stands node world → IsRestarted node world found next → Stands node next
restart_stands node world next found at step =
    let given_kept : All (IsKept node next.began) world.given =
    All-weaker (IsKept node (world.began ++ world.settled)) (IsKept node next.began)
    (λ g is. record { begins = begins_trans g.history (world.began ++ world.settled) next.began is.begins step.recovered.settled; ended = is.ended }) world.given at.given in
    subst (Stands node) (sym step.is) (begins_standing node step.disks next.began world.given step.recovered.legal step.opened given_kept)

-- ---- all of them

pub step_stands : (node : Node) (world : World) (move : Move) (next : World) → Stands node world → IsStep node world move next → Stands node next
step_stands node world (accept event) next at step = answered_stands node world next event (admit node (world.began ++ world.accepted) event) at step.is_taken refl step.is
step_stands node world (take_to count) next at step = take_stands node world next count at step
step_stands node world device_call next at step = call_stands node world next at step
step_stands node world settle next at step = settle_stands node world next at step
step_stands node world (release waiting) next at step = release_stands node world next waiting at step
step_stands node world read_order next at step =
    given_stands node world next (read (order node (world.began ++ world.settled))) (world.began ++ world.settled) at (begins_same (world.began ++ world.settled)) refl step
step_stands node world (take_all bytes) next at step = take_all_stands node world bytes next at step
step_stands node world spare_call next at step = spare_call_stands node world next at step
step_stands node world (restart found) next at step = restart_stands node world next found at step

pub all_stand : (node : Node) (moves : List Move) (world last : World) → Stands node world → Leads node world moves last → Stands node last
all_stand node [] world last at leads = subst (Stands node) leads at
all_stand node (move ∷ moves) world last at leads = all_stand node moves leads.0 last (step_stands node world move leads.0 at leads.1) leads.2
