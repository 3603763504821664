-- That runs go on: what a stop leaves can be opened, and what is accepted can be settled.
use Rattle.std.proofs.Common.{◌≡◌, ℕ, zero, suc, ◌+◌, ◌-◌, ◌*◌, ◌≤◌, List, [], ◌∷◌, ◌++◌, length, map, take, drop, inr, Option, Some, None, refl, ap, sym, ◌∙◌, subst, arith, append_assoc, length-drop}
use Rattle.std.proofs.lemmas.List.{append-nil, drop_all, length-map}
use Rattle.std.proofs.lemmas.Option.{same_Some, none-some}
use Rattle.diskmodel.specs.Disk.{written}
use Rattle.diskmodel.specs.Outcomes.{AreBytes, CanLeave, State, after, all_durable, state}
use Rattle.diskmodel.specs.declared.call.Call.{Call}
use Rattle.diskmodel.specs.declared.call.Call.TheVariants.{Wrote, Cut, Synced}
use Rattle.diskmodel.proofs.Calls.{after_all-push}
use Rattle.diskmodel.proofs.Torn.{length-written}
use Rattle.journal.specs.Format.{FitsGroup, file_with, group_bytes}
use Rattle.journal.specs.Areas.{Areas, alone, pair_of, other_side, rewrite_calls}
use Rattle.std.specs.Option.{option_map_or}
use Rattle.std.specs.Prelude.{◌==◌, ◌<◌, false, slice_get}
use Rattle.spec_model.specs.Giving.{kept}
use Rattle.diskmodel.proofs.Calls.{possible_durable}
use Rattle.journal.specs.Journal.{EndsClosed, append_calls}
use Rattle.journal.specs.declared.layout.TheConstants.{OPEN}
use Rattle.spec_model.specs.Histories.{History}
use Rattle.spec_model.specs.Nodes.{Node}
use Rattle.spec_records.specs.Records.{record_of}
use Rattle.spec_world.specs.World.{Phase, not_begun, group_written, group_synced, gate_opened, World, Holds, events_of, durable_in, undurable_in, first_of}
use Rattle.spec_world.specs.World.{group_in, content_in, call_in, call_for, as_journal, MayStop, of_one, of_pair, between, run_on, IsOpened, Spare, Rewriting}
use Rattle.spec_world.specs.Steps.{Move, take_to, device_call, settle, take_all, spare_call, IsTakenAll, with_rewritten, after_spare_call, replaced, IsSpareCalled, group_to, IsTakenTo, IsCalled, next_phase, next_durable, Leads}
use Rattle.spec_world.specs.Runs.{StopsArePossible, RunsGoOn, RunsBeginWithWhatStands, RunsBeginAtStates, GroupsSettle, TwoGroupsSettle, two_in_flight, device_calls, spare_calls, areas_in, CheckpointsSettle, RewritingsMakeCalls, AppendsMakeCalls}
use Rattle.spec_world.proofs.Bytes.{group_in_bytes}
use Rattle.spec_world.proofs.Disks.{stage_of, called, read_possible}
use Rattle.spec_world.proofs.Groups.{take_none, taken_more}
use Rattle.spec_world.proofs.Law.{stands_there, run_stands, nothing_taken_back}
use Rattle.spec_world.proofs.Moving.{IsCallOfEight, eighth, earlier, of_eight, not_eighth, due_alone, none_durable, none_begun, spare_at, beside_at, rewriting_at, pending_parts, step_stands, all_stand}
use Rattle.spec_world.proofs.Recovering.{stands_once}
use Rattle.spec_world.proofs.Rewriting.{made_more, last_state, spare_possible}
use Rattle.spec_world.proofs.Standing.{Stands, areas_with, IsSpareAt, none_rewritten, fresh_disk, left, group_events, begun_many}

-- ---- a run begins on what a stop left

pub runs_go_on : RunsGoOn
runs_go_on node moves world found sound run may =
    let at = run_stands node moves world sound run in
    let is_left = left node world found at may in
    let recovered = stands_there node world at found may in (
      run_on is_left.on is_left.history world.given,
      record { left = may; recovered = recovered; stands_for = as_journal is_left.holds; disks = is_left.on; opened = is_left.opened; is = refl },
      begun_many is_left.on.spare ∙ is_left.as_many,
    )

pub runs_begin_with_what_stands : RunsBeginWithWhatStands
runs_begin_with_what_stands node moves world found history sound run may recovered stands_for =
    let at = run_stands node moves world sound run in
    let is_left = left node world found at may in
    let same : kept node is_left.history ≡ kept node history = sym (stands_once node found (kept node is_left.history) (kept node history) is_left.holds stands_for) in (
      run_on is_left.on history world.given,
      record { left = may; recovered = recovered; stands_for = stands_for; disks = is_left.on; opened = subst (IsOpened node is_left.on) same is_left.opened; is = refl },
      refl,
      refl,
      begun_many is_left.on.spare ∙ is_left.as_many,
    )

pub runs_begin_at_states : RunsBeginAtStates
runs_begin_at_states node moves world found state_found sound run may stands_for =
    let never = nothing_taken_back node moves world sound run in
    let is = never.stands found may in
    let there = runs_begin_with_what_stands node moves world found is.0 sound run may is.1 is.2 in
    (there.0, there.1, ap (kept node) there.2 ∙ never.only found (kept node is.0) state_found may is.2 stands_for, there.3, there.4)

-- ---- a stop is always possible

spare_read : (node : Node) (history : History) (groups : List History) (durable : ℕ) (phase : Phase) (spare : Spare) (rewriting : Option Rewriting) (rest : List ℕ)
    → IsSpareAt node history groups durable phase (Some spare) rewriting rest → AreBytes rest → CanLeave (state spare.bytes_at_start spare.calls) (state spare.bytes_at_start spare.calls).content
spare_read node history groups durable phase spare None rest is are = subst (λ (s : State). CanLeave s s.content) (sym is) (possible_durable rest are)
spare_read node history groups durable phase spare (Some rewriting) rest is are =
    subst (λ (s : State). CanLeave s s.content) (sym is.disk) (spare_possible rest rewriting.bytes rewriting.made (omega (arith, is.few)) are is.checkpoint.are_bytes)

may_read : (node : Node) (world : World) (at : Stands node world) (spare : Option Spare) → world.spare ≡ spare
    → MayStop world (option_map_or (λ s. pair_of s.side (content_in world) (state s.bytes_at_start s.calls).content) spare (alone (content_in world)))
may_read node world at None is =
    let events = first_of (undurable_in world) in
    let live = read_possible at.file at.ends_closed (group_in world) (stage_of world.phase) (state world.bytes_at_start world.calls) at.are_bytes
    (group_in_bytes node events (group_events node world at)) at.disk in
    of_one (content_in world) is (between live) refl
may_read node world at (Some spare) is =
    let events = first_of (undurable_in world) in
    let live = read_possible at.file at.ends_closed (group_in world) (stage_of world.phase) (state world.bytes_at_start world.calls) at.are_bytes
    (group_in_bytes node events (group_events node world at)) at.disk in
    let other = spare_read node _ world.groups world.durable world.phase spare world.rewriting at.rest (spare_at node world at spare is) (beside_at node world at spare is).are_bytes in
    of_pair spare (content_in world) (state spare.bytes_at_start spare.calls).content is (between live) (between other) refl

pub stops_are_possible : StopsArePossible
stops_are_possible node moves world sound run = may_read node world (run_stands node moves world sound run) world.spare refl

-- ---- what is settled is on the disks where no group is in flight

areas_read : (node : Node) (history : History) (groups : List History) (durable : ℕ) (phase : Phase) (content file rest : List ℕ) (spare : Option Spare) (rewriting : Option Rewriting) → content ≡ file
    → rewriting ≡ None → IsSpareAt node history groups durable phase spare rewriting rest
    → areas_with spare file rest ≡ option_map_or (λ s. pair_of s.side content (state s.bytes_at_start s.calls).content) spare (alone content)
areas_read node history groups durable phase content file rest None rewriting same none is = ap alone (sym same)
areas_read node history groups durable phase content file rest (Some spare) None same none is =
    (λ i. pair_of spare.side (sym same i) (ap (λ (s : State). s.content) (sym is) i))
areas_read node history groups durable phase content file rest (Some spare) (Some rewriting) same none is = absurd (none-some rewriting (sym none))

pub idle_holds : (node : Node) (world : World) → Stands node world → world.groups ≡ [] → Holds node (areas_in world) (kept node (world.began ++ world.settled))
idle_holds node world at idle =
    let begun = none_begun node world at idle in
    let fresh = ap (λ (s : State). s.content) (fresh_disk node world at begun) in
    let none = none_rewritten node world.spare world.rewriting at.rest _ world.groups world.durable world.phase at.spare (inr idle) in
    let areas = areas_read node _ world.groups world.durable world.phase (content_in world) at.file at.rest world.spare world.rewriting fresh none at.spare in
    let settled : durable_in world ≡ world.settled =
    ap (λ (l : List History). world.settled ++ events_of l) (ap (take world.durable) idle ∙ take_none world.durable) ∙ append-nil world.settled in
    subst (λ (a : Areas). Holds node a (kept node (world.began ++ world.settled))) areas
    (subst (λ l. Holds node (areas_with world.spare at.file at.rest) (kept node (world.began ++ l))) settled at.holds)

-- ---- what is accepted can be settled

-- after a device call
abbrev called_on : World → Call → World
called_on world call = record world { calls = world.calls ++ call ∷ []; phase = next_phase world.phase; durable = next_durable world.phase world.durable }

-- a world in which an append begins, and after each of its four calls
abbrev begun_in : World → World
begun_in base = record base { phase = not_begun }

abbrev wrote_in : World → List (List ℕ) → World
wrote_in base records = called_on (begun_in base) (Wrote (length (content_in base)) (group_bytes records))

abbrev synced_in : World → List (List ℕ) → World
synced_in base records = called_on (wrote_in base records) Synced

abbrev opened_in : World → List (List ℕ) → World
opened_in base records = called_on (synced_in base records) (Wrote (length (content_in (synced_in base records)) - length (group_bytes records) - 1) (OPEN ∷ []))

abbrev pub appended_in : World → List (List ℕ) → World
appended_in base records = called_on (opened_in base records) Synced

-- where a group can be written its append makes four device calls; then the file has it
module _ (base : World) (group : History) (rest : List History) (none : base.rewriting ≡ None) (first : undurable_in base ≡ group ∷ rest) where
  due_call : (phase : Phase) (content : List ℕ) → option_map_or (λ one. None) base.rewriting (call_for (undurable_in base) phase content) ≡ call_in phase content (map record_of group)
  due_call phase content =
      ap (λ (r : Option Rewriting). option_map_or (λ one. None) r (call_for (undurable_in base) phase content)) none ∙ ap (λ (l : List History). call_for l phase content) first

  pub append_leads : (node : Node) (last : World) (moves : List Move) → Leads node (appended_in base (map record_of group)) moves last
      → Leads node (begun_in base) (device_call ∷ device_call ∷ device_call ∷ device_call ∷ moves) last
  append_leads node last moves more =
      let records = map record_of group in (
        wrote_in base records,
        record { call = Wrote (length (content_in base)) (group_bytes records); due = due_call not_begun (content_in base); is = refl },
        (
          synced_in base records,
          record { call = Synced; due = due_call group_written (content_in (wrote_in base records)); is = refl },
          (
            opened_in base records,
            record {
              call = Wrote (length (content_in (synced_in base records)) - length (group_bytes records) - 1) (OPEN ∷ []);
              due = due_call group_synced (content_in (synced_in base records));
              is = refl;
            },
            (appended_in base records, record { call = Synced; due = due_call gate_opened (content_in (opened_in base records)); is = refl }, more),
          ),
        ),
      )

-- what the disk comes to
pub append_ends : (base : World) (records : List (List ℕ)) (file : List ℕ) → EndsClosed file → FitsGroup records → state base.bytes_at_start base.calls ≡ all_durable file
    → state base.bytes_at_start (appended_in base records).calls ≡ all_durable (file_with file records)
append_ends base records file ends fits fresh =
    let bytes = base.bytes_at_start in
    let push : (calls : List Call) (call : Call) → state bytes (calls ++ call ∷ []) ≡ after (state bytes calls) call = λ calls call. after_all-push (all_durable bytes) calls call in
    let two = wrote_in base records in
    let three = synced_in base records in
    let four = opened_in base records in
    let is_two = push base.calls _ ∙ called file ends records not_begun (state bytes base.calls) _ fits fresh refl in
    let is_three = push two.calls _ ∙ called file ends records group_written (state bytes two.calls) _ fits is_two refl in
    let is_four = push three.calls _ ∙ called file ends records group_synced (state bytes three.calls) _ fits is_three refl in
    push four.calls _ ∙ called file ends records gate_opened (state bytes four.calls) _ fits is_four refl

pub groups_settle : GroupsSettle
groups_settle node moves world count sound run none fits =
    let at = run_stands node moves world sound run in
    let idle = none_begun node world at none in
    let zero_durable = none_durable node world at none in
    let alone_now = none_rewritten node world.spare world.rewriting at.rest _ world.groups world.durable world.phase at.spare (inr none) in
    let group = group_to world count in
    let one : World = record world { groups = group ∷ []; durable = 0; phase = not_begun } in
    let file = at.file in
    let fresh = fresh_disk node world at idle in
    let six : World = record (appended_in one (map record_of group)) { settled = world.settled ++ group; groups = []; durable = 0 } in
    let leads : Leads node world (take_to count ∷ device_call ∷ device_call ∷ device_call ∷ device_call ∷ settle ∷ []) six = (
      one,
      record { fits = fits; is = λ i. record world { groups = sym none i ++ group ∷ []; durable = sym zero_durable i; phase = sym idle i } },
      append_leads one group [] alone_now refl node six (settle ∷ []) (six, record { done = omega arith; is = refl }, refl),
    ) in
    let appended = append_ends one (map record_of group) file at.ends_closed fits fresh in
    let then = all_stand node (take_to count ∷ device_call ∷ device_call ∷ device_call ∷ device_call ∷ settle ∷ []) world six at leads in
    let some : 1 ≤ length group = omega (arith, fits.some, length-map group record_of) in (
      six,
      leads,
      record {
        began = refl;
        accepted = refl;
        settled = ap (λ l. world.settled ++ l) (sym (append-nil group)) ∙ ap (λ l. world.settled ++ events_of (l ++ group ∷ [])) (sym none) ∙ taken_more world count at.taken some;
        groups = refl;
        phase = refl;
        waiting = refl;
        given = refl;
        spare = refl;
        rewriting = refl;
        content = ap (λ (s : State). s.content) appended ∙ ap (λ (f : List ℕ). file_with f (map record_of group)) (sym (ap (λ (s : State). s.content) fresh));
        holds = idle_holds node six then refl;
      },
    )

-- two groups in flight
pub two_groups_settle : TwoGroupsSettle
two_groups_settle node moves world count more sound run none fits also =
    let at = run_stands node moves world sound run in
    let idle = none_begun node world at none in
    let zero_durable = none_durable node world at none in
    let alone_now = none_rewritten node world.spare world.rewriting at.rest _ world.groups world.durable world.phase at.spare (inr none) in
    let group = group_to world count in
    let one : World = record world { groups = group ∷ []; durable = 0; phase = not_begun } in
    let take_one : IsTakenTo world count one = record { fits = fits; is = λ i. record world { groups = sym none i ++ group ∷ []; durable = sym zero_durable i; phase = sym idle i } } in
    let at_one : Stands node one = step_stands node world (take_to count) one at take_one in
    let fresh = fresh_disk node world at idle in
    let two = appended_in one (map record_of group) in
    let appended = append_ends one (map record_of group) at.file at.ends_closed fits fresh in
    let next_group = group_to one more in
    let three : World = record two { groups = group ∷ next_group ∷ [] } in
    let four = appended_in three (map record_of next_group) in
    let last : World = record four { settled = (world.settled ++ group) ++ next_group; groups = []; durable = 0 } in
    let five : World = record four { settled = world.settled ++ group; groups = next_group ∷ []; durable = 1 } in
    let leads : Leads node world (two_in_flight count more) last = (
      one,
      take_one,
      append_leads one group [] alone_now refl node last (take_to more ∷ (device_calls 4 ++ settle ∷ settle ∷ [])) (
        three,
        record { fits = also; is = refl {a = three} },
        append_leads three next_group [] alone_now refl node last (settle ∷ settle ∷ [])
            (five, record { done = omega arith; is = refl {a = five} }, (last, record { done = omega arith; is = refl {a = last} }, refl {a = last})),
      ),
    ) in
    let then = all_stand node (two_in_flight count more) world last at leads in
    let some : 1 ≤ length next_group = omega (arith, also.some, length-map next_group record_of) in
    let all : last.settled ≡ take more world.accepted =
    append_assoc world.settled group next_group ∙ ap (λ (l : History). world.settled ++ (group ++ l)) (sym (append-nil next_group)) ∙ taken_more one more at_one.taken some in (
      last,
      leads,
      record {
        began = refl;
        accepted = refl;
        settled = all;
        groups = refl;
        phase = refl;
        waiting = refl;
        given = refl;
        spare = refl;
        rewriting = refl;
        holds = idle_holds node last then refl;
      },
    )

-- ---- a checkpoint

-- a world of a rewriting, when so many of its calls are made
abbrev rewriting_in : World → Spare → List ℕ → List Call → ℕ → World
rewriting_in one spare bytes calls made = record one { spare = Some (record spare { calls = calls }); rewriting = Some (record { bytes = bytes; made = made }) }

pub checkpoints_settle : CheckpointsSettle
checkpoints_settle node moves world spare bytes sound run none pair checkpoint =
    let at = run_stands node moves world sound run in
    let idle = none_begun node world at none in
    let zero_durable = none_durable node world at none in
    let pending = drop (length world.settled) world.accepted in
    let one : World = record world { groups = pending ∷ []; durable = 0; phase = not_begun; rewriting = Some (record { bytes = bytes; made = 0 }) } in
    let c1 = spare.calls ++ Wrote 0 (0 ∷ []) ∷ [] in
    let c2 = c1 ++ Synced ∷ [] in
    let c3 = c2 ++ Cut 1 ∷ [] in
    let c4 = c3 ++ Synced ∷ [] in
    let c5 = c4 ++ Wrote 1 bytes ∷ [] in
    let c6 = c5 ++ Synced ∷ [] in
    let c7 = c6 ++ Wrote 0 (1 ∷ []) ∷ [] in
    let c8 = c7 ++ Synced ∷ [] in
    let eight = rewriting_in one spare bytes c7 7 in
    let nine = with_rewritten eight (record spare { calls = c7 }) Synced in
    let last : World = record nine { settled = world.settled ++ pending; groups = []; durable = 0 } in
    let made : (calls : List Call) (count : ℕ) (call : Call) → slice_get (rewrite_calls bytes) count ≡ Some call → (count + 1 == 8) ≡ false
    → IsSpareCalled (rewriting_in one spare bytes calls count) (rewriting_in one spare bytes (calls ++ call ∷ []) (count + 1)) =
    λ calls count call due more. record {
      spare = record spare { calls = calls };
      pair = refl;
      rewriting = record { bytes = bytes; made = count };
      in_flight = refl;
      call = call;
      due = due;
      is = not_eighth (rewriting_in one spare bytes calls count) (record spare { calls = calls }) (record { bytes = bytes; made = count }) call more;
    } in
    let first : IsSpareCalled one (rewriting_in one spare bytes c1 1) =
    record { spare = spare; pair = pair; rewriting = record { bytes = bytes; made = 0 }; in_flight = refl; call = Wrote 0 (0 ∷ []); due = refl; is = refl } in
    let taken : IsTakenAll node world bytes one =
    record {
      spare = spare;
      pair = pair;
      idle = none;
      checkpoint = checkpoint;
      is = λ i. record world { groups = pending ∷ []; durable = sym zero_durable i; phase = sym idle i; rewriting = Some (record { bytes = bytes; made = 0 }) };
    } in
    let calls : (end : World) (rest : List Move) → Leads node eight rest end
    → Leads node world (take_all bytes ∷ spare_call ∷ spare_call ∷ spare_call ∷ spare_call ∷ spare_call ∷ spare_call ∷ spare_call ∷ rest) end =
    λ end rest more. (
      one,
      taken,
      (
        rewriting_in one spare bytes c1 1,
        first,
        (
          rewriting_in one spare bytes c2 2,
          made c1 1 Synced refl refl,
          (
            rewriting_in one spare bytes c3 3,
            made c2 2 (Cut 1) refl refl,
            (
              rewriting_in one spare bytes c4 4,
              made c3 3 Synced refl refl,
              (
                rewriting_in one spare bytes c5 5,
                made c4 4 (Wrote 1 bytes) refl refl,
                (
                  rewriting_in one spare bytes c6 6,
                  made c5 5 Synced refl refl,
                  (eight, made c6 6 (Wrote 0 (1 ∷ [])) refl refl, more),
                ),
              ),
            ),
          ),
        ),
      ),
    ) in
    let eighth_call : IsSpareCalled eight nine =
    record { spare = record spare { calls = c7 }; pair = refl; rewriting = record { bytes = bytes; made = 7 }; in_flight = refl; call = Synced; due = refl; is = refl } in
    let leads : Leads node world (take_all bytes ∷ (spare_calls 8 ++ settle ∷ [])) last =
    calls last (spare_call ∷ settle ∷ []) (nine, eighth_call, (last, record { done = omega arith; is = refl {a = last} }, refl {a = last})) in
    let at_eight = all_stand node (take_all bytes ∷ spare_call ∷ spare_call ∷ spare_call ∷ spare_call ∷ spare_call ∷ spare_call ∷ spare_call ∷ []) world eight at (calls eight [] refl) in
    let is = rewriting_at node eight at_eight (record spare { calls = c7 }) refl (record { bytes = bytes; made = 7 }) refl in
    let whole : state spare.bytes_at_start c8 ≡ all_durable (1 ∷ bytes) =
    after_all-push (all_durable spare.bytes_at_start) c7 Synced ∙ made_more at_eight.rest bytes 7 (state spare.bytes_at_start c7) Synced is.disk refl ∙ last_state at_eight.rest bytes in
    let then = all_stand node (take_all bytes ∷ (spare_calls 8 ++ settle ∷ [])) world last at leads in (
      last,
      leads,
      record {
        began = refl;
        accepted = refl;
        settled = pending_parts node world at;
        groups = refl;
        phase = refl;
        rewriting = refl;
        waiting = refl;
        given = refl;
        spare = refl;
        content = ap (λ (s : State). s.content) whole;
        holds = idle_holds node last then refl;
      },
    )

-- ---- the calls of a rewriting

drop_here : {X : Type 0} (xs : List X) (n : ℕ) (x : X) → slice_get xs n ≡ Some x → drop n xs ≡ x ∷ drop (suc n) xs
drop_here [] n x is = absurd (none-some x is)
drop_here (y ∷ xs) zero x is = ap (λ (z : _). z ∷ xs) (same_Some y x is)
drop_here (y ∷ xs) (suc n) x is = drop_here xs n x is

-- after the last one there is none
calls_ended : (node : Node) (count : ℕ) (one next : World) → one.rewriting ≡ None → Leads node one (spare_calls count) next → (count ≡ 0) × (one ≡ next)
calls_ended node zero one next none leads = (refl, leads)
calls_ended node (suc count) one next none leads = absurd (none-some leads.1.rewriting (sym none ∙ leads.1.in_flight))

-- what the calls of a rewriting come to when there are so many in all, if these are yet to be made
record AreMade (world : World) (spare : Spare) (count all : ℕ) (due : List Call) (next : World) : Type 0 where
  pub within : all ≤ 8
  pub before : all < 8 → (next.spare ≡ Some (record spare { calls = spare.calls ++ take count due })) × (next.calls ≡ world.calls)
  pub ended : all ≡ 8 → (next.bytes_at_start ≡ spare.bytes_at_start) × (next.calls ≡ spare.calls ++ due) × (next.spare ≡ Some (replaced world spare))

module _ (node : Node) (bytes : List ℕ) where
  rewriting_calls : (count made : ℕ) (world next : World) (spare : Spare) → made < 8 → world.spare ≡ Some spare → world.rewriting ≡ Some (record { bytes = bytes; made = made })
      → Leads node world (spare_calls count) next → AreMade world spare count (made + count) (drop made (rewrite_calls bytes)) next
  rewriting_calls zero made world next spare few pair in_flight leads = record {
    within = omega (arith, few);
    before = λ less. (
      ap (λ (w : World). w.spare) (sym leads) ∙ pair ∙ ap (λ (l : List Call). Some (record spare { calls = l })) (sym (append-nil spare.calls)),
      ap (λ (w : World). w.calls) (sym leads),
    );
    ended = λ all. absurd (omega (arith, few, all));
  }
  rewriting_calls (suc count) made world next spare few pair in_flight leads =
      let step = leads.1 in
      let one = leads.0 in
      let same_spare : step.spare ≡ spare = same_Some step.spare spare (sym step.pair ∙ pair) in
      let same_rewriting : step.rewriting ≡ record { bytes = bytes; made = made } = same_Some step.rewriting (record { bytes = bytes; made = made }) (sym step.in_flight ∙ in_flight) in
      let due : slice_get (rewrite_calls bytes) made ≡ Some step.call = ap (λ (r : Rewriting). slice_get (rewrite_calls r.bytes) r.made) (sym same_rewriting) ∙ step.due in
      let is : one ≡ after_spare_call world spare (record { bytes = bytes; made = made }) step.call =
      step.is ∙ (λ i. after_spare_call world (same_spare i) (same_rewriting i) step.call) in
      after_one one step.call due (of_eight world spare (record { bytes = bytes; made = made }) step.call one due is) leads.2
      (λ now less pair_now in_flight_now. rewriting_calls count (suc made) one next now (omega (arith, less)) pair_now in_flight_now leads.2)
    where
      after_one : (one : World) (call : Call) → slice_get (rewrite_calls bytes) made ≡ Some call → IsCallOfEight world spare (record { bytes = bytes; made = made }) call one
          → Leads node one (spare_calls count) next
          → ((now : Spare) → made + 1 < 8 → one.spare ≡ Some now → one.rewriting ≡ Some (record { bytes = bytes; made = suc made })
          → AreMade one now count (suc made + count) (drop (suc made) (rewrite_calls bytes)) next)
          → AreMade world spare (suc count) (made + suc count) (drop made (rewrite_calls bytes)) next
      after_one one call due (eighth last is) leads again =
          let end = calls_ended node count one next (ap (λ (w : World). w.rewriting) is) leads in
          let same : next ≡ with_rewritten world spare call = sym end.1 ∙ is in
          let those : call ∷ [] ≡ drop made (rewrite_calls bytes) =
          ap (λ (l : List Call). call ∷ l) (sym (drop_all (suc made) (rewrite_calls bytes) (omega (arith, last)))) ∙ sym (drop_here (rewrite_calls bytes) made call due) in
          record {
            within = omega (arith, last, end.0);
            before = λ less. absurd (omega (arith, last, less));
            ended = λ all. (
              ap (λ (w : World). w.bytes_at_start) same,
              ap (λ (w : World). w.calls) same ∙ ap (λ (l : List Call). spare.calls ++ l) those,
              ap (λ (w : World). w.spare) same,
            );
          }
      after_one one call due (earlier less is) leads again =
          let now : Spare = record spare { calls = spare.calls ++ call ∷ [] } in
          let next_made : made + 1 ≡ suc made = omega arith in
          let more = again now less (ap (λ (w : World). w.spare) is) (ap (λ (w : World). w.rewriting) is ∙ ap (λ (n : ℕ). Some (record { bytes = bytes; made = n })) next_made) in
          let rest = drop (suc made) (rewrite_calls bytes) in
          let here : drop made (rewrite_calls bytes) ≡ call ∷ rest = drop_here (rewrite_calls bytes) made call due in
          let joined : (l : List Call) → (spare.calls ++ call ∷ []) ++ l ≡ spare.calls ++ call ∷ l = λ l. append_assoc spare.calls (call ∷ []) l in
          let read : one.calls ≡ world.calls = ap (λ (w : World). w.calls) is in
          record {
            within = omega (arith, more.within);
            before = λ few. let then = more.before (omega (arith, few)) in (
              then.0 ∙ ap (λ (l : List Call). Some (record spare { calls = l })) (joined (take count rest) ∙ ap (λ (l : List Call). spare.calls ++ take (suc count) l) (sym here)),
              then.1 ∙ read,
            );
            ended = λ all. let then = more.ended (omega (arith, all)) in (
              then.0,
              then.1 ∙ joined rest ∙ ap (λ (l : List Call). spare.calls ++ l) (sym here),
              then.2 ∙ (λ i. Some (record {
                bytes_at_start = ap (λ (w : World). w.bytes_at_start) is i;
                calls = read i;
                side = other_side spare.side;
                generation = spare.generation + 1;
              })),
            );
          }

pub rewritings_make_calls : RewritingsMakeCalls
rewritings_make_calls node world next spare bytes count pair in_flight leads =
    let is = rewriting_calls node bytes count 0 world next spare (omega arith) pair in_flight leads in (
      omega (arith, is.within),
      λ less. is.before (omega (arith, less)),
      λ all. let then = is.ended (omega (arith, all)) in record { bytes_at_start = then.0; calls = then.1; spare = then.2 },
    )

-- ---- the calls of an append

due_group : (groups : List History) (phase : Phase) (content : List ℕ) (call : Call) → call_for groups phase content ≡ Some call → call_in phase content (map record_of (first_of groups)) ≡ Some call
due_group [] phase content call due = absurd (none-some call due)
due_group (group ∷ groups) phase content call due = due

-- the call that is made, by its phase
one_call : (world next : World) (phase : Phase) (step : IsCalled world next) → world.phase ≡ phase → call_in phase (content_in world) (group_in world) ≡ Some step.call
one_call world next phase step is =
    let due = (due_alone world.rewriting (call_for (undurable_in world) world.phase (content_in world)) step.call step.due).1 in
    ap (λ (p : Phase). call_in p (content_in world) (group_in world)) (sym is) ∙ due_group (undurable_in world) world.phase (content_in world) step.call due

-- what a read gives after it
content_next : (world next : World) (step : IsCalled world next) → content_in next ≡ (after (state world.bytes_at_start world.calls) step.call).content
content_next world next step = ap content_in step.is ∙ ap (λ (s : State). s.content) (after_all-push (all_durable world.bytes_at_start) world.calls step.call)

phase_next : (world next : World) (phase : Phase) (step : IsCalled world next) → world.phase ≡ phase → next.phase ≡ next_phase phase
phase_next world next phase step is = ap (λ (w : World). w.phase) step.is ∙ ap next_phase is

-- the group stays where it isn't durable
group_next : (world next : World) (phase : Phase) (step : IsCalled world next) → world.phase ≡ phase → next_durable phase world.durable ≡ world.durable → group_in next ≡ group_in world
group_next world next phase step is same =
    ap group_in step.is ∙ ap (λ (n : ℕ). map record_of (first_of (drop n world.groups))) (ap (λ (p : Phase). next_durable p world.durable) is ∙ same)

calls_next : (world next : World) (step : IsCalled world next) → next.calls ≡ world.calls ++ step.call ∷ []
calls_next world next step = ap (λ (w : World). w.calls) step.is

-- the first calls, by how many there are
module _ (world one : World) (begun : world.phase ≡ not_begun) (first : IsCalled world one) where
  bytes : List ℕ
  bytes = group_bytes (group_in world)

  in_one : one.phase ≡ group_written
  in_one = phase_next world one not_begun first begun

  write : Wrote (length (content_in world)) (group_bytes (group_in world)) ≡ first.call
  write = same_Some _ first.call (one_call world one not_begun first begun)

  made_one : one.calls ≡ world.calls ++ Wrote (length (content_in world)) (group_bytes (group_in world)) ∷ []
  made_one = calls_next world one first ∙ ap (λ (c : Call). world.calls ++ c ∷ []) (sym write)

  grown : content_in one ≡ written (content_in world) (length (content_in world)) (group_bytes (group_in world))
  grown = content_next world one first ∙ ap (λ (c : Call). (after (state world.bytes_at_start world.calls) c).content) (sym write)

  module _ (two : World) (second : IsCalled one two) where
    in_two : two.phase ≡ group_synced
    in_two = phase_next one two group_written second in_one

    sync : Synced ≡ second.call
    sync = same_Some _ second.call (one_call one two group_written second in_one)

    made_two : two.calls ≡ world.calls ++ Wrote (length (content_in world)) (group_bytes (group_in world)) ∷ Synced ∷ []
    made_two =
        calls_next one two second ∙ (λ i. made_one i ++ sym sync i ∷ [])
        ∙ append_assoc world.calls (Wrote (length (content_in world)) (group_bytes (group_in world)) ∷ []) (Synced ∷ [])

    place : length (content_in two) - length (group_bytes (group_in two)) - 1 ≡ length (content_in world) - 1
    place =
        let kept : content_in two ≡ content_in one = content_next one two second ∙ ap (λ (c : Call). (after (state one.bytes_at_start one.calls) c).content) (sym sync) in
        let group : group_in two ≡ group_in world = group_next one two group_written second in_one refl ∙ group_next world one not_begun first begun refl in
        let long : length (content_in two) ≡ length (content_in world) + length (group_bytes (group_in world)) =
        omega (arith, ap length kept, ap length grown, length-written (content_in world) (length (content_in world)) (group_bytes (group_in world)) (omega arith)) in
        omega (arith, long, ap (λ (g : List (List ℕ)). length (group_bytes g)) group)

    module _ (three : World) (third : IsCalled two three) where
      in_three : three.phase ≡ gate_opened
      in_three = phase_next two three group_synced third in_two

      opened : third.call ≡ Wrote (length (content_in world) - 1) (OPEN ∷ [])
      opened = sym (same_Some _ third.call (one_call two three group_synced third in_two)) ∙ ap (λ (n : ℕ). Wrote n (OPEN ∷ [])) place

      made_three : three.calls ≡ world.calls ++ Wrote (length (content_in world)) (group_bytes (group_in world)) ∷ Synced ∷ Wrote (length (content_in world) - 1) (OPEN ∷ []) ∷ []
      made_three =
          calls_next two three third ∙ (λ i. made_two i ++ opened i ∷ [])
          ∙ append_assoc world.calls (Wrote (length (content_in world)) (group_bytes (group_in world)) ∷ Synced ∷ []) (Wrote (length (content_in world) - 1) (OPEN ∷ []) ∷ [])

      module _ (four : World) (fourth : IsCalled three four) where
        last : fourth.call ≡ Synced
        last = sym (same_Some _ fourth.call (one_call three four gate_opened fourth in_three))

        made_four : four.calls ≡ world.calls ++ append_calls (length (content_in world)) (group_in world)
        made_four =
            calls_next three four fourth ∙ (λ i. made_three i ++ last i ∷ [])
            ∙ append_assoc world.calls (Wrote (length (content_in world)) (group_bytes (group_in world)) ∷ Synced ∷ Wrote (length (content_in world) - 1) (OPEN ∷ []) ∷ []) (Synced ∷ [])

-- where a call is due there is a group
some_due : (groups : List History) (phase : Phase) (content : List ℕ) (call : Call) → call_for groups phase content ≡ Some call → 1 ≤ length groups
some_due [] phase content call due = absurd (none-some call due)
some_due (group ∷ groups) phase content call due = omega arith

-- how many calls of an append are made in a phase
calls_made : Phase → ℕ
calls_made not_begun = 0
calls_made group_written = 1
calls_made group_synced = 2
calls_made gate_opened = 3

made_few : (phase : Phase) → calls_made phase ≤ 3
unfolding calls_made
made_few not_begun = omega arith
made_few group_written = omega arith
made_few group_synced = omega arith
made_few gate_opened = omega arith

-- one call more is made, or four calls where one group fewer isn't durable
call_counts : (world next : World) (phase : Phase) (step : IsCalled world next) → world.phase ≡ phase
    → (1 ≤ length (undurable_in world)) × (calls_made next.phase + 4 * length (undurable_in world) ≡ calls_made phase + 1 + 4 * length (undurable_in next))
unfolding calls_made
call_counts world next phase step is =
    let some : 1 ≤ length (undurable_in world) =
    some_due (undurable_in world) world.phase (content_in world) step.call (due_alone world.rewriting (call_for (undurable_in world) world.phase (content_in world)) step.call step.due).1 in
    let made : calls_made next.phase ≡ calls_made (next_phase phase) = ap calls_made (phase_next world next phase step is) in
    let left : length (undurable_in next) ≡ length world.groups - next_durable phase world.durable =
    ap (λ (w : World). length (undurable_in w)) step.is ∙ length-drop (next_durable world.phase world.durable) world.groups
    ∙ ap (λ (p : Phase). length world.groups - next_durable p world.durable) is in
    (some, counted phase made left some)
  where
    counted : (phase : Phase) → calls_made next.phase ≡ calls_made (next_phase phase) → length (undurable_in next) ≡ length world.groups - next_durable phase world.durable
        → 1 ≤ length (undurable_in world)
        → calls_made next.phase + 4 * length (undurable_in world) ≡ calls_made phase + 1 + 4 * length (undurable_in next)
    counted not_begun made left some = omega (arith, made, left, length-drop world.durable world.groups)
    counted group_written made left some = omega (arith, made, left, length-drop world.durable world.groups)
    counted group_synced made left some = omega (arith, made, left, length-drop world.durable world.groups)
    counted gate_opened made left some = omega (arith, made, left, some, length-drop world.durable world.groups)

few_calls : (node : Node) (count : ℕ) (world next : World) → calls_made world.phase ≤ 4 * length (undurable_in world) → Leads node world (device_calls count) next
    → count + calls_made world.phase ≤ 4 * length (undurable_in world)
few_calls node zero world next within leads = omega (arith, within)
few_calls node (suc count) world next within leads =
    let counts = call_counts world leads.0 world.phase leads.1 refl in
    let more = few_calls node count leads.0 next (omega (arith, counts.0, counts.1, made_few world.phase)) leads.2 in
    omega (arith, counts.1, more)

-- the calls of the world that is reached
at_last : (one next : World) (calls : List Call) → one ≡ next → one.calls ≡ calls → next.calls ≡ calls
at_last one next calls same is = ap (λ (w : World). w.calls) (sym same) ∙ is

first_calls : (node : Node) (world next : World) (count : ℕ) → world.phase ≡ not_begun → Leads node world (device_calls count) next → count ≤ 4
    → next.calls ≡ world.calls ++ take count (append_calls (length (content_in world)) (group_in world))
first_calls node world next zero begun leads few = at_last world next _ leads (sym (append-nil world.calls))
first_calls node world next (suc zero) begun leads few = at_last leads.0 next _ leads.2 (made_one world leads.0 begun leads.1)
first_calls node world next (suc (suc zero)) begun leads few = at_last leads.2.0 next _ leads.2.2 (made_two world leads.0 begun leads.1 leads.2.0 leads.2.1)
first_calls node world next (suc (suc (suc zero))) begun leads few =
    at_last leads.2.2.0 next _ leads.2.2.2 (made_three world leads.0 begun leads.1 leads.2.0 leads.2.1 leads.2.2.0 leads.2.2.1)
first_calls node world next (suc (suc (suc (suc zero)))) begun leads few =
    at_last leads.2.2.2.0 next _ leads.2.2.2.2 (made_four world leads.0 begun leads.1 leads.2.0 leads.2.1 leads.2.2.0 leads.2.2.1 leads.2.2.2.0 leads.2.2.2.1)
first_calls node world next (suc (suc (suc (suc (suc count))))) begun leads few = absurd (omega (arith, few))

-- the other disk stays
spare_stays : (node : Node) (count : ℕ) (world next : World) → Leads node world (device_calls count) next → next.spare ≡ world.spare
spare_stays node zero world next leads = ap (λ (w : World). w.spare) (sym leads)
spare_stays node (suc count) world next leads = spare_stays node count leads.0 next leads.2 ∙ ap (λ (w : World). w.spare) leads.1.is

pub appends_make_calls : AppendsMakeCalls
unfolding calls_made
appends_make_calls node world next count begun leads =
    let none : calls_made world.phase ≡ 0 = ap calls_made begun in
    (omega (arith, none, few_calls node count world next (omega (arith, none)) leads), first_calls node world next count begun leads, spare_stays node count world next leads)
