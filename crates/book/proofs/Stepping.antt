-- What a book does is a step of its world.
use Rattle.std.proofs.Common.{◌≡◌, ◌⊎◌, ℕ, ◌+◌, ◌-◌, ◌≤◌, List, [], ◌∷◌, ◌++◌, length, take, drop, map, zero, suc, inl, inr, Bool, true, false, refl, sym, ap, ◌∙◌, subst, arith}
use Rattle.std.proofs.Common.{append_assoc, length-append, length-take}
use Rattle.std.specs.Prelude.{Option, Some, None, All, Contains, nat_le, if◌then◌else◌}
use Rattle.std.proofs.lemmas.Bool.{cases_Bool, leb-true}
use Rattle.std.proofs.lemmas.Option.{same_Some}
use Rattle.std.proofs.lemmas.List.{append-nil, take_all as take_whole, take_at, drop_at, length-map}
use Rattle.std.proofs.lemmas.List.Elements.{All-append, All-weaker, All-head, All-tail, All-contains_itself, Contains-append_left, Contains-append_right}
use Rattle.journal.specs.Format.{FitsGroup, file_with}
use Rattle.header.specs.declared.admission.Admission.{Admission}
use Rattle.header.specs.declared.admission.Admission.TheVariants.{New, Known}
use Rattle.spec_machine.specs.Machine.{answered}
use Rattle.spec_machine.proofs.AfterAll.{after_is_kept, answered_kept, legal_again}
use Rattle.spec_model.specs.Admitting.{admit, IsLegal, IsTaken}
use Rattle.spec_model.specs.Giving.{kept}
use Rattle.spec_model.specs.Histories.{History}
use Rattle.spec_model.specs.Nodes.{Node, IsNode}
use Rattle.spec_model.specs.Words.{Event, Output}
use Rattle.spec_records.specs.Records.{record_of}
use Rattle.spec_checkpoint.specs.Meaning as checkpoint
use Rattle.diskmodel.specs.Outcomes.{AreBytes}
use Rattle.journal.specs.Snapshot.{bytes_for, CanPack}
use Rattle.spec_model.specs.States.{State}
use Rattle.spec_world.specs.World.{World, Waiting, Spare, IsCheckpointOf, events_of, taken_in, first_of, put_out}
use Rattle.spec_world.specs.Runs.{SnapshotsAreCheckpoints}
use Rattle.spec_world.specs.Steps.{Move, accept, settle, release, take_all, ticketed, with_new, with_known, with_given, group_to, IsAnswered, IsRun}
use Rattle.spec_world.proofs.GoingOn.{groups_settle, checkpoints_settle}
use Rattle.spec_world.proofs.Law.{run_stands}
use Rattle.spec_world.proofs.Groups.{events_split, taken_more}
use Rattle.book.specs.Book.{BookView, Run, Stands, IsCheckpoint, state_in, with_taken, with_settled, with_all_settled, settled_by, TakesNew, TakesKnown, releasable, releasable_within}
use Rattle.book.specs.Queue.{settled_head, settled_front}
use Rattle.book.specs.InFlight.{Flushes, GoesDown}
use Rattle.book.specs.Pending.{IsLongestBeginning}
use Rattle.book.specs.Steps.{run_of, IsRewriting, IsOf, Moves, TakeAllIsAStep, CheckpointIsSteps, AcceptIsAStep, TakesAfter}
use Rattle.book.specs.Steps.{TakeIsAStep, SettleIsAStep, ReleaseIsAStep, ReleasesThere, ReleasesAreSteps, FlushesThere, FlushIsSteps, FailIsAStep}
use Rattle.book.proofs.Flushing.{stands_taken, stands_all, stands_moved, records_taken}
use Rattle.book.proofs.Releasing.{none_within, front_within}

-- what waits goes on waiting after more outputs, and they wait too
waits_more : (waiting queue more : List Waiting) → All (Contains waiting) queue → All (Contains (waiting ++ more)) (queue ++ more)
waits_more waiting queue more all =
    All-append (Contains (waiting ++ more)) queue more
    (All-weaker (Contains waiting) (Contains (waiting ++ more)) (λ w. Contains-append_left waiting more w) queue all)
    (All-weaker (Contains more) (Contains (waiting ++ more)) (λ w. Contains-append_right waiting more w) more (All-contains_itself more))

-- the head of a queue that may be released
head_of : (down : Bool) (settled : ℕ) (queue : List Waiting) (output : Output) → (if down then None else settled_head settled queue) ≡ Some output
    → (first : Waiting) × (rest : List Waiting) × (queue ≡ first ∷ rest) × (first.output ≡ output) × (first.ticket ≤ settled)
head_of true settled queue output is = absurd cc
head_of false settled [] output is = absurd cc
head_of false settled (first ∷ rest) output is =
    elim (cases_Bool (nat_le first.ticket settled)) [
      | inl le ↦ (let same : Some first.output ≡ Some output = rw le at is in (first, rest, refl, (cc), leb-true first.ticket settled le))
      | inr not ↦ (let none : ◌≡◌ {A = Option Output} None (Some output) = rw not at is in absurd cc)
    ]

module _ {S : Type 0} (node : Node) (world : World) (before later : BookView S) (is_of : IsOf node world before) where
  -- what the state answers the world's history does
  answers : (event : Event) (answer : Admission) → IsTaken node event → answered node (state_in node (run_of node world)) event ≡ answer → admit node (world.began ++ world.accepted) event ≡ answer
  answers event answer taken is =
      let legal = legal_again node world.began world.accepted is_of.began is_of.stands.legal in
      answered_kept node world.began world.accepted event legal taken ∙ is

  -- a world whose groups and rewriting are the same, with a book whose rewriting is
  same_rewriting : (next : World) → next.rewriting ≡ world.rewriting → next.settled ≡ world.settled → next.groups ≡ world.groups → next.durable ≡ world.durable
      → later.rewriting ≡ before.rewriting → IsRewriting next later.rewriting
  same_rewriting next rewriting settled groups durable same = by_one later.rewriting before.rewriting same is_of.rewriting
    where
      by_one : (r was : Option ℕ) → r ≡ was → IsRewriting world was → IsRewriting next r
      by_one None None same is = rewriting ∙ is
      by_one None (Some count) same is = absurd cc
      by_one (Some count) None same is = absurd cc
      by_one (Some count) (Some was) same is = record {
        some = subst (λ (l : List History). 1 ≤ length l) (sym groups) is.some;
        counts = (λ i. length (settled i) + length (first_of (groups i))) ∙ is.counts ∙ sym (same_Some count was same);
        until_durable = (λ none. subst (λ n. 1 ≤ n) (sym durable) (is.until_durable.0 (sym rewriting ∙ none)), λ done. rewriting ∙ is.until_durable.1 (subst (λ n. 1 ≤ n) durable done));
      }

  accepts : (event : Event) → TakesNew node before later event ⊎ TakesKnown node before later event → Moves node world (accept event) later
  accepts event (inl new) =
      let next = with_new world event new.outputs in
      let queue : later.queue ≡ before.queue ++ ticketed (length world.accepted + 1) new.outputs = new.queue ∙ ap (λ n. before.queue ++ ticketed (n + 1) new.outputs) is_of.stands.accepted in
      record {
        next = next;
        step = record {
          is_taken = new.taken_by;
          is = subst (λ a. IsAnswered world event a next) (sym (answers event (New new.outputs) new.taken_by (new.answer (run_of node world) is_of.stands))) refl;
        };
        is_of = record {
          began = is_of.began;
          stands = new.stands (run_of node world) is_of.stands;
          rewriting = same_rewriting next refl refl refl refl new.rewriting;
          waits = subst (All (Contains next.waiting)) (sym queue) (waits_more world.waiting before.queue (ticketed (length world.accepted + 1) new.outputs) is_of.waits);
        };
      }
  accepts event (inr known) =
      let next = with_known world known.outputs in
      let queue : later.queue ≡ before.queue ++ ticketed (length world.accepted) known.outputs =
      ap (λ (b : BookView S). b.queue) known.is ∙ ap (λ n. before.queue ++ ticketed n known.outputs) is_of.stands.accepted in
      record {
        next = next;
        step = record {
          is_taken = known.taken_by;
          is = subst (λ a. IsAnswered world event a next) (sym (answers event (Known known.outputs) known.taken_by (known.answer (run_of node world) is_of.stands))) refl;
        };
        is_of = record {
          began = is_of.began;
          stands = known.stands (run_of node world) is_of.stands;
          rewriting = same_rewriting next refl refl refl refl (ap (λ (b : BookView S). b.rewriting) known.is);
          waits = subst (All (Contains next.waiting)) (sym queue) (waits_more world.waiting before.queue (ticketed (length world.accepted) known.outputs) is_of.waits);
        };
      }

  takes : (group : List (List ℕ)) → IsLongestBeginning before.pending group later.pending
      → later ≡ record before { pending = later.pending; taken = before.taken + length group } → TakesAfter node world group later
  takes group longest is =
      let count = length (taken_in world) + length group in
      let events = group_to world count in
      let records : group ≡ map record_of events = records_taken node (run_of node world) before later is_of.stands group longest in
      let fits : FitsGroup (map record_of events) = subst FitsGroup records longest.fits in
      let some : 1 ≤ length events = omega (arith, fits.some, length-map events record_of) in
      let next : World = record world { groups = world.groups ++ events ∷ [] } in
      let all : taken_in next ≡ take count world.accepted = taken_more world count is_of.stands.taken_begins some in
      record {
        moves = record {
          next = next;
          step = record { fits = fits; is = refl };
          is_of = record {
            began = is_of.began;
            stands = subst (λ (l : History). Stands node (record (run_of node world) { taken = l }) later) (sym all) (stands_taken node (run_of node world) before later is_of.stands group longest is);
            rewriting = subst (IsRewriting next) (sym (ap (λ (b : BookView S). b.rewriting) is)) (with_group before.rewriting is_of.rewriting);
            waits = subst (λ (b : BookView S). All (Contains world.waiting) b.queue) (sym is) is_of.waits;
          };
        };
        events = events;
        groups = refl;
        records = records;
      }
    where
      first_stays : (groups : List History) (more : History) → 1 ≤ length groups → first_of (groups ++ more ∷ []) ≡ first_of groups
      first_stays [] more some = absurd (omega (arith, some))
      first_stays (first ∷ groups) more some = refl

      with_group : (r : Option ℕ) → IsRewriting world r → IsRewriting (record world { groups = world.groups ++ group_to world (length (taken_in world) + length group) ∷ [] }) r
      with_group None is = is
      with_group (Some count) is =
          let events = group_to world (length (taken_in world) + length group) in
          record {
            some = omega (arith, length-append world.groups (events ∷ []));
            counts = ap (λ (l : History). length world.settled + length l) (first_stays world.groups events is.some) ∙ is.counts;
            until_durable = is.until_durable;
          }

  -- how many are settled, in a group or by a rewriting
  counts_settled : (records : List (List ℕ)) → (before.rewriting ≡ None → map record_of (first_of world.groups) ≡ records)
      → settled_by (run_of node world) before.rewriting (length records) ≡ record (run_of node world) { settled = take (length world.settled + length (first_of world.groups)) (taken_in world) }
  counts_settled records is = by_one before.rewriting is is_of.rewriting
    where
      by_one : (r : Option ℕ) → (r ≡ None → map record_of (first_of world.groups) ≡ records) → IsRewriting world r
          → settled_by (run_of node world) r (length records) ≡ record (run_of node world) { settled = take (length world.settled + length (first_of world.groups)) (taken_in world) }
      by_one None is rewriting =
          ap (λ (n : ℕ). record (run_of node world) { settled = take (length world.settled + n) (taken_in world) }) (ap length (sym (is refl)) ∙ length-map (first_of world.groups) record_of)
      by_one (Some all) is rewriting = ap (λ (n : ℕ). record (run_of node world) { settled = take n (taken_in world) }) (sym rewriting.counts)

  -- and no rewriting is in flight then
  none_left : 1 ≤ world.durable → (r : Option ℕ) → IsRewriting world r → world.rewriting ≡ None
  none_left done None is = is
  none_left done (Some all) is = is.until_durable.1 done

  settles : (records : List (List ℕ)) → 1 ≤ world.durable → (before.rewriting ≡ None → map record_of (first_of world.groups) ≡ records)
      → Stands node (settled_by (run_of node world) before.rewriting (length records)) later → later.rewriting ≡ None → later.queue ≡ before.queue → Moves node world settle later
  settles records done is stands none queue =
      let more = first_of world.groups in
      let some = world.settled ++ more in
      let others = events_of (drop 1 world.groups) in
      let all : taken_in world ≡ some ++ others = ap (λ l. world.settled ++ l) (events_split world.groups) ∙ sym (append_assoc world.settled more others) in
      let count = length world.settled + length more in
      let settled : take count (taken_in world) ≡ some = ap (take count) all ∙ take_at some others count (length-append world.settled more) in
      let next : World = record world { settled = some; groups = drop 1 world.groups; durable = world.durable - 1 } in
      record {
        next = next;
        step = record { done = done; is = refl };
        is_of = record {
          began = is_of.began;
          stands = subst (λ (l : History). Stands node (record (run_of node world) { settled = some; taken = l }) later) all
              (subst (λ (l : History). Stands node (record (run_of node world) { settled = l }) later) settled
              (subst (λ (r : Run). Stands node r later) (counts_settled records is) stands));
          rewriting = subst (IsRewriting next) (sym none) (none_left done before.rewriting is_of.rewriting);
          waits = subst (All (Contains world.waiting)) (sym queue) is_of.waits;
        };
      }

  releases : (output : Output) → releasable before ≡ Some output → later ≡ record before { queue = drop 1 before.queue } → Stands node (run_of node world) later
      → (ticket : ℕ) × Moves node world (release (record { ticket = ticket; output = output })) later
  releases output is later_is stands =
      let head = head_of before.down before.settled before.queue output is in
      let first = head.0 in
      let waits : All (Contains world.waiting) (first ∷ head.1) = subst (All (Contains world.waiting)) head.2 is_of.waits in (
        first.ticket,
        record {
          next = with_given world (put_out output) (world.began ++ take first.ticket world.accepted);
          step = record {
            waits = subst (λ (o : Output). Contains world.waiting (record { ticket = first.ticket; output = o })) head.3 (All-head (Contains world.waiting) first head.1 waits);
            ready = omega (arith, head.4, is_of.stands.settled);
            is = refl;
          };
          is_of = record {
            began = is_of.began;
            stands = stands;
            rewriting = same_rewriting (with_given world (put_out output) (world.began ++ take first.ticket world.accepted)) refl refl refl refl (ap (λ (b : BookView S). b.rewriting) later_is);
            waits = subst (All (Contains world.waiting)) (sym (ap (λ (b : BookView S). b.queue) later_is ∙ ap (drop 1) head.2)) (All-tail (Contains world.waiting) first head.1 waits);
          };
        },
      )

-- ---- outputs that are released together

-- where nothing goes out, the world stays as it is
none_leave : {S : Type 0} (node : Node) (world : World) (book : BookView S) → IsOf node world book → ReleasesThere node world [] book
none_leave node world book is_of = record { waiting = []; outputs_are = refl; next = world; leads = refl; is_of = is_of }

-- the outputs at the front of a queue leave a book that isn't down
module _ {S : Type 0} (node : Node) (book : BookView S) (up : book.down ≡ false) where
  one_leaves : (first : Waiting) (rest : List Waiting) (world : World) → nat_le first.ticket book.settled ≡ true → IsOf node world (record book { queue = first ∷ rest })
      → (ticket : ℕ) × Moves node world (release (record { ticket = ticket; output = first.output })) (record book { queue = rest })
  one_leaves first rest world le is_of =
      let now : BookView S = record book { queue = first ∷ rest } in
      let head : releasable now ≡ Some first.output =
      ap (λ d. if d then None else settled_head book.settled (first ∷ rest)) up ∙ ap (λ b. if b then Some first.output else None) le in
      releases node world now (record book { queue = rest }) is_of first.output head refl (stands_moved node (run_of node world) now 1 rest refl is_of.stands)

  front_leaves : (room : ℕ) (queue : List Waiting) (world : World) → IsOf node world (record book { queue = queue })
      → ReleasesThere node world (take room (settled_front book.settled queue)) (record book { queue = drop (length (take room (settled_front book.settled queue))) queue })
  front_leaves zero queue world is_of = none_leave node world (record book { queue = queue }) is_of
  front_leaves (suc room) [] world is_of = none_leave node world (record book { queue = [] }) is_of
  front_leaves (suc room) (first ∷ rest) world is_of = by_test (front_leaves room rest) (nat_le first.ticket book.settled) refl
    where
      front : Bool → List Output
      front b = if b then first.output ∷ settled_front book.settled rest else []

      by_test : ((next : World) → IsOf node next (record book { queue = rest })
          → ReleasesThere node next (take room (settled_front book.settled rest)) (record book { queue = drop (length (take room (settled_front book.settled rest))) rest }))
          → (b : Bool) → nat_le first.ticket book.settled ≡ b
          → ReleasesThere node world (take (suc room) (front b)) (record book { queue = drop (length (take (suc room) (front b))) (first ∷ rest) })
      by_test others false not = none_leave node world (record book { queue = first ∷ rest }) is_of
      by_test others true le =
          let one = one_leaves first rest world le is_of in
          let moves = one.1 in
          let after = others moves.next moves.is_of in
          record {
            waiting = record { ticket = one.0; output = first.output } ∷ after.waiting;
            outputs_are = ap (λ (l : List Output). first.output ∷ l) after.outputs_are;
            next = after.next;
            leads = (moves.next, moves.step, after.leads);
            is_of = after.is_of;
          }

leave_together : {S : Type 0} (node : Node) (world : World) (before later : BookView S) (room : ℕ) → IsOf node world before
    → later ≡ record before { queue = drop (length (releasable_within room before)) before.queue } → ReleasesThere node world (releasable_within room before) later
leave_together {S} node world before later room is_of is =
    subst (ReleasesThere node world (releasable_within room before)) (sym is) (elim (cases_Bool before.down) [
      | inl down ↦ leave [] (none_within before room down) (none_leave node world before is_of)
      | inr up ↦ leave (take room (settled_front before.settled before.queue)) (front_within before room up) (front_leaves node before up room before.queue world is_of)
    ])
  where
    leave : (outputs : List Output) → releasable_within room before ≡ outputs → ReleasesThere node world outputs (record before { queue = drop (length outputs) before.queue })
        → ReleasesThere node world (releasable_within room before) (record before { queue = drop (length (releasable_within room before)) before.queue })
    leave outputs is there = subst (λ (l : List Output). ReleasesThere node world l (record before { queue = drop (length l) before.queue })) (sym is) there

-- ---- a round of one owner

-- the run after a group that is taken and settled where no other is in flight
run_there : (node : Node) (world next : World) (group count : ℕ) → world.groups ≡ [] → count ≡ length world.settled + group → next.began ≡ world.began → next.accepted ≡ world.accepted
    → next.settled ≡ take count world.accepted → next.groups ≡ [] → with_settled (with_taken (run_of node world) group) group ≡ run_of node next
run_there node world next group count none is began accepted settled idle =
    let all : taken_in world ≡ world.settled = ap (λ (l : List History). world.settled ++ events_of l) none ∙ append-nil world.settled in
    let number : length (taken_in world) + group ≡ count = omega (arith, ap length all, is) in
    let taken : take (length (taken_in world) + group) world.accepted ≡ take count world.accepted = ap (λ n. take n world.accepted) number in
    let again : take (length world.settled + group) (take (length (taken_in world) + group) world.accepted) ≡ take count world.accepted =
    (λ i. take (sym is i) (taken i)) ∙ take_whole count (take count world.accepted) (omega (arith, length-take count world.accepted)) in
    let later : taken_in next ≡ next.settled = ap (λ (l : List History). next.settled ++ events_of l) idle ∙ append-nil next.settled in
    (λ i. record {
      base = ap (kept node) (sym began) i;
      accepted = sym accepted i;
      taken = (taken ∙ sym settled ∙ sym later) i;
      settled = (again ∙ sym settled) i;
    })

module _ {S : Type 0} (node : Node) (moves : List Move) (world : World) (before later : BookView S) (sound : IsNode node)
    (run : IsRun node moves world) (is_of : IsOf node world before) (none : world.groups ≡ []) where
  -- where no group is in flight, no rewriting is, before and after
  none_after : (next : World) → next.rewriting ≡ world.rewriting → (r : Option ℕ) → IsRewriting world r → IsRewriting next r
  none_after next same None is = same ∙ is
  none_after next same (Some all) is = absurd (omega (arith, is.some, ap length none))

  flushes : (old new : List ℕ) (count : ℕ) → Flushes node before later old new count → FlushesThere node world (length world.settled + count) old new later
  flushes old new count flush =
      let all : taken_in world ≡ world.settled = ap (λ (l : List History). world.settled ++ events_of l) none ∙ append-nil world.settled in
      let number : length (taken_in world) + length flush.group ≡ length world.settled + count = omega (arith, ap length all, flush.counts) in
      let records : flush.group ≡ map record_of (group_to world (length world.settled + count)) =
      records_taken node (run_of node world) before later is_of.stands flush.group flush.takes ∙ ap (λ (n : ℕ). map record_of (group_to world n)) number in
      let there = groups_settle node moves world (length world.settled + count) sound run none (subst FitsGroup records flush.takes.fits) in
      let next = there.0 in
      let settled = there.2 in
      let runs = run_there node world next (length flush.group) (length world.settled + count) none (omega (arith, flush.counts)) settled.began settled.accepted settled.settled settled.groups in
      let queue : later.queue ≡ before.queue = ap (λ (b : BookView S). b.queue) flush.is in
      record {
        next = next;
        leads = there.1;
        settled = settled;
        is_of = record {
          began = subst (IsLegal node) (sym settled.began) is_of.began;
          stands = subst (λ (r : Run). Stands node r later) runs (flush.stands (run_of node world) is_of.stands);
          rewriting = subst (IsRewriting next) (sym (ap (λ (b : BookView S). b.rewriting) flush.is)) (none_after next settled.rewriting before.rewriting is_of.rewriting);
          waits = subst (λ (l : List Waiting). All (Contains l) later.queue) (sym settled.waiting) (subst (All (Contains world.waiting)) (sym queue) is_of.waits);
        };
        content = λ file. settled.content ∙ (λ i. file_with (file i) (sym records i)) ∙ sym flush.written;
      }

-- where it goes down, the group stays taken
fails : {S : Type 0} (node : Node) (world : World) (before later : BookView S) → IsOf node world before → (down : GoesDown node before later) → TakesAfter node world down.group later
fails {S} node world before later is_of down =
    let up : BookView S = record before { pending = later.pending; taken = before.taken + length down.group } in
    let takes = takes node world before up is_of down.group down.takes refl in
    let same : later ≡ record up { down = true } = down.is in
    let stands = takes.moves.is_of.stands in
    let next = takes.moves.next in
    record {
      moves = record {
        next = next;
        step = takes.moves.step;
        is_of = record {
          began = takes.moves.is_of.began;
          stands = subst (Stands node (run_of node next)) (sym same) (record {
            legal = stands.legal;
            at = stands.at;
            taken_begins = stands.taken_begins;
            settled_begins = stands.settled_begins;
            pending = stands.pending;
            accepted = stands.accepted;
            taken = stands.taken;
            settled = stands.settled;
            rewriting = stands.rewriting;
            due = stands.due;
            rising = stands.rising;
            ordered = stands.ordered;
            lengths = stands.lengths;
            tickets = stands.tickets;
          });
          rewriting = subst (λ (b : BookView S). IsRewriting next b.rewriting) (sym same) takes.moves.is_of.rewriting;
          waits = subst (λ (b : BookView S). All (Contains next.waiting) b.queue) (sym same) takes.moves.is_of.waits;
        };
      };
      events = takes.events;
      groups = takes.groups;
      records = takes.records;
    }

-- ---- a checkpoint of one owner

-- no group is in flight in the world of a run: none is durable
zero_durable : (node : Node) (moves : List Move) (world : World) → IsNode node → IsRun node moves world → world.groups ≡ [] → world.durable ≡ 0
zero_durable node moves world sound run none = omega (arith, (run_stands node moves world sound run).within, ap length none)

-- what isn't settled, after what is, is all that was accepted
all_taken : {S : Type 0} (node : Node) (world : World) (book : BookView S) → Stands node (run_of node world) book → world.settled ++ (drop (length world.settled) world.accepted ++ []) ≡ world.accepted
all_taken node world book at =
    let rest = at.settled_begins.rest ++ at.taken_begins.rest in
    let parts : world.accepted ≡ world.settled ++ rest =
    at.taken_begins.parts ∙ ap (λ l. l ++ at.taken_begins.rest) at.settled_begins.parts ∙ append_assoc world.settled at.settled_begins.rest at.taken_begins.rest in
    ap (λ l. world.settled ++ l) (append-nil (drop (length world.settled) world.accepted) ∙ ap (drop (length world.settled)) parts ∙ drop_at world.settled rest (length world.settled) refl) ∙ sym parts

takes_all : {S : Type 0} (node : Node) (moves : List Move) (world : World) (before later : BookView S) (spare : Spare) (bytes : List ℕ) → IsNode node → IsRun node moves world
    → IsOf node world before → world.groups ≡ [] → world.spare ≡ Some spare → IsCheckpointOf node (spare.generation + 1) (kept node (world.began ++ world.accepted)) bytes
    → later ≡ record before { pending = []; taken = before.accepted; rewriting = Some before.accepted; down = later.down } → Moves node world (take_all bytes) later
takes_all {S} node moves world before later spare bytes sound run is_of none pair checkpoint is =
    let pending = drop (length world.settled) world.accepted in
    let next : World = record world { groups = pending ∷ []; rewriting = Some (record { bytes = bytes; made = 0 }) } in
    let all : taken_in next ≡ world.accepted = all_taken node world before is_of.stands in
    let zero = zero_durable node moves world sound run none in
    record {
      next = next;
      step = record { spare = spare; pair = pair; idle = none; checkpoint = checkpoint; is = refl };
      is_of = record {
        began = is_of.began;
        stands = subst (λ (l : History). Stands node (record (run_of node world) { taken = l }) later) (sym all) (stands_all node (run_of node world) before later is_of.stands is);
        rewriting = subst (IsRewriting next) (sym (ap (λ (b : BookView S). b.rewriting) is)) (record {
          some = omega arith;
          counts = sym (length-append world.settled pending) ∙ ap (λ l. length (world.settled ++ l)) (sym (append-nil pending)) ∙ ap length all ∙ sym is_of.stands.accepted;
          until_durable = (λ over. absurd cc, λ done. absurd (omega (arith, done, zero)));
        });
        waits = subst (λ (b : BookView S). All (Contains world.waiting) b.queue) (sym is) is_of.waits;
      };
    }

checkpoints : {S : Type 0} → SnapshotsAreCheckpoints → CheckpointIsSteps S
checkpoints {S} written node moves world before later spare snapshot sound run is_of none pair can settles =
    let now : Run = run_of node world in
    let is : IsCheckpoint node (state_in node now) snapshot = settles.checkpoint now is_of.stands in
    let leads : state_in node now ≡ kept node (world.began ++ world.accepted) =
    after_is_kept node world.began world.accepted (legal_again node world.began world.accepted is_of.began is_of.stands.legal) in
    let bytes = bytes_for (spare.generation + 1) snapshot in
    let of_records : IsCheckpointOf node (spare.generation + 1) (checkpoint.state_in node is.kept) bytes =
    subst (λ (l : List (List ℕ)). IsCheckpointOf node (spare.generation + 1) (checkpoint.state_in node is.kept) (bytes_for (spare.generation + 1) l)) (sym is.are)
    (written node (spare.generation + 1) is.kept sound can.keys (omega arith) can.generation_fits is.written (subst CanPack is.are can.packs)
    (subst (λ (l : List (List ℕ)). AreBytes (bytes_for (spare.generation + 1) l)) is.are can.are_bytes)) in
    let of_all = subst (λ (s : State). IsCheckpointOf node (spare.generation + 1) s bytes) (is.is ∙ leads) of_records in
    let there = checkpoints_settle node moves world spare bytes sound run none pair of_all in
    let next = there.0 in
    let settled = there.2 in
    let idle : taken_in next ≡ next.settled = ap (λ (l : List History). next.settled ++ events_of l) settled.groups ∙ append-nil next.settled in
    let runs : with_all_settled now ≡ run_of node next = (λ i. record {
      base = ap (kept node) (sym settled.began) i;
      accepted = sym settled.accepted i;
      taken = (sym settled.settled ∙ sym idle) i;
      settled = sym settled.settled i;
    }) in
    record {
      next = next;
      leads = there.1;
      settled = settled;
      is_of = record {
        began = subst (IsLegal node) (sym settled.began) is_of.began;
        stands = subst (λ (r : Run). Stands node r later) runs (settles.stands now is_of.stands);
        rewriting = subst (IsRewriting next) (sym (ap (λ (b : BookView S). b.rewriting) settles.is)) settled.rewriting;
        waits = subst (λ (l : List Waiting). All (Contains l) later.queue) (sym settled.waiting)
            (subst (All (Contains world.waiting)) (sym (ap (λ (b : BookView S). b.queue) settles.is)) is_of.waits);
      };
    }

pub take_all_is_a_step : (S : Type 0) → TakeAllIsAStep S
take_all_is_a_step S node moves world before later spare bytes sound run is_of none pair checkpoint is = takes_all node moves world before later spare bytes sound run is_of none pair checkpoint is

pub checkpoint_is_steps : (S : Type 0) → SnapshotsAreCheckpoints → CheckpointIsSteps S
checkpoint_is_steps S written = checkpoints written

pub accept_is_a_step : (S : Type 0) → AcceptIsAStep S
accept_is_a_step S node world before later event is_of takes = accepts node world before later is_of event takes

pub take_is_a_step : (S : Type 0) → TakeIsAStep S
take_is_a_step S node world before later group is_of longest is = takes node world before later is_of group longest is

pub settle_is_a_step : (S : Type 0) → SettleIsAStep S
settle_is_a_step S node world before later records is_of done is stands none queue = settles node world before later is_of records done is stands none queue

pub release_is_a_step : (S : Type 0) → ReleaseIsAStep S
release_is_a_step S node world before later output is_of is later_is stands = releases node world before later is_of output is later_is stands

pub releases_are_steps : (S : Type 0) → ReleasesAreSteps S
releases_are_steps S node world before later room is_of is = leave_together node world before later room is_of is

pub flush_is_steps : (S : Type 0) → FlushIsSteps S
flush_is_steps S node moves world before later old new count sound run is_of none flush = flushes node moves world before later sound run is_of none old new count flush

pub fail_is_a_step : (S : Type 0) → FailIsAStep S
fail_is_a_step S node world before later is_of down = fails node world before later is_of down
