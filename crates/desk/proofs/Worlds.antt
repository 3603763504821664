-- A desk in its world after each call.
use Rattle.std.proofs.Common.{◌≡◌, ◌⊎◌, ℕ, ◌+◌, ◌<◌, ◌≤◌, ◌^◌, true, false, inl, inr, List, [], ◌∷◌, ◌++◌, length, take, drop, Result, Ok, refl, sym, ap, ◌∙◌, subst, arith, append-nil}
use Rattle.std.specs.Prelude.{All, Contains, Option, Some, None, IsSome}
use Rattle.std.specs.Option.{option_map_or}
use Rattle.std.proofs.lemmas.Bool.{true≢false}
use Rattle.std.proofs.lemmas.List.{length-map}
use Rattle.std.proofs.lemmas.List.Elements.{All-nil}
use Rattle.book.specs.Book as book
use Rattle.book.specs.InFlight.{Flushes, GoesDown}
use Rattle.book.specs.Steps as steps
use Rattle.journal.specs.Format.{stands}
use Rattle.journal.specs.Areas.{Areas, alone, pair}
use Rattle.journal.specs.Journal.{disk_of, spare_of, IsAlive, stands_with}
use Rattle.journal.specs.Pairs.{areas_of, side_in, generation_in}
use Rattle.journal.specs.declared.error.JournalError.{JournalError}
use Rattle.journal.specs.declared.journal.Journal.{Journal}
use Rattle.journal.specs.declared.side.Side.TheVariants.{First}
use Rattle.journal.specs.declared.spare.Spare.{Spare as JournalSpare}
use Rattle.opening.specs.Decoded.{decoded, decoded_in}
use Rattle.spec_machine.specs.After.{after_all}
use Rattle.spec_machine.specs.Laws.{StartsFresh}
use Rattle.spec_model.specs.Admitting.{admit, IsTaken, IsLegal}
use Rattle.spec_model.specs.Giving.{kept as kept_in}
use Rattle.spec_model.specs.Histories.{History}
use Rattle.spec_model.specs.Holdings.{order}
use Rattle.spec_model.specs.Nodes.{Node, IsNode}
use Rattle.spec_model.specs.States.{State}
use Rattle.spec_model.specs.Words.{Event, Output}
use Rattle.header.specs.declared.admission.Admission.{Admission}
use Rattle.header.specs.declared.admission.Admission.TheVariants.{New, Known, Refused}
use Rattle.spec_records.specs.Records.{record_of}
use Rattle.spec_world.specs.World.{World, Waiting, read, taken_in, IsPair, Opened, alone_on, run_on}
use Rattle.spec_world.specs.Steps.{Move, accept, take_to, device_call, settle, release, read_order, restart, with_given, group_to, IsAnswered, IsStep, IsRun}
use Rattle.spec_world.specs.Runs.{areas_in, AreKeys, device_calls, first_bytes, two_on, spare_calls, HistoriesBeginOnTwo}
use Rattle.spec_world.proofs.Beginning.{runs_begin}
use Rattle.spec_world.proofs.GoingOn.{stops_are_possible, runs_begin_with_what_stands}
use Rattle.spec_world.proofs.Groups.{taken_more}
use Rattle.spec_world.proofs.Law.{nothing_taken_back}
use Rattle.desk.specs.Desk.{DeskView, taken_in as taken_state, IsUp, IsLeft, IsOf, IsOpened}
use Rattle.desk.specs.AtWorld.{a_group, IsBeside, IsAt, LeadsTo, IsStop}
use Rattle.opening.specs.Renewing.{HasBegun}
use Rattle.desk.specs.Disks.{AreReadAs, MayLeave, of_one, IsOnAsMany}
use Rattle.desk.proofs.Found.{none_taken, IsFoundAgain}
use Rattle.desk.proofs.Stops.{stop_found}
use Rattle.desk.proofs.Runs.{leads_one}
use Rattle.spec_world.proofs.Scripts.{leads_join, run_more}
use Rattle.opening.proofs.Reporting.{decoded_records, journal_nil}
use Rattle.journal.proofs.Walks.{stands_short}
use Rattle.desk.proofs.Reading.{over, same_spare, decoded_of}
use Rattle.desk.proofs.Standing.{read_with, configured_with, left_durable}
use Rattle.diskmodel.specs.Disk.{Device}

-- where no group is in flight, no rewriting is, neither of the book nor of the world
none_rewritten : (world : World) → world.groups ≡ [] → (rewriting : Option ℕ) → steps.IsRewriting world rewriting → (rewriting ≡ None) × (world.rewriting ≡ None)
none_rewritten world idle None is = (refl, is)
none_rewritten world idle (Some count) is = absurd (omega (arith, is.some, ap length idle))

-- ---- what a move leaves as it was

-- what a run began with, what is settled, the groups in flight, and the other disk
pub record IsKept (world next : World) : Type 0 where
  pub began : next.began ≡ world.began
  pub settled : next.settled ≡ world.settled
  pub groups : next.groups ≡ world.groups
  pub spare : next.spare ≡ world.spare

kept_of : (world with_it next : World) → next ≡ with_it → IsKept world with_it → IsKept world next
kept_of world with_it next same kept = subst (IsKept world) (sym same) kept

answered_keeps : (world : World) (event : Event) (answer : Admission) (next : World) → IsAnswered world event answer next → IsKept world next
answered_keeps world event (New outputs) next same = kept_of world _ next same (record { began = refl; settled = refl; groups = refl; spare = refl })
answered_keeps world event (Known outputs) next same = kept_of world _ next same (record { began = refl; settled = refl; groups = refl; spare = refl })
answered_keeps world event (Refused refusal) next is = absurd is

-- the other disk is that of the world where neither changes
beside_stays : {D : Type 0} (world next : World) (old new : Journal D) → next.spare ≡ world.spare → spare_of new ≡ spare_of old → (IsSome (spare_of old) → IsBeside world old)
    → IsSome (spare_of new) → IsBeside next new
beside_stays world next old new kept same beside some =
    let one = beside (subst IsSome same some) in
    record {
      spare = one.spare;
      is = kept ∙ one.is;
      side = one.side ∙ ap (λ (s : Option (JournalSpare _)). option_map_or (λ (o : JournalSpare _). o.side) s First) (sym same);
      generation = one.generation ∙ ap (λ (s : Option (JournalSpare _)). option_map_or (λ (o : JournalSpare _). o.generation) s 0) (sym same);
    }

module _ {S D : Type 0} (node : Node) (device : Device D) (world : World) (before : DeskView S D) (is : IsAt node device world before) (up : before.book.down ≡ false) where
  abbrev run : book.Run
  run = steps.run_of node world

  idle : world.groups ≡ []
  idle = is.idle up

  -- ---- events, outputs, reads

  -- after a move that leaves the disk, and what is settled, as it was
  pub stays : (later : DeskView S D) (move : Move) (next : World) → IsStep node world move next → IsKept world next → steps.IsOf node next later.book
      → later.book.down ≡ false → later.journal ≡ before.journal
      → LeadsTo node device world (move ∷ []) later
  stays later move next step kept of up_later same =
      let still = is.is_of.up up in
      let leads = leads_one node world move next step in
      let none : next.groups ≡ [] = kept.groups ∙ idle in
      let settled : book.settled_in node run ≡ book.settled_in node (steps.run_of node next) = (λ i. after_all node (kept_in node (sym kept.began i)) (sym kept.settled i)) in
      let taken : taken_state node run ≡ taken_state node (steps.run_of node next) =
      (λ i. after_all node (kept_in node (sym kept.began i)) (sym (none_taken next none ∙ kept.settled ∙ sym (none_taken world idle)) i)) in
      let is_up : IsUp node device (steps.run_of node next) later.journal = subst (IsUp node device (steps.run_of node next)) (sym same) (record {
        configured = still.configured;
        read_as = subst (AreReadAs node (areas_of device before.journal)) settled still.read_as;
        settled = none_taken next none;
      }) in
      let left : IsLeft node device (steps.run_of node next) later.journal = subst (IsLeft node device (steps.run_of node next)) (sym same) (λ areas may.
      elim (is.is_of.left areas may) [ inl so ↦ inl (subst (AreReadAs node areas) settled so) | inr with_it ↦ inr (subst (AreReadAs node areas) taken with_it) ]) in
      record {
        next = next;
        leads = leads;
        is_at = record {
          sound = is.sound;
          moves = is.moves ++ move ∷ [];
          run = run_more node is.moves (move ∷ []) world next is.run leads;
          is_of_world = of;
          is_of = record { stands_at = of.stands; up = λ _. is_up; left = left };
          idle = λ _. none;
          in_flight = λ down. absurd (true≢false (sym down ∙ up_later));
          beside = beside_stays world next before.journal later.journal kept.spare (ap (λ (j : Journal D). spare_of j) same) is.beside;
        };
      }

  pub accepts : steps.AcceptIsAStep S → (later : DeskView S D) (event : Event) → book.TakesNew node before.book later.book event
      ⊎ book.TakesKnown node before.book later.book event → later.book.down ≡ false → later.journal ≡ before.journal
      → LeadsTo node device world (accept event ∷ []) later
  accepts law later event takes up_later same =
      let moves = law node world before.book later.book event is.is_of_world takes in
      stays later (accept event) moves.next moves.step (answered_keeps world event (admit node (world.began ++ world.accepted) event) moves.next moves.step.is) moves.is_of up_later same

  pub releases : steps.ReleaseIsAStep S → (later : DeskView S D) (output : Output) → book.releasable before.book ≡ Some output → later.book ≡ record before.book { queue = drop 1 before.book.queue }
      → ((run : book.Run) → book.Stands node run before.book → book.Stands node run later.book) → later.journal ≡ before.journal
      → (ticket : ℕ) × LeadsTo node device world (release (record { ticket = ticket; output = output }) ∷ []) later
  releases law later output may is_later stands same =
      let one = law node world before.book later.book output is.is_of_world may is_later (stands run is.is_of_world.stands) in
      let waiting : Waiting = record { ticket = one.0; output = output } in
      let moves = one.1 in (
        one.0,
        stays later (release waiting) moves.next moves.step (kept_of world _ moves.next moves.step.is (record { began = refl; settled = refl; groups = refl; spare = refl })) moves.is_of
            (ap (λ (b : book.BookView S). b.down) is_later ∙ up) same,
      )

  pub reads : LeadsTo node device world (read_order ∷ []) before
  reads =
      let of = is.is_of_world in
      let none = none_rewritten world idle before.book.rewriting of.rewriting in
      let rewriting : steps.IsRewriting (with_given world (read (order node (world.began ++ world.settled))) (world.began ++ world.settled)) before.book.rewriting =
      subst (steps.IsRewriting (with_given world (read (order node (world.began ++ world.settled))) (world.began ++ world.settled))) (sym none.0) none.1 in
      stays before read_order _ refl (record { began = refl; settled = refl; groups = refl; spare = refl })
      (record { began = of.began; stands = of.stands; rewriting = rewriting; waits = of.waits }) up refl

  -- ---- a round

  module _ (alive : IsAlive device before.journal) (begun : HasBegun device before.journal) (later : DeskView S D) (kept_spare : spare_of later.journal ≡ spare_of before.journal) where
    -- the bytes of all disks after it
    areas_later : over device (spare_of before.journal) (device.content (disk_of later.journal)) ≡ areas_of device later.journal
    areas_later = sym (same_spare device before.journal later.journal kept_spare)

    pub flushes : steps.FlushIsSteps S → (old new : List ℕ) (count : ℕ) → device.content (disk_of before.journal) ≡ old → device.content (disk_of later.journal) ≡ new
        → Flushes node before.book later.book old new count → IsAlive device later.journal
        → LeadsTo node device world (take_to (length world.settled + count) ∷ device_call ∷ device_call ∷ device_call ∷ device_call ∷ settle ∷ []) later
    flushes law old new count old_is new_is flush alive_later =
        let still = is.is_of.up up in
        let there = law node is.moves world before.book later.book old new count is.sound is.run is.is_of_world idle flush in
        let next = there.next in
        let settled = there.settled in
        let with_it = ap stands new_is ∙ flush.records ∙ ap (λ (l : List ℕ). stands_with l flush.group) (sym old_is) in
        let number : length (taken_in world) + length flush.group ≡ length world.settled + count = omega (arith, ap length (none_taken world idle), flush.counts) in
        let all : after_all node (kept_in node world.began) (take (length (taken_in world) + length flush.group) world.accepted) ≡ book.settled_in node (steps.run_of node next) =
        (λ i. after_all node (kept_in node (sym settled.began i)) (take (number i) world.accepted)) ∙ ap (after_all node (kept_in node next.began)) (sym settled.settled) in
        let with_group = read_with node device world before.book before.journal is.is_of_world still alive begun flush.group later.book.pending flush.takes
        (device.content (disk_of later.journal)) with_it in
        let read_as : AreReadAs node (areas_of device later.journal) (book.settled_in node (steps.run_of node next)) =
        subst (λ (a : Areas). AreReadAs node a (book.settled_in node (steps.run_of node next))) areas_later
        (subst (AreReadAs node (over device (spare_of before.journal) (device.content (disk_of later.journal)))) all with_group) in
        record {
          next = next;
          leads = there.leads;
          is_at = record {
            sound = is.sound;
            moves = is.moves ++ take_to (length world.settled + count) ∷ device_call ∷ device_call ∷ device_call ∷ device_call ∷ settle ∷ [];
            run = run_more node is.moves (take_to (length world.settled + count) ∷ device_call ∷ device_call ∷ device_call ∷ device_call ∷ settle ∷ []) world next is.run there.leads;
            is_of_world = there.is_of;
            is_of = record {
              stands_at = there.is_of.stands;
              up = λ _. record {
                configured = configured_with node device world before.book before.journal is.is_of_world still alive begun flush.group (device.content (disk_of later.journal)) with_it;
                read_as = read_as;
                settled = none_taken next settled.groups;
              };
              left = left_durable node device (steps.run_of node next) later.journal read_as alive_later;
            };
            idle = λ _. settled.groups;
            in_flight = λ down. absurd (true≢false (sym down ∙ ap (λ (b : book.BookView S). b.down) flush.is ∙ up));
            beside = beside_stays world next before.journal later.journal settled.spare kept_spare is.beside;
          };
        }

    pub goes_down : steps.FailIsAStep S → (down : GoesDown node before.book later.book)
        → ((areas : Areas) → MayLeave device later.journal areas → AreReadAs node areas (book.settled_in node run)
        ⊎ AreReadAs node areas (after_all node (kept_in node world.began) (take (length (taken_in world) + length down.group) world.accepted)))
        → (count : ℕ) × LeadsTo node device world (take_to count ∷ []) later
    goes_down law down left =
        let takes = law node world before.book later.book is.is_of_world down in
        let moves = takes.moves in
        let next = moves.next in
        let count = length (taken_in world) + length down.group in
        let leads = leads_one node world (take_to count) next moves.step in
        let same : next ≡ record world { groups = world.groups ++ group_to world count ∷ [] } = moves.step.is in
        let some : 1 ≤ length (group_to world count) = omega (arith, moves.step.fits.some, length-map (group_to world count) record_of) in
        let taken : taken_in next ≡ take count world.accepted = ap taken_in same ∙ taken_more world count is.is_of_world.stands.taken_begins some in
        let began : next.began ≡ world.began = ap (λ (w : World). w.began) same in
        let settled : next.settled ≡ world.settled = ap (λ (w : World). w.settled) same in
        let is_down : later.book.down ≡ true = ap (λ (b : book.BookView S). b.down) down.is in (
          count,
          record {
            next = next;
            leads = leads;
            is_at = record {
              sound = is.sound;
              moves = is.moves ++ take_to count ∷ [];
              run = run_more node is.moves (take_to count ∷ []) world next is.run leads;
              is_of_world = moves.is_of;
              is_of = record {
                stands_at = moves.is_of.stands;
                up = λ off. absurd (true≢false (sym is_down ∙ off));
                left = λ areas may. elim (left areas may) [
                  | inl so ↦ inl (subst (AreReadAs node areas) (λ i. after_all node (kept_in node (sym began i)) (sym settled i)) so)
                  | inr with_it ↦ inr (subst (AreReadAs node areas) (λ i. after_all node (kept_in node (sym began i)) (sym taken i)) with_it)
                ];
              };
              idle = λ off. absurd (true≢false (sym is_down ∙ off));
              in_flight = λ _. a_group (record { before = world; moves = is.moves; run = is.run; idle = idle; count = count; taken = moves.step });
              beside = beside_stays world next before.journal later.journal (ap (λ (w : World). w.spare) same) kept_spare is.beside;
            };
          },
        )

-- ---- a stop

-- a journal on one disk isn't on two
pub not_two : {D : Type 0} (journal : Journal D) → spare_of journal ≡ None → IsSome (spare_of journal) → ⊥
not_two journal none some = let bad = subst IsSome none some in absurd (cc)

ok_is : (one other : State) → ◌≡◌ {A = Result State JournalError} (Ok one) (Ok other) → one ≡ other
ok_is one other same = cc

-- a run that begins on what a stop left in a world, beside the other disk of a journal
record Begins {D : Type 0} (node : Node) (world : World) (history : History) (journal : Journal D) : Type 0 where
  next : World
  step : IsStep node world (restart (areas_in world)) next
  is : next ≡ run_on step.disks history next.given
  beside : IsSome (spare_of journal) → IsBeside next journal

begins_beside : {D : Type 0} (node : Node) (world : World) (moves : List Move) (history : History) (journal : Journal D) (spare : Option (JournalSpare D))
    → spare_of journal ≡ spare → generation_in journal < 2 ^ 64
    → IsNode node → (IsSome (spare_of journal) → AreKeys node × HistoriesBeginOnTwo) → IsRun node moves world → IsFoundAgain node world history → Begins node world history journal
begins_beside node world moves history journal None one small sound keys run again =
    let there = runs_begin_with_what_stands node moves world (areas_in world) history sound run (stops_are_possible node moves world sound run) again.recovered again.stands in
    record {
      next = there.0;
      step = there.1;
      is = there.1.is ∙ (λ i. run_on there.1.disks (there.2 i) (sym there.3 i));
      beside = λ some. absurd (not_two journal one some);
    }
begins_beside node world moves history journal (Some spare) two small sound keys run again =
    let both = keys (subst IsSome (sym two) refl) in
    let on = both.1 node history (side_in journal) (generation_in journal) again.recovered.legal both.0 small in
    let disks = two_on on.0 on.1 (side_in journal) (generation_in journal) in
    record {
      next = run_on disks history world.given;
      step = record {
        left = stops_are_possible node moves world sound run;
        recovered = again.recovered;
        stands_for = again.stands;
        disks = disks;
        opened = on.2;
        is = refl;
      };
      is = refl;
      beside = λ some. record { spare = record { bytes_at_start = on.1; calls = []; side = side_in journal; generation = generation_in journal }; is = refl; side = refl; generation = refl };
    }

-- on two disks were two areas opened
two_areas : {D : Type 0} (before : Areas) (journal : Journal D) → IsOnAsMany before journal → IsSome (spare_of journal) → IsPair before
two_areas (alone bytes) journal one some = absurd (not_two journal one some)
two_areas (pair first second) journal two some = tt

module _ {S D : Type 0} (node : Node) (device : Device D) where
  -- a desk that was opened is at a world that begins with a history of which what it was opened on is told as kept, beside the same other disk
  pub opened_at : (before : Areas) (desk : DeskView S D) → IsNode node → IsOpened node device before desk → (moves : List Move) (world : World) → IsRun node moves world
      → (on : Opened) (history : History) → IsLegal node history → decoded_in node before ≡ Ok (kept_in node history) → world ≡ run_on on history world.given
      → (IsSome (spare_of desk.journal) → IsBeside world desk.journal) → IsAt node device world desk
  opened_at before desk sound opened moves world run on history legal is same beside =
      let first : opened.state ≡ kept_in node history = ok_is opened.state (kept_in node history) (sym opened.decoded_first ∙ is) in
      let runs : book.run_on opened.state ≡ steps.run_of node world = ap book.run_on first ∙ sym (ap (steps.run_of node) same) in
      let of : IsOf node device (steps.run_of node world) desk = subst (λ (r : book.Run). IsOf node device r desk) runs opened.is_of in
      record {
        sound = sound;
        moves = moves;
        run = run;
        is_of_world = record {
          began = subst (IsLegal node) (sym (ap (λ (w : World). w.began) same)) legal;
          stands = of.stands_at;
          rewriting = subst (steps.IsRewriting world) (sym opened.rewriting) (ap (λ (w : World). w.rewriting) same);
          waits = subst (All (Contains world.waiting)) (sym opened.waits) (All-nil (Contains world.waiting));
        };
        is_of = of;
        idle = λ _. ap (λ (w : World). w.groups) same;
        in_flight = λ down. absurd (true≢false (sym down ∙ opened.up));
        beside = beside;
      }

  -- which is legal, being a run's
  pub opened_at_begun : (before : Areas) (desk : DeskView S D) → IsNode node → IsOpened node device before desk → (moves : List Move) (world : World) → IsRun node moves world
      → (on : Opened) (history : History) → decoded_in node before ≡ Ok (kept_in node history) → world ≡ run_on on history world.given
      → (IsSome (spare_of desk.journal) → IsBeside world desk.journal) → IsAt node device world desk
  opened_at_begun before desk sound opened moves world run on history is same beside =
      let all : world.began ++ world.accepted ≡ history = ap (λ (w : World). w.began ++ w.accepted) same ∙ append-nil history in
      opened_at before desk sound opened moves world run on history (subst (IsLegal node) all (nothing_taken_back node moves world sound run).in_order.legal) is same beside

  restarts : (before : Areas) (desk : DeskView S D) → IsNode node → (IsPair before → AreKeys node × HistoriesBeginOnTwo) → IsOpened node device before desk
      → (moves : List Move) (world : World) → IsRun node moves world
      → (history : History) → decoded_in node before ≡ Ok (kept_in node history) → IsFoundAgain node world history → LeadsTo node device world (restart (areas_in world) ∷ []) desk
  restarts before desk sound keys opened moves world run history is again =
      let there = begins_beside node world moves history desk.journal (spare_of desk.journal) refl opened.generation sound (λ some. keys (two_areas before desk.journal opened.disks some)) run again in
      let leads = leads_one node world (restart (areas_in world)) there.next there.step in
      record {
        next = there.next;
        leads = leads;
        is_at = opened_at before desk sound opened (moves ++ restart (areas_in world) ∷ []) there.next (run_more node moves (restart (areas_in world) ∷ []) world there.next run leads)
            there.step.disks history again.recovered.legal is there.is there.beside;
      }

  -- the moves of a stop lead to a desk that was opened on what it left
  pub stops : (world : World) (before : DeskView S D) → IsAt node device world before → (areas : Areas) → (IsPair areas → AreKeys node × HistoriesBeginOnTwo) → MayLeave device before.journal areas
      → (desk : DeskView S D) → IsOpened node device areas desk → (moves : List Move) × IsStop world moves × LeadsTo node device world moves desk
  stops world before is areas keys may desk opened =
      let after = stop_found node device world before is areas may in
      let found = areas_in after.next in
      let moves = after.calls ++ restart found ∷ [] in
      let run = run_more node is.moves after.calls world after.next is.run after.leads in
      let decoded_as = decoded_of node (kept_in node after.history) areas is.sound (λ two. (keys two).0) after.reads in
      let to = restarts areas desk is.sound keys opened (is.moves ++ after.calls) after.next run after.history decoded_as after.found in
      let by = λ (calls : List Move) (same : after.calls ≡ calls). ap (λ (l : List Move). l ++ restart found ∷ []) same in (
        moves,
        (found, elim after.are [ inl none ↦ inl (by [] none) | inr some ↦ inr (elim some [ inl four ↦ inl (by (device_calls 4) four) | inr eight ↦ inr (by (spare_calls 8) eight) ]) ]),
        record {
          next = to.next;
          leads = leads_join node world after.calls (restart found ∷ []) after.next to.next after.leads to.leads;
          is_at = to.is_at;
        },
      )

  -- and of one disk
  pub stops_alone : (world : World) (before : DeskView S D) → IsAt node device world before → spare_of before.journal ≡ None → (bytes : List ℕ) → device.outcome (disk_of before.journal) bytes
      → (desk : DeskView S D) → IsOpened node device (alone bytes) desk → (moves : List Move) × IsStop world moves × LeadsTo node device world moves desk
  stops_alone world before is one bytes may desk opened = stops world before is (alone bytes) (λ two. absurd two) (of_one bytes one may refl) desk opened

reported_nothing : StartsFresh → (node : Node) → decoded node [] ≡ Ok (kept_in node [])
reported_nothing starts node = decoded_records node [] [] (stands_short [] (omega arith)) ∙ journal_nil node ∙ ap Ok (sym (starts node))

-- a desk that was opened on an empty disk is at the world that begins there
pub begins : {S D : Type 0} → StartsFresh → (node : Node) (device : Device D) (desk : DeskView S D) → IsNode node → AreKeys node → IsOpened node device (alone []) desk
    → IsAt node device (run_on (alone_on (first_bytes node)) [] []) desk
begins {S} {D} starts node device desk sound keys opened =
    opened_at node device (alone []) desk sound opened [] (run_on (alone_on (first_bytes node)) [] []) (runs_begin node sound keys) (alone_on (first_bytes node)) []
    (record { sound = sound; taken = All-nil (IsTaken node); new = refl }) (reported_nothing starts node) refl (λ some. absurd (not_two desk.journal opened.disks some))
