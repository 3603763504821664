-- A desk in its world after a checkpoint.
use Rattle.std.proofs.Common.{◌≡◌, ◌≢◌, ◌⊎◌, ℕ, ◌+◌, ◌^◌, ◌≤◌, ◌<◌, true, false, inl, inr, List, [], ◌∷◌, ◌++◌, length, Option, Some, None, Result, Ok, refl, sym, ap, ◌∙◌, subst, arith}
use Rattle.std.specs.Prelude.{IfSome, IsSome}
use Rattle.std.specs.Option.{option_map_or}
use Rattle.std.proofs.lemmas.Bool.{true≢false}
use Rattle.book.specs.Book as book
use Rattle.book.specs.Book.{IsCheckpoint, IsCheckpointOfAll}
use Rattle.book.specs.Checkpoints.{CanBeWritten, Checkpoints, GoesDownRewriting, StandsAsOrForAll}
use Rattle.book.specs.Steps as steps
use Rattle.book.specs.Steps.{CanWrite}
use Rattle.diskmodel.specs.Disk.{Device}
use Rattle.journal.specs.Areas.{Areas, alone, pair_of, stands_at, stands_in, reports, moved, base_of, other_side, head_record}
use Rattle.journal.specs.Configuration.{shaped_version}
use Rattle.journal.specs.Format.{kept_at, all_kept, sized_body, stands}
use Rattle.journal.specs.Journal.{disk_of, spare_of, IsAlive, IsAlivePair}
use Rattle.journal.specs.Pairs.{HaveKeptPlaces, areas_of, areas_with, generation_in, side_in, spare_disk, stands_as}
use Rattle.journal.specs.Snapshot.{bytes_for, packed, CanPack}
use Rattle.journal.specs.declared.journal.Journal.{Journal}
use Rattle.journal.specs.declared.layout.TheConstants.{OPEN}
use Rattle.journal.specs.declared.record.Record.{Record}
use Rattle.journal.specs.declared.side.Side.{Side}
use Rattle.journal.specs.declared.side.Side.TheVariants.{First, Second}
use Rattle.journal.specs.declared.spare.Spare.{Spare}
use Rattle.journal.specs.declared.version.Version.TheVariants as versions
use Rattle.journal.proofs.Reporting.{at_rest_older, both_older}
use Rattle.diskmodel.specs.Outcomes.{AreBytes}
use Rattle.spec_checkpoint.specs.Meaning as checkpoint
use Rattle.spec_checkpoint.specs.Records.{state_records}
use Rattle.spec_machine.specs.After.{after_all}
use Rattle.spec_machine.specs.Sound.{IsSound}
use Rattle.spec_machine.proofs.AfterAll.{order_grows_after, after_is_kept, legal_again}
use Rattle.spec_model.specs.Giving.{kept as kept_in}
use Rattle.spec_model.specs.Nodes.{Node, IsNode}
use Rattle.spec_model.specs.States.{State}
use Rattle.spec_world.specs.Runs.{AreKeys, SnapshotsAreCheckpoints, spare_calls}
use Rattle.spec_world.specs.Steps.{settle, take_all, replaced}
use Rattle.spec_world.specs.World.{World, IsCheckpointOf, IsPair, own_configuration, taken_in}
use Rattle.spec_world.proofs.Beginning.{shaped}
use Rattle.spec_world.proofs.Recovering.{holds_same}
use Rattle.spec_world.proofs.Scripts.{run_more}
use Rattle.spec_world.proofs.Standing.{pair_is}
use Rattle.wire.specs.Lists.{Begins}
use Rattle.desk.specs.AtWorld.{a_checkpoint, IsAt, LeadsTo, CheckpointsAt}
use Rattle.desk.specs.Desk.{DeskView, IsLeft, taken_in as taken_state}
use Rattle.opening.specs.Renewing.{HasBegun}
use Rattle.desk.specs.Disks.{AreReadAs, MayLeave, of_one, of_two}
use Rattle.desk.proofs.Found.{none_taken}
use Rattle.desk.proofs.Reading.{no_spare, newest_same, as_held, as_read, open_gate, has_begun}
use Rattle.desk.proofs.Rewritten.{holds_rewritten}
use Rattle.desk.proofs.Runs.{leads_one}
use Rattle.desk.proofs.Standing.{left_durable}

-- ---- a journal on two disks

-- its areas are those of its sides
areas_two : {D : Type 0} (device : Device D) (disk : D) (left : List ℕ) (spare : Option (Spare D)) → IsSome spare
    → option_map_or (λ s. pair_of s.side (device.content disk) left) spare (alone (device.content disk)) ≡ pair_of (option_map_or (λ s. s.side) spare First) (device.content disk) left
areas_two {D} device disk left None some = absurd (no_spare (Spare D) some)
areas_two device disk left (Some spare) some = refl

pub areas_are : {D : Type 0} (device : Device D) (journal : Journal D) (left : List ℕ) → IsSome (spare_of journal)
    → areas_with device journal left ≡ pair_of (side_in journal) (device.content (disk_of journal)) left
areas_are device journal left some = areas_two device (disk_of journal) left (spare_of journal) some

pub is_pair : {D : Type 0} (device : Device D) (journal : Journal D) (left : List ℕ) → IsSome (spare_of journal) → IsPair (areas_with device journal left)
is_pair device journal left some =
    subst IsPair (sym (areas_are device journal left some)) (pair_is (side_in journal) (device.content (disk_of journal)) left)

-- what a stop may leave of it: of each disk an outcome
record IsLeftOfTwo {D : Type 0} (device : Device D) (journal : Journal D) (areas : Areas) : Type 0 where
  live : List ℕ
  other : List ℕ
  may : device.outcome (disk_of journal) live
  also : device.outcome (spare_disk journal) other
  are : areas ≡ pair_of (side_in journal) live other

left_of_two : {D : Type 0} (device : Device D) (journal : Journal D) (areas : Areas) → IsSome (spare_of journal) → MayLeave device journal areas → IsLeftOfTwo device journal areas
left_of_two {D} device journal areas some (of_one left none may are) = absurd (no_spare (Spare D) (subst IsSome none some))
left_of_two {D} device journal areas some (of_two spare live other is may also are) = record {
  live = live;
  other = other;
  may = may;
  also = subst (λ (s : Option (Spare D)). device.outcome (option_map_or (λ (o : Spare D). o.disk) s (disk_of journal)) other) (sym is) also;
  are = are ∙ ap (λ (s : Option (Spare D)). pair_of (option_map_or (λ (o : Spare D). o.side) s First) live other) (sym is);
}

-- other bytes of the area that isn't read, with which both stand for the same, are read as the same
before_as : {D : Type 0} (node : Node) (device : Device D) (journal : Journal D) → IsSome (spare_of journal) → (left : List ℕ) (state : State)
    → stands_in (areas_with device journal left) ≡ stands_in (areas_of device journal) → AreReadAs node (areas_of device journal) state → AreReadAs node (areas_with device journal left) state
before_as node device journal two left state same is =
    let areas = areas_of device journal in
    let other = areas_with device journal left in
    let is_two = is_pair device journal left two in
    let held = as_held node state areas (is_pair device journal (device.content (spare_disk journal)) two) is in
    as_read node state other is_two (record { holds = holds_same node areas other state held.holds (λ _. is_two) same; newest = newest_same areas other same held.newest })

-- the first record of a checkpoint is the configuration, in the second version
first_record : (side : Side) (generation : ℕ) (snapshot : List (List ℕ)) (node : Node) (state : State) → IsCheckpoint node state snapshot
    → (records : List Record) × (stands_as side generation snapshot ≡ Ok (kept_at (base_of side) (own_configuration versions.Second node) ∷ records))
first_record side generation snapshot node state is =
    let base = base_of side in
    let rows = state_records is.kept in
    let first = own_configuration versions.Second node in (
      kept_at base (head_record generation) ∷ all_kept (base + 1 + length (sized_body (first ∷ head_record generation ∷ []))) (packed rows),
      ap (stands_as side generation) is.are,
    )

-- ---- the state of all that was accepted

module _ {S : Type 0} (node : Node) (run : book.Run) (one : book.BookView S) (stands_at : book.Stands node run one) where
  all_sound : IsSound node (book.state_in node run)
  all_sound = (order_grows_after node run.base run.accepted stands_at.legal).sound

  -- areas that were rewritten to a checkpoint of it are read as it
  pub read_rewritten : (areas : Areas) (side : Side) (generation : ℕ) (snapshot : List (List ℕ)) → IsNode node → AreKeys node → IsPair areas → IsCheckpointOfAll node one snapshot
      → stands_in areas ≡ stands_as side generation snapshot → AreReadAs node areas (book.state_in node run)
  read_rewritten areas side generation snapshot sound keys two is reads =
      let checkpoint = is run stands_at in
      let first = first_record side generation snapshot node (book.state_in node run) checkpoint in
      as_read node (book.state_in node run) areas two (record {
        holds = holds_rewritten node areas side generation (book.state_in node run) snapshot sound all_sound two checkpoint reads;
        newest = λ one rest stands_for.
            let same : kept_at (base_of side) (own_configuration versions.Second node) ≡ one = first_is _ one first.0 rest (sym first.1 ∙ sym reads ∙ stands_for) in
            subst (λ (r : Record). shaped_version r.bytes ≡ Some versions.Second) same (shaped node sound keys);
      })
    where
      first_is : (a b : Record) (p q : List Record) → ◌≡◌ {A = Result (List Record) ℕ} (Ok (a ∷ p)) (Ok (b ∷ q)) → a ≡ b
      first_is a b p q same = cc

module _ {S : Type 0} (node : Node) (world : World) (one : book.BookView S) (of : steps.IsOf node world one) where
  abbrev all : State
  all = book.state_in node (steps.run_of node world)

  all_is_kept : all ≡ kept_in node (world.began ++ world.accepted)
  all_is_kept = after_is_kept node world.began world.accepted (legal_again node world.began world.accepted of.began of.stands.legal)

  -- and what a journal writes of a checkpoint of it is one in the world
  written_in_world : SnapshotsAreCheckpoints → (generation : ℕ) (snapshot : List (List ℕ)) → IsNode node → 1 ≤ generation → IsCheckpointOfAll node one snapshot
      → CanWrite node generation snapshot → IsCheckpointOf node generation (kept_in node (world.began ++ world.accepted)) (bytes_for generation snapshot)
  written_in_world law generation snapshot sound positive checkpoints can =
      let is : IsCheckpoint node all snapshot = checkpoints (steps.run_of node world) of.stands in
      let of_records : IsCheckpointOf node generation (checkpoint.state_in node is.kept) (bytes_for generation snapshot) =
      subst (λ (l : List (List ℕ)). IsCheckpointOf node generation (checkpoint.state_in node is.kept) (bytes_for generation l)) (sym is.are)
      (law node generation is.kept sound can.keys positive can.generation_fits is.written (subst CanPack is.are can.packs)
      (subst (λ (l : List (List ℕ)). AreBytes (bytes_for generation l)) is.are can.are_bytes)) in
      subst (λ (s : State). IsCheckpointOf node generation s (bytes_for generation snapshot)) (is.is ∙ all_is_kept) of_records

-- a prefix that is as long is all
begins_all : {X : Type 0} (one other : List X) → Begins one other → length one ≡ length other → one ≡ other
begins_all [] [] begins long = refl
begins_all [] (x ∷ other) begins long = absurd (omega (arith, long))
begins_all {X} (x ∷ one) [] begins long = absurd (omega (arith, long))
begins_all {X} (x ∷ one) (y ∷ other) begins long =
    let first : y ≡ x = head_is y x other (one ++ begins.rest) begins.parts in
    let others : other ≡ one ++ begins.rest = tail_is y x other (one ++ begins.rest) begins.parts in
    (λ i. sym first i ∷ begins_all one other (record { rest = begins.rest; parts = others }) (omega (arith, long)) i)
  where
    head_is : (a b : X) (p q : List X) → a ∷ p ≡ b ∷ q → a ≡ b
    head_is a b p q same = cc

    tail_is : (a b : X) (p q : List X) → a ∷ p ≡ b ∷ q → p ≡ q
    tail_is a b p q same = cc

-- What a stop leaves of a journal whose rewriting to a checkpoint of all that was accepted failed is read as what was settled, or as all of
-- it.
pub left_either : {S D : Type 0} (node : Node) (device : Device D) (run : book.Run) (before : book.BookView S) (old new : Journal D) → book.Stands node run before → IsNode node → AreKeys node
    → IsSome (spare_of old) → IsAlive device old → AreReadAs node (areas_of device old) (book.settled_in node run) → disk_of new ≡ disk_of old → HaveKeptPlaces old new
    → ((other : List ℕ) → device.outcome (spare_disk new) other → StandsAsOrForAll node device before old other)
    → (areas : Areas) → MayLeave device new areas → AreReadAs node areas (book.settled_in node run) ⊎ AreReadAs node areas (book.state_in node run)
left_either {D = D} node device run before old new stands_at sound keys two alive read_as untouched places left areas may =
    let one = left_of_two device new areas places.pair may in
    let live : one.live ≡ device.content (disk_of old) = alive.durable one.live (subst (λ (d : D). device.outcome d one.live) untouched one.may) in
    let are : areas_with device old one.other ≡ areas =
    areas_are device old one.other two ∙ (λ i. pair_of (sym places.side i) (sym live i) one.other) ∙ sym one.are in
    elim (left one.other one.also) [
      | inl so ↦ inl (subst (λ (a : Areas). AreReadAs node a (book.settled_in node run)) are
          (before_as node device old two one.other (book.settled_in node run) so read_as))
      | inr with_it ↦ inr (subst (λ (a : Areas). AreReadAs node a (book.state_in node run)) are
          (read_rewritten node run before stands_at (areas_with device old one.other) (other_side (side_in old)) (generation_in old + 1) with_it.0 sound keys
          (is_pair device old one.other two) with_it.1 with_it.2))
    ]

-- ---- after a checkpoint

-- an area that was rewritten is configured
none_at : (side : Side) (file : List ℕ) → stands file ≡ Ok [] → stands_at side file ≡ Ok []
none_at First file none = none
none_at Second file none = ap (moved (base_of Second)) none

configured_by : {D : Type 0} (device : Device D) (disk : D) (spare : Option (Spare D)) → IsSome spare → (file : List ℕ) → file ≡ device.content disk
    → IfSome spare (IsAlivePair device disk)
    → reports file ≡ Some (Some (option_map_or (λ s. s.generation) spare 0))
    → (one : Record) (records : List Record)
    → stands_in (option_map_or (λ s. pair_of s.side (device.content disk) (device.content (option_map_or (λ s. s.disk) spare disk))) spare (alone (device.content disk))) ≡ Ok (one ∷ records)
    → stands file ≢ Ok []
configured_by {D} device disk None some file is both reported one records reads none = absurd (no_spare (Spare D) some)
configured_by device disk (Some spare) some file is both reported one records reads none =
    let other = device.content spare.disk in
    let here : stands_in (pair_of spare.side file other) ≡ Ok [] =
    both_older spare.side spare.generation file other reported (at_rest_older spare.generation other both.at_rest) ∙ none_at spare.side file none in
    empty_not (sym (ap (λ (l : List ℕ). stands_in (pair_of spare.side l other)) is ∙ reads) ∙ here)
  where
    empty_not : ◌≡◌ {A = Result (List Record) ℕ} (Ok (one ∷ records)) (Ok []) → ⊥
    empty_not same = cc

-- what a node with keys of 32 bytes can write
can_write : (node : Node) (generation : ℕ) (snapshot : List (List ℕ)) → AreKeys node → generation < 2 ^ 64 → CanBeWritten snapshot → CanWrite node generation snapshot
can_write node generation snapshot keys fits writable = record { keys = keys; generation_fits = fits; packs = writable.packs; are_bytes = writable.are_bytes generation }

module _ {S D : Type 0} (node : Node) (device : Device D) (world : World) (before : DeskView S D) (is : IsAt node device world before) (up : before.book.down ≡ false)
    (two : IsSome (spare_of before.journal)) (later : DeskView S D) where
  abbrev of : steps.IsOf node world before.book
  of = is.is_of_world

  -- ---- that is settled

  pub checkpoints : steps.CheckpointIsSteps S → (made : Checkpoints node device before.book later.book before.journal later.journal) → IsAlive device later.journal
      → AreKeys node → generation_in before.journal + 1 < 2 ^ 64 → CheckpointsAt node device world later
  checkpoints law made alive keys fits =
      let beside = is.beside two in
      let snapshot = made.snapshot in
      let bytes = bytes_for (beside.spare.generation + 1) snapshot in
      let there = law node is.moves world before.book later.book beside.spare snapshot is.sound is.run of (is.idle up) beside.is
      (can_write node (beside.spare.generation + 1) snapshot keys (omega (arith, fits, beside.generation)) made.settles.writable) made.settles in
      let next = there.next in
      let settled = there.settled in
      let moves = take_all bytes ∷ (spare_calls 8 ++ settle ∷ []) in
      let side = other_side (side_in before.journal) in
      let generation = generation_in before.journal + 1 in
      let places = made.swapped in
      let checkpoint = made.settles.checkpoint in
      let state : all node world before.book of ≡ book.settled_in node (steps.run_of node next) =
      (λ i. after_all node (kept_in node (sym settled.began i)) (sym settled.settled i)) in
      let read_as : AreReadAs node (areas_of device later.journal) (book.settled_in node (steps.run_of node next)) =
      subst (AreReadAs node (areas_of device later.journal)) state
      (read_rewritten node (steps.run_of node world) before.book of.stands (areas_of device later.journal) side generation snapshot is.sound keys
      (is_pair device later.journal (device.content (spare_disk later.journal)) places.pair) checkpoint made.records) in
      let begun : HasBegun device later.journal =
      has_begun device later.journal alive (λ shut. open_gate (bytes_for generation snapshot) (sym made.content ∙ shut)) in
      let first = first_record side generation snapshot node (all node world before.book of) (checkpoint (steps.run_of node world) of.stands) in (
        bytes,
        made.content ∙ ap (λ (n : ℕ). OPEN ∷ bytes_for (n + 1) snapshot) (sym beside.generation),
        record {
          next = next;
          leads = there.leads;
          is_at = record {
            sound = is.sound;
            moves = is.moves ++ moves;
            run = run_more node is.moves moves world next is.run there.leads;
            is_of_world = there.is_of;
            is_of = record {
              stands_at = there.is_of.stands;
              up = λ _. record {
                configured = configured_by device (disk_of later.journal) (spare_of later.journal) places.pair (device.content (disk_of later.journal)) refl alive.pair (begun places.pair)
                    _ first.0 (made.records ∙ first.1);
                read_as = read_as;
                settled = none_taken next settled.groups;
              };
              left = left_durable node device (steps.run_of node next) later.journal read_as alive;
            };
            idle = λ _. settled.groups;
            in_flight = λ down. absurd (true≢false (sym down ∙ ap (λ (b : book.BookView S). b.down) made.settles.is ∙ up));
            beside = λ _. record {
              spare = replaced world beside.spare;
              is = settled.spare;
              side = ap other_side beside.side ∙ sym places.side;
              generation = ap (λ (n : ℕ). n + 1) beside.generation ∙ sym places.generation;
            };
          };
        },
      )

  -- ---- that fails

  pub goes_down : steps.TakeAllIsAStep S → SnapshotsAreCheckpoints → (down : GoesDownRewriting node before.book later.book) → IsAlive device before.journal
      → disk_of later.journal ≡ disk_of before.journal → HaveKeptPlaces before.journal later.journal
      → ((other : List ℕ) → device.outcome (spare_disk later.journal) other → StandsAsOrForAll node device before.book before.journal other)
      → AreKeys node → generation_in before.journal + 1 < 2 ^ 64 → (bytes : List ℕ) × LeadsTo node device world (take_all bytes ∷ []) later
  goes_down law written down alive untouched places left keys fits =
      let beside = is.beside two in
      let snapshot = down.snapshot in
      let generation = beside.spare.generation + 1 in
      let bytes = bytes_for generation snapshot in
      let checkpoint = written_in_world node world before.book of written generation snapshot is.sound (omega arith) down.checkpoint
      (can_write node generation snapshot keys (omega (arith, fits, beside.generation)) down.writable) in
      let is_down : later.book.down ≡ true = ap (λ (b : book.BookView S). b.down) down.is in
      let moves = law node is.moves world before.book later.book beside.spare bytes is.sound is.run of (is.idle up) beside.is checkpoint
      (down.is ∙ (λ i. record before.book { pending = []; taken = before.book.accepted; rewriting = Some before.book.accepted; down = sym is_down i })) in
      let next = moves.next in
      let leads = leads_one node world (take_all bytes) next moves.step in
      let same = moves.step.is in
      let began : world.began ≡ next.began = sym (ap (λ (w : World). w.began) same) in
      let settled : book.settled_in node (steps.run_of node world) ≡ book.settled_in node (steps.run_of node next) =
      (λ i. after_all node (kept_in node (began i)) (sym (ap (λ (w : World). w.settled) same) i)) in
      let accepted : next.accepted ≡ world.accepted = ap (λ (w : World). w.accepted) same in
      let long : length (taken_in next) ≡ length next.accepted =
      sym moves.is_of.stands.taken ∙ ap (λ (b : book.BookView S). b.taken) down.is ∙ of.stands.accepted ∙ ap length (sym accepted) in
      let taken : all node world before.book of ≡ taken_state node (steps.run_of node next) =
      (λ i. after_all node (kept_in node (began i)) (sym (begins_all (taken_in next) next.accepted moves.is_of.stands.taken_begins long ∙ accepted) i)) in
      let read_as : AreReadAs node (areas_of device before.journal) (book.settled_in node (steps.run_of node world)) = (is.is_of.up up).read_as in
      let leaves : IsLeft node device (steps.run_of node next) later.journal =
      λ areas may.
      elim (left_either node device (steps.run_of node world) before.book before.journal later.journal of.stands is.sound keys two alive read_as untouched places left areas may) [
        | inl so ↦ inl (subst (AreReadAs node areas) settled so)
        | inr so ↦ inr (subst (AreReadAs node areas) taken so)
      ] in (
        bytes,
        record {
          next = next;
          leads = leads;
          is_at = record {
            sound = is.sound;
            moves = is.moves ++ take_all bytes ∷ [];
            run = run_more node is.moves (take_all bytes ∷ []) world next is.run leads;
            is_of_world = moves.is_of;
            is_of = record { stands_at = moves.is_of.stands; up = λ off. absurd (true≢false (sym is_down ∙ off)); left = leaves };
            idle = λ off. absurd (true≢false (sym is_down ∙ off));
            in_flight = λ _. a_checkpoint places.pair (record { before = world; moves = is.moves; run = is.run; bytes = bytes; taken = moves.step });
            beside = λ _. record {
              spare = beside.spare;
              is = ap (λ (w : World). w.spare) same ∙ beside.is;
              side = beside.side ∙ sym places.side;
              generation = beside.generation ∙ sym places.generation;
            };
          };
        },
      )
