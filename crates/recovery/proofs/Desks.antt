-- A book and a journal after each command.
use Rattle.std.proofs.Common.{◌≡◌, ◌≢◌, ℕ, suc, ◌+◌, ◌<◌, ◌≤◌, true, false, ◌⊎◌, inl, inr, List, [], ◌∷◌, ◌++◌, length, take, drop, map, Result, Ok}
use Rattle.std.proofs.Common.{None, Err, refl, sym, ap, ◌∙◌, subst, arith, append-nil}
use Rattle.std.specs.Prelude.{Option, Some, IsErrOf, IfOk, IfErr, OnErr, IsSome}
use Rattle.std.specs.Option.{option_map_or}
use Rattle.std.proofs.lemmas.Bool.{cases_Bool, true≢false}
use Rattle.std.proofs.Math.Nat.{lt_of_not-le}
use Rattle.std.proofs.lemmas.List.{take-take, take_at, take-append-drop, take-map}
use Rattle.journal.specs.Format.{group_bytes, stands}
use Rattle.journal.specs.Journal.{disk_of, spare_of, IsAlive, stands_with}
use Rattle.journal.specs.Areas.{Areas}
use Rattle.journal.specs.Pairs.{areas_in, areas_of, two, store_of}
use Rattle.journal.specs.Spares.{by_area}
use Rattle.journal.specs.declared.journal.Journal.{Journal}
use Rattle.journal.specs.declared.side.Side.{Side}
use Rattle.journal.specs.declared.side.Side.TheVariants.{First, Second}
use Rattle.journal.specs.declared.spare.Spare.{Spare}
use Rattle.journal.specs.declared.store.Store.{Store}
use Rattle.journal.specs.declared.store.Store.TheVariants.{One}
use Rattle.journal.specs.declared.layout.TheConstants.{MAX_JOURNAL_BYTES}
use Rattle.spec_machine.specs.After.{IsLegalAfter}
use Rattle.spec_machine.specs.Machine.{answered}
use Rattle.spec_machine.proofs.AfterAll.{after_append, after_joins}
use Rattle.spec_model.specs.Histories.{History}
use Rattle.wire.specs.Lists.{Begins}
use Rattle.spec_model.specs.Nodes.{Node}
use Rattle.spec_model.specs.States.{State}
use Rattle.spec_model.specs.Words.{Event}
use Rattle.header.specs.declared.admission.Admission.{Admission}
use Rattle.header.specs.declared.admission.Admission.TheVariants.{New, Known, Refused}
use Rattle.header.specs.declared.refusal.Refusal.{Refusal}
use Rattle.header.specs.declared.refusal.Refusal.TheVariants.{Memory, Down, StoreFull}
use Rattle.spec_records.specs.Records.{record_of}
use Rattle.spec_world.specs.Steps.{ticketed}
use Rattle.spec_world.specs.Text.{Command, take_in, flush, Desk, state_in, settled_in, with_answer, group_of, flushed, after}
use Rattle.book.specs.declared.book.TheConstants.{MAX_ACCEPTED}
use Rattle.book.specs.declared.book.Receipt.{Receipt}
use Rattle.book.specs.InFlight.{Flushes, FindsNoRoom, IsWithOrWithout}
use Rattle.book.specs.Pending.{IsLongestBeginning}
use Rattle.book.specs.Book.{BookView, Run, Stands, with_taken, with_settled, TakesNew, TakesKnown, MayRefuse}
use Rattle.recovery.specs.Script.{run_of, IsOf, IsAreaOf, for_group, MayEnd, Breaks}
use Rattle.opening.specs.Decoded.{decoded_in}
use Rattle.recovery.specs.declared.driving.DriveError.{DriveError}
use Rattle.recovery.specs.declared.driving.DriveError.TheVariants as ends
use Rattle.desk.proofs.Groups.{group_is, group_none}
use Rattle.desk.specs.Desk as desks
use Rattle.desk.specs.Disks.{AreReadAs, MayLeave, Leaves}
use Rattle.desk.proofs.Standing as standing
use Rattle.desk.proofs.Reading.{over, areas_over, same_spare, IsDurableBeside, durable_beside, read_beside, left_beside, decoded_of, more_reports, read_same, read_after, still_configured}
use Rattle.desk.proofs.Standing.{long_enough}
use Rattle.desk.proofs.Stores.{may_leave, store_areas, durable_store}
use Rattle.diskmodel.specs.Disk.{Device}

after_take_in : (node : Node) (desk : Desk) (event : Event) → after node desk (take_in event) ≡ with_answer desk event (answered node (state_in node desk) event)
unfolding after
after_take_in node desk event = refl

after_flush : (node : Node) (desk : Desk) → after node desk flush ≡ flushed desk
unfolding after
after_flush node desk = refl

module _ {S D : Type 0} (node : Node) (device : Device D) (desk : Desk) (before later : BookView S) (journal : Journal D) (is : IsOf node device desk before journal) where
  abbrev Later : Desk → Type 0
  Later next = IsOf node device next later journal

  -- ---- events

  answered_as : (event : Event) (answer : Admission) → answered node (state_in node desk) event ≡ answer → Later (with_answer desk event answer) → Later (after node desk (take_in event))
  answered_as event answer same at = subst Later (sym (after_take_in node desk event ∙ ap (with_answer desk event) same)) at

  -- after a new event
  pub with_new_event : (event : Event) → TakesNew node before later event → Later (after node desk (take_in event))
  with_new_event event takes =
      answered_as event (New takes.outputs) (takes.answer (run_of desk) is.stands_at) (record {
        stands_at = takes.stands (run_of desk) is.stands_at;
        waits = takes.queue ∙ (λ i. is.waits i ++ ticketed (is.stands_at.accepted i + 1) takes.outputs);
        up = takes.down ∙ is.up;
        alive = is.alive;
        begun = is.begun;
        keys = is.keys;
        configured = is.configured;
        read_as = is.read_as;
      })

  -- after a known one
  pub with_known_event : (event : Event) → TakesKnown node before later event → Later (after node desk (take_in event))
  with_known_event event takes =
      answered_as event (Known takes.outputs) (takes.answer (run_of desk) is.stands_at) (record {
        stands_at = takes.stands (run_of desk) is.stands_at;
        waits = ap (λ (b : BookView S). b.queue) takes.is ∙ (λ i. is.waits i ++ ticketed (is.stands_at.accepted i) takes.outputs);
        up = ap (λ (b : BookView S). b.down) takes.is ∙ is.up;
        alive = is.alive;
        begun = is.begun;
        keys = is.keys;
        configured = is.configured;
        read_as = is.read_as;
      })

  -- why it is refused, where neither memory nor room is wanting
  refused_as : (event : Event) (refusal : Refusal) → refusal ≢ Memory → before.accepted < MAX_ACCEPTED → MayRefuse node (run_of desk) before event refusal
      → answered node (state_in node desk) event ≡ Refused refusal
  refused_as event Memory other room may = absurd (other refl)
  refused_as event Down other room may = absurd (true≢false (sym may ∙ is.up))
  refused_as event StoreFull other room (inl refused) = refused
  refused_as event StoreFull other room (inr full) = absurd (omega (arith, full.1, room))
  refused_as event refusal other room may = may

  -- after one that is refused
  pub with_refused_event : (event : Event) (refusal : Refusal) → refusal ≢ Memory → before.accepted < MAX_ACCEPTED → MayRefuse node (run_of desk) before event refusal → later ≡ before
      → Later (after node desk (take_in event))
  with_refused_event event refusal other room may same =
      answered_as event (Refused refusal) (refused_as event refusal other room may) (subst (λ (b : BookView S). IsOf node device desk b journal) (sym same) is)

-- ---- a flush

-- what is settled and more of what was accepted
settled_more : {X : Type 0} (settled accepted : List X) (count : ℕ) → Begins settled accepted → take (length settled + count) accepted ≡ settled ++ take count (drop (length settled) accepted)
settled_more {X} [] accepted count begins = let same : 0 + count ≡ count = omega arith in ap (λ (n : ℕ). take n accepted) same
settled_more {X} (x ∷ settled) [] count begins = absurd (omega (arith, ap length begins.parts))
settled_more {X} (x ∷ settled) (y ∷ accepted) count begins =
    let first : y ≡ x = head_is y x accepted (settled ++ begins.rest) begins.parts in
    let others : accepted ≡ settled ++ begins.rest = ap (λ (l : List X). drop 1 l) begins.parts in
    let more : length (x ∷ settled) + count ≡ suc (length settled + count) = omega arith in
    ap (λ (n : ℕ). take n (y ∷ accepted)) more ∙ (λ i. first i ∷ settled_more settled accepted count (record { rest = begins.rest; parts = others }) i)
  where
    head_is : (a b : X) (p q : List X) → a ∷ p ≡ b ∷ q → a ≡ b
    head_is a b p q same = cc

module _ {S D : Type 0} (node : Node) (device : Device D) (desk : Desk) (before : BookView S) (old : Journal D) (is : IsOf node device desk before old) where
  abbrev file : List ℕ
  file = device.content (disk_of old)

  abbrev pending : History
  pending = drop (length desk.settled) desk.accepted

  read_now : AreReadAs node (over device (spare_of old) file) (settled_in node desk)
  read_now = subst (λ (a : Areas). AreReadAs node a (settled_in node desk)) (areas_over device old) is.read_as

  abbrev events : History
  events = group_of pending

  -- the records that the book took are those of the group
  module _ (taken : BookView S) (group : List (List ℕ)) (longest : IsLongestBeginning before.pending group taken.pending) where
    longest_pending : IsLongestBeginning (map record_of pending) group taken.pending
    longest_pending = subst (λ (l : List (List ℕ)). IsLongestBeginning l group taken.pending) is.stands_at.pending longest

    events_are : events ≡ take (length group) pending
    events_are = group_is pending group taken.pending longest_pending

    pub group_are : group ≡ map record_of events
    group_are =
        sym (take_at group taken.pending (length group) refl) ∙ ap (take (length group)) (sym longest_pending.parts)
        ∙ take-map record_of (length group) pending ∙ ap (map record_of) (sym events_are)

    settled_are : take (length desk.settled + length group) desk.accepted ≡ desk.settled ++ events
    settled_are = settled_more desk.settled desk.accepted (length group) is.stands_at.taken_begins ∙ ap (λ (l : History). desk.settled ++ l) (sym events_are)

    -- they are legal after what is settled
    legal : IsLegalAfter node (settled_in node desk) events
    legal =
        let count = length desk.settled + length group in
        let all = subst (IsLegalAfter node desk.base) (sym (take-append-drop count desk.accepted)) is.stands_at.legal in
        let first = ((after_joins node desk.base (take count desk.accepted) (drop count desk.accepted)).parts all).0 in
        ((after_joins node desk.base desk.settled events).parts (subst (IsLegalAfter node desk.base) settled_are first)).1

    -- what bytes with the group more are read as
    pub read_flushed : (bytes : List ℕ) → stands bytes ≡ stands_with file group → AreReadAs node (over device (spare_of old) bytes) (settled_in node (flushed desk))
    read_flushed bytes with_it =
        subst (AreReadAs node (over device (spare_of old) bytes)) (sym (after_append node desk.base desk.settled events))
        (read_after device file bytes is.alive.ends_closed is.configured node (settled_in node desk) events (spare_of old) (long_enough file is.configured) (read_beside device old is.alive is.begun)
        (with_it ∙ ap (stands_with file) group_are) legal read_now)

    -- after the flush
    pub flushed_is : (later : BookView S) (new : Journal D) → Stands node (with_settled (with_taken (run_of desk) (length group)) (length group)) later
        → later.queue ≡ before.queue → later.down ≡ before.down → IsAlive device new → spare_of new ≡ spare_of old → stands (device.content (disk_of new)) ≡ stands_with file group
        → IsOf node device (after node desk flush) later new
    flushed_is later new stands queue down alive same with_it =
        let count = length desk.settled + length group in
        let twice : take count (take count desk.accepted) ≡ desk.settled ++ events = take-take count count desk.accepted (omega arith) ∙ settled_are in
        let runs : with_settled (with_taken (run_of desk) (length group)) (length group) ≡ run_of (flushed desk) =
        (λ i. record { base = desk.base; accepted = desk.accepted; taken = settled_are i; settled = twice i }) in
        subst (λ (d : Desk). IsOf node device d later new) (sym (after_flush node desk)) (record {
          stands_at = subst (λ (r : Run). Stands node r later) runs stands;
          waits = queue ∙ is.waits;
          up = down ∙ is.up;
          alive = alive;
          begun = λ some.
              more_reports device file (device.content (disk_of new)) is.alive.ends_closed is.configured (long_enough file is.configured) group with_it
              ∙ is.begun (subst IsSome same some) ∙ ap (λ (s : Option (Spare D)). Some (Some (option_map_or (λ o. o.generation) s 0))) (sym same);
          keys = is.keys;
          configured = still_configured device file (device.content (disk_of new)) is.alive.ends_closed is.configured group with_it;
          read_as = subst (λ (a : Areas). AreReadAs node a (settled_in node (flushed desk))) (sym (same_spare device old new same))
              (read_flushed (device.content (disk_of new)) with_it);
        })

  -- what areas are read as they are told as
  pub decoded_as : (state : State) (areas : Areas) → AreReadAs node areas state → decoded_in node areas ≡ Ok state
  decoded_as state areas = decoded_of node state areas is.stands_at.legal.node_is (λ two. is.keys)

  -- whatever a stop leaves while a group is written
  left_by_flush : (bytes : List ℕ) → IsWithOrWithout before.pending file bytes
      → AreReadAs node (over device (spare_of old) bytes) (settled_in node desk) ⊎ AreReadAs node (over device (spare_of old) bytes) (settled_in node (after node desk flush))
  left_by_flush bytes (inl same) =
      inl (read_same device file bytes is.alive.ends_closed is.configured node (settled_in node desk) (spare_of old) (read_beside device old is.alive is.begun) same read_now)
  left_by_flush bytes (inr with_it) =
      inr (subst (λ (d : Desk). AreReadAs node (over device (spare_of old) bytes) (settled_in node d)) (sym (after_flush node desk))
      (read_flushed (record before { pending = with_it.1 }) with_it.0 with_it.2 bytes with_it.3))

  -- of the disk that is written to, the other one of two staying as it is
  pub decoded_by_flush : (new : Journal D) → spare_of new ≡ spare_of old → ((bytes : List ℕ) → device.outcome (disk_of new) bytes → IsWithOrWithout before.pending file bytes)
      → (areas : Areas) → Leaves device (store_of new) areas → (decoded_in node areas ≡ Ok (settled_in node desk)) ⊎ (decoded_in node areas ≡ Ok (settled_in node (after node desk flush)))
  decoded_by_flush new same left areas may =
      let durable = subst (IsDurableBeside device) (sym same) (durable_beside device old is.alive) in
      let one = left_beside device new (spare_of new) areas refl durable (may_leave device new (store_of new) refl areas may) in
      let are : areas ≡ over device (spare_of old) one.live = one.are ∙ ap (λ (s : Option (Spare D)). over device s one.live) same in
      elim (left_by_flush one.live (left one.live one.may)) [
        | inl so ↦ inl (decoded_as (settled_in node desk) areas (subst (λ (a : Areas). AreReadAs node a (settled_in node desk)) (sym are) so))
        | inr so ↦ inr (decoded_as (settled_in node (after node desk flush)) areas (subst (λ (a : Areas). AreReadAs node a (settled_in node (after node desk flush))) (sym are) so))
      ]

  -- after a round that settled a group
  pub flushes_is : (later : BookView S) (new : Journal D) (old_bytes new_bytes : List ℕ) (count : ℕ) → device.content (disk_of old) ≡ old_bytes
      → device.content (disk_of new) ≡ new_bytes → Flushes node before later old_bytes new_bytes count
      → IsAlive device new → spare_of new ≡ spare_of old → IsOf node device (after node desk flush) later new
  flushes_is later new old_bytes new_bytes count old_is new_is round alive same =
      flushed_is later round.group round.takes later new (round.stands (run_of desk) is.stands_at)
      (ap (λ (b : BookView S). b.queue) round.is) (ap (λ (b : BookView S). b.down) round.is) alive same
      (ap stands new_is ∙ round.records ∙ ap (λ (l : List ℕ). stands_with l round.group) (sym old_is))

  -- a flush with nothing pending changes nothing
  pub nothing_flushed : before.pending ≡ [] → IsOf node device (after node desk flush) before old
  nothing_flushed none =
      let empty : events ≡ [] = group_none pending (sym is.stands_at.pending ∙ none) in
      let same : flushed desk
      ≡ desk = (λ i. record {
        base = desk.base;
        accepted = desk.accepted;
        settled =
            (ap (λ (l : History). desk.settled ++ l) empty ∙ append-nil desk.settled) i;
        waiting = desk.waiting;
      }) in
      subst (λ (d : Desk). IsOf node device d before old) (sym (after_flush node desk ∙ same)) is

  -- the desk is that of a run of its node
  pub run_at : desks.IsOf node device (run_of desk) (record { book = before; journal = old })
  run_at = record {
    stands_at = is.stands_at;
    up = λ _. record { configured = is.configured; read_as = is.read_as; settled = refl };
    left = standing.left_durable node device (run_of desk) old is.read_as is.alive;
  }

  -- what a stop may leave is told as what is settled
  pub left_decoded : (areas : Areas) → MayLeave device old areas → decoded_in node areas ≡ Ok (settled_in node desk)
  left_decoded areas may =
      decoded_as (settled_in node desk) areas
      (subst (λ (a : Areas). AreReadAs node a (settled_in node desk)) (sym (standing.durable_left device old is.alive areas may)) is.read_as)

  -- so are its disks
  pub reported_now : decoded_in node (areas_in device (store_of old)) ≡ Ok (settled_in node desk)
  reported_now = ap (decoded_in node) (store_areas device old) ∙ decoded_as (settled_in node desk) (areas_of device old) is.read_as

  -- and so is what durable disks leave
  pub left_durable : (areas : Areas) → Leaves device (store_of old) areas → decoded_in node areas ≡ Ok (settled_in node desk)
  left_durable areas may = ap (decoded_in node) (durable_store device old is.alive areas may) ∙ reported_now

-- ---- what comes of an event

module _ {S D : Type 0} (node : Node) (device : Device D) (desk : Desk) (before later : BookView S) (journal : Journal D) (is : IsOf node device desk before journal) (event : Event) where
  -- unless memory was refused, a book that took an event is that of the desk after it
  pub accepted_is : (answer : Result Receipt Refusal) → before.accepted < MAX_ACCEPTED
      → IfOk answer (λ receipt. receipt.new ≡ true → TakesNew node before later event) → IfOk answer (λ receipt. receipt.new ≡ false → TakesKnown node before later event)
      → IfErr answer (λ refusal. (run : Run) → Stands node run before → MayRefuse node run before event refusal) → OnErr answer (later ≡ before) → (IsErrOf answer Memory → ⊥)
      → IsOf node device (after node desk (take_in event)) later journal
  accepted_is (Ok receipt) room new known refused same memory =
      elim (cases_Bool receipt.new) [
        | inl so ↦ with_new_event node device desk before later journal is event (new so)
        | inr off ↦ with_known_event node device desk before later journal is event (known off)
      ]
  accepted_is (Err refusal) room new known refused same memory =
      with_refused_event node device desk before later journal is event refusal (λ other. memory (ap (λ (r : Refusal). Err r) other)) room (refused (run_of desk) is.stands_at) same

-- it accepted one event at most
pub count_is : {S : Type 0} (node : Node) (before later : BookView S) (event : Event) (answer : Result Receipt Refusal)
    → IfOk answer (λ receipt. receipt.new ≡ true → TakesNew node before later event) → IfOk answer (λ receipt. receipt.new ≡ false → TakesKnown node before later event)
    → OnErr answer (later ≡ before) → later.accepted ≤ before.accepted + 1
count_is {S} node before later event (Ok receipt) new known same =
    elim (cases_Bool receipt.new) [
      | inl so ↦ let takes = new so in omega (arith, takes.accepted)
      | inr off ↦ let takes = known off in omega (arith, ap (λ (b : BookView S). b.accepted) takes.is)
    ]
count_is {S} node before later event (Err refusal) new known same = omega (arith, ap (λ (b : BookView S). b.accepted) same)

-- ---- what a stop leaves after an error

-- the area that is read is one of a journal's
live_of : {D : Type 0} (device : Device D) (side : Side) (live other : D) → IsAreaOf (areas_in device (two (by_area side live other))) (device.content live)
live_of device First live other = inl refl
live_of device Second live other = inr refl

live_by : {D : Type 0} (device : Device D) (disk : D) (spare : Option (Spare D))
    → IsAreaOf (areas_in device (option_map_or (λ s. two (by_area s.side disk s.disk)) spare (One disk))) (device.content disk)
live_by device disk None = refl
live_by device disk (Some spare) = live_of device spare.side disk spare.disk

live_area : {D : Type 0} (device : Device D) (journal : Journal D) → IsAreaOf (areas_in device (store_of journal)) (device.content (disk_of journal))
live_area device journal = live_by device (disk_of journal) (spare_of journal)

-- an error of writing isn't that of a full journal, or of the disk
not_full : (error : DriveError) → (error ≡ ends.Memory) ⊎ (error ≡ ends.Output) → error ≡ ends.Full → ⊥
not_full error (inl memory) full = cc
not_full error (inr output) full = cc

pub not_device : (error : DriveError) → (error ≡ ends.Memory) ⊎ (error ≡ ends.Output) → error ≡ ends.Device → ⊥
not_device error (inl memory) device = cc
not_device error (inr output) device = cc

-- it may end each command
ends_any : (command : Command) (error : DriveError) → (error ≡ ends.Memory) ⊎ (error ≡ ends.Output) → MayEnd command error
ends_any command error (inl memory) = subst (MayEnd command) (sym memory) tt
ends_any command error (inr output) = subst (MayEnd command) (sym output) tt

module _ {S D : Type 0} (node : Node) (device : Device D) (desk : Desk) (book : BookView S) (old : Journal D) (is : IsOf node device desk book old) where
  -- after want of memory, which changed nothing on the disk
  pub same_breaks : (command : Command) (error : DriveError) → error ≡ ends.Memory → Breaks node desk command error (areas_in device (store_of old)) (Leaves device (store_of old))
  same_breaks command error memory = record {
    left = λ areas left. inl (left_durable node device desk book old is areas left);
    errors = ends_any command error (inl memory);
    full = λ full. absurd (not_full error (inl memory) full);
  }

  -- after a disk that failed
  pub device_breaks : (new : Journal D) → spare_of new ≡ spare_of old
      → ((bytes : List ℕ) → device.outcome (disk_of new) bytes → IsWithOrWithout book.pending (device.content (disk_of old)) bytes)
      → Breaks node desk flush ends.Device (areas_in device (store_of new)) (Leaves device (store_of new))
  device_breaks new same left = record {
    left = decoded_by_flush node device desk book old is new same left;
    errors = tt;
    full = λ so. absurd (cc);
  }

  -- after a group for which the journal has no room
  pub full_breaks : (later : BookView S) (new : Journal D) → new ≡ old → FindsNoRoom node book later (device.content (disk_of old))
      → Breaks node desk flush ends.Full (areas_in device (store_of new)) (Leaves device (store_of new))
  full_breaks later new same no_room = subst (λ (j : Journal D). Breaks node desk flush ends.Full (areas_in device (store_of j)) (Leaves device (store_of j))) (sym same) (record {
    left = λ areas left. inl (left_durable node device desk book old is areas left);
    errors = tt;
    full = λ _. for_group (device.content (disk_of old)) refl (live_area device old)
        (subst (λ (l : List (List ℕ)). MAX_JOURNAL_BYTES < length (device.content (disk_of old)) + length (group_bytes l))
        (group_are node device desk book old is later no_room.0.group no_room.0.takes) (lt_of_not-le no_room.1));
  })

-- after an error in writing what a command made due
pub after_breaks : {S D : Type 0} (node : Node) (device : Device D) (desk : Desk) (command : Command) (book : BookView S) (new : Journal D)
    → IsOf node device (after node desk command) book new → (error : DriveError) → (error ≡ ends.Memory) ⊎ (error ≡ ends.Output)
    → Breaks node desk command error (areas_in device (store_of new)) (Leaves device (store_of new))
after_breaks {S} {D} node device desk command book new is error either = record {
  left = λ areas left. inr (left_durable node device (after node desk command) book new is areas left);
  errors = ends_any command error either;
  full = λ full. absurd (not_full error either full);
}

-- of an error and of disks that are these
pub breaks_at : {D : Type 0} (node : Node) (device : Device D) (desk : Desk) (command : Command) (error is : DriveError) (store end : Store D) → error ≡ is → store ≡ end
    → Breaks node desk command is (areas_in device end) (Leaves device end) → Breaks node desk command error (areas_in device store) (Leaves device store)
breaks_at {D} node device desk command error is store end same ends_at breaks =
    subst (λ (e : DriveError). Breaks node desk command e (areas_in device store) (Leaves device store)) (sym same)
    (subst (λ (s : Store D). Breaks node desk command is (areas_in device s) (Leaves device s)) (sym ends_at) breaks)
