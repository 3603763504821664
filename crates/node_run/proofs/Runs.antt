-- How a node's run over its disks ends.
use Rattle.std.proofs.Common.{◌≡◌, ◌<◌, ℕ, Bool, true, false, List, [], take, Option, Some, None, refl, sym, ap, subst, ◌∙◌, inl, inr}
use Rattle.std.proofs.lemmas.Bool.{or_left}
use Rattle.std.proofs.lemmas.List.{map-append}
use Rattle.std.proofs.lemmas.List.Elements.{All-weaker}
use Rattle.std.proofs.lemmas.Option.{none-some}
use Rattle.std.specs.Option.{option_map_or}
use Rattle.std.specs.Prelude.{◌≢◌, ◌⊎◌, ◌||◌, Ok, IfSome, IsSome, if◌then◌else◌}
use Rattle.diskmodel.specs.Disk.{Device}
use Rattle.admission.proofs.OneState.{one_state}
use Rattle.book.specs.Book.{GoesOutAfter, IsCheckpoint}
use Rattle.flusher.specs.Rounds.{journal_of, settled_in, taken_in, HoldsAfter}
use Rattle.flusher.specs.declared.flusher.Flusher.{Flusher}
use Rattle.journal.specs.Areas.{Areas, alone, pair}
use Rattle.journal.specs.Journal.{spare_of, IsAlive}
use Rattle.journal.specs.Pairs.{areas_in, areas_of, store_of}
use Rattle.journal.specs.Stores.{faults_in}
use Rattle.journal.specs.declared.error.JournalError.{JournalError}
use Rattle.journal.specs.declared.error.JournalError.TheVariants as journal
use Rattle.journal.specs.declared.journal.Journal.{Journal}
use Rattle.journal.specs.declared.store.Store.{Store}
use Rattle.journal.specs.declared.store.Store.TheVariants.{One, Two}
use Rattle.node.specs.Disks.{AtEachMomentOn}
use Rattle.node.proofs.Stages.{on_weaker, on_joins}
use Rattle.node_io.specs.Endings.{of_journal, ending_of, unless_journal, lacks_memory}
use Rattle.node_io.specs.declared.ending.Ending.{Ending}
use Rattle.node_io.specs.declared.ending.Ending.TheVariants as ends
use Rattle.node_io.specs.declared.faults.Faults.{Faults}
use Rattle.node_seats.proofs.Beginnings.{begins_trans, take_begins}
use Rattle.node_seats.specs.Views.{events}
use Rattle.node_seats.specs.declared.view.View.{View}
use Rattle.wire.specs.Lists.{Begins}
use Rattle.node_seats.specs.declared.view.Marked.{Marked}
use Rattle.node_shared.specs.Home.{IsCheckpointAfter, NodeView}
use Rattle.opening.specs.Laws.{IsFullIn, IsLeftIn, IsNoRefusalOfBoth, IsReadIn}
use Rattle.opening.specs.Renewing.{KeepsStatesIn}
use Rattle.opening.specs.Stages.{IsDecodedAsBoth, IsDecodedThroughout}
use Rattle.opening.specs.Decoded.{decoded_in, StandsAt, Reports, IsDecodedAsOneOf}
use Rattle.spec_machine.specs.After.{after_all, IsLegalAfter}
use Rattle.spec_machine.proofs.AfterAll.{after_none}
use Rattle.spec_model.specs.Nodes.{Node}
use Rattle.spec_model.specs.States.{State}
use Rattle.spec_model.specs.Words.{Output}
use Rattle.spec_world.specs.World.{Holds, StandsFor}
use Rattle.validator.specs.Setting.{ConfigView, node_of}
use Rattle.validator.specs.Standing.{AreAtSound}
use Rattle.node_run.specs.Ends.{ReportsRounds}
use Rattle.wire.specs.declared.keys.Key.{Key}
use Rattle.node_run.specs.Members.{IsConfigOf, RefusesOpening}
use Rattle.node_run.proofs.Pending.{by_rule_weaker, full_weaker}
use Rattle.node_run.proofs.Written.{written_weaker, wrote_nothing}
use Rattle.node_run.specs.Rewriting.{point_of, HasCheckpoint, Point}
use Rattle.node_run.specs.Runs.{HoldsMore, GoesOn, GoesOutAfterPrefix, AreSettled, IsReadAsOneOf, NoneOrOnDisk, GivesOnly, IsOfLoss, AreTwo}
use Rattle.node_run.specs.Runs.{ComesByRule, HasCheckpointFrom, IsEndOfRun, IsFullAfter, IsFullUp, IsOpenedOn, IsRewrittenEach, RunsOver, ShowsFrom, RunsAs, every_on, is_all_brought, may_lack_memory, is_all_written, point_at, rule_on}
use Rattle.node_run.specs.Writing.{no_memory, HasWritten, MayGo}
use Rattle.node_run.specs.declared.ran.Ran.{Ran}
use Rattle.sigface.specs.Scheme.{Scheme}

-- ---- endings

abbrev fault_in : Ending → Option JournalError
fault_in (ends.Journal error) = Some error
fault_in other = None

-- an ending that isn't the journal's
other_none : (output memory input : Bool) (error : JournalError) → (if output then ends.Output else if memory then ends.Memory else if input then ends.Input else ends.Done) ≡ ends.Journal error → ⊥
other_none true memory input error is = let bad : None ≡ Some error = ap fault_in is in cc
other_none false true input error is = let bad : None ≡ Some error = ap fault_in is in cc
other_none false false true error is = let bad : None ≡ Some error = ap fault_in is in cc
other_none false false false error is = let bad : None ≡ Some error = ap fault_in is in cc

reported_unless : (fault : Option JournalError) (other : Ending) (error : JournalError) → (other ≡ ends.Journal error → ⊥) → unless_journal fault other ≡ ends.Journal error → fault ≡ Some error
reported_unless None other error none is = absurd (none is)
reported_unless (Some journal.Memory) other error none is = absurd (none is)
reported_unless (Some journal.Device) other error none is = ap fault_in is
reported_unless (Some (journal.Damaged place)) other error none is = ap fault_in is
reported_unless (Some journal.ConfigMismatch) other error none is = ap fault_in is
reported_unless (Some journal.Full) other error none is = ap fault_in is

-- a run ends with a fault of the journal only where that was told
decoded_of_journal : (faults : Faults) (error : JournalError) → ending_of faults ≡ ends.Journal error → faults.journal ≡ Some error
decoded_of_journal faults error is = reported_unless faults.journal _ error (other_none faults.output (lacks_memory faults) faults.input error) is

-- and where its disk's fault was told, so it ends
ends_with_device : (fault : Option JournalError) (other : Ending) → fault ≡ Some journal.Device → unless_journal fault other ≡ ends.Journal journal.Device
ends_with_device fault other is = ap (λ (f : Option JournalError). unless_journal f other) is

some_same : (one other : JournalError) → Some one ≡ Some other → one ≡ other
some_same one other is = ap (λ (o : Option JournalError). option_map_or (λ (e : JournalError). e) o one) is

-- one that the opening answered
opening_decoded : (error named : JournalError) → of_journal error ≡ ends.Journal named → error ≡ named
opening_decoded journal.Memory named is = absurd (none-some named (ap fault_in is))
opening_decoded journal.Device named is = some_same journal.Device named (ap fault_in is)
opening_decoded (journal.Damaged place) named is = some_same (journal.Damaged place) named (ap fault_in is)
opening_decoded journal.ConfigMismatch named is = some_same journal.ConfigMismatch named (ap fault_in is)
opening_decoded journal.Full named is = some_same journal.Full named (ap fault_in is)

-- a run whose ending tells of no failed write had none
wrote_all_unless : (fault : Option JournalError) (output : Bool) (other : Ending) → is_all_written (unless_journal fault (if output then ends.Output else other)) ≡ true → output ≡ false
wrote_all_unless fault false other whole = refl
wrote_all_unless None true other whole = absurd (let bad : false ≡ true = whole in cc)
wrote_all_unless (Some journal.Memory) true other whole = absurd (let bad : false ≡ true = whole in cc)
wrote_all_unless (Some journal.Device) true other whole = absurd (let bad : false ≡ true = whole in cc)
wrote_all_unless (Some (journal.Damaged place)) true other whole = absurd (let bad : false ≡ true = whole in cc)
wrote_all_unless (Some journal.ConfigMismatch) true other whole = absurd (let bad : false ≡ true = whole in cc)
wrote_all_unless (Some journal.Full) true other whole = absurd (let bad : false ≡ true = whole in cc)

wrote_all : (faults : Faults) → is_all_written (ending_of faults) ≡ true → faults.output ≡ false
wrote_all faults whole = wrote_all_unless faults.journal faults.output _ whole

-- a run whose ending hides no fault of what was brought to the disks had none
nothing_unless : (fault : Option JournalError) (output memory lacks input : Bool) → IfSome fault (λ error. (error ≡ journal.Device) ⊎ (error ≡ journal.Full))
    → is_all_brought (unless_journal fault (if output then ends.Output else if memory || lacks then ends.Memory else if input then ends.Input else ends.Done)) ≡ true
    → (fault ≡ None)
    × (memory ≡ true → may_lack_memory (unless_journal fault (if output then ends.Output else if memory || lacks then ends.Memory else if input then ends.Input else ends.Done)) ≡ true)
nothing_unless None true memory lacks input which brought = (refl, λ is. refl)
nothing_unless None false true lacks input which brought = absurd (let bad : false ≡ true = brought in cc)
nothing_unless None false false lacks input which brought = (refl, λ is. absurd (let bad : false ≡ true = is in cc))
nothing_unless (Some journal.Memory) output memory lacks input (inl is) brought = absurd (let bad : journal.Memory ≡ journal.Device = is in cc)
nothing_unless (Some journal.Memory) output memory lacks input (inr is) brought = absurd (let bad : journal.Memory ≡ journal.Full = is in cc)
nothing_unless (Some journal.Device) output memory lacks input which brought = absurd (let bad : false ≡ true = brought in cc)
nothing_unless (Some (journal.Damaged place)) output memory lacks input which brought = absurd (let bad : false ≡ true = brought in cc)
nothing_unless (Some journal.ConfigMismatch) output memory lacks input which brought = absurd (let bad : false ≡ true = brought in cc)
nothing_unless (Some journal.Full) output memory lacks input which brought = absurd (let bad : false ≡ true = brought in cc)

reported_nothing : (faults : Faults) → IfSome faults.journal (λ error. (error ≡ journal.Device) ⊎ (error ≡ journal.Full)) → is_all_brought (ending_of faults) ≡ true
    → (faults.journal ≡ None) × (faults.memory ≡ true → may_lack_memory (ending_of faults) ≡ true)
reported_nothing faults which brought = nothing_unless faults.journal faults.output faults.memory _ faults.input which brought

-- one that couldn't begin
nothing_brought : (error : JournalError) → is_all_brought (of_journal error) ≡ true → ⊥
nothing_brought journal.Memory brought = let bad : false ≡ true = brought in cc
nothing_brought journal.Device brought = let bad : false ≡ true = brought in cc
nothing_brought (journal.Damaged place) brought = let bad : false ≡ true = brought in cc
nothing_brought journal.ConfigMismatch brought = let bad : false ≡ true = brought in cc
nothing_brought journal.Full brought = let bad : false ≡ true = brought in cc

-- a run ends neither for its arguments nor for the text of its committee
ends_unless : (fault : Option JournalError) (output lacks input : Bool)
    → IsEndOfRun (unless_journal fault (if output then ends.Output else if lacks then ends.Memory else if input then ends.Input else ends.Done))
ends_unless None true lacks input = tt
ends_unless None false true input = tt
ends_unless None false false true = tt
ends_unless None false false false = tt
ends_unless (Some journal.Memory) true lacks input = tt
ends_unless (Some journal.Memory) false true input = tt
ends_unless (Some journal.Memory) false false true = tt
ends_unless (Some journal.Memory) false false false = tt
ends_unless (Some journal.Device) output lacks input = tt
ends_unless (Some (journal.Damaged place)) output lacks input = tt
ends_unless (Some journal.ConfigMismatch) output lacks input = tt
ends_unless (Some journal.Full) output lacks input = tt

ends_so : (faults : Faults) → IsEndOfRun (ending_of faults)
ends_so faults = ends_unless faults.journal faults.output (lacks_memory faults) faults.input

ends_at_opening : (error : JournalError) → IsEndOfRun (of_journal error)
ends_at_opening journal.Memory = tt
ends_at_opening journal.Device = tt
ends_at_opening (journal.Damaged place) = tt
ends_at_opening journal.ConfigMismatch = tt
ends_at_opening journal.Full = tt

-- one whose writer was lost tells of it
loss_unless : (fault : Option JournalError) (output lacks : Bool) (other : Ending) → output ≡ false → lacks ≡ true
    → IsOfLoss (unless_journal fault (if output then ends.Output else if lacks then ends.Memory else other))
loss_unless fault true lacks other fine lacking = absurd (let bad : true ≡ false = fine in cc)
loss_unless fault false false other fine lacking = absurd (let bad : false ≡ true = lacking in cc)
loss_unless None false true other fine lacking = inl refl
loss_unless (Some journal.Memory) false true other fine lacking = inl refl
loss_unless (Some journal.Device) false true other fine lacking = inr (journal.Device, refl)
loss_unless (Some (journal.Damaged place)) false true other fine lacking = inr (journal.Damaged place, refl)
loss_unless (Some journal.ConfigMismatch) false true other fine lacking = inr (journal.ConfigMismatch, refl)
loss_unless (Some journal.Full) false true other fine lacking = inr (journal.Full, refl)

is_of_loss : (faults : Faults) → faults.output ≡ false → faults.memory ≡ true → IsOfLoss (ending_of faults)
is_of_loss faults fine memory = loss_unless faults.journal faults.output (lacks_memory faults) _ fine (or_left faults.memory _ memory)

some_is : {X : Type 0} (one other : X) → Some one ≡ Some other → one ≡ other
some_is {X} one other is = ap (λ (o : Option X). option_map_or (λ (x : X). x) o one) is

-- the events of a prefix are a prefix of the events
events_begin : (front whole : List Marked) → Begins front whole → Begins (events front) (events whole)
events_begin front whole begins = record {
  rest = events begins.rest;
  parts = ap (λ (l : List Marked). events l) begins.parts ∙ map-append (λ (one : Marked). one.event) front begins.rest;
}

abbrev IsOfRun : Node → Areas → JournalError → Type 0
IsOfRun node before error = (error ≡ journal.Device) ⊎ (error ≡ journal.Full) ⊎ Reports error (decoded_in node before)

kind_of : (node : Node) (before : Areas) (error : JournalError) → (error ≢ journal.Device → error ≢ journal.Full → Reports error (decoded_in node before)) → IsOfRun node before error
kind_of node before journal.Memory reports =
    inr (inr (reports (λ is. let bad : journal.Memory ≡ journal.Device = is in cc) (λ is. let bad : journal.Memory ≡ journal.Full = is in cc)))
kind_of node before journal.Device reports = inl refl
kind_of node before (journal.Damaged place) reports =
    inr (inr (reports (λ is. let bad : journal.Damaged place ≡ journal.Device = is in cc) (λ is. let bad : journal.Damaged place ≡ journal.Full = is in cc)))
kind_of node before journal.ConfigMismatch reports =
    inr (inr (reports (λ is. let bad : journal.ConfigMismatch ≡ journal.Device = is in cc) (λ is. let bad : journal.ConfigMismatch ≡ journal.Full = is in cc)))
kind_of node before journal.Full reports = inr (inl refl)

-- one that ends with out of memory had no fault of the journal
none_unless : (fault : Option JournalError) (other : Ending) → IfSome fault (λ error. (error ≡ journal.Device) ⊎ (error ≡ journal.Full)) → unless_journal fault other ≡ ends.Memory → fault ≡ None
none_unless None other which is = refl
none_unless (Some journal.Memory) other (inl bad) is = absurd (let clash : journal.Memory ≡ journal.Device = bad in cc)
none_unless (Some journal.Memory) other (inr bad) is = absurd (let clash : journal.Memory ≡ journal.Full = bad in cc)
none_unless (Some journal.Device) other which is = absurd (let bad : ends.Journal journal.Device ≡ ends.Memory = is in cc)
none_unless (Some (journal.Damaged place)) other which is = absurd (let bad : ends.Journal (journal.Damaged place) ≡ ends.Memory = is in cc)
none_unless (Some journal.ConfigMismatch) other which is = absurd (let bad : ends.Journal journal.ConfigMismatch ≡ ends.Memory = is in cc)
none_unless (Some journal.Full) other which is = absurd (let bad : ends.Journal journal.Full ≡ ends.Memory = is in cc)

not_refused : (error named : JournalError) → of_journal error ≡ ends.Journal named → IsNoRefusalOfBoth error → (named ≡ journal.Device) ⊎ (named ≡ journal.Full)
not_refused error named is (inl (inl device)) = inl (sym (opening_decoded error named is) ∙ device)
not_refused error named is (inl (inr memory)) = absurd (none-some named (ap fault_in (ap of_journal (sym memory) ∙ is)))
not_refused error named is (inr full) = inr (sym (opening_decoded error named is) ∙ full)

module _ {S D : Type 0} (scheme : Scheme S) (device : Device D) where
  -- what a stop may leave
  abbrev May : Node → Store D → Areas → Type 0
  May node store areas = IsReadAsOneOf node device store areas ⊎ GoesOn node (areas_in device store) areas

  -- what an opening leaves is read as one outcome from before it
  abbrev IsOpened : Node → Store D → Areas → Type 0
  IsOpened node (One disk) (alone left) = IsDecodedAsOneOf node (device.outcome disk) left
  IsOpened node (Two first second) (pair one other) = IsDecodedAsBoth node device (first, second) one other
  IsOpened node store areas = ⊥

  opened_on : (node : Node) (store later : Store D) → IsDecodedThroughout node device store later → AtEachMomentOn device (IsOpened node store) store later
  opened_on node (One disk) (One now) leaves = leaves
  opened_on node (Two first second) (Two now also) leaves = leaves
  opened_on node (One disk) (Two now also) leaves = absurd leaves
  opened_on node (Two first second) (One now) leaves = absurd leaves

  read_as_one : (node : Node) (store : Store D) (areas : Areas) → IsOpened node store areas → IsReadAsOneOf node device store areas
  read_as_one node (One disk) (alone left) it = record { was = alone it.0; might = it.1; same = it.2 }
  read_as_one node (Two first second) (pair one other) it = record { was = pair it.0 it.1; might = (it.2, it.3); same = it.4 }
  read_as_one node (One disk) (pair one other) it = absurd it
  read_as_one node (Two first second) (alone left) it = absurd it

  from_opening : (node : Node) (store later : Store D) → IsDecodedThroughout node device store later → AtEachMomentOn device (May node store) store later
  from_opening node store later leaves =
      on_weaker device (May node store) (IsOpened node store) store later (opened_on node store later leaves) (λ areas it. inl (read_as_one node store areas it))

  some_left : (later : Store D) (ending : Ending) → Some later ≡ None → ending ≡ ends.Memory
  some_left later ending none = absurd (none-some later (sym none))

  -- a journal that is ever rewritten is on two disks
  pub two_where_due : (node : Node) (store : Store D) (every : ℕ) (opened : Journal D) → IsReadIn node device store opened → IsSome (every_on store every) → IsSome (spare_of opened)
  two_where_due node (One disk) every opened read some = absurd (let bad : false ≡ true = some in cc)
  two_where_due node (Two first second) every opened read some = read.0

  -- the node wasn't opened
  pub not_opened : (node : Node) (store later : Store D) (every : ℕ) (error : JournalError) → (error ≢ journal.Device → error ≢ journal.Full → Reports error (decoded_in node (areas_in device store)))
      → (error ≡ journal.Device → faults_in device store < faults_in device later) × (error ≢ journal.Device → faults_in device later ≡ faults_in device store)
      → IsDecodedThroughout node device store later → (IsLeftIn node (areas_in device store) → IsNoRefusalOfBoth error) → (error ≡ journal.Full → IsFullIn node device store)
      → RunsOver node device store every (of_journal error) (Some later)
  not_opened node store later every error reports cause leaves never_refused full = record {
    ends = ends_at_opening error;
    device = λ is. cause.0 (opening_decoded error journal.Device is);
    no_fault = λ other. cause.1 (λ is. other (ap of_journal is));
    reported_as = λ named is. subst (IsOfRun node (areas_in device store)) (opening_decoded error named is) (kind_of node (areas_in device store) error reports);
    never_refused = λ left named is. not_refused error named is (never_refused left);
    full = λ is. inl (full (opening_decoded error journal.Full is));
    lost = some_left later (of_journal error);
    any_moment = from_opening node store later leaves;
    keeps = inl leaves;
    rewritten = λ brought. absurd (nothing_brought error brought);
    lacks = λ is. inl leaves;
  }

  -- it was opened, and memory was refused then
  pub not_run : (node : Node) (store now : Store D) (every : ℕ) → faults_in device now ≡ faults_in device store → IsDecodedThroughout node device store now
      → RunsOver node device store every ends.Memory (Some now)
  not_run node store now every same leaves = record {
    ends = tt;
    device = λ is. absurd (none-some journal.Device (ap fault_in is));
    no_fault = λ other. same;
    reported_as = λ named is. absurd (none-some named (ap fault_in is));
    never_refused = λ left named is. absurd (none-some named (ap fault_in is));
    full = λ is. absurd (none-some journal.Full (ap fault_in is));
    lost = λ none. refl;
    any_moment = from_opening node store now leaves;
    keeps = inl leaves;
    rewritten = λ brought. absurd (let bad : false ≡ true = brought in cc);
    lacks = λ is. inl leaves;
  }

  -- the disks were lost
  run_lost : (node : Node) (store : Store D) (every : ℕ) (reported_of : Faults) → reported_of ≡ no_memory → RunsOver node device store every (ending_of reported_of) None
  run_lost node store every reported_of is = record {
    ends = ends_so reported_of;
    device = λ device. tt;
    no_fault = λ other. tt;
    reported_as = λ named so. absurd (none-some named (ap fault_in (sym ends_lost ∙ so)));
    never_refused = λ left named so. absurd (none-some named (ap fault_in (sym ends_lost ∙ so)));
    full = λ is. inr tt;
    lost = λ none. ends_lost;
    any_moment = tt;
    keeps = tt;
    rewritten = λ brought. tt;
    lacks = λ is. tt;
  }
    where
      ends_lost : ending_of reported_of ≡ ends.Memory
      ends_lost = ap ending_of is

  -- What areas hold after more events of a node that began where the disks were read, they hold after the same events from the state as
  -- which they were read.
  goes_on : (shared : NodeView S) (node : Node) (store : Store D) (now : Areas) (settled : List Marked) → node_of scheme shared.setting ≡ node
      → StandsAt node (decoded_in node (areas_in device store)) shared.begun → KeepsStatesIn node (areas_in device store) now → settled ≡ []
      → (areas : Areas) (it : HoldsMore scheme shared settled now areas) → (on : GoesOn node (areas_in device store) areas) × (on.more ≡ events it.more)
  goes_on shared node store now settled of_node begins kept_all none areas it =
      let holds = it.leaves.holds in (
        record {
          base = holds.base;
          is_decoded = is_decoded holds;
          more = events it.more;
          legal = subst (λ (n : Node). IsLegalAfter n holds.base (events it.more)) of_node holds.legal;
          holds = subst (λ (n : Node). Holds n areas (after_all n holds.base (events it.more))) of_node holds.holds;
          earlier = λ began stands. subst (λ (n : Node). Holds n areas (after_all n began (events it.more))) of_node (it.leaves.earlier began (first began stands));
        },
        refl,
      )
    where
      -- the disks were told as each base
      is_decoded : {marked : List Marked} {some : Areas} → (it : HoldsAfter scheme shared marked some) → decoded_in node (areas_in device store) ≡ Ok it.base
      is_decoded it =
          let at = subst (λ (n : Node). AreAtSound n shared.begun it.base) of_node it.is_base in
          begins.is_read ∙ ap Ok (one_state node shared.begun begins.state it.base begins.at.sound begins.at.at at.sound at.at)

      first : (began : State) → StandsFor node (areas_in device store) began → Holds (node_of scheme shared.setting) now (after_all (node_of scheme shared.setting) began (events settled))
      first began stands =
          let here = subst (λ (n : Node). Holds n now began) (sym of_node) (kept_all began stands) in
          let after = subst (Holds (node_of scheme shared.setting) now) (sym (after_none (node_of scheme shared.setting) began)) here in
          subst (λ (l : List Marked). Holds (node_of scheme shared.setting) now (after_all (node_of scheme shared.setting) began (events l))) (sym none) after

  -- records that are a checkpoint from each base of a node are one from the state as which the disks were read
  shows_from : (shared : NodeView S) (node : Node) (base : State) → node_of scheme shared.setting ≡ node → AreAtSound node shared.begun base
      → (taken : List Marked) (records : List (List ℕ)) → IsCheckpointAfter scheme shared taken records → ShowsFrom node base taken records
  shows_from shared node base of_node at taken records checkpoint =
      let is_base = subst (λ (n : Node). AreAtSound n shared.begun base) (sym of_node) at in
      subst (λ (n : Node). IsCheckpoint n (after_all n base (events taken)) records) of_node (checkpoint base is_base)

  from_base : (shared : NodeView S) (node : Node) (base : State) → node_of scheme shared.setting ≡ node → AreAtSound node shared.begun base
      → (point : Point D) → HasCheckpoint scheme device shared point → HasCheckpointFrom node device base point
  from_base shared node base of_node at point has = record {
    records = has.records;
    checkpoint = shows_from shared node base of_node at point.settled has.records has.checkpoint;
    content = has.content;
  }

  -- a journal without room for what was to be written next, after the state as which the disks were read
  full_after : (shared : NodeView S) (node : Node) (store left : Store D) (every : ℕ) (memory : Bool) (opened : IsOpenedOn node device store) → node_of scheme shared.setting ≡ node
      → AreAtSound node shared.begun opened.base
      → IsFullUp scheme device shared (rule_on device store every opened.journal) memory (point_at opened.journal) left → IsFullAfter node device store every left
  full_after shared node store left every memory opened of_node at up = record {
    opened = opened;
    last = point_of up.last;
    taken = taken_in up.last;
    full = full_weaker device (HasCheckpoint scheme device shared) (HasCheckpointFrom node device opened.base) (IsCheckpointAfter scheme shared) (ShowsFrom node opened.base)
        (rule_on device store every opened.journal) memory true (point_at opened.journal) (point_of up.last) (taken_in up.last) (from_base shared node opened.base of_node at)
        (shows_from shared node opened.base of_node at (taken_in up.last)) (λ is. refl) up.lacks;
    is_left = up.is_left;
  }

  -- it ran
  has_run : (shared : NodeView S) (node : Node) (store now : Store D) (every : ℕ) (opened : Journal D) (later : Store D) (reported_of : Faults) → node_of scheme shared.setting ≡ node
      → StandsAt node (decoded_in node (areas_in device store)) shared.begun → now ≡ store_of opened → faults_in device now ≡ faults_in device store
      → ReportsRounds (faults_in device now) (faults_in device later) reported_of.journal → IsDecodedThroughout node device store now
      → AtEachMomentOn device (HoldsMore scheme shared [] (areas_of device opened)) now later → KeepsStatesIn node (areas_in device store) (areas_of device opened)
      → IsReadIn node device store opened → IsAlive device opened → (reported_of.journal ≡ None → ComesByRule device (HasCheckpoint scheme device shared)
      (rule_on device store every opened) reported_of.memory (point_at opened) later)
      → (reported_of.journal ≡ Some journal.Full → IsFullUp scheme device shared (rule_on device store every opened) reported_of.memory (point_at opened) later)
      → RunsOver node device store every (ending_of reported_of) (Some later)
  has_run shared node store now every opened later reported_of of_node begins is_now same reports opening leaves kept_all read alive by_rule full = record {
    ends = ends_so reported_of;
    device = λ is. subst (λ n. n < faults_in device later) same (reports.disk.device (decoded_of_journal reported_of journal.Device is));
    no_fault = λ other. reports.disk.no_fault (λ is. other (ends_with_device reported_of.journal _ is)) ∙ same;
    reported_as = λ named is. elim (which named is) [ inl device ↦ inl device | inr full ↦ inr (inl full) ];
    never_refused = λ left. which;
    full = λ is. inr (full_after shared node store later every reported_of.memory opened_on_disks of_node begins.at (full (decoded_of_journal reported_of journal.Full is)));
    lost = some_left later (ending_of reported_of);
    any_moment = on_joins device (May node store) (HoldsMore scheme shared [] (areas_of device opened)) store now later (from_opening node store now opening) leaves more;
    keeps = inr (record {
      opened = opened_on_disks;
      in_opening = subst (AtEachMomentOn device (IsReadAsOneOf node device store) store) is_now
          (on_weaker device (IsReadAsOneOf node device store) (IsOpened node store) store now (opened_on node store now opening) (read_as_one node store));
      past_it = subst (λ (s : Store D). AtEachMomentOn device (GoesOn node (areas_in device store)) s later) is_now
          (on_weaker device (GoesOn node (areas_in device store)) (HoldsMore scheme shared [] (areas_of device opened)) now later leaves goes_on_there);
    });
    rewritten = λ brought.
        let fine = reported_nothing reported_of reports.which brought in
        each (may_lack_memory (ending_of reported_of)) fine.1 (by_rule fine.0);
    lacks = λ is. inr (each true (λ lacking. refl) (by_rule (none_unless reported_of.journal _ reports.which is)));
  }
    where
      opened_on_disks : IsOpenedOn node device store
      opened_on_disks = record { journal = opened; read = read; keeps = kept_all; alive = alive; base = begins.state; is_read = begins.is_read }

      each : (memory : Bool) → (reported_of.memory ≡ true → memory ≡ true) → ComesByRule device (HasCheckpoint scheme device shared) (rule_on device store every opened) reported_of.memory
          (point_at opened) later
          → IsRewrittenEach node device store every memory later
      each memory raised by = record {
        opened = opened_on_disks;
        comes = record {
          last = by.last;
          last_rule = by.last_rule;
          by_rule = by_rule_weaker device (HasCheckpoint scheme device shared) (HasCheckpointFrom node device begins.state) (rule_on device store every opened) by.last_rule reported_of.memory memory
              (point_at opened) by.last (from_base shared node begins.state of_node begins.at) raised by.by_rule;
          is_left = by.is_left;
        };
      }

      which : (named : JournalError) → ending_of reported_of ≡ ends.Journal named → (named ≡ journal.Device) ⊎ (named ≡ journal.Full)
      which named is = subst (λ (f : Option JournalError). IfSome f (λ error. (error ≡ journal.Device) ⊎ (error ≡ journal.Full))) (decoded_of_journal reported_of named is) reports.which

      goes_on_there : (left : Areas) → HoldsMore scheme shared [] (areas_of device opened) left → GoesOn node (areas_in device store) left
      goes_on_there left it = (goes_on shared node store (areas_of device opened) [] of_node begins kept_all refl left it).0

      more : (left : Areas) → HoldsMore scheme shared [] (areas_of device opened) left → May node store left
      more left it = inr (goes_on_there left it)

  -- its threads have ended
  pub ended : (shared : NodeView S) (node : Node) (store now : Store D) (every : ℕ) (opened : Journal D) (reported_of : Faults) (left : Option (Store D)) → node_of scheme shared.setting ≡ node
      → StandsAt node (decoded_in node (areas_in device store)) shared.begun → now ≡ store_of opened → faults_in device now ≡ faults_in device store
      → IfSome left (λ later. ReportsRounds (faults_in device now) (faults_in device later) reported_of.journal) → (left ≡ None → reported_of ≡ no_memory)
      → IsDecodedThroughout node device store now
      → IfSome left (λ later. AtEachMomentOn device (HoldsMore scheme shared [] (areas_of device opened)) now later) → KeepsStatesIn node (areas_in device store) (areas_of device opened)
      → IsReadIn node device store opened → IsAlive device opened
      → (reported_of.journal ≡ None → IfSome left (ComesByRule device (HasCheckpoint scheme device shared) (rule_on device store every opened) reported_of.memory (point_at opened)))
      → (reported_of.journal ≡ Some journal.Full → IfSome left (IsFullUp scheme device shared (rule_on device store every opened) reported_of.memory (point_at opened)))
      → RunsOver node device store every (ending_of reported_of) left
  ended shared node store now every opened reported_of None of_node begins is_now same reports lost opening leaves kept_all read alive by_rule full = run_lost node store every reported_of (lost refl)
  ended shared node store now every opened reported_of (Some later) of_node begins is_now same reports lost opening leaves kept_all read alive by_rule full =
      has_run shared node store now every opened later reported_of of_node begins is_now same reports opening leaves kept_all read alive by_rule full

  -- ---- what it gave out

  -- what might go out after settled events goes out after them from the state as which the disks were read
  goes_out : (shared : NodeView S) (node : Node) (base : State) (view : View) → node_of scheme shared.setting ≡ node → AreAtSound node shared.begun base
      → (output : Output) → MayGo scheme shared view output → GoesOutAfterPrefix node base (events view.durable) output
  goes_out shared node base view of_node at output may =
      let first = take may.count may.settled in
      record {
        events = events first;
        begins = events_begin first view.durable (begins_trans first may.settled view.durable (take_begins may.count may.settled) may.begins);
        goes_out = subst (λ (n : Node). GoesOutAfter n base (events first) output) of_node (may.put_out base (subst (λ (n : Node). AreAtSound n shared.begun base) (sym of_node) at));
      }

  -- what is settled on the disks is there from the state as which they were read
  on_disk : (shared : NodeView S) (node : Node) (store : Store D) (first : Flusher D) (left : Store D) → node_of scheme shared.setting ≡ node
      → StandsAt node (decoded_in node (areas_in device store)) shared.begun → KeepsStatesIn node (areas_in device store) (areas_of device (journal_of first)) → settled_in first ≡ []
      → (outputs : List Output) → AreSettled scheme device shared first left outputs → NoneOrOnDisk node device store left outputs
  on_disk shared node store first left of_node begins kept_all none outputs it = inr (record {
    base = begins.state;
    is_read = begins.is_read;
    settled = events it.view.durable;
    each = All-weaker (MayGo scheme shared it.view) (GoesOutAfterPrefix node begins.state (events it.view.durable)) (goes_out shared node begins.state it.view of_node begins.at) outputs it.each;
    on_disk = λ found may.
        let holds = it.on_disk found may in
        let on = goes_on shared node store (areas_of device (journal_of first)) (settled_in first) of_node begins kept_all none found holds.0 in
        (on.0, subst (Begins (events it.view.durable)) (sym on.1) (events_begin it.view.durable holds.0.more holds.1));
  })

  -- what its threads wrote is on the disks
  pub gives_only : {W : Type 0} (contents : W → Option (List ℕ)) (shared : NodeView S) (node : Node) (store : Store D) (first : Flusher D) (writer : W)
      (old : Option (List ℕ)) (ran : Ran D W) (reported_of : Faults)
      → node_of scheme shared.setting ≡ node → StandsAt node (decoded_in node (areas_in device store)) shared.begun
      → KeepsStatesIn node (areas_in device store) (areas_of device (journal_of first)) → settled_in first ≡ [] → old ≡ contents writer → ran.ending ≡ ending_of reported_of
      → IfSome ran.store (λ left. IfSome ran.writer (λ later. HasWritten (AreSettled scheme device shared first left) (reported_of.output ≡ false) old (contents later)))
      → (ran.writer ≡ None → (reported_of.output ≡ false) × (reported_of.memory ≡ true))
      → GivesOnly node device contents store writer ran
  gives_only {W} contents shared node store first writer old ran reported_of of_node begins kept_all none same ends given lost = record {
    written = by ran.store ran.writer given;
    lost = λ gone. let it = lost gone in subst IsOfLoss (sym ends) (is_of_loss reported_of it.0 it.1);
  }
    where
      by : (left : Option (Store D)) (back : Option W)
          → IfSome left (λ left. IfSome back (λ later. HasWritten (AreSettled scheme device shared first left) (reported_of.output ≡ false) old (contents later)))
          → IfSome left (λ left. IfSome back (λ later. HasWritten (NoneOrOnDisk node device store left) (is_all_written ran.ending ≡ true) (contents writer) (contents later)))
      by None back given = tt
      by (Some left) None given = tt
      by (Some left) (Some later) given = subst (λ (o : Option (List ℕ)). HasWritten (NoneOrOnDisk node device store left) (is_all_written ran.ending ≡ true) o (contents later)) same
          (written_weaker (AreSettled scheme device shared first left) (NoneOrOnDisk node device store left) (reported_of.output ≡ false) (is_all_written ran.ending ≡ true) old (contents later)
          (on_disk shared node store first left of_node begins kept_all none) (λ whole. wrote_all reported_of (subst (λ (e : Ending). is_all_written e ≡ true) ends whole)) given)

-- nothing was written
pub gives_nothing : {D W : Type 0} (node : Node) (device : Device D) (contents : W → Option (List ℕ)) (store : Store D) (writer : W) (ran : Ran D W)
    → (ran.writer ≡ Some writer) ⊎ ((ran.writer ≡ None) × (ran.ending ≡ ends.Memory)) → GivesOnly node device contents store writer ran
gives_nothing {D} {W} node device contents store writer ran back = record {
  written = by ran.store ran.writer back;
  lost = λ gone. elim back [ inl same ↦ absurd (none-some writer (sym gone ∙ same)) | inr none ↦ inl none.1 ];
}
  where
    by : (left : Option (Store D)) (given : Option W) → (given ≡ Some writer) ⊎ ((given ≡ None) × (ran.ending ≡ ends.Memory))
        → IfSome left (λ left. IfSome given (λ later. HasWritten (NoneOrOnDisk node device store left) (is_all_written ran.ending ≡ true) (contents writer) (contents later)))
    by None given back = tt
    by (Some left) None back = tt
    by (Some left) (Some later) (inl same) = subst
        (λ (w : W). HasWritten (NoneOrOnDisk node device store left) (is_all_written ran.ending ≡ true) (contents writer) (contents w)) (sym (some_is later writer same))
        (wrote_nothing (NoneOrOnDisk node device store left) (is_all_written ran.ending ≡ true) (contents writer) (inl refl))
    by (Some left) (Some later) (inr none) = absurd (none-some later (sym none.0))

-- a member whom a number names ran
pub run_as : {O D W : Type 0} (scheme : Scheme Key) (device : Device D) (contents : W → Option (List ℕ))
    (named : Option O) (bytes_of : O → List ℕ) (config : ConfigView Key) (store : Store D) (every : ℕ) (writer : W) (ran : Ran D W) (text : List ℕ)
    → IfSome named (λ own. IsConfigOf text (bytes_of own) config)
    → AreTwo store → RunsOver (node_of scheme config) device store every ran.ending ran.store → GivesOnly (node_of scheme config) device contents store writer ran
    → IfSome named (λ own. (RefusesOpening (bytes_of own) ran.ending × (ran.writer ≡ Some writer)) ⊎ RunsAs scheme device contents (bytes_of own) every writer ran)
run_as scheme device contents None bytes_of config store every writer ran text is_of two runs gives = tt
run_as scheme device contents (Some own) bytes_of config store every writer ran text is_of two runs gives =
    inr (record { text = text; config = config; is_of = is_of; store = store; two = two; runs = runs; gives = gives })
