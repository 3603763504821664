-- A desk that is opened.
use Rattle.std.proofs.Common.{◌≡◌, ◌≢◌, ℕ, ◌<◌, ◌≤◌, ◌^◌, false, inl, inr, List, [], ◌∷◌, Result, Ok, Err, refl, sym, ap, ◌∙◌, subst}
use Rattle.std.specs.Prelude.{Option, Some, None, IsSome}
use Rattle.journal.specs.declared.spare.Spare.{Spare}
use Rattle.admission.specs.declared.tables.Tables.{Tables}
use Rattle.book.specs.Book as book
use Rattle.diskmodel.specs.Disk.{Device, AtEachMoment}
use Rattle.journal.specs.Areas.{Areas, alone, pair, stands_in}
use Rattle.journal.specs.Journal.{disk_of, spare_of, IsAlive}
use Rattle.journal.specs.Pairs.{areas_of, areas_in, generation_in, store_of}
use Rattle.journal.specs.Stores.{faults_in}
use Rattle.journal.specs.declared.store.Store.{Store}
use Rattle.journal.specs.declared.store.Store.TheVariants.{One, Two}
use Rattle.journal.specs.declared.error.JournalError.{JournalError}
use Rattle.journal.specs.declared.error.JournalError.TheVariants as errors
use Rattle.journal.specs.declared.record.Record.{Record}
use Rattle.journal.specs.declared.version.Version.{Version}
use Rattle.journal.specs.declared.version.Version.TheVariants.{First, Second}
use Rattle.journal.specs.declared.journal.Journal.{Journal}
use Rattle.journal.specs.declared.error.Failed.{Failed}
use Rattle.opening.specs.Laws.{HoldsIn, IsReadIn, IsFullIn, IsNoRefusal, KeepsAlone, IsOpening, IsOpeningOn}
use Rattle.opening.specs.Stages.{IsDecodedThroughout}
use Rattle.opening.proofs.Opened.{no_refusal}
use Rattle.opening.specs.PairReplayed.{version_in}
use Rattle.opening.specs.Renewing.{HasBegun, IsNewest}
use Rattle.opening.specs.Decoded.{decoded, decoded_in, Reports, IsDecodedAsOneOf, KeepsRecords, StandsAt}
use Rattle.spec_machine.proofs.AfterAll.{after_none}
use Rattle.spec_model.specs.Nodes.{Node, IsNode}
use Rattle.spec_world.specs.Runs.{AreKeys}
use Rattle.spec_model.specs.States.{State}
use Rattle.sigface.specs.Scheme.{Scheme}
use Rattle.spec_world.specs.World.{Holds, IsPair}
use Rattle.validator.specs.Setting.{ConfigView, node_of}
use Rattle.validator.specs.Standing.{AreAtSound}
use Rattle.desk.specs.Desk.{DeskView, IsOpened, IsNotOpened}
use Rattle.desk.specs.Disks.{AreReadAs, IsOnAsMany}
use Rattle.desk.proofs.Reading.{over, areas_over, areas_alone, as_decoded, decoded_of, configured_in}
use Rattle.desk.proofs.Standing.{left_durable}

-- the validator of an opening stands at some state of its own setting
pub set_at : {S : Type 0} (scheme : Scheme S) {read : Result State JournalError} {own setting : ConfigView S} {tables : Tables} → own ≡ setting
    → StandsAt (node_of scheme setting) read tables → (state : State) × AreAtSound (node_of scheme own) tables state
set_at scheme {tables = tables} same at = (at.state, subst (λ (s : ConfigView _). AreAtSound (node_of scheme s) tables at.state) (sym same) at.at)

-- a new book over what an opening gives
pub opened_of : {S D : Type 0} (node : Node) (device : Device D) (before : Areas) (tables : Tables) (one : book.BookView S) (journal : Journal D) → StandsAt node (decoded_in node before) tables
    → ((base : State) → AreAtSound node tables base → book.Stands node (book.run_on base) one)
    → one.queue ≡ [] → one.down ≡ false → one.rewriting ≡ None → generation_in journal < 2 ^ 64 → IsAlive device journal → HasBegun device journal → IsOnAsMany before journal
    → stands_in (areas_of device journal) ≢ Ok [] → decoded_in node (areas_of device journal) ≡ decoded_in node before
    → ((state : State) → decoded_in node (areas_of device journal) ≡ Ok state → AreReadAs node (areas_of device journal) state)
    → IsOpened node device before (record { book = one; journal = journal })
opened_of node device before tables one journal at stands_at queue up free small alive begun disks configured same reads =
    let state : decoded_in node (areas_of device journal) ≡ Ok (book.settled_in node (book.run_on at.state)) = same ∙ at.is_read ∙ ap Ok (sym (after_none node at.state)) in
    let read_as : AreReadAs node (areas_of device journal) (book.settled_in node (book.run_on at.state)) = reads (book.settled_in node (book.run_on at.state)) state in
    record {
      state = at.state;
      decoded_first = at.is_read;
      up = up;
      alive = alive;
      begun = begun;
      disks = disks;
      generation = small;
      waits = queue;
      rewriting = free;
      is_of = record {
        stands_at = stands_at at.state at.at;
        up = λ _. record { configured = configured_in device journal alive begun configured; read_as = read_as; settled = refl };
        left = left_durable node device (book.run_on at.state) journal read_as alive;
      };
    }

ok_is : (one other : State) → ◌≡◌ {A = Result State JournalError} (Ok one) (Ok other) → one ≡ other
ok_is one other same = cc

-- two areas are those of a journal on two disks
two_of : {D : Type 0} (device : Device D) (spare : Option (Spare D)) (live : List ℕ) → IsPair (over device spare live) → IsSome spare
two_of device None live two = absurd two
two_of device (Some spare) live two = refl

-- what a journal is told as it is read as, where it is a journal at some state as which it is told
pub held_as : {D : Type 0} (node : Node) (device : Device D) (journal : Journal D) (tables : Tables) → HoldsIn node (areas_of device journal) tables
    → (IsSome (spare_of journal) → IsNewest (areas_of device journal)) → (state : State) → decoded_in node (areas_of device journal) ≡ Ok state → AreReadAs node (areas_of device journal) state
held_as node device journal tables held newest state is =
    as_decoded node state (areas_of device journal) is
    (subst (Holds node (areas_of device journal)) (ok_is held.state state (sym held.decoded_as ∙ is)) held.holds)
    (λ two. newest (two_of device (spare_of journal) (device.content (disk_of journal)) (subst IsPair (areas_over device journal) two)))

-- and of one disk by its bytes alone
pub decoded_as_one : {D : Type 0} (node : Node) (device : Device D) (journal : Journal D) → spare_of journal ≡ None
    → (state : State) → decoded_in node (areas_of device journal) ≡ Ok state → AreReadAs node (areas_of device journal) state
decoded_as_one {D} node device journal one state is =
    let are : areas_of device journal ≡ alone (device.content (disk_of journal)) = areas_alone device journal one in
    subst (λ (a : Areas). AreReadAs node a state) (sym are) (subst (λ (a : Areas). decoded_in node a ≡ Ok state) are is)

-- the bytes of one disk are told as they were
pub same_reported : {D : Type 0} (node : Node) (device : Device D) (journal : Journal D) → spare_of journal ≡ None → {read : Result State JournalError}
    → decoded node (device.content (disk_of journal)) ≡ read → decoded_in node (areas_of device journal) ≡ read
same_reported node device journal one same = ap (decoded_in node) (areas_alone device journal one) ∙ same

-- an opening says on how many disks it is
pub as_many : {D : Type 0} (node : Node) (device : Device D) (store : Store D) (journal : Journal D) → IsReadIn node device store journal → IsOnAsMany (areas_in device store) journal
as_many node device (One disk) journal is = is
as_many node device (Two first second) journal is = is.0

-- ---- a desk over a journal

module _ {S D : Type 0} (node : Node) (device : Device D) (desk : DeskView S D) (journal : Journal D) (same : desk.journal ≡ journal) where
  pub opened_desk : (before : Areas) → IsOpened node device before (record { book = desk.book; journal = journal }) → IsOpened node device before desk
  opened_desk before is = subst (λ (j : Journal D). IsOpened node device before (record { book = desk.book; journal = j })) (sym same) is

  pub opening_desk : {V : Type 0} (validator : V) (disk : D) → IsOpening {T = V × Journal D} node device (λ opened. disk_of opened.1) disk (Ok (validator, journal))
      → IsOpening {T = DeskView S D} node device (λ d. disk_of d.journal) disk (Ok desk)
  opening_desk validator disk at = record {
    reports = tt;
    never_full = tt;
    cause = (ap (λ (j : Journal D). device.faults (disk_of j)) same ∙ at.cause.0, tt);
    any_moment = subst (λ (j : Journal D). AtEachMoment device disk (disk_of j) (IsDecodedAsOneOf node (device.outcome disk))) (sym same) at.any_moment;
    keeps = subst (λ (j : Journal D). AtEachMoment device disk (disk_of j) (KeepsRecords node (device.outcome disk))) (sym same) at.keeps;
    never_refused = tt;
  }

  pub opening_desk_on : {V : Type 0} (validator : V) (store : Store D) → IsOpeningOn {T = V × Journal D} node device (λ opened. store_of opened.1) store (Ok (validator, journal))
      → IsOpeningOn {T = DeskView S D} node device (λ d. store_of d.journal) store (Ok desk)
  opening_desk_on validator store at = record {
    reports = tt;
    full = tt;
    cause = (ap (λ (j : Journal D). faults_in device (store_of j)) same ∙ at.cause.0, tt);
    any_moment = subst (λ (j : Journal D). IsDecodedThroughout node device store (store_of j)) (sym same) at.any_moment;
    keeps = subst (λ (j : Journal D). KeepsAlone node device store (store_of j)) (sym same) at.keeps;
    never_refused = tt;
    unchanged = tt;
  }

-- ---- what is never refused

-- a journal in the second version is in no other
not_first : (areas : Areas) (records : List Record) → stands_in areas ≡ Ok records → version_in records ≡ Some First → IsNewest areas → ⊥
not_first areas [] stands first newest = cc
not_first areas (one ∷ rest) stands first newest = two_versions (sym (newest one rest stands) ∙ first)
  where
    two_versions : ◌≡◌ {A = Option Version} (Some Second) (Some First) → ⊥
    two_versions same = cc

-- so no checkpoint of it is written by an opening, and lacks room
not_full : {D : Type 0} (node : Node) (device : Device D) (store : Store D) (state : State) → AreReadAs node (areas_in device store) state → IsFullIn node device store → ⊥
not_full node device (One disk) state is full = full
not_full node device (Two first second) state is full =
    not_first (pair (device.content first) (device.content second)) full.records full.stands_for full.version is.newest

-- what is read as a state is refused only where memory or a disk fails
pub never_refused : {D : Type 0} (node : Node) (device : Device D) (store : Store D) (state : State) (error : JournalError) → IsNode node → AreKeys node
    → AreReadAs node (areas_in device store) state → (error ≢ errors.Device → error ≢ errors.Full → Reports error (decoded_in node (areas_in device store)))
    → (error ≡ errors.Full → IsFullIn node device store) → IsNoRefusal error
never_refused node device store state error sound keys is reports full =
    no_refusal error state (decoded_in node (areas_in device store)) (decoded_of node state (areas_in device store) sound (λ two. keys) is)
    (λ other. reports other (λ lacks. not_full node device store state is (full lacks)))

-- an opening that failed
pub not_opened_of : {T D : Type 0} (node : Node) (device : Device D) (disk_in : T → D) (disk : D) (failed : Failed JournalError D)
    → IsOpening node device disk_in disk (Err failed)
    → ((one : D) (t : ℕ) (c : List ℕ) → t ≤ device.clock one → device.outcome one c → device.outcome_since one t c)
    → IsNotOpened node failed.error (device.content disk) (device.outcome disk) (device.outcome failed.disk)
not_opened_of node device disk_in disk failed at counts = record {
  reports = at.reports;
  never_full = at.never_full;
  left = λ found left. at.any_moment.each found (counts failed.disk (device.clock disk) found at.any_moment.later left);
  keeps = λ found left. at.keeps.each found (counts failed.disk (device.clock disk) found at.keeps.later left);
}

-- a book that stands at a run that has done nothing has taken what it settled
pub nothing_taken : {S : Type 0} (node : Node) (base : State) (one : book.BookView S) → book.Stands node (book.run_on base) one → one.taken ≡ one.settled
nothing_taken node base one at = at.taken ∙ sym at.settled

-- an opening that failed after a stop of the machine
pub stopped_of : (node : Node) (error : JournalError) (found : List ℕ) (before possible left : List ℕ → Type 0)
    → ((bytes : List ℕ) → possible bytes → before bytes) → IsNotOpened node error found possible left → IsNotOpened node error found before left
stopped_of node error found before possible left fewer one = record {
  reports = one.reports;
  never_full = one.never_full;
  left = λ bytes may. let is = one.left bytes may in (is.0, fewer is.0 is.1, is.2);
  keeps = λ bytes may. elim (one.keeps bytes may) [ inl is ↦ inl (fewer bytes is) | inr is ↦ inr (is.0, fewer is.0 is.1, is.2) ];
}
