-- A book and a journal after an opening.
use Rattle.std.proofs.Common.{◌≡◌, ◌≢◌, ℕ, ◌≤◌, inl, inr, List, [], ◌∷◌, Result, Ok, Err, refl, sym, ap, ◌∙◌, subst}
use Rattle.diskmodel.specs.Disk.{Device}
use Rattle.journal.specs.Areas.{Areas, alone, pair}
use Rattle.journal.specs.Pairs.{areas_in}
use Rattle.journal.specs.declared.error.Failed.{Failed}
use Rattle.journal.specs.declared.store.Store.{Store}
use Rattle.journal.specs.declared.store.Store.TheVariants.{One, Two}
use Rattle.journal.specs.declared.error.JournalError.{JournalError}
use Rattle.journal.specs.declared.error.JournalError.TheVariants as errors
use Rattle.journal.specs.declared.journal.Journal.{Journal}
use Rattle.spec_model.specs.Nodes.{Node}
use Rattle.spec_model.specs.States.{State}
use Rattle.spec_world.specs.Text.{Desk, desk_on, settled_in, stop, after}
use Rattle.book.specs.Book.{BookView}
use Rattle.recovery.specs.Faults.{ended_by}
use Rattle.opening.specs.Laws.{IsNoRefusal, IsFullIn, KeepsAlone, IsOpeningOn}
use Rattle.opening.specs.Stages.{AreStages, IsDecodedAsBoth, IsDecodedThroughout}
use Rattle.recovery.specs.Script.{is_two, IsOf, IsOpenedOf, IsFull, IsNotOpened, MayEnd, Breaks}
use Rattle.opening.specs.Decoded.{decoded_in, KeepsRecords}
use Rattle.recovery.specs.declared.driving.DriveError.{DriveError}
use Rattle.recovery.specs.declared.driving.DriveError.TheVariants as ends
use Rattle.recovery.specs.declared.driving.DriveError.TheVariants.{Full}
use Rattle.desk.specs.Desk as desks
use Rattle.desk.specs.Disks.{Leaves, HaveStopped}
use Rattle.spec_world.specs.Runs.{AreKeys}

pub ok_is : (one other : State) → ◌≡◌ {A = Result State JournalError} (Ok one) (Ok other) → one ≡ other
ok_is one other same = cc

-- a script ends as full only where the journal is full
pub only_full : (cause : JournalError) → ended_by cause ≡ Full → cause ≡ errors.Full
only_full errors.Memory same = absurd (cc)
only_full errors.Device same = absurd (cc)
only_full (errors.Damaged place) same = absurd (cc)
only_full errors.ConfigMismatch same = absurd (cc)
only_full errors.Full same = refl

-- and so it is with the disk's error
pub only_device : (cause : JournalError) → ended_by cause ≡ ends.Device → cause ≡ errors.Device
only_device errors.Memory same = absurd (cc)
only_device errors.Device same = refl
only_device (errors.Damaged place) same = absurd (cc)
only_device errors.ConfigMismatch same = absurd (cc)
only_device errors.Full same = absurd (cc)

after_stop : (node : Node) (desk : Desk) → after node desk stop ≡ desk_on (settled_in node desk)
unfolding after
after_stop node desk = refl

module _ {S D : Type 0} (node : Node) (device : Device D) (keys : AreKeys node) where
  -- a desk that was opened is one that has done nothing
  pub opened_of : (before : Areas) (desk : desks.DeskView S D) → desks.IsOpened node device before desk → IsOpenedOf node device before desk.book desk.journal
  opened_of before desk opened =
      let up = opened.is_of.up opened.up in
      record {
        state = opened.state;
        decoded_first = opened.decoded_first;
        is_of = record {
          stands_at = opened.is_of.stands_at;
          waits = opened.waits;
          up = opened.up;
          alive = opened.alive;
          begun = opened.begun;
          keys = keys;
          configured = up.configured;
          read_as = up.read_as;
        };
      }

module _ {S D : Type 0} (node : Node) (device : Device D) (desk : Desk) (before : Areas) (is : decoded_in node before ≡ Ok (settled_in node desk)) where
  -- what is settled begins the next run
  pub stopped_of : (book : BookView S) (journal : Journal D) → IsOpenedOf node device before book journal → IsOf node device (after node desk stop) book journal
  stopped_of book journal opened =
      let same : opened.state ≡ settled_in node desk = ok_is opened.state (settled_in node desk) (sym opened.decoded_first ∙ is) in
      subst (λ (d : Desk). IsOf node device d book journal) (ap desk_on same ∙ sym (after_stop node desk)) opened.is_of

-- where nothing is refused a stop ends for want of memory, or by a fault of the disk
ends_stop : (cause : JournalError) → IsNoRefusal cause → MayEnd stop (ended_by cause)
ends_stop cause (inl device) = subst (λ (e : JournalError). MayEnd stop (ended_by e)) (sym device) tt
ends_stop cause (inr memory) = subst (λ (e : JournalError). MayEnd stop (ended_by e)) (sym memory) tt

-- and for want of no room
never_lacks : (cause : JournalError) → IsNoRefusal cause → cause ≡ errors.Full → ⊥
never_lacks cause (inl device) full = two_errors (sym device ∙ full)
  where
    two_errors : errors.Device ≡ errors.Full → ⊥
    two_errors same = cc
never_lacks cause (inr memory) full = two_errors (sym memory ∙ full)
  where
    two_errors : errors.Memory ≡ errors.Full → ⊥
    two_errors same = cc

-- ---- an opening that failed

-- a journal on as many disks is handed back
pub same_disks : {D : Type 0} (node : Node) (device : Device D) (old new : Store D) → IsDecodedThroughout node device old new → is_two new ≡ is_two old
same_disks node device (One old) (One new) is = refl
same_disks node device (One old) (Two now also) is = absurd is
same_disks node device (Two first second) (One new) is = absurd is
same_disks node device (Two first second) (Two now also) is = refl

-- what may be left at the end of an opening is told as what might have been left before it
module _ {D : Type 0} (node : Node) (device : Device D) (counts : (one : D) (t : ℕ) (c : List ℕ) → t ≤ device.clock one → device.outcome one c → device.outcome_since one t c) where
  left_both : (first second now also : D) (old : D × D) (states : List (D × D)) → AreStages device (IsDecodedAsBoth node device (first, second)) old states (now, also)
      → (one other : List ℕ) → device.outcome now one → device.outcome also other → IsDecodedAsBoth node device (first, second) one other
  left_both first second now also old [] stage one other may might =
      stage.first.each one (counts now (device.clock old.0) one stage.first.later may) other (counts also (device.clock old.1) other stage.second.later might)
  left_both first second now also old (mid ∷ more) stages one other may might = left_both first second now also mid more stages.1 one other may might

  pub left_after : (old new : Store D) → IsDecodedThroughout node device old new → (areas : Areas) → Leaves device new areas
      → (first : Areas) × Leaves device old first × (decoded_in node areas ≡ decoded_in node first)
  left_after (One old) (One new) is (alone left) may =
      let first = is.each left (counts new (device.clock old) left is.later may) in (alone first.0, first.1, first.2)
  left_after (One old) (One new) is (pair one other) may = absurd may
  left_after (One old) (Two now also) is areas may = absurd is
  left_after (Two first second) (One new) is areas may = absurd is
  left_after (Two first second) (Two now also) is (alone left) may = absurd may
  left_after (Two first second) (Two now also) is (pair one other) may =
      let both = left_both first second now also (first, second) is.0 is.1 one other may.0 may.1 in (pair both.0 both.1, (both.2, both.3), both.4)

  -- of one disk it keeps the records
  kept_after : (old new : Store D) → KeepsAlone node device old new → (bytes : List ℕ) → Leaves device new (alone bytes) → KeepsRecords node (λ one. Leaves device old (alone one)) bytes
  kept_after (One old) (One new) is bytes may = is.each bytes (counts new (device.clock old) bytes is.later may)
  kept_after (One old) (Two now also) is bytes may = absurd may
  kept_after (Two first second) (One new) is bytes may = absurd is
  kept_after (Two first second) (Two now also) is bytes may = absurd may

  -- the areas are full where the disks are
  full_areas : (store : Store D) → IsFullIn node device store → IsFull node (areas_in device store)
  full_areas (One disk) full = full
  full_areas (Two first second) full = full

  pub not_opened_of : {T : Type 0} (disks_in : T → Store D) (store : Store D) (failed : Failed JournalError (Store D)) (error : DriveError) → error ≡ ended_by failed.error
      → IsOpeningOn node device disks_in store (Err failed) → IsNotOpened node error (areas_in device store) (Leaves device store) (Leaves device failed.disk)
  not_opened_of disks_in store failed error is at = record {
    cause = failed.error;
    is = is;
    reports = at.reports;
    full = λ full. full_areas store (at.full full);
    left = left_after store failed.disk at.any_moment;
    keeps = kept_after store failed.disk at.keeps;
  }

  -- A stop after which the node isn't opened: what it left is told as what is settled, which no opening refuses.
  pub stop_breaks : {T : Type 0} (desk : Desk) (disks_in : T → Store D) (store stopped : Store D) (failed : Failed JournalError (Store D)) (error : DriveError) → error ≡ ended_by failed.error
      → HaveStopped device store stopped → ((areas : Areas) → Leaves device store areas → decoded_in node areas ≡ Ok (settled_in node desk))
      → IsNoRefusal failed.error → IsOpeningOn node device disks_in stopped (Err failed) → Breaks node desk stop error (areas_in device failed.disk) (Leaves device failed.disk)
  stop_breaks desk disks_in store stopped failed error is have only no_refusal at = record {
    left = λ areas may. let one = left_after stopped failed.disk at.any_moment areas may in inl (one.2 ∙ only one.0 (have.outcomes one.0 one.1));
    errors = subst (MayEnd stop) (sym is) (ends_stop failed.error no_refusal);
    full = λ same. absurd (never_lacks failed.error no_refusal (only_full failed.error (sym is ∙ same)));
  }

-- as many disks as had stopped
pub stopped_disks : {D : Type 0} (device : Device D) (before later : Store D) → HaveStopped device before later → is_two later ≡ is_two before
stopped_disks device (One old) (One new) have = refl
stopped_disks device (One old) (Two now also) have = absurd have.content
stopped_disks device (Two first second) (One new) have = absurd have.content
stopped_disks device (Two first second) (Two now also) have = refl
