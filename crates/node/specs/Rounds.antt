-- What a round or a checkpoint of the flusher does, stated for a journal on one disk or on two.
use Rattle.std.specs.Prelude.{◌≡◌, ◌⊎◌, ◌↔◌, ℕ, Result, IsErrOf, IsSome, OnOk, OnErr}
use Rattle.flusher.specs.declared.FlushError.{FlushError}
use Rattle.flusher.specs.declared.FlushError.TheVariants.{Memory, Device, Down}
use Rattle.diskmodel.specs.Disk.{Device as Disks, ReportsFault}
use Rattle.flusher.specs.Rounds.{journal_of, settled_in, taken_in, HoldsEither, KeepsEarlier}
use Rattle.flusher.specs.declared.flusher.Flusher.{Flusher}
use Rattle.journal.specs.Journal.{spare_of}
use Rattle.journal.specs.Pairs.{areas_of, store_of}
use Rattle.journal.specs.Stores.{faults_in}
use Rattle.node_shared.specs.Home.{NodeView}
use Rattle.sigface.specs.Scheme.{Scheme}
use Rattle.wire.specs.Lists.{Begins}
use Rattle.node.specs.Disks.{AtEachMomentOn}

-- A round or a checkpoint takes what was settled before it, followed by further events or none. If it succeeds, all that it took is settled
-- afterwards. If it fails, the same events are settled as before.
pub record Flushes {S D : Type 0} (scheme : Scheme S) (device : Disks D) (node : NodeView S) (before later : Flusher D) (result : Result ℕ FlushError) : Type 0 where
  pub takes : IsErrOf result Down ⊎ Begins (settled_in before) (taken_in later)
  pub settled : OnOk result (settled_in later ≡ taken_in later)
  pub not_settled : OnErr result (settled_in later ≡ settled_in before)
  -- where an allocation fails, the call takes nothing, and the journal is unchanged
  pub memory : IsErrOf result Memory → (journal_of later ≡ journal_of before) × (taken_in later ≡ settled_in before)
  -- a stop at any moment of the call leaves on the disks what was settled before the call, or what the call took
  pub any_moment : IsErrOf result Down
      ⊎ AtEachMomentOn device (HoldsEither scheme node (settled_in before) (taken_in later) (areas_of device (journal_of before))) (store_of (journal_of before)) (store_of (journal_of later))
  -- if the journal had some state followed by what was settled before the call, it now has the same state followed by what is settled now
  pub earlier : OnOk result (KeepsEarlier scheme node (settled_in before) (settled_in later) (areas_of device (journal_of before)) (areas_of device (journal_of later)))
  -- the error is Device exactly if a device call failed on one of the disks
  pub cause : ReportsFault Device (faults_in device (store_of (journal_of before))) (faults_in device (store_of (journal_of later))) result
  -- the journal stays on the same number of disks
  pub disks : IsSome (spare_of (journal_of later)) ↔ IsSome (spare_of (journal_of before))
