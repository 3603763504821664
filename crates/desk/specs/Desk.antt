-- A desk, which is a node of one owner: what contracts see of it, and to which run it belongs.
use Rattle.std.specs.Prelude.{◌≡◌, ◌≢◌, ◌⊎◌, ◌<◌, ◌^◌, ℕ, false, List, [], None, Ok}
use Rattle.diskmodel.specs.Disk.{Device}
use Rattle.book.specs.Book as book
use Rattle.journal.specs.Areas.{Areas}
use Rattle.journal.specs.Format.{stands}
use Rattle.journal.specs.Journal.{disk_of, IsAlive}
use Rattle.journal.specs.Pairs.{areas_of, generation_in}
use Rattle.journal.specs.declared.error.JournalError.{JournalError}
use Rattle.journal.specs.declared.error.JournalError.TheVariants as errors
use Rattle.journal.specs.declared.error.JournalError.TheVariants.{Full}
use Rattle.journal.specs.declared.journal.Journal.{Journal}
use Rattle.opening.specs.Renewing.{HasBegun}
use Rattle.opening.specs.Decoded.{decoded, decoded_in, Reports, IsDecodedAsOneOf, KeepsRecords}
use Rattle.spec_machine.specs.After.{after_all}
use Rattle.spec_model.specs.Nodes.{Node}
use Rattle.spec_model.specs.States.{State}
use Rattle.desk.specs.Disks.{AreReadAs, MayLeave, IsOnAsMany}

-- what contracts see of a desk: its book and its journal
pub record DeskView (S D : Type 0) : Type 0 where
  pub book : book.BookView S
  pub journal : Journal D

-- while a desk is up, groups can be appended to its journal, which has its first group; and no group is in flight
pub record IsSound {S D : Type 0} (device : Device D) (desk : DeskView S D) : Type 0 where
  pub alive : desk.book.down ≡ false → IsAlive device desk.journal
  pub begun : desk.book.down ≡ false → HasBegun device desk.journal
  pub settled : desk.book.down ≡ false → desk.book.taken ≡ desk.book.settled

-- the state after all events that a run took for the disk
abbrev pub taken_in : Node → book.Run → State
taken_in node run = after_all node run.base run.taken

-- While a desk is up, its disks have the node's configuration, and decode to the state after the settled events. All events that were taken
-- are settled.
pub record IsUp {D : Type 0} (node : Node) (device : Device D) (run : book.Run) (journal : Journal D) : Type 0 where
  pub configured : stands (device.content (disk_of journal)) ≢ Ok []
  pub read_as : AreReadAs node (areas_of device journal) (book.settled_in node run)
  pub settled : run.taken ≡ run.settled

-- whatever a stop leaves of a desk's disks decodes to the state after the settled events, or to that after all events that were taken
abbrev pub IsLeft : {D : Type 0} → Node → Device D → book.Run → Journal D → Type 0
IsLeft node device run journal = (areas : Areas) → MayLeave device journal areas → AreReadAs node areas (book.settled_in node run) ⊎ AreReadAs node areas (taken_in node run)

-- A desk belongs to a run: its book stands at the run, and its disks have what is settled. After the desk went down, a stop may leave the
-- disks with or without what was in flight.
pub record IsOf {S D : Type 0} (node : Node) (device : Device D) (run : book.Run) (desk : DeskView S D) : Type 0 where
  pub stands_at : book.Stands node run desk.book
  pub up : desk.book.down ≡ false → IsUp node device run desk.journal
  pub left : IsLeft node device run desk.journal

-- A desk was opened on these areas: its run begins with the state that they decode to, on as many disks; no output waits, and no rewriting
-- is in flight.
pub record IsOpened {S D : Type 0} (node : Node) (device : Device D) (before : Areas) (desk : DeskView S D) : Type 0 where
  pub state : State
  pub decoded_first : decoded_in node before ≡ Ok state
  pub up : desk.book.down ≡ false
  pub alive : IsAlive device desk.journal
  pub begun : HasBegun device desk.journal
  pub disks : IsOnAsMany before desk.journal
  pub generation : generation_in desk.journal < 2 ^ 64
  pub waits : desk.book.queue ≡ []
  pub rewriting : desk.book.rewriting ≡ None
  pub is_of : IsOf node device (book.run_on state) desk

-- A node on one disk could not be opened. The error says what is wrong with the bytes, unless an allocation or the disk failed. What a stop
-- leaves decodes to the same as some outcome from before; it is such an outcome byte for byte, or has the records of one, or only the
-- configuration if that had no records.
pub record IsNotOpened (node : Node) (error : JournalError) (before : List ℕ) (possible outcome : List ℕ → Type 0) : Type 0 where
  pub reports : error ≢ errors.Device → Reports error (decoded node before)
  pub never_full : error ≢ Full
  pub left : (bytes : List ℕ) → outcome bytes → IsDecodedAsOneOf node possible bytes
  pub keeps : (bytes : List ℕ) → outcome bytes → KeepsRecords node possible bytes
