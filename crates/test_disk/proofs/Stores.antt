-- A journal that was opened on two disks has both.
use Rattle.std.proofs.Common.{◌≡◌, true, false}
use Rattle.std.specs.Prelude.{IsSome, IsTrue}
use Rattle.diskmodel.specs.Disk.{Device}
use Rattle.journal.specs.Journal.{spare_of}
use Rattle.journal.specs.declared.journal.Journal.{Journal}
use Rattle.journal.specs.declared.store.Store.{Store}
use Rattle.journal.specs.declared.store.Store.TheVariants.{One, Two}
use Rattle.opening.specs.Laws.{IsReadIn}
use Rattle.spec_model.specs.Nodes.{Node}
use Rattle.test_disk.specs.Stores.{has_two}

pub has_both : {D : Type 0} (device : Device D) (node : Node) (store : Store D) (journal : Journal D) → IsReadIn node device store journal
    → IsTrue (has_two store) → IsSome (spare_of journal)
has_both device node (One disk) journal read two = absurd (let bad : false ≡ true = two in cc)
has_both device node (Two first second) journal read two = read.0
