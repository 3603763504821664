-- What a stop may leave of a journal's disks, whether it is on one disk or on two.
use Rattle.diskmodel.specs.Disk.{AtEachMoment, Device}
use Rattle.journal.specs.Areas.{Areas, alone, pair}
use Rattle.journal.specs.declared.store.Store.{Store}
use Rattle.journal.specs.declared.store.Store.TheVariants.{One, Two}
use Rattle.opening.specs.Stages.{InStages}

-- if the machine stops now, it may leave these areas of the disks: each area is one of the outcomes of its disk
abbrev pub MayBeLeft : {D : Type 0} → Device D → Store D → Areas → Type 0
MayBeLeft device (One disk) (alone left) = device.outcome disk left
MayBeLeft device (Two first second) (pair one other) = device.outcome first one × device.outcome second other
MayBeLeft device store areas = ⊥

-- Whatever areas a stop may leave, at any moment while the old disks become the new ones, have the property P. For two disks this is stated
-- in stages, since the calls on each of them have moments of their own.
abbrev pub AtEachMomentOn : {D : Type 0} → Device D → (Areas → Type 0) → Store D → Store D → Type 0
AtEachMomentOn device P (One old) (One new) = AtEachMoment device old new (λ left. P (alone left))
AtEachMomentOn device P (Two first second) (Two now also) = InStages device (λ one other. P (pair one other)) (first, second) (now, also)
AtEachMomentOn device P old new = ⊥
