-- A checkpoint, whatever it answers, leaves a journal on two disks.
use Rattle.std.proofs.Common.{Result, Ok, Err}
use Rattle.std.specs.Prelude.{IsSome, OnOk, OnErr}
use Rattle.journal.specs.Journal.{spare_of}
use Rattle.journal.specs.Pairs.{HaveChangedPlaces, HaveKeptPlaces}
use Rattle.journal.specs.declared.journal.Journal.{Journal}

pub pair_kept : {D T E : Type 0} (old new : Journal D) (result : Result T E) → OnOk result (HaveChangedPlaces old new) → OnErr result (HaveKeptPlaces old new) → IsSome (spare_of new)
pair_kept old new (Ok given) changed kept = changed.pair
pair_kept old new (Err error) changed kept = kept.pair
