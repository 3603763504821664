-- What a rewriting does to the spare disk of a journal, and to the disk that is read.
use Rattle.std.specs.Prelude.{◌≡◌, ◌+◌, Result, Ok, Err}
use Rattle.journal.specs.declared.spare.Spare.{Spare}
use Rattle.journal.specs.declared.side.Side.{Side}
use Rattle.journal.specs.declared.side.Side.TheVariants.{First, Second}
use Rattle.journal.specs.Areas.{other_side}

-- the disk that was read is the spare disk now; the other disk is read, and its generation is the next one
pub record HasSwapped {D : Type 0} (old new : Spare D) (live : D) : Type 0 where
  pub disk : new.disk ≡ live
  pub side : new.side ≡ other_side old.side
  pub generation : new.generation ≡ old.generation + 1

-- the disk that is read, its side and its generation are as before
pub record HasKept {D : Type 0} (old new : Spare D) (was now : D) : Type 0 where
  pub live : now ≡ was
  pub side : new.side ≡ old.side
  pub generation : new.generation ≡ old.generation

-- the disk that a rewriting wrote, or tried to write: after success the one that is read, after an error still the spare one
abbrev pub written_disk : {D T E : Type 0} → Result T E → Spare D → D → D
written_disk (Ok given) spare live = live
written_disk (Err error) spare live = spare.disk

-- two disks in the order of their areas, given the one that is read and its side, and the spare one
abbrev pub by_area : {D : Type 0} → Side → D → D → D × D
by_area First live other = (live, other)
by_area Second live other = (other, live)
