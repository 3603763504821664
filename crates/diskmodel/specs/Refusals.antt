-- When an allocation for a list of a disk in memory counts as failed.
use Rattle.std.specs.Prelude.{◌≡◌, ℕ, ◌+◌, ◌<◌, ◌≤◌, max}
use Rattle.diskmodel.specs.declared.refusals.Refusals.{Refusals}

-- one more allocation has failed: some list needed room for more elements than it had spare, but for `most` at the most
pub record IsRefused (most : ℕ) (old new : Refusals) : Type 0 where
  pub once : new.count.count ≡ old.count.count + 1
  pub missing : new.spare < new.wanted
  pub at_most : new.wanted ≤ most

-- The greatest number of elements for which a call over `count` bytes may need room in a list: the bytes themselves, or two entries in the
-- record of calls (the call, and a stop after it).
abbrev pub room_for : ℕ → ℕ
room_for count = max count 2
