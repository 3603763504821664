-- Which of the next calls of a disk in memory will fail, since a test has set them to.
use Rattle.std.specs.Prelude.{ℕ, ◌-◌, nat_lt, List, [], ◌∷◌, ◌++◌, map}
use Rattle.std.specs.List.{filter}
use Rattle.diskmodel.specs.declared.call.CallKind.{CallKind}
use Rattle.diskmodel.specs.declared.call.CallKind.TheVariants.{Read, Write, Cut, Sync}
use Rattle.diskmodel.specs.declared.countdowns.Countdowns.{Countdowns}

-- for each kind of call, which of the next calls will fail, as numbers: 1 is the next call of this kind. With an empty list none fails
pub record Counts : Type 0 where
  pub read : List ℕ
  pub write : List ℕ
  pub cut : List ℕ
  pub sync : List ℕ

-- no call is set to fail
abbrev pub no_counts : Counts
no_counts = record { read = []; write = []; cut = []; sync = [] }

-- the numbers in a value of the running type `Countdowns`
abbrev pub counts_of : Countdowns → Counts
counts_of kept = record { read = kept.read.items; write = kept.write.items; cut = kept.cut.items; sync = kept.sync.items }

-- the numbers for this kind of call
abbrev pub counts_for : Counts → CallKind → List ℕ
counts_for counts Read = counts.read
counts_for counts Write = counts.write
counts_for counts Cut = counts.cut
counts_for counts Sync = counts.sync

-- the same numbers, except that those for one kind of call are now these
abbrev pub with_counts : Counts → CallKind → List ℕ → Counts
with_counts counts Read now = record counts { read = now }
with_counts counts Write now = record counts { write = now }
with_counts counts Cut now = record counts { cut = now }
with_counts counts Sync now = record counts { sync = now }

-- the numbers after a test has set one more call to fail: the one that comes as the `count`-th of its kind from now on
abbrev pub reporting : Counts → CallKind → ℕ → Counts
reporting counts call count = with_counts counts call (counts_for counts call ++ count ∷ [])

-- each number is lowered by 1, and those that reach 0 are removed
abbrev pub lowered : List ℕ → List ℕ
lowered counts = filter (λ count. nat_lt 0 count) (map (λ count. count - 1) counts)

-- the numbers after a call of this kind was made
abbrev pub counting : Counts → CallKind → Counts
counting counts call = with_counts counts call (lowered (counts_for counts call))
