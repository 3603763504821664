-- What a stop of the machine may leave of a disk, by five rules over the calls so far.
--   1. Bytes that weren't written or cut since the last successful sync stay.
--   2. A byte that was written since then, or lies past the smallest length since then, may hold any
--      value after a stop.
--   3. The length after a stop is any between the smallest and the greatest since that sync.
--   4. After a successful sync what a read gives is the only outcome of a stop.
--   5. A stop may come inside a call: the outcomes are then those before it together with those
--      after it. After a stop reads give one of the outcomes, and the others stay until a sync.
-- `CanLeave` has rules 1 to 3, `after` says of the calls what makes rule 4 and the end of rule 5, and
-- `IsOutcomeSince` has its beginning.
use Rattle.std.specs.Prelude.{◌<◌, ◌≡◌, ℕ, ◌+◌, ◌≤◌, max, min, Bool, false, ◌&&◌, nat_le, nat_lt, List, [], ◌∷◌, ◌++◌, length, take, slice_index}
use Rattle.std.specs.List.{All, list_any}
use Rattle.std.proofs.Common.{arith, subst, sym}
use Rattle.std.proofs.lemmas.List.{take_all}
use Rattle.diskmodel.specs.Disk.{written}
use Rattle.diskmodel.specs.declared.call.Span.{Span}
use Rattle.diskmodel.specs.declared.call.Call.{Call}
use Rattle.diskmodel.specs.declared.call.Call.TheVariants.{Wrote, Cut, Synced, Stopped}

-- this place is one of those in the span
abbrev pub holds : Span → ℕ → Bool
holds span place = nat_le span.place place && nat_lt place (span.place + span.count)

-- this place is in one of these spans, which means that it was written
abbrev pub is_written : List Span → ℕ → Bool
is_written spans place = list_any (λ span. holds span place) spans

-- the state of a disk: all of its calls so far that the outcomes of a stop depend on
pub record State : Type 0 where
  -- the bytes at the last successful sync
  pub durable : List ℕ
  -- the smallest and the greatest length since the last successful sync
  pub smallest : ℕ
  pub greatest : ℕ
  -- the places that were written since the last successful sync
  pub spans : List Span
  -- the bytes that a read gives
  pub content : List ℕ

-- The state right after a sync, by rule 4: no place was written since, and the length of these bytes is the only one.
abbrev pub all_durable : List ℕ → State
all_durable bytes = record { durable = bytes; smallest = length bytes; greatest = length bytes; spans = []; content = bytes }

-- the state after `count` places from this one on were written
abbrev pub marked : State → ℕ → ℕ → State
marked s place count = record s { spans = s.spans ++ record { place = place; count = count } ∷ [] }

-- the state once a read gives these bytes; their length is one more of the lengths since the sync
abbrev pub giving : State → List ℕ → State
giving s bytes = record s { smallest = min s.smallest (length bytes); greatest = max s.greatest (length bytes); content = bytes }

-- The state after one more call. What a cut took away lies past the smallest length from then on, as rule 2 says. A stop makes no byte
-- durable and undoes no write: by rule 5 it changes what a read gives, and nothing else. So the outcomes stay the same until a sync.
abbrev pub after : State → Call → State
after s (Wrote place bytes) = giving (marked s place (length bytes)) (written s.content place bytes)
after s (Cut len) = giving s (take len s.content)
after s Synced = all_durable s.content
after s (Stopped found) = record s { content = found }

-- the state after these calls, oldest first
abbrev pub after_all : State → List Call → State
after_all s [] = s
after_all s (call ∷ calls) = after_all (after s call) calls

-- the state of a disk that began with these bytes, all of them durable, after these calls
abbrev pub state : List ℕ → List Call → State
state first calls = after_all (all_durable first) calls

-- each of these numbers is a byte: below 256
abbrev pub AreBytes : List ℕ → Type 0
AreBytes numbers = All (λ number. number < 256) numbers

-- a stop at this state may leave the bytes `found`
pub record CanLeave (s : State) (found : List ℕ) : Type 0 where
  -- rule 1: a place below the smallest length that wasn't written since the sync keeps its byte
  pub stays : (place : ℕ) → place < s.smallest → is_written s.spans place ≡ false → slice_index found place ≡ slice_index s.durable place
  -- rule 2: every other place has some byte
  pub are_bytes : AreBytes found
  -- rule 3: its length is between the smallest and the greatest since the sync
  pub no_shorter : s.smallest ≤ length found
  pub no_longer : length found ≤ s.greatest

-- a stop after these calls may leave the bytes `found`, on a disk that began with the bytes `first`
abbrev pub IsOutcome : List ℕ → List Call → List ℕ → Type 0
IsOutcome first calls found = CanLeave (state first calls) found

-- A stop at some moment after the first t of these calls may have left the bytes `found`. By rule 5 a stop inside a call leaves what a stop
-- right before or right after that call may leave.
pub record IsOutcomeSince (first : List ℕ) (calls : List Call) (t : ℕ) (found : List ℕ) : Type 0 where
  pub moment : ℕ
  pub no_earlier : t ≤ moment
  pub no_later : moment ≤ length calls
  pub outcome : IsOutcome first (take moment calls) found

-- whatever a stop may leave now, a stop since any earlier moment may have left
pub counts_last : (first : List ℕ) (calls : List Call) (t : ℕ) (found : List ℕ) → t ≤ length calls → IsOutcome first calls found → IsOutcomeSince first calls t found
counts_last first calls t found early outcome = record {
  moment = length calls;
  no_earlier = early;
  no_later = omega arith;
  outcome = subst (λ (past : List Call). IsOutcome first past found) (sym (take_all (length calls) calls (omega arith))) outcome;
}

-- whatever a stop since the current moment may have left, a stop may leave now
pub only_last : (first : List ℕ) (calls : List Call) (found : List ℕ) → IsOutcomeSince first calls (length calls) found → IsOutcome first calls found
only_last first calls found since =
    subst (λ (past : List Call). IsOutcome first past found) (take_all since.moment calls since.no_earlier) since.outcome
