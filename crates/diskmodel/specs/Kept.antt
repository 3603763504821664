-- What a disk in memory keeps beside its record of calls, so that no call has to go through the whole record.
use Rattle.std.specs.Prelude.{◌≡◌, ℕ, ◌≤◌, Bool, true, false, Option, Some, List, [], ◌∷◌, ◌++◌, length, slice_get, ◌-◌}
use Rattle.diskmodel.specs.declared.call.Span.{Span}
use Rattle.diskmodel.specs.declared.call.Call.{Call}
use Rattle.diskmodel.specs.declared.call.Call.TheVariants.{Stopped}
use Rattle.diskmodel.specs.Outcomes.{AreBytes, IsOutcome, state}

-- these values are what the calls of a disk lead to, from the bytes `first`; and what a read gives is a possible outcome of a stop
pub record Keeps (first : List ℕ) (calls : List Call) (durable : List ℕ) (smallest greatest : ℕ) (spans : List Span) (content : List ℕ) : Type 0 where
  pub durable_is : (state first calls).durable ≡ durable
  pub smallest_is : (state first calls).smallest ≡ smallest
  pub greatest_is : (state first calls).greatest ≡ greatest
  pub spans_are : (state first calls).spans ≡ spans
  pub content_is : (state first calls).content ≡ content
  pub in_durable : smallest ≤ length durable
  pub durable_fits : length durable ≤ greatest
  pub durable_bytes : AreBytes durable
  pub possible : IsOutcome first calls content

-- this call, if there is one, is a stop
abbrev pub is_stop : Option Call → Bool
is_stop (Some (Stopped found)) = true
is_stop _ = false

-- the last of these calls is a stop
abbrev pub ends_in_stop : List Call → Bool
ends_in_stop calls = is_stop (slice_get calls (length calls - 1))

-- the last call was a stop, and another stop takes its place
pub record ReplacesStop (found : List ℕ) (old new : List Call) : Type 0 where
  pub before : List Call
  pub gone : List ℕ
  pub was : old ≡ before ++ Stopped gone ∷ []
  pub is : new ≡ before ++ Stopped found ∷ []
