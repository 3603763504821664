-- The answers of a node to events, and the pieces in which a grown order is put out.
use Rattle.std.specs.Prelude.{ℕ, ◌+◌, ◌-◌, ◌*◌, ◌/◌, Bool, true, false, List, map, length, take, drop}
use Rattle.std.specs.List.{range_with_len}
use Rattle.wire.specs.declared.keys.Digest.{Digest}
use Rattle.wire.specs.declared.limits.TheConstants.{MAX_ORDER_DIGESTS}
use Rattle.wire.specs.declared.output.Output.{Output}
use Rattle.wire.specs.declared.output.Output.TheVariants as output
use Rattle.header.specs.declared.admission.Admission.{Admission}
use Rattle.header.specs.declared.admission.Admission.TheVariants.{New, Known, Refused}

-- the answer says that the event is new
abbrev pub is_new : Admission → Bool
is_new (New outputs) = true
is_new (Known outputs) = false
is_new (Refused refusal) = false

-- one piece of a list of digests; pieces are counted from 0. The list comes after the first `start` digests of the order
abbrev pub piece_at : ℕ → List Digest → ℕ → Output
piece_at start digests piece = output.Order (start + MAX_ORDER_DIGESTS * piece) (take MAX_ORDER_DIGESTS (drop (MAX_ORDER_DIGESTS * piece) digests))

-- a list of digests in pieces, each with as many digests as an output may have; only the last piece may have fewer
abbrev pub pieces : ℕ → List Digest → List Output
pieces start digests = map (piece_at start digests) (range_with_len 0 ((length digests + (MAX_ORDER_DIGESTS - 1)) / MAX_ORDER_DIGESTS))
