-- How a stream of bytes is cut into frames. A frame is a length in four big-endian bytes, and that many bytes.
use Rattle.std.specs.Prelude.{◌≡◌, ℕ, ◌+◌, ◌<◌, ◌≤◌, List, [], ◌++◌, length, take, All, map, Vec}
use Rattle.std.specs.List.{flat_map}
use Rattle.std.specs.Int.{w32, to_be_bytes, from_be_bytes}
use Rattle.std.specs.declared.alloc.Global.{Global}
use Rattle.wire.specs.declared.limits.TheConstants.{MAX_FRAME_BYTES}

-- these bytes may be the body of a frame: they are at most 524,288
abbrev pub IsFrameBody : List ℕ → Type 0
IsFrameBody body = length body ≤ MAX_FRAME_BYTES

-- the bytes of a frame: the length of its body, and the body
abbrev pub frame : List ℕ → List ℕ
frame body = to_be_bytes w32 (length body) ++ body

-- the number in the length field with which these bytes start
abbrev pub length_field : List ℕ → ℕ
length_field bytes = from_be_bytes w32 (take 4 bytes)

-- these bytes are less than a whole frame: its length field isn't complete, or it is within the limit and more bytes have to come
abbrev pub IsPartial : List ℕ → Type 0
IsPartial bytes = (4 ≤ length bytes) → (length_field bytes ≤ MAX_FRAME_BYTES) × (length bytes < 4 + length_field bytes)

-- these bytes of a length field and of the body after it have come: none of the body before the whole field, and less than a whole frame
pub record HasBegun (field body : List ℕ) : Type 0 where
  pub within : length field ≤ 4
  pub order : length field < 4 → body ≡ []
  pub partial : IsPartial (field ++ body)

-- these bytes start, where a frame has to start, with a length above the limit
pub record IsTooLong (bytes : List ℕ) : Type 0 where
  pub field : 4 ≤ length bytes
  pub above : MAX_FRAME_BYTES < length_field bytes

-- the bytes of a stream: frames with these bodies, and then `rest`
abbrev pub stream_of : List (List ℕ) → List ℕ → List ℕ
stream_of bodies rest = flat_map frame bodies ++ rest

-- the stream so far consists of frames with these bodies, and then of `rest`, which is less than a whole frame
pub record Splits (stream : List ℕ) (bodies : List (List ℕ)) (rest : List ℕ) : Type 0 where
  pub whole : stream ≡ stream_of bodies rest
  pub each : All IsFrameBody bodies
  pub partial : IsPartial rest

-- the stream so far consists of whole frames, and then has a length above the limit where a frame has to start
pub record Breaks (stream : List ℕ) : Type 0 where
  pub bodies : List (List ℕ)
  pub rest : List ℕ
  pub whole : stream ≡ stream_of bodies rest
  pub each : All IsFrameBody bodies
  pub long : IsTooLong rest

-- the bytes of each of these bodies
abbrev pub bodies_bytes : List (Vec ℕ Global) → List (List ℕ)
bodies_bytes bodies = map (λ body. body.items) bodies
