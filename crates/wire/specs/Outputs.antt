-- The bytes of an output (something that a node hands out): its receiver, and its content.
use Rattle.std.specs.Prelude.{ℕ, ◌+◌, ◌*◌, ◌≤◌, List, ◌∷◌, ◌++◌, length, All}
use Rattle.std.specs.List.{flat_map}
use Rattle.std.specs.Int.{w16, w32, w64, to_be_bytes}
use Rattle.wire.specs.declared.keys.Digest.{Digest}
use Rattle.wire.specs.declared.message.Message.TheVariants as message
use Rattle.wire.specs.declared.output.Output.{Output}
use Rattle.wire.specs.declared.output.Output.TheVariants as output
use Rattle.wire.specs.declared.limits.TheConstants.{MAX_ORDER_DIGESTS}
use Rattle.wire.specs.Fields.{IsDigest}
use Rattle.wire.specs.Grammar.{IsMessage}
use Rattle.wire.specs.Encoding.{encoding, length_of}

-- the receiver of an output: a member's number, FFFF for all members, or FFFE for the host
abbrev pub receiver_of : Output → ℕ
receiver_of (output.Batch b) = 65535
receiver_of (output.Ack to ack) = to.0
receiver_of (output.Header h) = 65535
receiver_of (output.Vote v) = v.author.0
receiver_of (output.Certificate c) = 65535
receiver_of (output.Order start digests) = 65534

-- the bytes of a digest
abbrev pub digest_bytes : Digest → List ℕ
digest_bytes d = d.0

-- the bytes of a list of digests: how many they are, and each of them
abbrev pub digests_bytes : List Digest → List ℕ
digests_bytes digests = to_be_bytes w32 (length digests) ++ flat_map digest_bytes digests

-- the bytes of a piece of the order: the tag 7, the place of its first digest in the order, and its digests
abbrev pub order_bytes : ℕ → List Digest → List ℕ
order_bytes start digests = 7 ∷ to_be_bytes w64 start ++ digests_bytes digests

-- the content of an output: the bytes of a message or of a piece of the order
abbrev pub content_of : Output → List ℕ
content_of (output.Batch b) = encoding (message.Batch b)
content_of (output.Ack to ack) = encoding (message.BatchAck ack)
content_of (output.Header h) = encoding (message.Header h)
content_of (output.Vote v) = encoding (message.Vote v)
content_of (output.Certificate c) = encoding (message.Certificate c)
content_of (output.Order start digests) = order_bytes start digests

-- how many bytes the content of an output takes
abbrev pub content_len : Output → ℕ
content_len (output.Batch b) = length_of (message.Batch b)
content_len (output.Ack to ack) = length_of (message.BatchAck ack)
content_len (output.Header h) = length_of (message.Header h)
content_len (output.Vote v) = length_of (message.Vote v)
content_len (output.Certificate c) = length_of (message.Certificate c)
content_len (output.Order start digests) = 13 + 32 * length digests

-- the bytes of an output: its receiver in two bytes, and its content
abbrev pub output_bytes : Output → List ℕ
output_bytes o = to_be_bytes w16 (receiver_of o) ++ content_of o

-- an output as a frame: the number of its bytes, in four bytes, big-endian, and the bytes
unfoldable pub frame_of : Output → List ℕ
frame_of output = to_be_bytes w32 (length (output_bytes output)) ++ output_bytes output

-- a piece of the order has at most 16,000 digests
pub record AreOrdered (digests : List Digest) : Type 0 where
  pub few : length digests ≤ MAX_ORDER_DIGESTS
  pub each : All IsDigest digests

-- an output is well formed: its content is a message, or a piece of the order
abbrev pub IsOutput : Output → Type 0
IsOutput (output.Batch b) = IsMessage (message.Batch b)
IsOutput (output.Ack to ack) = IsMessage (message.BatchAck ack)
IsOutput (output.Header h) = IsMessage (message.Header h)
IsOutput (output.Vote v) = IsMessage (message.Vote v)
IsOutput (output.Certificate c) = IsMessage (message.Certificate c)
IsOutput (output.Order start digests) = AreOrdered digests
