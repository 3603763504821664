-- The node that a history belongs to: who it is, and what its committee fixes.
use Rattle.std.specs.Prelude.{◌≡◌, ℕ, ◌<◌, length, Some, slice_get}
use Rattle.committee.specs.Charter.{Charter, IsCharter, quorum_of}
use Rattle.sigface.specs.Tied.{AreAccepted}
use Rattle.header.specs.Checks.{Accepts}
use Rattle.wire.specs.Fields.{IsSignature}
use Rattle.wire.specs.declared.keys.Key.{Key}
use Rattle.spec_model.specs.Words.{Author, Digest, Signature}
use Rattle.header.specs.declared.node.Node as declared
use Rattle.sigface.specs.Scheme.{Scheme}

-- a node: its own number, its committee, its signer's public key, and the signature that it gives to each digest
pub record Node : Type 0 where
  pub own : Author
  pub charter : Charter
  pub key : Key
  pub sign : Digest → Signature

-- what holds of every node: it is a member of its committee with its signer's key, and its signatures have 64 bytes
pub record IsNode (node : Node) : Type 0 where
  pub charter : IsCharter node.charter
  pub member : node.own.0 < length node.charter.keys
  pub own_key : slice_get node.charter.keys node.own.0 ≡ Some node.key
  pub signatures : (digest : Digest) → IsSignature (node.sign digest)

-- how many members the node's committee has
abbrev pub size_of : Node → ℕ
size_of node = length node.charter.keys

-- the least weight of a quorum of the node's committee
abbrev pub quorum : Node → ℕ
quorum node = quorum_of node.charter

-- what contracts see of a `Node` of the running code, with its signer's key and signatures
abbrev pub node_view : {S : Type 0} → Scheme S → declared.Node S → Node
node_view scheme node = record {
  own = node.own;
  charter = node.committee;
  key = scheme.own_key node.signer;
  sign = scheme.signature_of node.signer;
}

-- a node's signer and a verifier belong together: the verifier accepts what the node signs, with the node's key
abbrev pub AreTied : Node → Accepts → Type 0
AreTied node accepts = AreAccepted accepts node.key node.sign
