-- What contracts need to know of the signers of a type, as one value.
use Rattle.wire.specs.declared.keys.Digest.{Digest}
use Rattle.wire.specs.declared.keys.Key.{Key}
use Rattle.wire.specs.declared.keys.Signature.{Signature}

-- for each signer: the key for which its signatures are good, and its signature of each digest
pub record Scheme (S : Type 0) : Type 0 where
  pub own_key : S → Key
  pub signature_of : S → Digest → Signature
