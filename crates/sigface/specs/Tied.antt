-- When a signer and a verifier belong together.
use Rattle.std.specs.Prelude.{Bool, IsTrue}
use Rattle.wire.specs.declared.keys.Digest.{Digest}
use Rattle.wire.specs.declared.keys.Key.{Key}
use Rattle.wire.specs.declared.keys.Signature.{Signature}

-- the verifier accepts every signature of this signer, with this key
abbrev pub AreAccepted : (Key → Digest → Signature → Bool) → Key → (Digest → Signature) → Type 0
AreAccepted accepts key sign = (digest : Digest) → IsTrue (accepts key digest (sign digest))
