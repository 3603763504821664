-- The signatures of the insecure signer and verifier of the tests: two SHA-256 digests (FIPS 180-4), one after the other.
use Rattle.std.specs.Prelude.{ℕ, Bool, List, ◌∷◌, ◌++◌}
use Rattle.std.specs.Str.{bytes_eq}
use Rattle.sha2.specs.Sha256.{sha256}
use Rattle.wire.specs.declared.keys.Digest.{Digest}
use Rattle.wire.specs.declared.keys.Key.{Key}
use Rattle.wire.specs.declared.keys.Signature.{Signature}

-- the first 32 bytes of a signature: the digest of the letter S, the key and the digest that is signed
abbrev pub first_half : Key → Digest → List ℕ
first_half key digest = sha256 (0x53 ∷ key.0 ++ digest.0)

-- the last 32 bytes of a signature: the digest of the letter T, the key and the digest that is signed
abbrev pub second_half : Key → Digest → List ℕ
second_half key digest = sha256 (0x54 ∷ key.0 ++ digest.0)

-- the one good signature of a digest for a key
abbrev pub pair_signature : Key → Digest → Signature
pair_signature key digest = record { 0 = first_half key digest ++ second_half key digest }

-- this signature is the one good signature of the digest for the key
abbrev pub is_pair_signature : Key → Digest → Signature → Bool
is_pair_signature key digest signature = bytes_eq (pair_signature key digest).0 signature.0
