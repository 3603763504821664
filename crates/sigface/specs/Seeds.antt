-- The seed of a node's hash tables, which nobody else can compute.
use Rattle.std.specs.Prelude.{[], ◌∷◌}
use Rattle.std.specs.Hash.DefaultHasher as sip
use Rattle.sha2.specs.Sha256.{sha256}
use Rattle.wire.specs.declared.keys.Digest.{Digest}
use Rattle.wire.specs.declared.keys.Signature.{Signature}
use Rattle.sigface.specs.declared.seed.TableSeed.{TableSeed}

-- the digest that is signed for a seed: the SHA-256 of the letter L
abbrev pub seed_digest : Digest
seed_digest = record { 0 = sha256 (0x4c ∷ []) }

-- the seed that a signer gives: a hasher that has read its signature of `seed_digest`
abbrev pub seed_of : (Digest → Signature) → TableSeed
seed_of sign = record { begun = sip.write sip.initial (sign seed_digest).0 }
