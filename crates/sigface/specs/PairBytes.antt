-- That the signatures of the tests have 64 bytes, as the laws of signers require.
use Rattle.std.proofs.Common.{ℕ, ◌+◌, ◌<◌, ◌≡◌, List, ◌++◌, length, arith}
use Rattle.std.proofs.lemmas.Grind.{common_steps}
use Rattle.std.proofs.lemmas.List.Elements.{All-append}
use Rattle.wire.specs.Fields.{HasBytes, IsSignature}
use Rattle.wire.specs.declared.keys.Digest.{Digest}
use Rattle.wire.specs.declared.keys.Key.{Key}
use Rattle.wire.proofs.DigestLemmas.{are_digest_bytes}
use Rattle.sigface.specs.Pair.{first_half, second_half, pair_signature}

length-both : (xs ys : List ℕ) → length (xs ++ ys) ≡ length xs + length ys
length-both xs ys = grind (arith, common_steps)

-- n bytes and then k bytes are n + k bytes
both_bytes : (n k : ℕ) (xs ys : List ℕ) → HasBytes n xs → HasBytes k ys → HasBytes (n + k) (xs ++ ys)
both_bytes n k xs ys front back = record {
  count_is = omega (arith, length-both xs ys, front.count_is, back.count_is);
  each = All-append (λ b. b < 256) xs ys front.each back.each;
}

-- each signature has 64 bytes, whatever the key and the digest are
pub pair_signature-bytes : (key : Key) (digest : Digest) → IsSignature (pair_signature key digest)
pair_signature-bytes key digest = both_bytes 32 32 (first_half key digest) (second_half key digest) (are_digest_bytes _) (are_digest_bytes _)
