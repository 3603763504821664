-- Digests have 32 bytes.
use Rattle.std.proofs.Common.{ℕ, zero, suc, ◌/◌, ◌^◌, ◌<◌, List, arith}
use Rattle.std.specs.Prelude.{slice_index}
use Rattle.std.specs.Int.{w32, to_be_bytes, byte_at, bytes_high_first}
use Rattle.std.proofs.lemmas.Nat.{mod_below}
use Rattle.std.proofs.lemmas.List.Elements.{All-nil, All-cons, All-append}
use Rattle.sha2.specs.Sha256.{sha256, digest_bytes, final_hash, initial_hash_256}
use Rattle.sha2.proofs.Facts256.{length-sha256}
use Rattle.wire.specs.Fields.{AreBytes, HasBytes}

byte_below : (i n : ℕ) → byte_at i n < 256
byte_below zero n = mod_below n 256 (omega arith)
byte_below (suc i) n = mod_below (n / 256 ^ suc i) 256 (omega arith)

-- what a number is spelled with are bytes
number_bytes : (count n : ℕ) → AreBytes (bytes_high_first count n)
number_bytes zero n = All-nil (λ b. b < 256)
number_bytes (suc count) n = All-cons (λ b. b < 256) (byte_at count n) (bytes_high_first count n) (byte_below count n) (number_bytes count n)

words_bytes : (h : List ℕ) (n : ℕ) → AreBytes (digest_bytes h n)
unfolding digest_bytes
words_bytes h zero = All-nil (λ b. b < 256)
words_bytes h (suc n) = All-append (λ b. b < 256) (digest_bytes h n) (to_be_bytes w32 (slice_index h n)) (words_bytes h n) (number_bytes 4 (slice_index h n))

-- whatever is digested
pub are_digest_bytes : (bytes : List ℕ) → HasBytes 32 (sha256 bytes)
unfolding sha256
are_digest_bytes bytes = record { count_is = length-sha256 bytes; each = words_bytes (final_hash initial_hash_256 bytes) 8 }
