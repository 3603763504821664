-- The digests of messages: SHA-256 (FIPS 180-4) of a letter for the kind, and of the bytes that are digested.
use Rattle.std.specs.Prelude.{ℕ, List, [], ◌∷◌, ◌++◌}
use Rattle.std.specs.Int.{w16, w64, to_be_bytes}
use Rattle.sha2.specs.Sha256.{sha256}
use Rattle.wire.specs.declared.header.HeaderBody.{HeaderBody}
use Rattle.wire.specs.Batches.{BatchView, batch_body}
use Rattle.wire.specs.Encoding.{body_bytes, header_body}

-- the digest of a batch: SHA-256 of the letter B and the batch's body
abbrev pub batch_digest_of : BatchView → List ℕ
batch_digest_of b = sha256 (66 ∷ batch_body b)

-- the digest of a header: SHA-256 of the letter H and the header's body, which doesn't have the signature
abbrev pub header_digest_of : HeaderBody → List ℕ
header_digest_of h = sha256 (72 ∷ header_body h)

-- the digest of a certificate: SHA-256 of the letter C and the header's digest, round and author. The votes are not in it
abbrev pub certificate_digest_of : List ℕ → ℕ → ℕ → List ℕ
certificate_digest_of header round author = sha256 (67 ∷ header ++ to_be_bytes w64 round ++ to_be_bytes w16 author)

-- the digest of an author's genesis certificate, whose header has round 0, no batches and no parents
abbrev pub genesis_digest_of : ℕ → List ℕ
genesis_digest_of author = certificate_digest_of (sha256 (72 ∷ body_bytes author 0 [] [])) 0 author
