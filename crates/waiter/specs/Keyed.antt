-- How the waiting certificates are kept.
use Rattle.std.specs.Prelude.{◌≡◌, Some}
use Rattle.wire.specs.Events.{Event}
use Rattle.wire.specs.declared.keys.Digest.{Digest}
use Rattle.header.specs.Digested.{certificate_digest_in}

-- an entry of the table is a certificate under its own digest
abbrev pub IsUnderItsDigest : Digest × Event → Type 0
IsUnderItsDigest entry = certificate_digest_in entry.1.message ≡ Some entry.0
