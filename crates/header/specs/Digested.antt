-- The digests that are kept with a message, so that each is computed once.
use Rattle.std.specs.Prelude.{Option, Some, None}
use Rattle.wire.specs.Batches.{BatchView}
use Rattle.wire.specs.Digests.{batch_digest_of, header_digest_of, certificate_digest_of}
use Rattle.wire.specs.declared.header.HeaderBody.{HeaderBody}
use Rattle.wire.specs.declared.keys.Digest.{Digest}
use Rattle.wire.specs.declared.message.Message.{Message}
use Rattle.wire.specs.declared.message.Message.TheVariants as message
use Rattle.header.specs.declared.digested.Digested.{Digested}
use Rattle.header.specs.declared.digested.Digested.TheVariants.{Nothing, Batch, Header, Certificate}

abbrev pub digest_of_batch : BatchView → Digest
digest_of_batch batch = record { 0 = batch_digest_of batch }

abbrev pub digest_of_header : HeaderBody → Digest
digest_of_header header = record { 0 = header_digest_of header }

-- the digest of a header's certificate; it doesn't depend on the votes
abbrev pub digest_of_certificate : HeaderBody → Digest
digest_of_certificate header = record { 0 = certificate_digest_of (header_digest_of header) header.round header.author.0 }

-- the digest of a message that is a batch; None for another message
abbrev pub batch_digest_in : Message → Option Digest
batch_digest_in (message.Batch batch) = Some (digest_of_batch batch)
batch_digest_in _ = None

-- the digest of a message's header, if it is a header or a certificate; None for another message
abbrev pub header_digest_in : Message → Option Digest
header_digest_in (message.Header header) = Some (digest_of_header header.body)
header_digest_in (message.Certificate certificate) = Some (digest_of_header certificate.header)
header_digest_in _ = None

-- the digest of a message that is a certificate; None for another message
abbrev pub certificate_digest_in : Message → Option Digest
certificate_digest_in (message.Certificate certificate) = Some (digest_of_certificate certificate.header)
certificate_digest_in _ = None

-- all digests that are kept with a message
abbrev pub digested_of : Message → Digested
digested_of (message.Batch batch) = Batch (digest_of_batch batch)
digested_of (message.Header header) = Header (digest_of_header header.body)
digested_of (message.Certificate certificate) = Certificate (digest_of_header certificate.header) (digest_of_certificate certificate.header)
digested_of _ = Nothing
