-- How a header is made of given parts, and which faults the parts can have.
use Rattle.std.specs.Prelude.{ℕ, Bool, not, nat_lt, List, length, Option, Some, None, if◌then◌else◌}
use Rattle.wire.specs.Digests.{header_digest_of}
use Rattle.wire.specs.References.{batches_rise, parents_rise}
use Rattle.wire.specs.declared.error.WireError.{WireError}
use Rattle.wire.specs.declared.error.WireError.TheVariants.{NotCanonical, TooMany}
use Rattle.wire.specs.declared.header.Header.{Header}
use Rattle.wire.specs.declared.header.HeaderBody.{HeaderBody}
use Rattle.wire.specs.declared.keys.Author.{Author}
use Rattle.wire.specs.declared.keys.Digest.{Digest}
use Rattle.wire.specs.declared.keys.Signature.{Signature}
use Rattle.wire.specs.declared.limits.TheConstants.{MAX_BATCHES, MAX_PARENTS}
use Rattle.wire.specs.declared.references.BatchReference.{BatchReference}
use Rattle.wire.specs.declared.references.ParentReference.{ParentReference}

-- the fault of a list with `count` entries, if it has one: it has more than `limit`, or they aren't in strictly ascending order
abbrev pub list_fault : ℕ → ℕ → Bool → Option WireError
list_fault limit count rises = if nat_lt limit count then Some TooMany else if not rises then Some NotCanonical else None

abbrev pub batches_fault : List BatchReference → Option WireError
batches_fault batches = list_fault MAX_BATCHES (length batches) (batches_rise batches)

abbrev pub parents_fault : List ParentReference → Option WireError
parents_fault parents = list_fault MAX_PARENTS (length parents) (parents_rise parents)

-- the first of two faults, if there is one
abbrev pub first_fault : Option WireError → Option WireError → Option WireError
first_fault (Some fault) other = Some fault
first_fault None other = other

-- the body of a header with these parts
abbrev pub body_of : Author → ℕ → List BatchReference → List ParentReference → HeaderBody
body_of author round batches parents = record { author = author; round = round; batches = batches; parents = parents }

-- a header with this body, and with the signature of its digest
abbrev pub signed_by : (Digest → Signature) → HeaderBody → Header
signed_by sign body = record { body = body; signature = sign (record { 0 = header_digest_of body }) }
