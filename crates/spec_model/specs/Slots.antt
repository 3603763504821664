-- Certificates by their slots (a slot is a round and an author), and the paths of parents between them.
use Rattle.std.specs.Prelude.{ℕ, zero, suc, ◌+◌, ◌-◌, ◌==◌, ◌&&◌, nat_le, Bool, List, find, filter_map, Option}
use Rattle.std.specs.List.{list_any}
use Rattle.std.specs.Str.{bytes_eq}
use Rattle.wire.specs.Digests.{header_digest_of, certificate_digest_of}
use Rattle.committee.specs.Charter.{numbers}
use Rattle.spec_model.specs.Words.{Certificate, Digest, HeaderBody, ParentReference}

-- the certificate in each slot, looked up by round and author
abbrev pub Slots : Type 0
Slots = ℕ → ℕ → Option Certificate

abbrev pub same_digest : Digest → Digest → Bool
same_digest one other = bytes_eq one.0 other.0

abbrev pub header_digest : HeaderBody → Digest
header_digest header = record { 0 = header_digest_of header }

-- the digest of a header's certificate; it doesn't depend on the votes
abbrev pub certificate_digest : HeaderBody → Digest
certificate_digest header = record { 0 = certificate_digest_of (header_digest_of header) header.round header.author.0 }

-- a header is of this round and by this author
abbrev pub is_of_slot : ℕ → ℕ → HeaderBody → Bool
is_of_slot round author header = (header.round == round) && (header.author.0 == author)

-- the slots as a list of certificates fills them
abbrev pub slots_of : List Certificate → Slots
slots_of certificates round author = find (λ c. is_of_slot round author c.header) certificates

-- the certificates of a round, sorted by author, in a committee of `size` members
abbrev pub round_of : ℕ → Slots → ℕ → List Certificate
round_of size slots round = filter_map (slots round) (numbers size)

-- a reference to a parent names this certificate: author and digest are the same
abbrev pub is_named : Certificate → ParentReference → Bool
is_named certificate parent =
    (parent.author.0 == certificate.header.author.0)
    && same_digest parent.certificate (certificate_digest certificate.header)

-- the certificate `parent` is a parent of `child`: it is of the round below, and `child` names it
abbrev pub is_parent : Certificate → Certificate → Bool
is_parent parent child =
    (parent.header.round + 1 == child.header.round) && list_any (is_named parent) child.header.parents

-- a path with this number of steps leads from `start` to `end`, each step to a parent. With no step left, both have to be of the same round
-- and author
abbrev pub has_path : ℕ → Slots → ℕ → Certificate → Certificate → Bool
has_path size slots zero start end = is_of_slot start.header.round start.header.author.0 end.header
has_path size slots (suc steps) start end =
    list_any (λ child. has_path size slots steps start child && is_parent end child) (round_of size slots (end.header.round + 1))

-- the certificate `start` reaches `end`: a path of parents leads there, each step of which goes one round down
abbrev pub reaches : ℕ → Slots → Certificate → Certificate → Bool
reaches size slots start end =
    nat_le end.header.round start.header.round
    && has_path size slots (start.header.round - end.header.round) start end
