-- That the signatures of a message which passed its tests are good.
use Rattle.std.specs.Prelude.{◌≡◌, true, None, All}
use Rattle.committee.specs.Charter.{Charter}
use Rattle.wire.specs.Digests.{header_digest_of}
use Rattle.wire.specs.Events.{Event}
use Rattle.wire.specs.declared.message.Message.{Message}
use Rattle.wire.specs.declared.message.Message.TheVariants as message
use Rattle.header.specs.Checks.{Accepts, is_signed, header_signed, vote_signed, fault_of}

-- each signature in a message is good: a header's for its author, a vote's for its voter, and in a certificate each vote's for its voter
abbrev pub AreSigned : Charter → Accepts → Message → Type 0
AreSigned charter accepts (message.Header header) = is_signed charter accepts header.body.author (header_signed header.body) header.signature ≡ true
AreSigned charter accepts (message.Vote vote) = is_signed charter accepts vote.voter (vote_signed vote.header.0 vote.round vote.author) vote.signature ≡ true
AreSigned charter accepts (message.Certificate certificate) =
    All (λ vote. is_signed charter accepts vote.voter (vote_signed (header_digest_of certificate.header) certificate.header.round certificate.header.author) vote.signature ≡ true)
    certificate.votes
AreSigned charter accepts _ = Unit {0}

-- a message that passes all its tests has good signatures
abbrev pub PassedAreSigned : Type 0
PassedAreSigned = (charter : Charter) (accepts : Accepts) (event : Event) → fault_of charter accepts event ≡ None
    → AreSigned charter accepts event.message
