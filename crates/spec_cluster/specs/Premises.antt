-- What is assumed of a cluster: how much its faulty members weigh, and what holds of digests, signatures and coins.
use Rattle.std.specs.Prelude.{◌≡◌, ◌≢◌, ◌<◌, ◌≤◌, ℕ, ◌+◌, ◌==◌, Bool, not, true, false, List, Option, Some, None, All, Contains, ⊤}
use Rattle.std.specs.List.{list_any}
use Rattle.std.specs.Option.{option_map_or}
use Rattle.committee.specs.Charter.{IsCharter, weight, tolerated_of, quorum_of}
use Rattle.header.specs.Checks.{fault_of, is_signed, header_signed, vote_signed}
use Rattle.spec_accord.specs.Members.{Party, NoClash, Signed, bodies_in, signed_in}
use Rattle.spec_model.specs.Slots.{same_digest}
use Rattle.spec_model.specs.Words.{Digest, Event, Header, HeaderBody, Message}
use Rattle.wire.specs.Digests.{header_digest_of}
use Rattle.wire.specs.declared.message.Message.TheVariants as message
use Rattle.wire.specs.declared.output.Output.TheVariants as output
use Rattle.spec_world.specs.Lasting.{settled_in}
use Rattle.spec_world.specs.Steps.{Move, accept}
use Rattle.spec_world.specs.World.{Outgoing, put_out, World}
use Rattle.spec_cluster.specs.Cluster.{Cluster, Worlds, Turn, AreMembers}

-- the honest members of a cluster, each with the history that it has settled by now
abbrev pub party_of : Cluster → Worlds → Party
party_of cluster worlds =
    record { charter = cluster.charter; accepts = cluster.accepts; honest = cluster.honest; node = cluster.node; settled = λ member. settled_in (worlds member) }

-- the members who aren't honest weigh together no more than is tolerated
abbrev pub FewFaulty : Cluster → Type 0
FewFaulty cluster = weight cluster.charter (λ member. not (cluster.honest member)) ≤ tolerated_of cluster.charter

-- no two different texts of headers or certificates in the settled histories of honest members have the same digest
abbrev pub NoTwoTexts : Cluster → Worlds → Type 0
NoTwoTexts cluster worlds = NoClash (party_of cluster worlds)

-- ---- signatures

-- the digest that a member signed in an output of its own: that of its header, of its vote, or of its own vote in its certificate
abbrev pub signed_by_giver : Outgoing → Option Digest
signed_by_giver (put_out (output.Header header)) = Some (header_signed header.body)
signed_by_giver (put_out (output.Vote vote)) = Some (vote_signed vote.header.0 vote.round vote.author)
signed_by_giver (put_out (output.Certificate certificate)) =
    Some (vote_signed (header_digest_of certificate.header) certificate.header.round certificate.header.author)
signed_by_giver _ = None

-- a member has signed this digest in something that it gave out
abbrev pub has_signed : World → Digest → Bool
has_signed world digest = list_any (λ given. option_map_or (same_digest digest) (signed_by_giver given.outgoing) false) world.given

-- no vote in a message is forged in an honest member's name: if its signature is good, that member has signed the digest in what it gave
-- out
abbrev pub NoForgery : Cluster → Worlds → Message → Type 0
NoForgery cluster worlds message = (vote : Signed) → Contains (signed_in message) vote → cluster.honest vote.signer.0 ≡ true
    → is_signed cluster.charter cluster.accepts vote.signer vote.digest vote.signature ≡ true → has_signed (worlds vote.signer.0) vote.digest ≡ true

-- ---- coins

-- if the message is a coin, it has the one value of its wave
abbrev pub HasCoin : (ℕ → ℕ) → Message → Type 0
HasCoin value (message.Coin coin) = coin.value ≡ value coin.wave
HasCoin value _ = ⊤

-- ---- both premises, on what comes in by a turn

abbrev pub IsFair : Cluster → (ℕ → ℕ) → Worlds → Move → Type 0
IsFair cluster value worlds (accept event) = NoForgery cluster worlds event.message × HasCoin value event.message
IsFair cluster value worlds _ = ⊤

abbrev pub Fair : Cluster → (ℕ → ℕ) → Worlds → Turn → Type 0
Fair cluster value worlds turn = IsFair cluster value worlds turn.move

-- an event that comes in passed the checks, and the premises on votes and coins hold of it in these worlds
abbrev pub ComesFair : Cluster → (ℕ → ℕ) → Worlds → Event → Type 0
ComesFair cluster value worlds event = (fault_of cluster.charter cluster.accepts event ≡ None) × IsFair cluster value worlds (accept event)

-- ---- headers, for certificates that were never settled

-- no header is forged in another honest member's name: if its signature is good, that member has signed the digest in what it gave out
abbrev pub NoForgedHeader : Cluster → Worlds → ℕ → Event → Type 0
NoForgedHeader cluster worlds member event = (header : Header) → event.message ≡ message.Header header → cluster.honest header.body.author.0 ≡ true → header.body.author.0 ≢ member
    → is_signed cluster.charter cluster.accepts header.body.author (header_signed header.body) header.signature ≡ true
    → has_signed (worlds header.body.author.0) (header_signed header.body) ≡ true

-- an honest member and the members who aren't honest weigh together less than a quorum, so that it needs others
abbrev pub NeedsOthers : Cluster → Type 0
NeedsOthers cluster = (member : ℕ) → cluster.honest member ≡ true → weight cluster.charter (λ m. m == member) + tolerated_of cluster.charter < quorum_of cluster.charter

-- if all stakes are 1, an honest member and the members who aren't honest weigh together less than a quorum
abbrev pub EqualsNeedOthers : Type 0
EqualsNeedOthers = (cluster : Cluster) → IsCharter cluster.charter → AreMembers cluster → All (λ stake. stake ≡ 1) cluster.charter.stakes → NeedsOthers cluster

-- a header is in an event that came in at an honest member, settled or not
pub record IsReportedEver (cluster : Cluster) (moves : ℕ → List Move) (body : HeaderBody) : Type 0 where
  pub member : ℕ
  pub honest : cluster.honest member ≡ true
  pub events : List Event
  pub came : (event : Event) → Contains events event → Contains (moves member) (accept event)
  pub reported : Contains (bodies_in events) body
