-- The table of a validator's own headers, each with the counted votes on it. It has no low rounds.
use Rattle.std.specs.Prelude.{◌≡◌, ℕ, ◌<◌, ◌==◌, Bool, false, List, [], map, find, length, Option, Some, None, option_map, option_and_then, slice_index_or, nat_le, if◌then◌else◌}
use Rattle.std.specs.List.Sorted.{IsStrictlySortedBy}
use Rattle.std.specs.Option.{option_map_or}
use Rattle.std.specs.Ordering.{nat_cmp}
use Rattle.wire.specs.declared.header.Header.{Header}
use Rattle.wire.specs.declared.header.Vote.{Vote}
use Rattle.wire.specs.declared.keys.Digest.{Digest}
use Rattle.committee.specs.Charter.{Charter, IsCharter}
use Rattle.certify.specs.Answer.{answer, after}
use Rattle.certify.specs.Assembled.{AssemblyView, IsAssembled, has_voted}
use Rattle.certify.specs.declared.added.Added.{Added}
use Rattle.certify.specs.declared.added.Added.TheVariants.{NotOurs}
use Rattle.spec_model.specs.Nodes.{Node}
use Rattle.spec_model.specs.Slots.{header_digest}
use Rattle.spec_model.specs.States.{State}

-- a table of own headers: the committee, the validator's number, and for each round with an own header that header and the votes on it
pub record AssembliesView : Type 0 where
  pub charter : Charter
  pub own : ℕ
  pub rounds : List (ℕ × AssemblyView)

-- a table without headers
abbrev pub empty : Charter → ℕ → AssembliesView
empty charter own = record { charter = charter; own = own; rounds = [] }

-- ---- what is held

-- the own header of a round, with the votes on it
abbrev pub assembly_at : AssembliesView → ℕ → Option AssemblyView
assembly_at headers round = option_map (λ entry. entry.1) (find (λ entry. entry.0 == round) headers.rounds)

-- the own header of a round
abbrev pub header_in : AssembliesView → ℕ → Option Header
header_in headers round = option_map (λ assembled. assembled.header) (assembly_at headers round)

-- the digest of the own header of a round
abbrev pub digest_in : AssembliesView → ℕ → Option Digest
digest_in headers round = option_map (λ header. header_digest header.body) (header_in headers round)

-- the counted vote of a member on the header of this assembly; the table keeps the vote's signature
abbrev pub vote_in : AssemblyView → ℕ → Option Vote
vote_in assembled voter = option_map (λ signature. record {
  header = header_digest assembled.header.body;
  round = assembled.header.body.round;
  author = assembled.header.body.author;
  voter = record { 0 = voter };
  signature = signature;
}) (slice_index_or assembled.places voter None)

-- the counted vote of a member on the own header of a round
abbrev pub vote_from : AssembliesView → ℕ → ℕ → Option Vote
vote_from headers round voter = option_and_then (λ assembled. vote_in assembled voter) (assembly_at headers round)

-- a member's vote on the own header of a round is counted
abbrev pub has_voted_in : AssembliesView → ℕ → ℕ → Bool
has_voted_in headers round voter = option_map_or (λ assembled. has_voted assembled.places voter) (assembly_at headers round) false

-- the votes on the own header of a round weigh a quorum, so that its certificate is complete
abbrev pub is_complete_in : AssembliesView → ℕ → Bool
is_complete_in headers round = option_map_or (λ assembled. assembled.complete) (assembly_at headers round) false

-- ---- what holds of each table

-- what a table has for a round: the validator's header of that round, with votes of members of the table's committee
pub record IsEntry (headers : AssembliesView) (round : ℕ) (assembled : AssemblyView) : Type 0 where
  pub charter : assembled.charter ≡ headers.charter
  pub place : assembled.header.body.round ≡ round
  pub author : assembled.header.body.author.0 ≡ headers.own
  pub assembly : IsAssembled assembled

-- a table is well formed: its committee is sound, the validator is a member, and the rounds are in ascending order
pub record IsHeaders (headers : AssembliesView) : Type 0 where
  pub charter : IsCharter headers.charter
  pub member : headers.own < length headers.charter.keys
  pub rise : IsStrictlySortedBy nat_cmp (map (λ entry. entry.0) headers.rounds)
  pub entries : (round : ℕ) (assembled : AssemblyView) → assembly_at headers round ≡ Some assembled → IsEntry headers round assembled

-- ---- how a table changes

-- the answer to a vote: what the assembly of its round's header answers, or NotOurs where there is no header
abbrev pub answer_in : AssembliesView → Vote → Added
answer_in headers vote = option_map_or (λ assembled. answer assembled vote) (assembly_at headers vote.round) NotOurs

-- the assembly of the vote's round, once the vote is handled as this answer says
abbrev pub counted_in : Added → AssembliesView → Vote → Option AssemblyView
counted_in added headers vote = option_map (λ assembled. after added assembled vote) (assembly_at headers vote.round)

-- the table changed only in this round, in which it now has this assembly, or none
pub record IsWith (old new : AssembliesView) (round : ℕ) (held : Option AssemblyView) : Type 0 where
  pub charter : new.charter ≡ old.charter
  pub own : new.own ≡ old.own
  pub rounds : (other : ℕ) → assembly_at new other ≡ (if other == round then held else assembly_at old other)

-- the later table is the earlier one without the headers of this round and of lower rounds
pub record IsForgotten (old new : AssembliesView) (round : ℕ) : Type 0 where
  pub charter : new.charter ≡ old.charter
  pub own : new.own ≡ old.own
  pub rounds : (other : ℕ) → assembly_at new other ≡ (if nat_le other round then None else assembly_at old other)

-- ---- a node's state

-- a table agrees with a state: it has the state's own headers, with the counted votes on them
pub record IsAt (node : Node) (state : State) (headers : AssembliesView) : Type 0 where
  pub charter : headers.charter ≡ node.charter
  pub own : headers.own ≡ node.own.0
  pub held : (round : ℕ) → header_in headers round ≡ state.own_headers round
  pub counted : (round voter : ℕ) → vote_from headers round voter ≡ state.counted round voter
