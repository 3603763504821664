-- The state that tables of plain lists stand for. If several entries of a list fit a look-up, the first one counts.
use Rattle.std.specs.Prelude.{ℕ, ◌==◌, ◌&&◌, Bool, List, find, Option, Some, None, option_map, option_and_then, if◌then◌else◌}
use Rattle.std.specs.List.{list_any}
use Rattle.std.specs.Option.{option_or}
use Rattle.spec_model.specs.Holdings.{certificate_by}
use Rattle.spec_model.specs.Nodes.{Node}
use Rattle.spec_model.specs.Slots.{same_digest, slots_of}
use Rattle.spec_model.specs.States.{State}
use Rattle.spec_model.specs.Words.{BatchAck, Certificate, Digest, Header, Vote}
use Rattle.ref_machine.specs.declared.tables.SlotVote.{SlotVote}
use Rattle.ref_machine.specs.declared.tables.Tables as declared

-- ---- whether an entry fits a look-up

-- this acknowledgement is of the batch with this digest, and by this member
abbrev pub acks_it : Digest → ℕ → BatchAck → Bool
acks_it digest member ack = same_digest ack.batch digest && (ack.author.0 == member)

-- this entry is the node's vote for a header of this round and author
abbrev pub votes_for : ℕ → ℕ → SlotVote → Bool
votes_for round author vote = (vote.round == round) && (vote.author.0 == author)

-- this header is of this round
abbrev pub of_round : ℕ → Header → Bool
of_round round header = header.body.round == round

-- this vote is by this member, and on the own header of this round
abbrev pub counts_for : ℕ → ℕ → Vote → Bool
counts_for round voter vote = (vote.round == round) && (vote.voter.0 == voter)

-- ---- the look-ups

-- this member has acknowledged the batch with this digest
abbrev pub acked_in : List BatchAck → Digest → ℕ → Bool
acked_in acks digest member = list_any (acks_it digest member) acks

-- an own header has named the batch with this digest
abbrev pub named_in : List Digest → Digest → Bool
named_in digests digest = list_any (λ named. same_digest named digest) digests

-- the digest of the header of this round and author that the node voted for
abbrev pub votes_in : List SlotVote → ℕ → ℕ → Option Digest
votes_in votes round author = option_map (λ vote. vote.digest) (find (votes_for round author) votes)

-- the own header of this round
abbrev pub headers_in : List Header → ℕ → Option Header
headers_in headers round = find (of_round round) headers

-- the vote of this member on the own header of this round that counts
abbrev pub counted_in : List Vote → ℕ → ℕ → Option Vote
counted_in votes round voter = find (counts_for round voter) votes

-- this vote if it is by this member on the own header of this round; otherwise none
abbrev pub vote_if : Vote → ℕ → ℕ → Option Vote
vote_if vote round voter = if counts_for round voter vote then Some vote else None

-- the votes that count on the own header of a vote's round, once this vote has come
abbrev pub counted_and : State → Vote → ℕ → Option Vote
counted_and state vote voter = option_or (state.counted vote.round voter) (vote_if vote vote.round voter)

-- the certificate of the own header of a vote's round; None if the votes that count, with this one, weigh less than a quorum
abbrev pub completed_by : Node → State → Vote → Option Certificate
completed_by node state vote = option_and_then (certificate_by node (counted_and state vote)) (state.own_headers vote.round)

-- ---- the state

-- the state that these tables stand for
abbrev pub state_of : declared.Tables → State
state_of tables = record {
  batches = tables.batches.items;
  acked = acked_in tables.acks.items;
  named = named_in tables.named.items;
  votes = votes_in tables.votes.items;
  own_headers = headers_in tables.own_headers.items;
  counted = counted_in tables.counted.items;
  slots = slots_of tables.certificates.items;
  highest = tables.highest;
  coins = tables.coins.items;
  order = tables.order.items;
}
