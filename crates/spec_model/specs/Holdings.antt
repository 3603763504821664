-- What a node has after a history: batches and who holds them, votes, certificates, the order, and the round.
use Rattle.std.specs.Prelude.{ℕ, ◌+◌, ◌-◌, ◌==◌, ◌&&◌, ◌||◌, nat_le, nat_lt, max, Bool, false, List, [], ◌++◌, map, fold, filter, filter_map, find}
use Rattle.std.specs.Prelude.{Option, Some, None, is_some, option_map, option_and_then, if◌then◌else◌}
use Rattle.std.specs.List.{list_any, list_all}
use Rattle.std.specs.Option.{option_map_or}
use Rattle.wire.specs.Digests.{batch_digest_of}
use Rattle.committee.specs.Charter.{numbers, weight}
use Rattle.spec_model.specs.Histories.{History, batches, acks, headers, votes, received, coins}
use Rattle.spec_model.specs.Nodes.{Node, size_of, quorum}
use Rattle.spec_model.specs.Ordering.{Ledger, order_by, floor_by}
use Rattle.spec_model.specs.Slots.{Slots, same_digest, header_digest, certificate_digest, is_of_slot, slots_of}
use Rattle.spec_model.specs.Words.{Certificate, BatchView, Digest, Header, HeaderBody, ParentReference, Vote, VoteEntry}

-- ---- batches

abbrev pub batch_digest : BatchView → Digest
batch_digest batch = record { 0 = batch_digest_of batch }

-- the batch with this digest, if the history has one
abbrev pub batch_at : History → Digest → Option BatchView
batch_at history digest = find (λ batch. same_digest (batch_digest batch) digest) (batches history)

-- this member has acknowledged the batch with this digest
abbrev pub has_acked : History → Digest → ℕ → Bool
has_acked history digest member = list_any (λ ack. same_digest ack.batch digest && (ack.author.0 == member)) (acks history)

-- an own header has named the batch with this digest
abbrev pub was_named : Node → History → Digest → Bool
was_named node history digest =
    list_any (λ header. (header.body.author.0 == node.own.0) && list_any (λ named. same_digest named.digest digest) header.body.batches) (headers history)

-- ---- votes

-- the header of this round and author that the node voted for: each header that it takes it votes for, so it is the one in the history
abbrev pub voted_header : History → ℕ → ℕ → Option Header
voted_header history round author = find (λ header. is_of_slot round author header.body) (headers history)

-- the digest of the header of this round and author that the node voted for
abbrev pub voted_digest : History → ℕ → ℕ → Option Digest
voted_digest history round author = option_map (λ header. header_digest header.body) (voted_header history round author)

-- a vote is for this header, and by this member
abbrev pub is_vote_on : HeaderBody → ℕ → Vote → Bool
is_vote_on header voter vote =
    is_of_slot vote.round vote.author.0 header && ((vote.voter.0 == voter) && same_digest vote.header (header_digest header))

-- the node's own vote for a header: its signature of the certificate's digest
abbrev pub own_vote : Node → HeaderBody → Vote
own_vote node header = record {
  header = header_digest header;
  round = header.round;
  author = header.author;
  voter = node.own;
  signature = node.sign (certificate_digest header);
}

-- the vote of a member on an own header that counts: the first one that came in. The node's own vote counts from the beginning
abbrev pub counted_vote : Node → History → HeaderBody → ℕ → Option Vote
counted_vote node history header voter = if voter == node.own.0 then Some (own_vote node header) else find (is_vote_on header voter) (votes history)

-- the vote of a member that counts on the own header of this round
abbrev pub counted_at : Node → History → ℕ → ℕ → Option Vote
counted_at node history round voter = option_and_then (λ header. counted_vote node history header.body voter) (voted_header history round node.own.0)

-- a vote as it stands in a certificate
abbrev pub entry_of : Vote → VoteEntry
entry_of vote = record { voter = vote.voter; signature = vote.signature }

-- the vote of a member that counts on an own header, as it stands in a certificate
abbrev pub entry_on : Node → History → HeaderBody → ℕ → Option VoteEntry
entry_on node history header voter = option_map entry_of (counted_vote node history header voter)

-- the votes of all members that count, as they stand in a certificate: sorted by voter
abbrev pub votes_by : Node → (ℕ → Option Vote) → List VoteEntry
votes_by node counted = filter_map (λ voter. option_map entry_of (counted voter)) (numbers (size_of node))

-- the votes that count on an own header, as they stand in a certificate
abbrev pub votes_on : Node → History → HeaderBody → List VoteEntry
votes_on node history header = votes_by node (counted_vote node history header)

-- ---- certificates

-- the genesis certificate of an author
abbrev pub genesis : ℕ → Certificate
genesis author = record { header = record { author = record { 0 = author }; round = 0; batches = []; parents = [] }; votes = [] }

-- this member has a vote on an own header that counts
abbrev pub has_voted : Node → History → HeaderBody → ℕ → Bool
has_voted node history header voter = is_some (counted_vote node history header voter)

-- the certificate of an own header with the votes that `counted` says; None if these weigh less than a quorum
abbrev pub certificate_by : Node → (ℕ → Option Vote) → Header → Option Certificate
certificate_by node counted header =
    if (header.body.author.0 == node.own.0) && nat_le (quorum node) (weight node.charter (λ voter. is_some (counted voter)))
    then Some (record { header = header.body; votes = votes_by node counted }) else None

-- the certificate of an own header; None if the votes on it weigh less than a quorum
abbrev pub completed : Node → History → Header → Option Certificate
completed node history header = certificate_by node (counted_vote node history header.body) header

-- all certificates after a history: those of the genesis, those that came in, and those of own headers
abbrev pub certificates : Node → History → List Certificate
certificates node history =
    map genesis (numbers (size_of node)) ++ received history ++ filter_map (completed node history) (headers history)

-- which certificate there is for each round and author after a history
abbrev pub slots : Node → History → Slots
slots node history = slots_of (certificates node history)

-- ---- the order and the rounds

abbrev pub ledger_of : Node → Slots → List ℕ → Ledger
ledger_of node slots coins = record { charter = node.charter; slots = slots; coins = coins }

abbrev pub ledger_at : Node → History → Ledger
ledger_at node history = ledger_of node (slots node history) (coins history)

abbrev pub order : Node → History → List Digest
order node history = order_by (ledger_at node history)

abbrev pub floor : Node → History → ℕ
floor node history = floor_by (ledger_at node history)

-- A round is low: it is 0, or at or below a floor above 0. Nothing of a low round is taken any more. The floor's own round is the lowest
-- that the last committed leader orders, so its certificates are kept; every later leader orders only higher rounds.
abbrev pub is_low : ℕ → ℕ → Bool
is_low floor round = (round == 0) || (nat_lt 0 floor && nat_le round floor)

-- the authors of the certificates of a round weigh a quorum
abbrev pub is_full : Node → Slots → ℕ → Bool
is_full node slots round = nat_le (quorum node) (weight node.charter (λ author. is_some (slots round author)))

-- the round of a node: 1 plus the greatest round of which it has certificates by a quorum of authors
abbrev pub round_by : Node → List Certificate → ℕ
round_by node certificates = 1 + fold max 0 (filter (is_full node (slots_of certificates)) (map (λ c. c.header.round) certificates))

abbrev pub round : Node → History → ℕ
round node history = round_by node (certificates node history)

-- A parent of a header of this round is held: its certificate is there; or its round is at or below a floor above 0, and then it isn't
-- looked up
abbrev pub is_held : Slots → ℕ → ℕ → ParentReference → Bool
is_held slots floor round parent =
    option_map_or (λ c. same_digest (certificate_digest c.header) parent.certificate) (slots (round - 1) parent.author.0) false
    || (nat_lt 0 floor && nat_le (round - 1) floor)

abbrev pub all_held : Slots → ℕ → HeaderBody → Bool
all_held slots floor header = list_all (is_held slots floor header.round) header.parents
