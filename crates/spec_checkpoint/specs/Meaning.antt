-- The state that a checkpoint stands for.
use Rattle.std.specs.Prelude.{ℕ, ◌==◌, ◌&&◌, false, map, find, Option, Some, None, option_map, option_and_then, if◌then◌else◌}
use Rattle.std.specs.List.{list_any}
use Rattle.std.specs.Option.{option_map_or}
use Rattle.committee.specs.Charter.{numbers}
use Rattle.spec_model.specs.Holdings.{batch_digest, own_vote, genesis, ledger_of}
use Rattle.spec_model.specs.Nodes.{Node, size_of}
use Rattle.spec_model.specs.Ordering.{floor_by}
use Rattle.spec_model.specs.Slots.{Slots, same_digest, header_digest, slots_of}
use Rattle.spec_model.specs.States.{State, highest_of}
use Rattle.spec_model.specs.Words.{Digest, Header, Vote, VoteEntry}
use Rattle.spec_checkpoint.specs.Data.{KeptBatch, KeptHeader, Checkpoint}

-- the batch with this digest in a checkpoint, and (kept_header) the own header of this round, if they are there
abbrev pub kept_batch : Checkpoint → Digest → Option KeptBatch
kept_batch checkpoint digest = find (λ kept. same_digest (batch_digest kept.batch) digest) checkpoint.batches

abbrev pub kept_header : Checkpoint → ℕ → Option KeptHeader
kept_header checkpoint round = find (λ kept. kept.header.body.round == round) checkpoint.headers

-- the vote on a header that an entry of a checkpoint or certificate stands for
abbrev pub vote_of : Header → VoteEntry → Vote
vote_of header entry =
    record { header = header_digest header.body; round = header.body.round; author = header.body.author; voter = entry.voter; signature = entry.signature }

-- a member's vote on an own header in a checkpoint: the node's own vote isn't stored but signed again; the others have entries
abbrev pub kept_vote : Node → KeptHeader → ℕ → Option Vote
kept_vote node kept voter =
    if voter == node.own.0 then Some (own_vote node kept.header.body)
    else option_map (vote_of kept.header) (find (λ entry. entry.voter.0 == voter) kept.votes)

-- The certificate of each round and author in a checkpoint; and (listed_floor) the floor that these and the coins lead to. Leaders and
-- supporters are never of round 0, so the missing genesis certificates don't change the floor.
abbrev pub listed : Checkpoint → Slots
listed checkpoint = slots_of checkpoint.certificates

abbrev pub listed_floor : Node → Checkpoint → ℕ
listed_floor node checkpoint = floor_by (ledger_of node (listed checkpoint) checkpoint.coins)

-- The state that a checkpoint stands for. The node's votes for itself come from its own headers; at floor 0 the genesis certificates are
-- added.
abbrev pub state_in : Node → Checkpoint → State
state_in node checkpoint = record {
  batches = map (λ kept. kept.batch) checkpoint.batches;
  acked = λ digest member. option_map_or (λ kept. list_any (λ one. one == member) kept.members) (kept_batch checkpoint digest) false;
  named = λ digest. option_map_or (λ kept. kept.named) (kept_batch checkpoint digest) false;
  votes = λ round author.
      if author == node.own.0 then option_map (λ kept. header_digest kept.header.body) (kept_header checkpoint round)
      else option_map (λ vote. vote.header) (find (λ vote. (vote.round == round) && (vote.author == author)) checkpoint.votes);
  own_headers = λ round. option_map (λ kept. kept.header) (kept_header checkpoint round);
  counted = λ round voter. option_and_then (λ kept. kept_vote node kept voter) (kept_header checkpoint round);
  slots = λ round author.
      if round == 0 then (if listed_floor node checkpoint == 0 then slots_of (map genesis (numbers (size_of node))) 0 author else None)
      else listed checkpoint round author;
  highest = highest_of checkpoint.certificates;
  coins = checkpoint.coins;
  order = checkpoint.order;
}
