-- How the records of a checkpoint's state are written. Numbers are big-endian.
use Rattle.std.specs.Prelude.{ℕ, ◌+◌, ◌-◌, ◌*◌, ◌/◌, List, ◌∷◌, ◌++◌, map, length, take, drop, if◌then◌else◌}
use Rattle.std.specs.List.{flat_map, range_with_len}
use Rattle.std.specs.Int.{w16, w32, w64, to_be_bytes}
use Rattle.wire.specs.Batches.{batch_body}
use Rattle.wire.specs.Encoding.{header_body, votes_bytes}
use Rattle.spec_model.specs.Words.{Certificate, Digest}
use Rattle.spec_checkpoint.specs.Data.{KeptBatch, KeptVote, KeptHeader, Checkpoint}

-- the record of a piece of the order: its kind, the number of digests, the digests
abbrev pub order_record : List Digest → List ℕ
order_record digests = 3 ∷ to_be_bytes w32 (length digests) ++ flat_map (λ digest. digest.0) digests

-- the record of a batch: its kind, whether an own header names it, the number of other members who acknowledged it, these members, the
-- batch's body
abbrev pub batch_record : KeptBatch → List ℕ
batch_record kept =
    4 ∷ (if kept.named then 1 else 0) ∷ to_be_bytes w16 (length kept.members) ++ flat_map (to_be_bytes w16) kept.members ++ batch_body kept.batch

-- the record of a vote for another author's header: its kind, author, round, header digest
abbrev pub vote_record : KeptVote → List ℕ
vote_record vote = 5 ∷ to_be_bytes w16 vote.author ++ to_be_bytes w64 vote.round ++ vote.header.0

-- the record of an own header: its kind, the header's body, its signature, the number of others' votes on it, these votes
abbrev pub header_record : KeptHeader → List ℕ
header_record kept = 6 ∷ header_body kept.header.body ++ kept.header.signature.0 ++ votes_bytes kept.votes

-- the record of a certificate: its kind, the header's body, the number of votes, the votes
abbrev pub certificate_record : Certificate → List ℕ
certificate_record certificate = 7 ∷ header_body certificate.header ++ votes_bytes certificate.votes

-- the record of a piece of the coins: its kind, the number of values, the values
abbrev pub coins_record : List ℕ → List ℕ
coins_record coins = 8 ∷ to_be_bytes w32 (length coins) ++ flat_map (to_be_bytes w64) coins

-- how many digests a piece of the order has, and (COINS_PIECE) how many values a piece of the coins; only the last piece may have fewer
abbrev pub ORDER_PIECE : ℕ
ORDER_PIECE = 65536

abbrev pub COINS_PIECE : ℕ
COINS_PIECE = 131072

-- a list cut into pieces of this size; the last piece may have fewer elements, and none is empty
abbrev pub cut : {X : Type 0} → ℕ → List X → List (List X)
cut size list = map (λ piece. take size (drop (size * piece) list)) (range_with_len 0 ((length list + (size - 1)) / size))

-- the records of a checkpoint's state, kind after kind
abbrev pub state_records : Checkpoint → List (List ℕ)
state_records checkpoint =
    map order_record (cut ORDER_PIECE checkpoint.order)
    ++ (map batch_record checkpoint.batches
    ++ (map vote_record checkpoint.votes
    ++ (map header_record checkpoint.headers
    ++ (map certificate_record checkpoint.certificates
    ++ map coins_record (cut COINS_PIECE checkpoint.coins)))))
