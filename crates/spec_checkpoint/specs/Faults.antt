-- Whether a checkpoint is sound, so that a node can go on from it: a test of each record, in their order, and then one of the whole.
use Rattle.std.specs.Prelude.{ℕ, ◌==◌, ◌&&◌, ◌||◌, not, nat_lt, nat_le, Bool, true, false, List, [], ◌∷◌, ◌++◌, map, length, is_some, if◌then◌else◌}
use Rattle.std.specs.List.{list_any, list_all}
use Rattle.std.specs.Option.{option_map_or}
use Rattle.std.specs.Str.{bytes_eq}
use Rattle.committee.specs.Charter.{weight}
use Rattle.header.specs.Checks.{fault_of, accepts_all}
use Rattle.spec_model.specs.Holdings.{batch_digest, is_low, all_held, ledger_of}
use Rattle.spec_model.specs.Nodes.{Node, size_of, quorum}
use Rattle.spec_model.specs.Ordering.{top}
use Rattle.spec_model.specs.Slots.{same_digest}
use Rattle.spec_model.specs.Words.{Author, Certificate, HeaderBody, Message}
use Rattle.wire.specs.Encoding.{header_body}
use Rattle.wire.specs.declared.message.Message.TheVariants as message
use Rattle.spec_checkpoint.specs.Data.{KeptBatch, KeptVote, KeptHeader, Checkpoint}
use Rattle.spec_checkpoint.specs.Meaning.{kept_vote, listed, listed_floor, state_in}
use Rattle.spec_checkpoint.specs.Records.{ORDER_PIECE, COINS_PIECE, cut}

-- a message from this sender passes the checks, without those of signatures
abbrev pub passes : Node → Author → Message → Bool
passes node sender given = not (is_some (fault_of node.charter accepts_all (record { sender = sender; message = given })))

-- A batch is sound: it passes the checks as one from its author, no earlier batch has its digest, and there is room for it. Those who
-- acknowledged it are members. If it has acknowledgements or is named, it is an own batch.
abbrev pub is_batch_sound : Node → List KeptBatch → KeptBatch → Bool
is_batch_sound node before kept =
    passes node kept.batch.author (message.Batch kept.batch)
    && (not (list_any (λ other. same_digest (batch_digest other.batch) (batch_digest kept.batch)) before)
    && (nat_lt (length before) node.charter.batches
    && (list_all (λ member. nat_lt member (size_of node)) kept.members
    && ((kept.batch.author.0 == node.own.0) || ((length kept.members == 0) && not kept.named)))))

-- the tests of these batches, which come after the batches `before`
unfoldable pub batch_tests : Node → List KeptBatch → List KeptBatch → List Bool
batch_tests node before [] = []
batch_tests node before (kept ∷ rest) = is_batch_sound node before kept ∷ batch_tests node (before ++ kept ∷ []) rest

-- a vote is sound: it is for another member's header, in a round that isn't low
abbrev pub is_vote_sound : Node → Checkpoint → KeptVote → Bool
is_vote_sound node checkpoint vote =
    not (is_low (listed_floor node checkpoint) vote.round) && (nat_lt vote.author (size_of node) && not (vote.author == node.own.0))

-- a member has a vote on this own header; the node itself always has one
abbrev pub has_kept : Node → KeptHeader → ℕ → Bool
has_kept node kept voter = is_some (kept_vote node kept voter)

-- two header bodies are the same: they have the same encoding
abbrev pub same_body : HeaderBody → HeaderBody → Bool
same_body one other = bytes_eq (header_body one) (header_body other)

-- Either the votes on an own header weigh less than a quorum, or its certificate is there, and without some other member's vote they would
-- weigh less.
abbrev pub is_completed_well : Node → Checkpoint → KeptHeader → Bool
is_completed_well node checkpoint kept =
    nat_lt (weight node.charter (has_kept node kept)) (quorum node)
    || (option_map_or (λ certificate. same_body certificate.header kept.header.body) ((state_in node checkpoint).slots kept.header.body.round node.own.0) false
    && list_any (λ entry. nat_lt (weight node.charter (λ voter. has_kept node kept voter && not (voter == entry.voter.0))) (quorum node)) kept.votes)

-- An own header is sound: its round isn't low, it passes the checks as one from the node, its parents are held, and the voters on it are
-- members.
abbrev pub is_header_sound : Node → Checkpoint → KeptHeader → Bool
is_header_sound node checkpoint kept =
    not (is_low (listed_floor node checkpoint) kept.header.body.round)
    && (passes node node.own (message.Header kept.header)
    && (all_held (state_in node checkpoint).slots (listed_floor node checkpoint) kept.header.body
    && (list_all (λ entry. nat_lt entry.voter.0 (size_of node)) kept.votes
    && is_completed_well node checkpoint kept)))

-- a certificate is sound: its round isn't below the floor, it passes the checks, and its parents are held
abbrev pub is_certificate_sound : Node → Checkpoint → Certificate → Bool
is_certificate_sound node checkpoint certificate =
    nat_le (listed_floor node checkpoint) certificate.header.round
    && (passes node node.own (message.Certificate certificate)
    && all_held (state_in node checkpoint).slots (listed_floor node checkpoint) certificate.header)

-- the tests of pieces of the order or of the coins, which always pass: a piece can't be unsound by itself
abbrev pub piece_tests : {X : Type 0} → List X → List Bool
piece_tests pieces = map (λ piece. true) pieces

-- the tests of all records of a checkpoint's state, in the order of the records
abbrev pub record_tests : Node → Checkpoint → List Bool
record_tests node checkpoint =
    piece_tests (cut ORDER_PIECE checkpoint.order)
    ++ (batch_tests node [] checkpoint.batches
    ++ (map (is_vote_sound node checkpoint) checkpoint.votes
    ++ (map (is_header_sound node checkpoint) checkpoint.headers
    ++ (map (is_certificate_sound node checkpoint) checkpoint.certificates
    ++ piece_tests (cut COINS_PIECE checkpoint.coins)))))

-- the test of the whole: the order is empty if and only if no leader is committed
abbrev pub is_whole_sound : Node → Checkpoint → Bool
is_whole_sound node checkpoint =
    let committed = is_some (top (ledger_of node (listed checkpoint) checkpoint.coins)) in
    if length checkpoint.order == 0 then not committed else committed

-- all records of a checkpoint are sound, and so is the whole
abbrev pub has_no_fault : Node → Checkpoint → Bool
has_no_fault node checkpoint = list_all (λ sound. sound) (record_tests node checkpoint) && is_whole_sound node checkpoint
