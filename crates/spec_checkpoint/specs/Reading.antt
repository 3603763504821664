-- What the records of a checkpoint's state decode to, one after the other; or which is the first that breaks the format.
use Rattle.std.specs.Prelude.{ℕ, ◌+◌, ◌-◌, ◌==◌, ◌&&◌, ◌%◌, not, nat_lt, Bool, true, false, List, [], ◌∷◌, ◌++◌, length, Result, Ok, Err, Option, Some, None, option_map, if◌then◌else◌}
use Rattle.std.specs.List.{list_any}
use Rattle.std.specs.Option.{option_map_or}
use Rattle.std.specs.Int.{Width, w16, w32, w64}
use Rattle.spec_model.specs.Nodes.{Node}
use Rattle.spec_model.specs.Words.{Certificate, Digest, HeaderBody, VoteEntry}
use Rattle.wire.specs.Reading.{◌>>=◌, Read, number_at, digest_at, round_at, count_at, more_at, batch_at, header_at, votes_at, certificate_at}
use Rattle.wire.specs.Rising.{follows}
use Rattle.wire.specs.declared.error.WireError.TheVariants.{Short, NotCanonical}
use Rattle.spec_checkpoint.specs.Data.{KeptBatch, KeptVote, KeptHeader, Checkpoint, blank, place_before}
use Rattle.spec_checkpoint.specs.Records.{ORDER_PIECE, COINS_PIECE}

-- ---- reading a record of each kind, after its kind. Only whether a record can be read matters, not which fault it has

-- the result of a reading, if the value passes a test; otherwise a fault
abbrev pub given : {X : Type 0} → Bool → X × List ℕ → Read X
given passes read = if passes then Ok read else Err NotCanonical

-- reads entries with their number before them; how each is read may depend on those before it
abbrev pub counted_at : {X : Type 0} → Width → ℕ → (List X → List ℕ → Read X) → List ℕ → Read (List X)
counted_at w limit entry_at bytes = do
  count ← count_at w limit bytes
  more_at entry_at count.0 [] count.1

-- reads the digests of one piece of the order, at least one
unfoldable pub digests_at : List ℕ → Read (List Digest)
digests_at bytes = do
  digests ← counted_at w32 ORDER_PIECE (λ before. digest_at) bytes
  given (not (length digests.0 == 0)) digests

-- reads the values of one piece of the coins, at least one
unfoldable pub coins_at : List ℕ → Read (List ℕ)
coins_at bytes = do
  coins ← counted_at w32 COINS_PIECE (λ before. number_at w64) bytes
  given (not (length coins.0 == 0)) coins

-- reads whether an own header names the batch: a byte 1 or 0
unfoldable pub mark_at : List ℕ → Read Bool
mark_at [] = Err Short
mark_at (byte ∷ bytes) = if byte == 1 then Ok (true, bytes) else if byte == 0 then Ok (false, bytes) else Err NotCanonical

-- reads the number of a member other than the node; it has to be greater than the numbers before it
unfoldable pub member_at : Node → List ℕ → List ℕ → Read ℕ
member_at node before bytes = do
  member ← number_at w16 bytes
  given (follows (λ one. nat_lt one member.0) before && not (member.0 == node.own.0)) member

-- reads a batch: whether an own header names it, who acknowledged it, its body. How many acknowledged it has only the limit of two bytes
unfoldable pub kept_batch_at : Node → List ℕ → Read KeptBatch
kept_batch_at node bytes = do
  named ← mark_at bytes
  members ← counted_at w16 65535 (member_at node) named.1
  batch ← batch_at members.1
  Ok (record { named = named.0; members = members.0; batch = batch.0 }, batch.1)

-- a vote, (certificate_may_follow) a certificate, or (header_may_follow) an own header with this round and author may come next in its
-- sorted list
abbrev pub vote_may_follow : List KeptVote → ℕ → ℕ → Bool
vote_may_follow before round author = follows (λ one. place_before one.round one.author round author) before

abbrev pub certificate_may_follow : List Certificate → HeaderBody → Bool
certificate_may_follow before header = follows (λ one. place_before one.header.round one.header.author.0 header.round header.author.0) before

abbrev pub header_may_follow : List KeptHeader → ℕ → Bool
header_may_follow before round = follows (λ one. nat_lt one.header.body.round round) before

-- none of these votes is the node's own
abbrev pub are_of_others : Node → List VoteEntry → Bool
are_of_others node votes = not (list_any (λ entry. entry.voter.0 == node.own.0) votes)

-- reads a vote: author, round, header digest
unfoldable pub kept_vote_at : List KeptVote → List ℕ → Read KeptVote
kept_vote_at before bytes = do
  author ← number_at w16 bytes
  round ← round_at author.1
  header ← digest_at round.1
  given (vote_may_follow before round.0 author.0) (record { author = author.0; round = round.0; header = header.0 }, header.1)

-- reads an own header with its signature, and the other members' votes on it
unfoldable pub kept_header_at : Node → List KeptHeader → List ℕ → Read KeptHeader
kept_header_at node before bytes = do
  header ← header_at bytes
  votes ← votes_at header.1
  given (header_may_follow before header.0.body.round && are_of_others node votes.0) (record { header = header.0; votes = votes.0 }, votes.1)

-- reads a certificate of a round above 0
unfoldable pub kept_certificate_at : List Certificate → List ℕ → Read Certificate
kept_certificate_at before bytes = do
  read ← certificate_at bytes
  given (certificate_may_follow before read.0.header && nat_lt 0 read.0.header.round) read

-- ---- reading one record after the other

-- the value of a reading, if it succeeded and no byte is left
abbrev pub whole : {X : Type 0} → Read X → Option X
whole (Ok read) = if length read.1 == 0 then Some read.0 else None
whole (Err fault) = None

-- this kind if the list isn't empty, and otherwise the kind `before`
abbrev pub kind_or : {X : Type 0} → ℕ → List X → ℕ → ℕ
kind_or kind [] before = before
kind_or kind (first ∷ rest) before = kind

-- the kind of the last record of a checkpoint's state; 0 if there is none
abbrev pub last_kind : Checkpoint → ℕ
last_kind checkpoint =
    kind_or 8 checkpoint.coins (kind_or 7 checkpoint.certificates (kind_or 6 checkpoint.headers (kind_or 5 checkpoint.votes
    (kind_or 4 checkpoint.batches (kind_or 3 checkpoint.order 0)))))

-- the last of the pieces into which this list is cut isn't full
abbrev pub ends_in_part : {X : Type 0} → ℕ → List X → Bool
ends_in_part size list = not (length list % size == 0)

-- The last record is a piece that isn't full, and the next record is of the same kind: this makes the piece a fault.
abbrev pub is_cut_short : Checkpoint → ℕ → Bool
is_cut_short checkpoint kind =
    (last_kind checkpoint == kind)
    && (if kind == 3 then ends_in_part ORDER_PIECE checkpoint.order else if kind == 8 then ends_in_part COINS_PIECE checkpoint.coins else false)

-- the kind of a record, which is its first byte
abbrev pub kind_of : List ℕ → ℕ
kind_of [] = 0
kind_of (kind ∷ bytes) = kind

-- the checkpoint so far with one more record; None if the record breaks the format
unfoldable pub with_record : Node → Checkpoint → List ℕ → Option Checkpoint
with_record node so_far [] = None
with_record node so_far (kind ∷ bytes) =
    if nat_lt kind (last_kind so_far) then None
    else if kind == 3 then option_map (λ digests. record so_far { order = so_far.order ++ digests }) (whole (digests_at bytes))
    else if kind == 4 then option_map (λ kept. record so_far { batches = so_far.batches ++ kept ∷ [] }) (whole (kept_batch_at node bytes))
    else if kind == 5 then option_map (λ kept. record so_far { votes = so_far.votes ++ kept ∷ [] }) (whole (kept_vote_at so_far.votes bytes))
    else if kind == 6 then option_map (λ kept. record so_far { headers = so_far.headers ++ kept ∷ [] }) (whole (kept_header_at node so_far.headers bytes))
    else if kind == 7 then option_map (λ kept. record so_far { certificates = so_far.certificates ++ kept ∷ [] }) (whole (kept_certificate_at so_far.certificates bytes))
    else if kind == 8 then option_map (λ coins. record so_far { coins = so_far.coins ++ coins }) (whole (coins_at bytes))
    else None

-- the checkpoint that the records so far and these lead to, or the place of the first one at fault. The next record is at `place`
unfoldable pub read_from : Node → ℕ → Checkpoint → List (List ℕ) → Result Checkpoint ℕ
read_from node place so_far [] = Ok so_far
read_from node place so_far (first ∷ rest) =
    if is_cut_short so_far (kind_of first) then Err (place - 1)
    else option_map_or (λ next. read_from node (place + 1) next rest) (with_record node so_far first) (Err place)

-- the checkpoint that these records decode to, or the place of the first record that breaks the format
abbrev pub checkpoint_read : Node → List (List ℕ) → Result Checkpoint ℕ
checkpoint_read node records = read_from node 0 blank records
