-- What is written to the disk are bytes.
use Rattle.std.proofs.Common.{ℕ, zero, suc, ◌-◌, ◌/◌, ◌<◌, ◌^◌, List, [], ◌∷◌, ◌++◌, length, map, take, arith}
use Rattle.std.specs.Prelude.{All, flat_map}
use Rattle.std.specs.Int.{w16, w32, w64, to_be_bytes, byte_at, bytes_high_first}
use Rattle.std.proofs.lemmas.Nat.{mod_below}
use Rattle.std.proofs.lemmas.List.Elements.{All-nil, All-cons, All-append, All-head, All-tail, All-take}
use Rattle.diskmodel.specs.Outcomes.{AreBytes}
use Rattle.journal.specs.Format.{body_len, record_bytes, body_bytes, sized_body, group_bytes, file_with}
use Rattle.spec_model.specs.Admitting.{IsTaken}
use Rattle.spec_model.specs.Histories.{History}
use Rattle.spec_model.specs.Nodes.{Node}
use Rattle.spec_model.specs.Words.{Event}
use Rattle.spec_records.specs.Records.{record_of, stakes_of, configuration_of}
use Rattle.journal.specs.Configuration.{number_of}
use Rattle.journal.specs.declared.version.Version.{Version}
use Rattle.journal.specs.declared.version.Version.TheVariants.{First, Second}
use Rattle.wire.specs.Batches.{BatchView, transaction_bytes, batch_body, IsTransaction, IsBatch}
use Rattle.wire.specs.Fields as fields
use Rattle.wire.specs.Grammar.{IsHeaderBody, IsMessage}
use Rattle.wire.specs.References.{IsBatchReference, IsParentReference, IsVoteEntry, AreBatches, AreParents, AreVotes}
use Rattle.wire.specs.Encoding.{batch_reference_bytes, parent_reference_bytes, vote_entry_bytes, batches_bytes, parents_bytes, votes_bytes, header_body, encoding}
use Rattle.wire.specs.declared.header.HeaderBody.{HeaderBody}
use Rattle.wire.specs.declared.keys.Key.{Key}
use Rattle.wire.specs.declared.message.Message.{Message}
use Rattle.wire.specs.declared.message.Message.TheVariants as message
use Rattle.wire.specs.declared.references.BatchReference.{BatchReference}
use Rattle.wire.specs.declared.references.ParentReference.{ParentReference}
use Rattle.wire.specs.declared.votes.VoteEntry.{VoteEntry}

-- ---- numbers and lists

-- what a number is spelled with are bytes
byte_below : (i n : ℕ) → byte_at i n < 256
byte_below zero n = mod_below n 256 (omega arith)
byte_below (suc i) n = mod_below (n / 256 ^ suc i) 256 (omega arith)

pub number_bytes : (count n : ℕ) → AreBytes (bytes_high_first count n)
number_bytes zero n = All-nil (λ b. b < 256)
number_bytes (suc count) n = All-cons (λ b. b < 256) (byte_at count n) (bytes_high_first count n) (byte_below count n) (number_bytes count n)

pub one_more : (byte : ℕ) (rest : List ℕ) → byte < 256 → AreBytes rest → AreBytes (byte ∷ rest)
one_more byte rest below are = All-cons (λ b. b < 256) byte rest below are

pub joined : (one other : List ℕ) → AreBytes one → AreBytes other → AreBytes (one ++ other)
joined one other are also = All-append (λ b. b < 256) one other are also

-- with a number of two, four or eight bytes before
with_two : (n : ℕ) (rest : List ℕ) → AreBytes rest → AreBytes (to_be_bytes w16 n ++ rest)
with_two n rest are = joined (to_be_bytes w16 n) rest (number_bytes 2 n) are

with_four : (n : ℕ) (rest : List ℕ) → AreBytes rest → AreBytes (to_be_bytes w32 n ++ rest)
with_four n rest are = joined (to_be_bytes w32 n) rest (number_bytes 4 n) are

with_eight : (n : ℕ) (rest : List ℕ) → AreBytes rest → AreBytes (to_be_bytes w64 n ++ rest)
with_eight n rest are = joined (to_be_bytes w64 n) rest (number_bytes 8 n) are

-- what is made of elements, one after the other
in_turn : {X : Type 0} (P : X → Type 0) (f : X → List ℕ) → ((x : X) → P x → AreBytes (f x)) → (xs : List X) → All P xs → AreBytes (flat_map f xs)
in_turn P f each [] all = All-nil (λ b. b < 256)
in_turn P f each (x ∷ xs) all = joined (f x) (flat_map f xs) (each x (All-head P x xs all)) (in_turn P f each xs (All-tail P x xs all))

-- ---- messages

batch_are : (batch : BatchView) → IsBatch batch → AreBytes (batch_body batch)
batch_are batch is =
    let text = flat_map transaction_bytes batch.transactions in
    let counted = to_be_bytes w32 (length batch.transactions) ++ text in
    let are : AreBytes text = in_turn IsTransaction transaction_bytes (λ t fits. with_four (length t) t fits.bytes) batch.transactions is.each in
    with_two batch.author.0 (to_be_bytes w16 batch.worker ++ counted) (with_two batch.worker counted (with_four (length batch.transactions) text are))

references_are : (batches : List BatchReference) → AreBatches batches → AreBytes (batches_bytes batches)
references_are batches are =
    with_two (length batches) (flat_map batch_reference_bytes batches)
    (in_turn IsBatchReference batch_reference_bytes (λ b is. joined b.digest.0 (to_be_bytes w16 b.worker) is.digest.each (number_bytes 2 b.worker)) batches are.each)

parents_are : (parents : List ParentReference) → AreParents parents → AreBytes (parents_bytes parents)
parents_are parents are =
    with_two (length parents) (flat_map parent_reference_bytes parents)
    (in_turn IsParentReference parent_reference_bytes (λ p is. with_two p.author.0 p.certificate.0 is.certificate.each) parents are.each)

votes_are : (votes : List VoteEntry) → AreVotes votes → AreBytes (votes_bytes votes)
votes_are votes are =
    with_two (length votes) (flat_map vote_entry_bytes votes)
    (in_turn IsVoteEntry vote_entry_bytes (λ v is. with_two v.voter.0 v.signature.0 is.signature.each) votes are.each)

body_are : (body : HeaderBody) → IsHeaderBody body → AreBytes (header_body body)
body_are body is =
    let lists = batches_bytes body.batches ++ parents_bytes body.parents in
    let are : AreBytes lists = joined (batches_bytes body.batches) (parents_bytes body.parents) (references_are body.batches is.batches) (parents_are body.parents is.parents) in
    with_two body.author.0 (to_be_bytes w64 body.round ++ lists) (with_eight body.round lists are)

message_are : (m : Message) → IsMessage m → AreBytes (encoding m)
message_are (message.Batch batch) is = one_more 1 (batch_body batch) (omega arith) (batch_are batch is)
message_are (message.BatchAck ack) is =
    one_more 2 (to_be_bytes w16 ack.author.0 ++ ack.batch.0) (omega arith) (with_two ack.author.0 ack.batch.0 is.batch.each)
message_are (message.Header header) is =
    one_more 3 (header_body header.body ++ header.signature.0) (omega arith) (joined (header_body header.body) header.signature.0 (body_are header.body is.body) is.signature.each)
message_are (message.Vote vote) is =
    let round = vote.header.0 ++ to_be_bytes w64 vote.round in
    let author = round ++ to_be_bytes w16 vote.author.0 in
    let voter = author ++ to_be_bytes w16 vote.voter.0 in
    let to_round : AreBytes round = joined vote.header.0 (to_be_bytes w64 vote.round) is.header.each (number_bytes 8 vote.round) in
    let to_author : AreBytes author = joined round (to_be_bytes w16 vote.author.0) to_round (number_bytes 2 vote.author.0) in
    let to_voter : AreBytes voter = joined author (to_be_bytes w16 vote.voter.0) to_author (number_bytes 2 vote.voter.0) in
    one_more 4 (voter ++ vote.signature.0) (omega arith) (joined voter vote.signature.0 to_voter is.signature.each)
message_are (message.Certificate certificate) is =
    one_more 5 (header_body certificate.header ++ votes_bytes certificate.votes) (omega arith)
    (joined (header_body certificate.header) (votes_bytes certificate.votes) (body_are certificate.header is.header) (votes_are certificate.votes is.votes))
message_are (message.Coin coin) is =
    one_more 6 (to_be_bytes w64 coin.wave ++ to_be_bytes w64 coin.value) (omega arith) (with_eight coin.wave (to_be_bytes w64 coin.value) (number_bytes 8 coin.value))

-- ---- records

record_are : (node : Node) (event : Event) → IsTaken node event → AreBytes (record_of event)
record_are node event is =
    let rest = to_be_bytes w16 event.sender.0 ++ encoding event.message in
    one_more 1 rest (omega arith) (with_two event.sender.0 (encoding event.message) (message_are event.message is.message))

-- the number of a version is a byte
number_small : (version : Version) → number_of version < 256
number_small First = omega arith
number_small Second = omega arith

-- the stakes of a record
stakes_are : (version : Version) (stakes : List ℕ) → AreBytes (stakes_of version stakes)
stakes_are First stakes = All-nil (λ b. b < 256)
stakes_are Second [] = All-nil (λ b. b < 256)
stakes_are Second (stake ∷ stakes) = with_four stake (stakes_of Second stakes) (stakes_are Second stakes)

-- the record of a node's configuration, where its keys are bytes
pub configuration_are : (version : Version) (node : Node) → All (λ key. fields.HasBytes 32 key.0) node.charter.keys → AreBytes (configuration_of version node.charter node.own)
configuration_are version node keys =
    let charter = node.charter in
    let stakes = stakes_of version charter.stakes in
    let text = flat_map (λ (key : Key). key.0) charter.keys ++ stakes in
    let counted = to_be_bytes w16 (length charter.keys) ++ text in
    let batches = to_be_bytes w32 charter.batches ++ counted in
    let workers = to_be_bytes w16 charter.workers ++ batches in
    let depth = to_be_bytes w16 charter.depth ++ workers in
    let own = to_be_bytes w16 node.own.0 ++ depth in
    let each : AreBytes (flat_map (λ (key : Key). key.0) charter.keys) =
    in_turn (λ (key : Key). fields.HasBytes 32 key.0) (λ (key : Key). key.0) (λ key is. is.each) charter.keys keys in
    let are : AreBytes text = joined (flat_map (λ (key : Key). key.0) charter.keys) stakes each (stakes_are version charter.stakes) in
    let from_workers : AreBytes workers = with_two charter.workers batches (with_four charter.batches counted (with_two (length charter.keys) text are)) in
    let number : number_of version < 256 = number_small version in
    one_more 0 (number_of version ∷ own) (omega arith) (one_more (number_of version) own number (with_two node.own.0 depth (with_two charter.depth workers from_workers)))

-- ---- groups

-- a record after its length
framed : (bytes : List ℕ) → AreBytes bytes → AreBytes (record_bytes bytes)
framed bytes are = with_four (length bytes) bytes are

-- a group of records that are bytes
pub group_are : (records : List (List ℕ)) → All AreBytes records → AreBytes (group_bytes records)
group_are records each =
    let body : AreBytes (body_bytes records) = in_turn AreBytes record_bytes framed records each in
    joined (sized_body records) (0 ∷ []) (with_four (body_len records) (body_bytes records) body) (one_more 0 [] (omega arith) (All-nil (λ b. b < 256)))

records_are : (node : Node) (events : History) → All (IsTaken node) events → All AreBytes (map record_of events)
records_are node [] all = All-nil AreBytes
records_are node (event ∷ events) all =
    All-cons AreBytes (record_of event) (map record_of events) (record_are node event (All-head (IsTaken node) event events all)) (records_are node events (All-tail (IsTaken node) event events all))

-- and one of events that were taken
pub group_in_bytes : (node : Node) (events : History) → All (IsTaken node) events → AreBytes (group_bytes (map record_of events))
group_in_bytes node events all = group_are (map record_of events) (records_are node events all)

-- a file with a group more
pub longer_bytes : (file : List ℕ) (group : List (List ℕ)) → AreBytes file → AreBytes (group_bytes group) → AreBytes (file_with file group)
longer_bytes file group are also =
    joined (take (length file - 1) file) (1 ∷ group_bytes group) (All-take (λ b. b < 256) (length file - 1) file are) (one_more 1 (group_bytes group) (omega arith) also)
