-- That the records of a checkpoint, and a node's configuration, are bytes.
use Rattle.std.proofs.Common.{ℕ, zero, suc, ◌*◌, ◌/◌, ◌<◌, ◌^◌, Bool, true, false, cond, List, [], ◌∷◌, ◌++◌, length, map, take, drop, arith}
use Rattle.std.specs.Prelude.{All, flat_map}
use Rattle.std.specs.Int.{w16, w32, w64, to_be_bytes, byte_at, bytes_high_first}
use Rattle.std.proofs.lemmas.Nat.{mod_below}
use Rattle.std.proofs.lemmas.List.Elements.{All-nil, All-cons, All-append, All-head, All-tail, All-take, All-drop}
use Rattle.diskmodel.specs.Outcomes.{AreBytes}
use Rattle.spec_checkpoint.specs.Data.{KeptBatch, KeptVote, KeptHeader, Checkpoint, IsKeptBatch, IsKeptVote, IsKeptHeader, IsKeptCertificate, IsCanonical}
use Rattle.spec_checkpoint.specs.Records.{order_record, batch_record, vote_record, header_record, certificate_record, coins_record, cut, state_records}
use Rattle.spec_model.specs.Nodes.{Node}
use Rattle.spec_model.specs.Words.{Certificate, Digest}
use Rattle.spec_records.specs.Records.{stakes_of, configuration_of}
use Rattle.journal.specs.Configuration.{number_of}
use Rattle.journal.specs.declared.version.Version.{Version}
use Rattle.journal.specs.declared.version.Version.TheVariants.{First, Second}
use Rattle.wire.specs.Batches.{BatchView, transaction_bytes, batch_body, IsTransaction, IsBatch}
use Rattle.wire.specs.Fields as fields
use Rattle.wire.specs.Grammar.{IsHeaderBody}
use Rattle.wire.specs.References.{IsBatchReference, IsParentReference, IsVoteEntry, AreBatches, AreParents, AreVotes}
use Rattle.wire.specs.Encoding.{batch_reference_bytes, parent_reference_bytes, vote_entry_bytes, batches_bytes, parents_bytes, votes_bytes, header_body}
use Rattle.wire.specs.declared.header.HeaderBody.{HeaderBody}
use Rattle.wire.specs.declared.keys.Key.{Key}
use Rattle.wire.specs.declared.references.BatchReference.{BatchReference}
use Rattle.wire.specs.declared.references.ParentReference.{ParentReference}
use Rattle.wire.specs.declared.votes.VoteEntry.{VoteEntry}

-- ---- numbers and lists

-- what a number is spelled with are bytes
byte_below : (i n : ℕ) → byte_at i n < 256
byte_below zero n = mod_below n 256 (omega arith)
byte_below (suc i) n = mod_below (n / 256 ^ suc i) 256 (omega arith)

number_bytes : (count n : ℕ) → AreBytes (bytes_high_first count n)
number_bytes zero n = All-nil (λ b. b < 256)
number_bytes (suc count) n = All-cons (λ b. b < 256) (byte_at count n) (bytes_high_first count n) (byte_below count n) (number_bytes count n)

one_more : (byte : ℕ) (rest : List ℕ) → byte < 256 → AreBytes rest → AreBytes (byte ∷ rest)
one_more byte rest below are = All-cons (λ b. b < 256) byte rest below are

joined : (one other : List ℕ) → AreBytes one → AreBytes other → AreBytes (one ++ other)
joined one other are also = All-append (λ b. b < 256) one other are also

-- with a number of two, four or eight bytes before
with_two : (n : ℕ) (rest : List ℕ) → AreBytes rest → AreBytes (to_be_bytes w16 n ++ rest)
with_two n rest are = joined (to_be_bytes w16 n) rest (number_bytes 2 n) are

with_four : (n : ℕ) (rest : List ℕ) → AreBytes rest → AreBytes (to_be_bytes w32 n ++ rest)
with_four n rest are = joined (to_be_bytes w32 n) rest (number_bytes 4 n) are

with_eight : (n : ℕ) (rest : List ℕ) → AreBytes rest → AreBytes (to_be_bytes w64 n ++ rest)
with_eight n rest are = joined (to_be_bytes w64 n) rest (number_bytes 8 n) are

-- what is made of elements, one after the other
in_turn : {X : Type 0} (P : X → Type 0) (f : X → List ℕ) → ((x : X) → P x → AreBytes (f x)) → (xs : List X) → All P xs → AreBytes (flat_map f xs)
in_turn P f each [] all = All-nil (λ b. b < 256)
in_turn P f each (x ∷ xs) all = joined (f x) (flat_map f xs) (each x (All-head P x xs all)) (in_turn P f each xs (All-tail P x xs all))

-- ---- parts of messages

batch_are : (batch : BatchView) → IsBatch batch → AreBytes (batch_body batch)
batch_are batch is =
    let text = flat_map transaction_bytes batch.transactions in
    let counted = to_be_bytes w32 (length batch.transactions) ++ text in
    let are : AreBytes text = in_turn IsTransaction transaction_bytes (λ t fits. with_four (length t) t fits.bytes) batch.transactions is.each in
    with_two batch.author.0 (to_be_bytes w16 batch.worker ++ counted) (with_two batch.worker counted (with_four (length batch.transactions) text are))

references_are : (batches : List BatchReference) → AreBatches batches → AreBytes (batches_bytes batches)
references_are batches are =
    with_two (length batches) (flat_map batch_reference_bytes batches)
    (in_turn IsBatchReference batch_reference_bytes (λ b is. joined b.digest.0 (to_be_bytes w16 b.worker) is.digest.each (number_bytes 2 b.worker)) batches are.each)

parents_are : (parents : List ParentReference) → AreParents parents → AreBytes (parents_bytes parents)
parents_are parents are =
    with_two (length parents) (flat_map parent_reference_bytes parents)
    (in_turn IsParentReference parent_reference_bytes (λ p is. with_two p.author.0 p.certificate.0 is.certificate.each) parents are.each)

votes_are : (votes : List VoteEntry) → AreVotes votes → AreBytes (votes_bytes votes)
votes_are votes are =
    with_two (length votes) (flat_map vote_entry_bytes votes)
    (in_turn IsVoteEntry vote_entry_bytes (λ v is. with_two v.voter.0 v.signature.0 is.signature.each) votes are.each)

body_are : (body : HeaderBody) → IsHeaderBody body → AreBytes (header_body body)
body_are body is =
    let lists = batches_bytes body.batches ++ parents_bytes body.parents in
    let are : AreBytes lists = joined (batches_bytes body.batches) (parents_bytes body.parents) (references_are body.batches is.batches) (parents_are body.parents is.parents) in
    with_two body.author.0 (to_be_bytes w64 body.round ++ lists) (with_eight body.round lists are)

-- ---- the configuration

-- the number of a version is a byte
number_small : (version : Version) → number_of version < 256
number_small First = omega arith
number_small Second = omega arith

-- the stakes of a record
stakes_are : (version : Version) (stakes : List ℕ) → AreBytes (stakes_of version stakes)
stakes_are First stakes = All-nil (λ b. b < 256)
stakes_are Second [] = All-nil (λ b. b < 256)
stakes_are Second (stake ∷ stakes) = with_four stake (stakes_of Second stakes) (stakes_are Second stakes)

-- the record of a node's configuration, where its keys are bytes
pub configuration_are : (version : Version) (node : Node) → All (λ key. fields.HasBytes 32 key.0) node.charter.keys → AreBytes (configuration_of version node.charter node.own)
configuration_are version node keys =
    let charter = node.charter in
    let stakes = stakes_of version charter.stakes in
    let text = flat_map (λ (key : Key). key.0) charter.keys ++ stakes in
    let counted = to_be_bytes w16 (length charter.keys) ++ text in
    let batches = to_be_bytes w32 charter.batches ++ counted in
    let workers = to_be_bytes w16 charter.workers ++ batches in
    let depth = to_be_bytes w16 charter.depth ++ workers in
    let own = to_be_bytes w16 node.own.0 ++ depth in
    let each : AreBytes (flat_map (λ (key : Key). key.0) charter.keys) =
    in_turn (λ (key : Key). fields.HasBytes 32 key.0) (λ (key : Key). key.0) (λ key is. is.each) charter.keys keys in
    let are : AreBytes text = joined (flat_map (λ (key : Key). key.0) charter.keys) stakes each (stakes_are version charter.stakes) in
    let from_workers : AreBytes workers = with_two charter.workers batches (with_four charter.batches counted (with_two (length charter.keys) text are)) in
    let number : number_of version < 256 = number_small version in
    one_more 0 (number_of version ∷ own) (omega arith) (one_more (number_of version) own number (with_two node.own.0 depth (with_two charter.depth workers from_workers)))

-- ---- the records of a state

order_are : (digests : List Digest) → All fields.IsDigest digests → AreBytes (order_record digests)
order_are digests all =
    one_more 3 (to_be_bytes w32 (length digests) ++ flat_map (λ (digest : Digest). digest.0) digests) (omega arith)
    (with_four (length digests) (flat_map (λ (digest : Digest). digest.0) digests) (in_turn fields.IsDigest (λ (digest : Digest). digest.0) (λ digest is. is.each) digests all))

mark_are : (named : Bool) → cond named 1 0 < 256
mark_are true = omega arith
mark_are false = omega arith

members_are : (members : List ℕ) → AreBytes (flat_map (to_be_bytes w16) members)
members_are [] = All-nil (λ b. b < 256)
members_are (member ∷ members) = with_two member (flat_map (to_be_bytes w16) members) (members_are members)

kept_batch_are : (node : Node) (kept : KeptBatch) → IsKeptBatch node kept → AreBytes (batch_record kept)
kept_batch_are node kept is =
    let members = flat_map (to_be_bytes w16) kept.members in
    let mark : ℕ = cond kept.named 1 0 in
    let front = (to_be_bytes w16 (length kept.members) ++ members) ++ batch_body kept.batch in
    one_more 4 (mark ∷ front) (omega arith)
    (one_more mark front (mark_are kept.named)
    (joined (to_be_bytes w16 (length kept.members) ++ members) (batch_body kept.batch) (with_two (length kept.members) members (members_are kept.members)) (batch_are kept.batch is.batch)))

vote_are : (vote : KeptVote) → IsKeptVote vote → AreBytes (vote_record vote)
vote_are vote is =
    let front = to_be_bytes w16 vote.author ++ to_be_bytes w64 vote.round in
    one_more 5 (front ++ vote.header.0) (omega arith)
    (joined front vote.header.0 (with_two vote.author (to_be_bytes w64 vote.round) (number_bytes 8 vote.round)) is.header.each)

header_are : (node : Node) (kept : KeptHeader) → IsKeptHeader node kept → AreBytes (header_record kept)
header_are node kept is =
    let front = header_body kept.header.body ++ kept.header.signature.0 in
    one_more 6 (front ++ votes_bytes kept.votes) (omega arith)
    (joined front (votes_bytes kept.votes) (joined (header_body kept.header.body) kept.header.signature.0 (body_are kept.header.body is.header.body) is.header.signature.each)
    (votes_are kept.votes is.votes))

certificate_are : (certificate : Certificate) → IsKeptCertificate certificate → AreBytes (certificate_record certificate)
certificate_are certificate is =
    one_more 7 (header_body certificate.header ++ votes_bytes certificate.votes) (omega arith)
    (joined (header_body certificate.header) (votes_bytes certificate.votes) (body_are certificate.header is.certificate.header) (votes_are certificate.votes is.certificate.votes))

values_are : (values : List ℕ) → AreBytes (flat_map (to_be_bytes w64) values)
values_are [] = All-nil (λ b. b < 256)
values_are (value ∷ values) = with_eight value (flat_map (to_be_bytes w64) values) (values_are values)

coins_are : (coins : List ℕ) → AreBytes (coins_record coins)
coins_are coins =
    one_more 8 (to_be_bytes w32 (length coins) ++ flat_map (to_be_bytes w64) coins) (omega arith) (with_four (length coins) (flat_map (to_be_bytes w64) coins) (values_are coins))

each_are : {X : Type 0} (P : X → Type 0) (f : X → List ℕ) → ((x : X) → P x → AreBytes (f x)) → (xs : List X) → All P xs → All AreBytes (map f xs)
each_are P f each [] all = All-nil AreBytes
each_are P f each (x ∷ xs) all = All-cons AreBytes (f x) (map f xs) (each x (All-head P x xs all)) (each_are P f each xs (All-tail P x xs all))

-- each piece of a list has only elements of it
pieces_hold : {X : Type 0} (P : X → Type 0) (size : ℕ) (list : List X) (places : List ℕ) → All P list → All (All P) (map (λ piece. take size (drop (size * piece) list)) places)
pieces_hold P size list [] all = All-nil (All P)
pieces_hold P size list (place ∷ places) all =
    All-cons (All P) (take size (drop (size * place) list)) (map (λ piece. take size (drop (size * piece) list)) places)
    (All-take P size (drop (size * place) list) (All-drop P (size * place) list all)) (pieces_hold P size list places all)

pub state_are : (node : Node) (c : Checkpoint) → IsCanonical node c → All AreBytes (state_records c)
state_are node c is =
    let order = map order_record (cut 65536 c.order) in
    let batches = map batch_record c.batches in
    let votes = map vote_record c.votes in
    let headers = map header_record c.headers in
    let certificates = map certificate_record c.certificates in
    let coins = map coins_record (cut 131072 c.coins) in
    All-append AreBytes order _ (each_are (All fields.IsDigest) order_record order_are (cut 65536 c.order) (pieces_hold fields.IsDigest 65536 c.order _ is.order))
    (All-append AreBytes batches _ (each_are (IsKeptBatch node) batch_record (kept_batch_are node) c.batches is.batches)
    (All-append AreBytes votes _ (each_are IsKeptVote vote_record vote_are c.votes is.votes)
    (All-append AreBytes headers _ (each_are (IsKeptHeader node) header_record (header_are node) c.headers is.headers)
    (All-append AreBytes certificates coins (each_are IsKeptCertificate certificate_record certificate_are c.certificates is.certificates)
    (each_are (All (λ coin. coin < 2 ^ 64)) coins_record (λ piece all. coins_are piece) (cut 131072 c.coins) (pieces_hold (λ coin. coin < 2 ^ 64) 131072 c.coins _ is.coins))))))
