-- Each record of a checkpoint that a node writes fits a group.
use Rattle.std.proofs.Common.{◌≡◌, ◌≤◌, ℕ, ◌+◌, ◌*◌, List, ◌∷◌, ◌++◌, length, map, take, drop, refl, sym, ap, ◌∙◌, subst, arith, length-append}
use Rattle.std.specs.Prelude.{All}
use Rattle.std.specs.List.{flat_map, range_with_len}
use Rattle.std.specs.Int.{w16, w64, to_be_bytes}
use Rattle.std.proofs.lemmas.List.{length-take}
use Rattle.std.proofs.lemmas.List.Elements.{All-append, All-drop, All-map, All-take, All-weaker}
use Rattle.wire.proofs.Lengths.{same_length, header_length}
use Rattle.wire.proofs.Transactions.{body_has}
use Rattle.wire.specs.Batches.{batch_body}
use Rattle.wire.specs.Fields.{IsDigest}
use Rattle.wire.specs.References.{AreVotes, IsVoteEntry}
use Rattle.wire.specs.Encoding.{header_body, vote_entry_bytes, votes_bytes}
use Rattle.journal.specs.Snapshot.{FitsAlone}
use Rattle.spec_checkpoint.specs.Data.{Checkpoint, IsCanonical, IsKeptBatch, IsKeptCertificate, IsKeptHeader, IsKeptVote, KeptBatch, KeptHeader, KeptVote}
use Rattle.spec_checkpoint.specs.Records.{COINS_PIECE, ORDER_PIECE, batch_record, certificate_record, coins_record, cut, header_record, order_record, state_records, vote_record}
use Rattle.spec_model.specs.Nodes.{Node}
use Rattle.spec_model.specs.Words.{Certificate, Digest, VoteEntry}

-- a record that leaves room for its length fits a group
pub short_fits : (bytes : List ℕ) → length bytes ≤ 4194300 → FitsAlone bytes
short_fits bytes short = record { some = omega arith; not_many = omega arith; not_long = omega (arith, short) }

-- ---- each kind of record

order_fits : (digests : List Digest) → All IsDigest digests → length digests ≤ ORDER_PIECE → FitsAlone (order_record digests)
order_fits digests each few =
    let bytes = same_length (λ (d : Digest). d.0) IsDigest 32 (λ d is. is.count_is) digests each in
    short_fits (order_record digests) (omega (arith, bytes, few))

coins_fit : (coins : List ℕ) → length coins ≤ COINS_PIECE → FitsAlone (coins_record coins)
coins_fit coins few =
    let bytes = same_length (to_be_bytes w64) (λ coin. Unit {0}) 8 (λ coin any. refl) coins (λ k d within. tt) in
    short_fits (coins_record coins) (omega (arith, bytes, few))

batch_fits : (node : Node) (kept : KeptBatch) → IsKeptBatch node kept → FitsAlone (batch_record kept)
batch_fits node kept is =
    let members = same_length (to_be_bytes w16) (λ member. Unit {0}) 2 (λ member any. refl) kept.members (λ k d within. tt) in
    let joined = length-append (flat_map (to_be_bytes w16) kept.members) (batch_body kept.batch) in
    short_fits (batch_record kept) (omega (arith, members, joined, body_has kept.batch, is.few, is.batch.short))

vote_fits : (vote : KeptVote) → IsKeptVote vote → FitsAlone (vote_record vote)
vote_fits vote is = short_fits (vote_record vote) (omega (arith, is.header.count_is))

-- votes on a header are at most 31
votes_short : (votes : List VoteEntry) → AreVotes votes → length (votes_bytes votes) ≤ 2 + 66 * 31
votes_short votes are =
    let each = same_length vote_entry_bytes IsVoteEntry 66 (λ v fits. omega (arith, length-append (to_be_bytes w16 v.voter.0) v.signature.0, fits.signature.count_is)) votes are.each in
    omega (arith, each, are.few)

parts_long : (one other last : List ℕ) → length ((one ++ other) ++ last) ≡ length one + length other + length last
parts_long one other last = length-append (one ++ other) last ∙ ap (λ (n : ℕ). n + length last) (length-append one other)

header_fits : (node : Node) (kept : KeptHeader) → IsKeptHeader node kept → FitsAlone (header_record kept)
header_fits node kept is =
    let body = header_body kept.header.body in
    let signature = kept.header.signature.0 in
    let votes = votes_bytes kept.votes in
    let long = parts_long (6 ∷ body) signature votes in
    let few = is.header.body in
    short_fits (header_record kept) (subst (λ (n : ℕ). n ≤ 4194300) (sym long)
    (omega (arith, header_length kept.header.body few, votes_short kept.votes is.votes, is.header.signature.count_is, few.batches.few, few.parents.few)))

certificate_fits : (kept : Certificate) → IsKeptCertificate kept → FitsAlone (certificate_record kept)
certificate_fits kept is =
    let few = is.certificate.header in
    let body = header_length kept.header few in
    let joined = length-append (header_body kept.header) (votes_bytes kept.votes) in
    short_fits (certificate_record kept) (omega (arith, body, joined, votes_short kept.votes is.certificate.votes, few.batches.few, few.parents.few))

-- ---- all of them

-- each of the pieces of a list has something, where each piece of its elements has it
pieces : {X : Type 0} (P : List X → Type 0) (size : ℕ) (list : List X) → ((from : ℕ) → P (take size (drop from list))) → All P (cut size list)
pieces P size list each =
    All-map P (λ (piece : ℕ). take size (drop (size * piece) list)) (range_with_len 0 _) (λ k d within. each _)

rows : {X : Type 0} (row_of : X → List ℕ) (Is : X → Type 0) (list : List X) → ((x : X) → Is x → FitsAlone (row_of x)) → All Is list → All FitsAlone (map row_of list)
rows row_of Is list fits each = All-map FitsAlone row_of list (All-weaker Is (λ x. FitsAlone (row_of x)) fits list each)

pub records_fit : (node : Node) (checkpoint : Checkpoint) → IsCanonical node checkpoint → All FitsAlone (state_records checkpoint)
records_fit node checkpoint is =
    let order = checkpoint.order in
    let coins = checkpoint.coins in
    let order_rows = All-map FitsAlone order_record (cut ORDER_PIECE order) (pieces (λ piece. FitsAlone (order_record piece)) ORDER_PIECE order
    (λ from. order_fits (take ORDER_PIECE (drop from order)) (All-take IsDigest ORDER_PIECE (drop from order) (All-drop IsDigest from order is.order))
    (omega (arith, length-take ORDER_PIECE (drop from order))))) in
    let coin_rows = All-map FitsAlone coins_record (cut COINS_PIECE coins) (pieces (λ piece. FitsAlone (coins_record piece)) COINS_PIECE coins
    (λ from. coins_fit (take COINS_PIECE (drop from coins)) (omega (arith, length-take COINS_PIECE (drop from coins))))) in
    let batches = rows batch_record (IsKeptBatch node) checkpoint.batches (batch_fits node) is.batches in
    let votes = rows vote_record IsKeptVote checkpoint.votes vote_fits is.votes in
    let headers = rows header_record (IsKeptHeader node) checkpoint.headers (header_fits node) is.headers in
    let certificates = rows certificate_record IsKeptCertificate checkpoint.certificates certificate_fits is.certificates in
    let both = λ (one other : List (List ℕ)) (first : All FitsAlone one) (later : All FitsAlone other). All-append FitsAlone one other first later in
    both _ _ order_rows (both _ _ batches (both _ _ votes (both _ _ headers (both _ _ certificates coin_rows))))
