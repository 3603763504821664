-- Reading a message from left to right, field by field, up to the first fault.
use Rattle.std.specs.Prelude.{◌≡◌, ℕ, zero, suc, List, [], ◌∷◌, ◌++◌, length, take, drop, Result, Ok, Err, nat_lt, nat_le, ◌==◌, ◌&&◌, not, if◌then◌else◌}
use Rattle.std.specs.Int.{Width, w16, w32, w64, byte_len, from_be_bytes}
use Rattle.wire.specs.declared.error.WireError.{WireError}
use Rattle.wire.specs.declared.error.WireError.TheVariants.{Memory, Short, Trailing, BadTag, NotCanonical, TooMany, BadRound}
use Rattle.wire.specs.declared.limits.TheConstants.{MAX_TRANSACTION_BYTES, MAX_TRANSACTIONS, MAX_BATCHES, MAX_PARENTS, MAX_VOTES}
use Rattle.wire.specs.declared.round.TheConstants.Round.{MAX as MAX_ROUND}
use Rattle.wire.specs.declared.round.TheConstants.Wave.{MAX as MAX_WAVE}
use Rattle.wire.specs.declared.keys.Author.{Author}
use Rattle.wire.specs.declared.keys.Digest.{Digest}
use Rattle.wire.specs.declared.keys.Signature.{Signature}
use Rattle.wire.specs.declared.header.HeaderBody.{HeaderBody}
use Rattle.wire.specs.declared.header.Header.{Header}
use Rattle.wire.specs.declared.header.Vote.{Vote}
use Rattle.wire.specs.declared.header.Certificate.{Certificate}
use Rattle.wire.specs.declared.message.BatchAck.{BatchAck}
use Rattle.wire.specs.declared.message.Coin.{Coin}
use Rattle.wire.specs.declared.message.Message.{Message}
use Rattle.wire.specs.declared.message.Message.TheVariants as message
use Rattle.wire.specs.declared.references.BatchReference.{BatchReference}
use Rattle.wire.specs.declared.references.ParentReference.{ParentReference}
use Rattle.wire.specs.declared.votes.VoteEntry.{VoteEntry}
use Rattle.wire.specs.Batches.{BatchView, has_room}
use Rattle.wire.specs.References.{batch_follows, parent_follows, vote_follows}

-- one step of reading after another: the second step gets the value of the first; if the first failed, its fault is the result
infixl 10 ◌>>=◌
abbrev pub ◌>>=◌ : {A B : Type 0} → Result A WireError → (A → Result B WireError) → Result B WireError
(Ok x) >>= f = f x
(Err e) >>= f = Err e

-- the result of reading a field: its value and the bytes after it, or the first fault
abbrev pub Read : Type 0 → Type 0
Read X = Result (X × List ℕ) WireError

-- ---- fields of fixed size

-- reads a big-endian number of this width
abbrev pub number_at : Width → List ℕ → Read ℕ
number_at w bytes = if nat_lt (length bytes) (byte_len w) then Err Short else Ok (from_be_bytes w (take (byte_len w) bytes), drop (byte_len w) bytes)

-- reads this many bytes
abbrev pub bytes_at : ℕ → List ℕ → Read (List ℕ)
bytes_at n bytes = if nat_lt (length bytes) n then Err Short else Ok (take n bytes, drop n bytes)

-- reads a member's number, of two bytes
unfoldable pub author_at : List ℕ → Read Author
author_at bytes = do
  n ← number_at w16 bytes
  Ok (record { 0 = n.0 }, n.1)

-- reads a digest, of 32 bytes
unfoldable pub digest_at : List ℕ → Read Digest
digest_at bytes = do
  d ← bytes_at 32 bytes
  Ok (record { 0 = d.0 }, d.1)

-- reads a signature, of 64 bytes
unfoldable pub signature_at : List ℕ → Read Signature
signature_at bytes = do
  s ← bytes_at 64 bytes
  Ok (record { 0 = s.0 }, s.1)

-- reads a round, which is at most 2^48
unfoldable pub round_at : List ℕ → Read ℕ
round_at bytes = do
  n ← number_at w64 bytes
  if nat_lt MAX_ROUND n.0 then Err BadRound else Ok n

-- reads a wave, which is from 1 to 2^47 - 1
unfoldable pub wave_at : List ℕ → Read ℕ
wave_at bytes = do
  n ← number_at w64 bytes
  if nat_lt 0 n.0 && nat_le n.0 MAX_WAVE then Ok n else Err BadRound

-- reads the number of a list's entries, which is at most the limit
unfoldable pub count_at : Width → ℕ → List ℕ → Read ℕ
count_at w limit bytes = do
  n ← number_at w bytes
  if nat_lt limit n.0 then Err TooMany else Ok n

-- ---- lists. As soon as the key of an entry is read, its order is tested; as soon as a transaction's length is read, that is

-- reads `count` more entries of a list, given the entries before them
unfoldable pub more_at : {X : Type 0} → (List X → List ℕ → Read X) → ℕ → List X → List ℕ → Read (List X)
more_at entry_at zero before bytes = Ok (before, bytes)
more_at entry_at (suc n) before bytes = do
  entry ← entry_at before bytes
  more_at entry_at n (before ++ entry.0 ∷ []) entry.1

-- reads one reference to a batch, given the references before it
unfoldable pub batch_reference_at : List BatchReference → List ℕ → Read BatchReference
batch_reference_at before bytes = do
  digest ← digest_at bytes
  if batch_follows before digest.0 then (number_at w16 digest.1 >>= λ worker. Ok (record { digest = digest.0; worker = worker.0 }, worker.1)) else Err NotCanonical

-- reads how many batches a header names, at most 128, and the references to them
unfoldable pub batches_at : List ℕ → Read (List BatchReference)
batches_at bytes = do
  count ← count_at w16 MAX_BATCHES bytes
  more_at batch_reference_at count.0 [] count.1

-- reads one reference to a parent, given the references before it
unfoldable pub parent_reference_at : List ParentReference → List ℕ → Read ParentReference
parent_reference_at before bytes = do
  author ← author_at bytes
  if parent_follows before author.0 then (digest_at author.1 >>= λ certificate. Ok (record { author = author.0; certificate = certificate.0 }, certificate.1)) else Err NotCanonical

-- reads how many parents a header names, at most 31, and the references to them
unfoldable pub parents_at : List ℕ → Read (List ParentReference)
parents_at bytes = do
  count ← count_at w16 MAX_PARENTS bytes
  more_at parent_reference_at count.0 [] count.1

-- reads one vote of a certificate, given the votes before it
unfoldable pub vote_entry_at : List VoteEntry → List ℕ → Read VoteEntry
vote_entry_at before bytes = do
  voter ← author_at bytes
  if vote_follows before voter.0 then (signature_at voter.1 >>= λ signature. Ok (record { voter = voter.0; signature = signature.0 }, signature.1)) else Err NotCanonical

-- reads how many votes a certificate has, at most 31, and the votes
unfoldable pub votes_at : List ℕ → Read (List VoteEntry)
votes_at bytes = do
  count ← count_at w16 MAX_VOTES bytes
  more_at vote_entry_at count.0 [] count.1

-- reads one transaction, given those before it. Its length is at most 65,536, and the batch's body with it has at most 500,000 bytes
unfoldable pub transaction_at : List (List ℕ) → List ℕ → Read (List ℕ)
transaction_at before bytes = do
  len ← number_at w32 bytes
  if not (nat_lt MAX_TRANSACTION_BYTES len.0) && has_room before len.0 then bytes_at len.0 len.1 else Err TooMany

-- reads how many transactions a batch has, at most 124,998, and the transactions
unfoldable pub transactions_at : List ℕ → Read (List (List ℕ))
transactions_at bytes = do
  count ← count_at w32 MAX_TRANSACTIONS bytes
  more_at transaction_at count.0 [] count.1

-- ---- messages

-- reads a batch: author, worker, transactions
unfoldable pub batch_at : List ℕ → Read BatchView
batch_at bytes = do
  author ← author_at bytes
  worker ← number_at w16 author.1
  transactions ← transactions_at worker.1
  Ok (record { author = author.0; worker = worker.0; transactions = transactions.0 }, transactions.1)

-- reads an acknowledgement: who acknowledges, and the batch's digest
unfoldable pub ack_at : List ℕ → Read BatchAck
ack_at bytes = do
  author ← author_at bytes
  batch ← digest_at author.1
  Ok (record { author = author.0; batch = batch.0 }, batch.1)

-- reads the body of a header: author, round, batches, parents
unfoldable pub header_body_at : List ℕ → Read HeaderBody
header_body_at bytes = do
  author ← author_at bytes
  round ← round_at author.1
  batches ← batches_at round.1
  parents ← parents_at batches.1
  Ok (record { author = author.0; round = round.0; batches = batches.0; parents = parents.0 }, parents.1)

-- reads a header: its body, and the signature
unfoldable pub header_at : List ℕ → Read Header
header_at bytes = do
  body ← header_body_at bytes
  signature ← signature_at body.1
  Ok (record { body = body.0; signature = signature.0 }, signature.1)

-- reads a vote: the header's digest, round and author, the voter, and the signature
unfoldable pub vote_at : List ℕ → Read Vote
vote_at bytes = do
  header ← digest_at bytes
  round ← round_at header.1
  author ← author_at round.1
  voter ← author_at author.1
  signature ← signature_at voter.1
  Ok (record { header = header.0; round = round.0; author = author.0; voter = voter.0; signature = signature.0 }, signature.1)

-- reads a certificate: the body of its header, and the votes
unfoldable pub certificate_at : List ℕ → Read Certificate
certificate_at bytes = do
  header ← header_body_at bytes
  votes ← votes_at header.1
  Ok (record { header = header.0; votes = votes.0 }, votes.1)

-- reads a coin: its wave, and its value
unfoldable pub coin_at : List ℕ → Read Coin
coin_at bytes = do
  wave ← wave_at bytes
  value ← number_at w64 wave.1
  Ok (record { wave = wave.0; value = value.0 }, value.1)

-- reads a message: the tag, and then the content that the tag says
unfoldable pub tagged_at : List ℕ → Read Message
tagged_at [] = Err Short
tagged_at (tag ∷ bytes) =
    if tag == 1 then (batch_at bytes >>= λ b. Ok (message.Batch b.0, b.1))
    else if tag == 2 then (ack_at bytes >>= λ a. Ok (message.BatchAck a.0, a.1))
    else if tag == 3 then (header_at bytes >>= λ h. Ok (message.Header h.0, h.1))
    else if tag == 4 then (vote_at bytes >>= λ v. Ok (message.Vote v.0, v.1))
    else if tag == 5 then (certificate_at bytes >>= λ c. Ok (message.Certificate c.0, c.1))
    else if tag == 6 then (coin_at bytes >>= λ c. Ok (message.Coin c.0, c.1))
    else Err BadTag

-- reads a message that has to take all of the bytes, or gives the first fault
unfoldable pub message_of : List ℕ → Result Message WireError
message_of bytes = do
  m ← tagged_at bytes
  if length m.1 == 0 then Ok m.0 else Err Trailing

-- ---- what a function answers that reads bytes

-- the function's fault is the one that reading gives, unless an allocation failed
abbrev pub Faults : {Y : Type 0} → WireError → Result Y WireError → Type 0
Faults Memory read = Unit {0}
Faults Short read = read ≡ Err Short
Faults Trailing read = read ≡ Err Trailing
Faults BadTag read = read ≡ Err BadTag
Faults NotCanonical read = read ≡ Err NotCanonical
Faults TooMany read = read ≡ Err TooMany
Faults BadRound read = read ≡ Err BadRound

-- the function's value, as `view` shows it, or its fault is what reading gives, unless an allocation failed
abbrev pub Gives : {X Y : Type 0} → (X → Y) → Result X WireError → Result Y WireError → Type 0
Gives view (Ok x) read = read ≡ Ok (view x)
Gives view (Err e) read = Faults e read
