-- Batches, and the bytes of their bodies. Numbers are big-endian.
use Rattle.std.specs.Prelude.{◌≡◌, ℕ, zero, suc, ◌+◌, ◌≤◌, List, [], ◌∷◌, ◌++◌, length, take, drop, sum_by, All, Bool, nat_le}
use Rattle.std.specs.List.{flat_map}
use Rattle.std.specs.Int.{w16, w32, to_be_bytes, from_be_bytes}
use Rattle.wire.specs.declared.keys.Author.{Author}
use Rattle.wire.specs.declared.limits.TheConstants.{MAX_TRANSACTION_BYTES, MAX_BATCH_BYTES}
use Rattle.wire.specs.Fields.{AreBytes, IsNumber, IsAuthor}

-- a batch, as contracts see it: an author's transactions of one worker, in their order
pub record BatchView : Type 0 where
  pub author : Author
  pub worker : ℕ
  pub transactions : List (List ℕ)

-- the bytes of a transaction in a batch's body: its length in four bytes, and its own bytes
abbrev pub transaction_bytes : List ℕ → List ℕ
transaction_bytes transaction = to_be_bytes w32 (length transaction) ++ transaction

-- the bytes of a batch's body: the author, the worker, the number of transactions, and the transactions
abbrev pub batch_body : BatchView → List ℕ
batch_body b =
    to_be_bytes w16 b.author.0 ++ to_be_bytes w16 b.worker ++ to_be_bytes w32 (length b.transactions)
    ++ flat_map transaction_bytes b.transactions

-- how many bytes the body of a batch with these transactions has
abbrev pub body_len : List (List ℕ) → ℕ
body_len transactions = 8 + sum_by (λ t. 4 + length t) transactions

-- the body of a batch with these transactions has room for one more transaction of this length: it has at most 500,000 bytes with it
abbrev pub has_room : List (List ℕ) → ℕ → Bool
has_room transactions len = nat_le (body_len transactions + (4 + len)) MAX_BATCH_BYTES

-- a transaction has at most 65,536 bytes
pub record IsTransaction (transaction : List ℕ) : Type 0 where
  pub short : length transaction ≤ MAX_TRANSACTION_BYTES
  pub bytes : AreBytes transaction

-- a batch has an author, a worker, and as many transactions as a body of 500,000 bytes has room for, so at most 124,998
pub record IsBatch (b : BatchView) : Type 0 where
  pub author : IsAuthor b.author
  pub worker : IsNumber b.worker
  pub each : All IsTransaction b.transactions
  pub short : body_len b.transactions ≤ MAX_BATCH_BYTES

-- the first `count` transactions in these bytes; each has its length before it
unfoldable pub transactions_in : ℕ → List ℕ → List (List ℕ)
transactions_in zero bytes = []
transactions_in (suc n) bytes =
    take (from_be_bytes w32 (take 4 bytes)) (drop 4 bytes)
    ∷ transactions_in n (drop (from_be_bytes w32 (take 4 bytes)) (drop 4 bytes))

-- ---- how the types keep a batch

-- the batch of this author and worker whose body has `count` transactions after its first eight bytes
abbrev pub contents_of : Author → ℕ → ℕ → List ℕ → BatchView
contents_of author worker count body = record { author = author; worker = worker; transactions = transactions_in count (drop 8 body) }

-- a body to which transactions are still added: everything in it is right except the number of transactions, which may be any four bytes
pub record IsOpen (author : Author) (worker count : ℕ) (body : List ℕ) : Type 0 where
  pub fits : IsBatch (contents_of author worker count body)
  pub head : take 4 body ≡ to_be_bytes w16 author.0 ++ to_be_bytes w16 worker
  pub counted : length (contents_of author worker count body).transactions ≡ count
  pub rest : drop 8 body ≡ flat_map transaction_bytes (contents_of author worker count body).transactions
  pub len : length body ≡ body_len (contents_of author worker count body).transactions
