-- How the body of a batch is read from the bytes that are still to be read.
use Rattle.std.specs.Prelude.{◌≡◌, ℕ, ◌+◌, ◌≤◌, List, length, take, drop, Ok, Err, nat_lt, nat_le, ◌&&◌, not, if◌then◌else◌}
use Rattle.std.specs.Int.{w32}
use Rattle.wire.specs.declared.error.WireError.TheVariants.{TooMany}
use Rattle.wire.specs.declared.keys.Author.{Author}
use Rattle.wire.specs.declared.limits.TheConstants.{MAX_TRANSACTION_BYTES, MAX_BATCH_BYTES}
use Rattle.wire.specs.Batches.{batch_body, body_len, contents_of, IsBatch}
use Rattle.wire.specs.Reading.{◌>>=◌, Read, number_at, bytes_at, transactions_at, batch_at}

-- reads one transaction of a batch whose body has `so_far` bytes before it
unfoldable pub transaction_after : ℕ → List ℕ → Read (List ℕ)
transaction_after so_far bytes = do
  len ← number_at w32 bytes
  if not (nat_lt MAX_TRANSACTION_BYTES len.0) && nat_le (so_far + (4 + len.0)) MAX_BATCH_BYTES then bytes_at len.0 len.1 else Err TooMany

-- these bytes are `count` transactions, with their number before them, and then `rest`; a batch's body with them has `len` bytes
pub record HasTransactions (count len : ℕ) (bytes rest : List ℕ) : Type 0 where
  pub transactions : List (List ℕ)
  pub counted : length transactions ≡ count
  pub total : body_len transactions ≡ len
  pub reads : transactions_at bytes ≡ Ok (transactions, rest)

-- these bytes begin with the body of a batch by this author and worker: it has `len` bytes, and `count` transactions
pub record HasBody (author : Author) (worker count len : ℕ) (bytes : List ℕ) : Type 0 where
  pub within : len ≤ length bytes
  pub fits : IsBatch (contents_of author worker count (take len bytes))
  pub encoded : take len bytes ≡ batch_body (contents_of author worker count (take len bytes))
  pub reads : batch_at bytes ≡ Ok (contents_of author worker count (take len bytes), drop len bytes)
