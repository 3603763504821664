-- What the body of a frame asks of a node.
use Rattle.std.specs.Prelude.{◌≡◌, ◌≢◌, ℕ, List, length, Result, Ok, Err, nat_lt, ◌==◌, if◌then◌else◌}
use Rattle.std.specs.Int.{w16}
use Rattle.wire.specs.Reading.{number_at, message_of, ◌>>=◌}
use Rattle.wire.specs.declared.error.WireError.{WireError}
use Rattle.wire.specs.declared.error.WireError.TheVariants.{Trailing, TooMany}
use Rattle.wire.specs.declared.limits.TheConstants.{MAX_TRANSACTION_BYTES}
use Rattle.wire.specs.declared.message.Message.{Message}
use Rattle.node_io.specs.declared.request.Request.{Request}
use Rattle.node_io.specs.declared.request.Request.TheVariants as request

-- what a frame can ask: to take a transaction for a worker, to close a worker's open batch, or to take a message from a sender
pub data Asked : Type 0 where
  transaction : ℕ → List ℕ → Asked
  seal : ℕ → Asked
  said : ℕ → Message → Asked

-- the bytes after the sender's number if that stands for transactions: a worker's number, and the transaction
abbrev pub transaction_in : List ℕ → Result Asked WireError
transaction_in bytes = do
  worker ← number_at w16 bytes
  if nat_lt MAX_TRANSACTION_BYTES (length worker.1) then Err TooMany else Ok (transaction worker.0 worker.1)

-- the bytes after the sender's number if that stands for closing a batch: a worker's number, and nothing else
abbrev pub seal_in : List ℕ → Result Asked WireError
seal_in bytes = do
  worker ← number_at w16 bytes
  if length worker.1 == 0 then Ok (seal worker.0) else Err Trailing

-- the bytes after any other sender's number: a message
abbrev pub message_in : ℕ → List ℕ → Result Asked WireError
message_in sender bytes = do
  message ← message_of bytes
  Ok (said sender message)

-- what the body of a frame asks: it has the sender's number, and then what that sender asks
abbrev pub asked_in : List ℕ → Result Asked WireError
asked_in body = do
  sender ← number_at w16 body
  if sender.0 == 65535 then transaction_in sender.1 else if sender.0 == 65534 then seal_in sender.1 else message_in sender.0 sender.1

-- the body of a frame brings a message. Only the reading of a message can fail because of an allocation
pub record BringsMessage (body : List ℕ) : Type 0 where
  pub sender : ℕ
  pub rest : List ℕ
  pub is : number_at w16 body ≡ Ok (sender, rest)
  pub no_transaction : sender ≢ 65535
  pub no_seal : sender ≢ 65534

-- what a request of the running code asks
abbrev pub shown : Request → Asked
shown (request.Transaction worker bytes) = transaction worker bytes.now
shown (request.Seal worker) = seal worker
shown (request.Message sender message) = said sender.0 message
