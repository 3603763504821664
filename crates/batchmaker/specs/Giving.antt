-- What a batch maker hands out.
use Rattle.std.specs.Prelude.{ℕ, List, [], Option, Some, None}
use Rattle.wire.specs.Batches.{BatchView}

-- the transactions of the batch that is handed out; none if no batch is
abbrev pub given : Option BatchView → List (List ℕ)
given None = []
given (Some batch) = batch.transactions
