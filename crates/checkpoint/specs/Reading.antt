-- The grammar of the parts of a checkpoint's records.
use Rattle.std.specs.Prelude.{ℕ, List, Ok}
use Rattle.wire.specs.Reading.{◌>>=◌, Read, header_at, votes_at}
use Rattle.spec_checkpoint.specs.Data.{KeptHeader}

-- a header with its signature, followed by votes on it, whoever gave them
unfoldable pub header_with_votes_at : List ℕ → Read KeptHeader
header_with_votes_at bytes = do
  header ← header_at bytes
  votes ← votes_at header.1
  Ok (record { header = header.0; votes = votes.0 }, votes.1)
