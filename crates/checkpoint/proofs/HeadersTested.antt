-- Parts of records, read in another order of steps.
use Rattle.std.proofs.Common.{◌≡◌, ℕ, List, Ok, Err, refl}
use Rattle.std.specs.Prelude.{◌&&◌}
use Rattle.wire.specs.Reading.{◌>>=◌, Read, header_at, votes_at}
use Rattle.spec_model.specs.Nodes.{Node}
use Rattle.spec_model.specs.Words.{Header, VoteEntry}
use Rattle.spec_checkpoint.specs.Data.{KeptHeader}
use Rattle.spec_checkpoint.specs.Reading.{given, header_may_follow, are_of_others, kept_header_at}
use Rattle.checkpoint.specs.Reading.{header_with_votes_at}

-- an own header is read whole before its place and its votes are tested
pub kept_header_tested : (node : Node) (before : List KeptHeader) (bytes : List ℕ) → kept_header_at node before bytes
    ≡ (header_with_votes_at bytes >>= λ x. given (header_may_follow before x.0.header.body.round && are_of_others node x.0.votes) x)
unfolding kept_header_at header_with_votes_at
kept_header_tested node before bytes = by_header (header_at bytes)
  where
    by_votes : (header : Header) (votes : Read (List VoteEntry))
        → (votes >>= λ read. given (header_may_follow before header.body.round && are_of_others node read.0) (record { header = header; votes = read.0 }, read.1))
        ≡ ((votes >>= λ read. Ok (record { header = header; votes = read.0 }, read.1))
        >>= λ (x : KeptHeader × List ℕ). given (header_may_follow before x.0.header.body.round && are_of_others node x.0.votes) x)
    by_votes header (Ok read) = refl
    by_votes header (Err fault) = refl

    by_header : (header : Read Header)
        → (header >>= λ one. votes_at one.1 >>= λ read. given (header_may_follow before one.0.body.round && are_of_others node read.0) (record { header = one.0; votes = read.0 }, read.1))
        ≡ ((header >>= λ one. votes_at one.1 >>= λ read. Ok (record { header = one.0; votes = read.0 }, read.1))
        >>= λ (x : KeptHeader × List ℕ). given (header_may_follow before x.0.header.body.round && are_of_others node x.0.votes) x)
    by_header (Ok one) = by_votes one.0 (votes_at one.1)
    by_header (Err fault) = refl
