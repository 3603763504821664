-- The parts of a validator's tables from which its checkpoint is written.
use Rattle.std.specs.Prelude.{◌≡◌, ℕ, ◌==◌, nat_lt, not, Bool, IsTrue, List, filter, map, Some, None, slice_index_or}
use Rattle.wire.specs.declared.header.Header.{Header}
use Rattle.wire.specs.declared.header.Vote.{Vote}
use Rattle.wire.specs.declared.votes.VoteEntry.{VoteEntry}
use Rattle.spec_model.specs.Slots.{certificate_digest}
use Rattle.spec_model.specs.Words.{Certificate, Digest}
use Rattle.dag.specs.Graph.{DagView, certificates_in}
use Rattle.certify.specs.Assembled.{AssemblyView, Places, is_on, votes_in}

-- the vote is by another member than this one
abbrev pub is_other : ℕ → VoteEntry → Bool
is_other own entry = not (entry.voter.0 == own)

abbrev pub other_votes : ℕ → Places → List VoteEntry
other_votes own places = filter (is_other own) (votes_in places)

-- this vote is the member's counted vote on the header of an assembly
pub record IsCountedBy (own : ℕ) (assembled : AssemblyView) (vote : Vote) : Type 0 where
  pub voter : vote.voter.0 ≡ own
  pub on : IsTrue (is_on assembled.header.body vote)
  pub counted : slice_index_or assembled.places own None ≡ Some vote.signature

-- these are the header of an assembly, this member's counted vote on it, and the counted votes of the other members
pub record AreOf (own : ℕ) (assembled : AssemblyView) (its : Header) (mine : Vote) (others : List VoteEntry) : Type 0 where
  pub header : its ≡ assembled.header
  pub vote : IsCountedBy own assembled mine
  pub votes : others ≡ other_votes own assembled.places

-- ---- certificates

-- a certificate with its digest
abbrev pub digested : Certificate → Certificate × Digest
digested certificate = (certificate, certificate_digest certificate.header)

-- a certificate is above the genesis
abbrev pub is_above : Certificate → Bool
is_above certificate = nat_lt 0 certificate.header.round

-- the certificates of a DAG above the genesis, with their digests
abbrev pub above_genesis : DagView → List (Certificate × Digest)
above_genesis graph = map digested (filter is_above (certificates_in graph))
