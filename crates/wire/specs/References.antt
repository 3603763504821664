-- The lists in headers and certificates: what an entry has, how many entries there may be, and in which order.
use Rattle.std.specs.Prelude.{Bool, List, [], ◌∷◌, nat_lt, if◌then◌else◌}
use Rattle.std.specs.Ordering.{nat_cmp, is_lt}
use Rattle.std.specs.Cmp.Lexicographic.{slice_cmp}
use Rattle.std.specs.Str.{bytes_eq}
use Rattle.wire.specs.declared.keys.Author.{Author}
use Rattle.wire.specs.declared.keys.Digest.{Digest}
use Rattle.wire.specs.declared.limits.TheConstants.{MAX_BATCHES, MAX_PARENTS, MAX_VOTES}
use Rattle.wire.specs.declared.references.BatchReference.{BatchReference}
use Rattle.wire.specs.declared.references.ParentReference.{ParentReference}
use Rattle.wire.specs.declared.votes.VoteEntry.{VoteEntry}
use Rattle.wire.specs.Fields.{IsNumber, IsAuthor, IsDigest, IsSignature}
use Rattle.wire.specs.Rising.{rises, follows, AreEntries}

-- one digest is below another: the first byte in which they differ is lower
abbrev pub digest_before : Digest → Digest → Bool
digest_before a b = is_lt (slice_cmp nat_cmp a.0 b.0)

-- one batch comes before another in a header: its digest is lower
abbrev pub batch_before : BatchReference → BatchReference → Bool
batch_before a b = digest_before a.digest b.digest

-- batches are sorted by digest, and no digest occurs twice
abbrev pub batches_rise : List BatchReference → Bool
batches_rise = rises batch_before

-- a batch with this digest may come next: the digest of the last batch is lower
abbrev pub batch_follows : List BatchReference → Digest → Bool
batch_follows batches digest = follows (λ a. digest_before a.digest digest) batches

-- a sorted list with one more batch at its place; a batch that is there already isn't added
abbrev pub placed : List BatchReference → BatchReference → List BatchReference
placed [] batch = batch ∷ []
placed (first ∷ rest) batch =
    if digest_before batch.digest first.digest then batch ∷ first ∷ rest
    else if bytes_eq first.digest.0 batch.digest.0 then first ∷ rest
    else first ∷ placed rest batch

-- one parent comes before another in a header: its author's number is lower
abbrev pub parent_before : ParentReference → ParentReference → Bool
parent_before a b = nat_lt a.author.0 b.author.0

-- parents are sorted by author, and no author occurs twice
abbrev pub parents_rise : List ParentReference → Bool
parents_rise = rises parent_before

-- a parent of this author may come next: the author of the last parent has a lower number
abbrev pub parent_follows : List ParentReference → Author → Bool
parent_follows parents author = follows (λ a. nat_lt a.author.0 author.0) parents

-- one vote comes before another in a certificate: its voter's number is lower
abbrev pub vote_before : VoteEntry → VoteEntry → Bool
vote_before a b = nat_lt a.voter.0 b.voter.0

-- votes are sorted by voter, and no voter occurs twice
abbrev pub votes_rise : List VoteEntry → Bool
votes_rise = rises vote_before

-- a vote of this voter may come next: the voter of the last vote has a lower number
abbrev pub vote_follows : List VoteEntry → Author → Bool
vote_follows votes voter = follows (λ a. nat_lt a.voter.0 voter.0) votes

-- a proper reference to a batch has its digest, and the number of the worker that holds it
pub record IsBatchReference (b : BatchReference) : Type 0 where
  pub digest : IsDigest b.digest
  pub worker : IsNumber b.worker

-- a proper reference to a parent has its author, and its certificate's digest
pub record IsParentReference (p : ParentReference) : Type 0 where
  pub author : IsAuthor p.author
  pub certificate : IsDigest p.certificate

-- a proper vote in a certificate has the voter, and a signature of 64 bytes
pub record IsVoteEntry (v : VoteEntry) : Type 0 where
  pub voter : IsAuthor v.voter
  pub signature : IsSignature v.signature

-- the batches that a header may name: at most 128, sorted by digest, and no digest twice
abbrev pub AreBatches : List BatchReference → Type 0
AreBatches = AreEntries MAX_BATCHES IsBatchReference batch_before

-- the parents that a header may name: at most 31, sorted by author, and no author twice
abbrev pub AreParents : List ParentReference → Type 0
AreParents = AreEntries MAX_PARENTS IsParentReference parent_before

-- the votes that a certificate may have: at most 31, sorted by voter, and no voter twice
abbrev pub AreVotes : List VoteEntry → Type 0
AreVotes = AreEntries MAX_VOTES IsVoteEntry vote_before
