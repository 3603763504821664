-- An assembly: the votes on one header that count, and what they weigh.
use Rattle.std.specs.Prelude.{◌≡◌, ℕ, ◌==◌, ◌&&◌, ◌<◌, ◌≤◌, Bool, true, false, List, length, replicate, Option, Some, None, is_some, option_map, slice_index_or, slice_set, nat_le, fold}
use Rattle.std.specs.List.{filter_map}
use Rattle.std.specs.Str.{bytes_eq}
use Rattle.wire.specs.Digests.{header_digest_of}
use Rattle.wire.specs.declared.header.Header.{Header}
use Rattle.wire.specs.declared.header.HeaderBody.{HeaderBody}
use Rattle.wire.specs.declared.header.Vote.{Vote}
use Rattle.wire.specs.declared.keys.Digest.{Digest}
use Rattle.wire.specs.declared.keys.Signature.{Signature}
use Rattle.wire.specs.declared.votes.VoteEntry.{VoteEntry}
use Rattle.committee.specs.Charter.{Charter, IsCharter, numbers, weight, quorum_of}
use Rattle.committee.specs.Sets.{has}
use Rattle.committee.specs.declared.sets.MemberSet.{MemberSet}

-- a place for each member: the signature of the member's vote, if that counts
abbrev pub Places : Type 0
Places = List (Option Signature)

-- an assembly: the committee, the header, the votes that count, and whether they make a certificate already
pub record AssemblyView : Type 0 where
  pub charter : Charter
  pub header : Header
  pub places : Places
  pub complete : Bool

-- a vote is on this header: it names the header's digest, round and author
abbrev pub is_on : HeaderBody → Vote → Bool
is_on body vote =
    bytes_eq vote.header.0 (header_digest_of body) && ((vote.round == body.round) && (vote.author.0 == body.author.0))

-- ---- the votes that count

-- the vote of this member counts
abbrev pub has_voted : Places → ℕ → Bool
has_voted places member = is_some (slice_index_or places member None)

-- the places after this vote counts too
abbrev pub with_vote : Places → Vote → Places
with_vote places vote = slice_set places vote.voter.0 (Some vote.signature)

-- the places after one more vote, given as the entry of a certificate, counts; with_entries: after several do
abbrev pub with_entry : Places → VoteEntry → Places
with_entry places entry = slice_set places entry.voter.0 (Some entry.signature)

abbrev pub with_entries : Places → List VoteEntry → Places
with_entries places votes = fold with_entry places votes

-- the vote of this member as the entry of a certificate, if it counts
abbrev pub entry_of : Places → ℕ → Option VoteEntry
entry_of places member = option_map (λ signature. record { voter = record { 0 = member }; signature = signature }) (slice_index_or places member None)

-- the votes that count, as a certificate has them: sorted by voter
abbrev pub votes_in : Places → List VoteEntry
votes_in places = filter_map (entry_of places) (numbers (length places))

-- the weight of the members whose votes count
abbrev pub votes_weight : Charter → Places → ℕ
votes_weight charter places = weight charter (has_voted places)

-- ---- assemblies

-- an assembly in which only the validator's own vote counts
abbrev pub started : Charter → Header → Vote → AssemblyView
started charter header own = record {
  charter = charter;
  header = header;
  places = with_vote (replicate (length charter.keys) None) own;
  complete = false;
}

-- an assembly in which the validator's own vote and these votes count; it is complete if they weigh a quorum
abbrev pub restored : Charter → Header → Vote → List VoteEntry → AssemblyView
restored charter header own votes =
    let places = with_entries (started charter header own).places votes in
    record { charter = charter; header = header; places = places; complete = nat_le (quorum_of charter) (votes_weight charter places) }

-- What holds of every assembly: its committee is sound, there is a place for each member, and it is complete if and only if the votes that
-- count weigh a quorum.
pub record IsAssembled (assembled : AssemblyView) : Type 0 where
  pub committee : IsCharter assembled.charter
  pub size : length assembled.places ≡ length assembled.charter.keys
  pub below : assembled.complete ≡ false → votes_weight assembled.charter assembled.places < quorum_of assembled.charter
  pub enough : assembled.complete ≡ true → quorum_of assembled.charter ≤ votes_weight assembled.charter assembled.places

-- what is kept beside an assembly so that it isn't computed again: the header's digest, and the set of the members whose votes count
pub record IsKept (assembled : AssemblyView) (digest : Digest) (voters : MemberSet) : Type 0 where
  pub assembly : IsAssembled assembled
  pub digested : digest.0 ≡ header_digest_of assembled.header.body
  pub voted : (member : ℕ) → has voters member ≡ has_voted assembled.places member
