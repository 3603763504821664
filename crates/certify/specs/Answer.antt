-- What an assembly (the votes on one header, until they make a certificate) answers to a vote, and what it is afterwards.
use Rattle.std.specs.Prelude.{Bool, true, false, not, ◌&&◌, ◌||◌, nat_lt, length, Option, Some, None, if◌then◌else◌}
use Rattle.wire.specs.declared.header.Certificate.{Certificate}
use Rattle.wire.specs.declared.header.HeaderBody.{HeaderBody}
use Rattle.wire.specs.declared.header.Vote.{Vote}
use Rattle.committee.specs.Charter.{quorum_of}
use Rattle.certify.specs.declared.added.Added.{Added}
use Rattle.certify.specs.declared.added.Added.TheVariants.{Counted, Complete, Again, NotOurs}
use Rattle.certify.specs.Assembled.{Places, AssemblyView, is_on, has_voted, with_vote, votes_in, votes_weight}

-- a vote is for the assembly: its voter is a member, and it is on the header
abbrev pub is_ours : AssemblyView → Vote → Bool
is_ours assembled vote = nat_lt vote.voter.0 (length assembled.charter.keys) && is_on assembled.header.body vote

-- the votes that count, with this one, weigh less than a quorum
abbrev pub is_too_few : AssemblyView → Vote → Bool
is_too_few assembled vote =
    nat_lt (votes_weight assembled.charter (with_vote assembled.places vote)) (quorum_of assembled.charter)

-- a vote doesn't count any more: its voter's vote counts already, or the certificate is complete
abbrev pub is_again : AssemblyView → Vote → Bool
is_again assembled vote = assembled.complete || has_voted assembled.places vote.voter.0

-- the certificate of this header with the votes at these places
abbrev pub certificate_of : HeaderBody → Places → Certificate
certificate_of body places = record { header = body; votes = votes_in places }

-- the answer of an assembly to a vote
abbrev pub answer : AssemblyView → Vote → Added
answer assembled vote =
    if not (is_ours assembled vote) then NotOurs
    else if is_again assembled vote then Again
    else if is_too_few assembled vote then Counted
    else Complete (certificate_of assembled.header.body (with_vote assembled.places vote))

-- if the answer says that the vote counts: whether it completes the certificate; otherwise None
abbrev pub completion_of : Added → Option Bool
completion_of NotOurs = None
completion_of Again = None
completion_of Counted = Some false
completion_of (Complete certificate) = Some true

-- the votes that count after this answer
abbrev pub places_after : Added → Places → Vote → Places
places_after NotOurs places vote = places
places_after Again places vote = places
places_after Counted places vote = with_vote places vote
places_after (Complete certificate) places vote = with_vote places vote

-- the certificate is complete after this answer
abbrev pub complete_after : Added → Bool → Bool
complete_after NotOurs complete = complete
complete_after Again complete = complete
complete_after Counted complete = complete
complete_after (Complete certificate) complete = true

-- the assembly after it has given this answer to a vote
abbrev pub after : Added → AssemblyView → Vote → AssemblyView
after added assembled vote = record assembled {
  places = places_after added assembled.places vote;
  complete = complete_after added assembled.complete;
}
