-- Laws of the votes in every assembly, and so in every certificate that is made of one.
use Rattle.std.specs.Prelude.{◌≡◌, ◌<◌, IsTrue, length, sum_by, All}
use Rattle.wire.specs.References.{votes_rise}
use Rattle.committee.specs.Charter.{Charter, stake_of}
use Rattle.certify.specs.Assembled.{Places, votes_in, votes_weight}

-- the votes that count are sorted by voter, and no voter occurs twice
abbrev pub VotesRise : Type 0
VotesRise = (places : Places) → IsTrue (votes_rise (votes_in places))

-- the voter of each vote that counts has a place
abbrev pub VotersHavePlaces : Type 0
VotersHavePlaces = (places : Places) → All (λ vote. vote.voter.0 < length places) (votes_in places)

-- the stakes of the voters add up to the weight of the members whose votes count
abbrev pub VotesWeigh : Type 0
VotesWeigh = (charter : Charter) (places : Places) → length places ≡ length charter.keys
    → sum_by (λ vote. stake_of charter vote.voter.0) (votes_in places) ≡ votes_weight charter places
