use Rattle.std.proofs.Common.{◌∙◌, ℕ, cond, length, ap}
use Rattle.std.specs.Prelude.{sum_by}
use Rattle.committee.specs.Charter.{numbers, stake_of}
use Rattle.certify.specs.Assembled.{has_voted}
use Rattle.certify.proofs.VoteLaws.{sum-votes}
use Rattle.certify.proofs.laws.votes_weigh.Goals as goal

pub returns : goal.returns
returns c charter places size =
    sum-votes (stake_of charter) places (numbers (length places))
    ∙ ap (λ (n : ℕ). sum_by (λ member. cond (has_voted places member) (stake_of charter member) 0) (numbers n)) size
