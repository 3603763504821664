-- The numbers that a committee keeps beside its stakes, so that they are computed once.
use Rattle.std.specs.Prelude.{◌≡◌, ℕ}
use Rattle.committee.specs.Charter.{Charter, IsCharter, total_of, tolerated_of, quorum_of, support_of}

-- the keys and stakes are those of a committee, and these weights are the ones that follow from its stakes
pub record IsKept (charter : Charter) (total tolerated quorum support : ℕ) : Type 0 where
  pub committee : IsCharter charter
  pub total_is : total ≡ total_of charter
  pub tolerated_is : tolerated ≡ tolerated_of charter
  pub quorum_is : quorum ≡ quorum_of charter
  pub support_is : support ≡ support_of charter
