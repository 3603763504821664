-- Two nodes of one committee, whose slots don't contradict one another, are of one exactly where their coins agree.
use Rattle.std.proofs.Common.{◌≡◌, Bool}
use Rattle.std.specs.Prelude.{◌↔◌, IsTrue, IfOk, Result, Ok, Err}
use Rattle.std.specs.declared.alloc.AllocError.{AllocError}
use Rattle.spec_accord.specs.Accord.{Agree, AreOfOne, HaveOneHeader}
use Rattle.spec_model.specs.Histories.{History, coins}
use Rattle.spec_model.specs.Holdings.{slots}
use Rattle.spec_model.specs.Nodes.{Node}

pub of_one : (one other : Node) (history also : History) → one.charter ≡ other.charter
    → HaveOneHeader (slots one history) (slots other also) → (found : Result Bool AllocError)
    → IfOk found (λ waves. IsTrue waves ↔ Agree (coins history) (coins also))
    → IfOk found (λ waves. IsTrue waves ↔ AreOfOne one other history also)
of_one one other history also charter same (Ok waves) agree =
    ((λ yes. record { charter = charter; slots = same; coins = agree.0 yes }), λ of. agree.1 of.coins)
of_one one other history also charter same (Err error) agree = agree
