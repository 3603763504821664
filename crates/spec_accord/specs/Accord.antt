-- What the histories of two nodes of one committee may differ in, while one of their orders is still a prefix of the other.
use Rattle.std.specs.Prelude.{◌≡◌, ◌⊎◌, ℕ, List, Some}
use Rattle.spec_model.specs.Admitting.{IsLegal}
use Rattle.spec_model.specs.Histories.{History, coins}
use Rattle.wire.specs.Lists.{Begins}
use Rattle.spec_model.specs.Holdings.{slots, order}
use Rattle.spec_model.specs.Nodes.{Node}
use Rattle.spec_model.specs.Slots.{Slots}
use Rattle.spec_model.specs.Words.{Certificate}

-- one of these two lists is a prefix of the other
abbrev pub Agree : {X : Type 0} → List X → List X → Type 0
Agree one other = Begins one other ⊎ Begins other one

-- if both tables have a certificate of some round and author, both certificates have the same header; their votes may differ
abbrev pub HaveOneHeader : Slots → Slots → Type 0
HaveOneHeader one other = (round author : ℕ) (c d : Certificate) → one round author ≡ Some c
    → other round author ≡ Some d → c.header ≡ d.header

-- Two nodes are of one committee; if both have a certificate of some round and author, both have the same header; and the coins of one are
-- a prefix of the other's
pub record AreOfOne (one other : Node) (history also : History) : Type 0 where
  pub charter : one.charter ≡ other.charter
  pub slots : HaveOneHeader (slots one history) (slots other also)
  pub coins : Agree (coins history) (coins also)

-- If this holds of two nodes and both histories are legal, one of their orders is a prefix of the other, whichever certificates each node
-- got and when, and wherever their floors are.
abbrev pub OrdersAgree : Type 0
OrdersAgree = (one other : Node) (history also : History) → IsLegal one history → IsLegal other also
    → AreOfOne one other history also → Agree (order one history) (order other also)
