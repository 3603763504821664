-- What the honest members of a cluster agree on.
use Rattle.std.specs.Prelude.{◌≡◌, ℕ, true, List, ◌++◌, Some, Contains}
use Rattle.committee.specs.Charter.{IsCharter}
use Rattle.spec_accord.specs.Accord.{Agree}
use Rattle.spec_accord.specs.Members.{HaveNoClash}
use Rattle.spec_model.specs.Histories.{History}
use Rattle.wire.specs.Lists.{Begins}
use Rattle.spec_model.specs.Holdings.{certificates, order}
use Rattle.spec_model.specs.Nodes.{Node}
use Rattle.spec_model.specs.Words.{Certificate, Digest, Event}
use Rattle.spec_world.specs.Lasting.{settled_in}
use Rattle.spec_world.specs.Promise.{order_given}
use Rattle.spec_world.specs.Steps.{Move, accept, IsRun}
use Rattle.spec_world.specs.World.{Given, World}
use Rattle.spec_cluster.specs.Cluster.{Cluster, Worlds, Turn, AreMembers, IsReached, HaveRun}
use Rattle.spec_cluster.specs.Premises.{FewFaulty, NoTwoTexts, Fair, ComesFair, NeedsOthers, NoForgedHeader, IsReportedEver}

-- An honest member held this certificate at a settled history, now or earlier; each such history is a prefix of what it has settled now.
pub record HeldIt (cluster : Cluster) (worlds : Worlds) (member : ℕ) (certificate : Certificate) : Type 0 where
  pub honest : cluster.honest member ≡ true
  pub history : History
  pub settled : Begins history (settled_in (worlds member))
  pub held : Contains (certificates (cluster.node member) history) certificate

-- an honest member gave this order out, in this run or in an earlier one
pub record GaveIt (cluster : Cluster) (worlds : Worlds) (member : ℕ) (digests : List Digest) : Type 0 where
  pub honest : cluster.honest member ≡ true
  pub given : Given
  pub among : Contains (worlds member).given given
  pub is : order_given (order (cluster.node member) given.history) given.outgoing ≡ Some digests

pub record AreAgreed (cluster : Cluster) (worlds : Worlds) : Type 0 where
  -- the certificates of one author and round that honest members held at settled histories have the same header
  pub certificates : (member also : ℕ) (one other : Certificate) → HeldIt cluster worlds member one → HeldIt cluster worlds also other
      → one.header.author ≡ other.header.author → one.header.round ≡ other.header.round → one.header ≡ other.header
  -- of any two orders that honest members gave out, one is a prefix of the other
  pub orders : (member also : ℕ) (one other : List Digest) → GaveIt cluster worlds member one → GaveIt cluster worlds also other → Agree one other

-- Agreement. Take any cluster whose faulty members weigh no more than is tolerated, whichever messages reach whom (as long as the premises
-- hold of them) and whoever stops when. Certificates of one author and round that honest members held at settled histories have the same
-- header; and of any two orders that honest members gave out, one is a prefix of the other.
abbrev pub Agreement : Type 0
Agreement = (cluster : Cluster) (value : ℕ → ℕ) (turns : List Turn) (worlds : Worlds) → IsCharter cluster.charter → AreMembers cluster → FewFaulty cluster
    → IsReached cluster (Fair cluster value) turns worlds → NoTwoTexts cluster worlds → AreAgreed cluster worlds

-- The orders of honest members agree also if the members run side by side, however their steps interleave. Here it is assumed of each event
-- that came in that it has no forged vote, judged by what was signed by the end of the runs.
abbrev pub RunsAgree : Type 0
RunsAgree = (cluster : Cluster) (value : ℕ → ℕ) (worlds : Worlds) → IsCharter cluster.charter → AreMembers cluster → FewFaulty cluster
    → HaveRun cluster (ComesFair cluster value worlds) worlds → NoTwoTexts cluster worlds → AreAgreed cluster worlds

-- ---- at any moment

-- at some moment of a run by these moves a node had this history: what its current process began with, and what that has accepted since
pub record StoodAt (node : Node) (moves : List Move) (history : History) : Type 0 where
  pub front : List Move
  pub rest : List Move
  pub parts : moves ≡ front ++ rest
  pub middle : World
  pub run : IsRun node front middle
  pub is : history ≡ middle.began ++ middle.accepted

-- an honest member held this certificate at some moment, settled or not
pub record HeldEver (cluster : Cluster) (moves : ℕ → List Move) (member : ℕ) (certificate : Certificate) : Type 0 where
  pub honest : cluster.honest member ≡ true
  pub history : History
  pub stood : StoodAt (cluster.node member) (moves member) history
  pub held : Contains (certificates (cluster.node member) history) certificate

-- If each honest member needs others for a quorum, and no header is forged in an honest member's name, then the certificates of one author
-- and round that honest members ever held, settled or not, have the same header.
abbrev pub EverAgree : Type 0
EverAgree = (cluster : Cluster) (value : ℕ → ℕ) (worlds : Worlds) → IsCharter cluster.charter → AreMembers cluster → FewFaulty cluster → NeedsOthers cluster
    → (have : HaveRun cluster (ComesFair cluster value worlds) worlds)
    → ((member : ℕ) → cluster.honest member ≡ true → (event : Event) → Contains (have.moves member) (accept event) → NoForgedHeader cluster worlds member event)
    → HaveNoClash (IsReportedEver cluster have.moves)
    → (member also : ℕ) (one other : Certificate) → HeldEver cluster have.moves member one → HeldEver cluster have.moves also other
    → one.header.author ≡ other.header.author → one.header.round ≡ other.header.round → one.header ≡ other.header
