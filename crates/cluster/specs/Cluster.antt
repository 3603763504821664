-- What contracts see of a cluster, and what a move does to it.
use Rattle.std.specs.Prelude.{◌≡◌, ◌≢◌, ◌⊎◌, ⊤, ℕ, ◌==◌, Bool, true, false, List, map, is_some, slice_get, Option, Some, None, AllPairs, Result, Err, option_map, option_and_then}
use Rattle.std.specs.List.{find}
use Rattle.std.specs.Option.{option_map_or}
use Rattle.header.specs.Checks.{Accepts}
use Rattle.spec_model.specs.Words.{Author, Message}
use Rattle.validator.specs.Setting.{ConfigView, node_of}
use Rattle.wire.specs.declared.message.Message.TheVariants as message
use Rattle.cluster.specs.Answers.{Became}
use Rattle.cluster.specs.Member.{MemberView}
use Rattle.cluster.specs.Outputs.{message_of}
use Rattle.cluster.specs.declared.error.ClusterError.{ClusterError}
use Rattle.cluster.specs.declared.error.ClusterError.TheVariants as errors
use Rattle.cluster.specs.declared.moves.Applied.{Applied}
use Rattle.cluster.specs.declared.moves.Move.{Move}
use Rattle.cluster.specs.declared.moves.Move.TheVariants.{Deliver, Give, Coin, Flush, Stop}
use Rattle.cluster.specs.declared.moves.Request.{Request}
use Rattle.cluster.specs.declared.moves.Request.TheVariants.{Take, Round}
use Rattle.cluster.specs.declared.moves.Request.TheVariants as request
use Rattle.diskmodel.specs.Disk.{Device}
use Rattle.sigface.specs.Scheme.{Scheme}

-- what contracts see of a cluster: the verifier of signatures that all its nodes use, and its members
pub record ClusterView (S D V : Type 0) : Type 0 where
  pub verifier : V
  pub members : List (MemberView S D)

-- the member has this number in the committee
abbrev pub named : {S D : Type 0} → Author → MemberView S D → Bool
named number member = member.setting.own.0 == number.0

-- the member with this number in the list, if there is one
abbrev pub at : {S D : Type 0} → List (MemberView S D) → Author → Option (MemberView S D)
at members number = find (λ member. named number member) members

-- ---- what a move asks of a node

-- the node that a move changes
abbrev pub actor : Move → Author
actor (Deliver node output to) = to
actor (Give to sender given) = to
actor (Coin node coin) = node
actor (Flush node) = node
actor (Stop node) = node

-- the message in the output that a node put out under this number, if there is one
abbrev pub message_at : {S D : Type 0} → List (MemberView S D) → Author → ℕ → Option Message
message_at members node output = option_and_then (λ member. option_and_then message_of (slice_get member.out.outputs output)) (at members node)

-- what a move asks of its node; None if the move is to deliver an output that does not exist
abbrev pub asked_in : {S D : Type 0} → List (MemberView S D) → Move → Option Request
asked_in members (Deliver from output to) = option_map (λ message. Take from message) (message_at members from output)
asked_in members (Give to sender given) = Some (Take sender given)
asked_in members (Coin node coin) = Some (Take node (message.Coin coin))
asked_in members (Flush node) = Some Round
asked_in members (Stop node) = Some request.Stop

-- A request was made to the member with this number. If that member exists it changed as `Becomes` says. All other members, and all
-- settings, are unchanged.
pub record IsAsked {S D : Type 0} (Becomes : MemberView S D → MemberView S D → Type 0) (number : Author) (before later : List (MemberView S D)) (answer : Result Applied ClusterError) : Type 0 where
  pub there : (one : MemberView S D) → at before number ≡ Some one → (other : MemberView S D) × (at later number ≡ Some other) × Becomes one other
  pub nobody : at before number ≡ None → (answer ≡ Err errors.NoSuchNode) × (later ≡ before)
  pub others : (other : Author) → other ≢ number → at later other ≡ at before other
  pub settings : map (λ member. member.setting) later ≡ map (λ member. member.setting) before

-- A move was applied, with any answer: its node got the request that the move makes. If it makes none, nothing changed.
pub record IsApplied {S D : Type 0} (scheme : Scheme S) (device : Device D) (accepts : Accepts) (before : List (MemberView S D)) (step : Move)
    (later : List (MemberView S D)) (answer : Result Applied ClusterError) : Type 0 where
  pub asked : (request : Request) → asked_in before step ≡ Some request
      → IsAsked (λ one other. Became (node_of scheme one.setting) device accepts request one other answer) (actor step) before later answer
  pub not_asked : asked_in before step ≡ None → later ≡ before

-- ---- why a move is refused

-- there is a member with this number, and its node is not gone
abbrev pub has_member : {S D : Type 0} → List (MemberView S D) → Author → Bool
has_member members number = option_map_or (λ member. is_some member.desk) (at members number) false

abbrev pub IsThere : {S D : Type 0} → List (MemberView S D) → Author → Type 0
IsThere members number = has_member members number ≡ true

-- a node that the move needs is not there: the one that it changes is missing or gone, or there is none whose output could be delivered
abbrev pub LacksNode : {S D : Type 0} → List (MemberView S D) → Move → Type 0
LacksNode members (Deliver node output to) = (IsThere members to → ⊥) ⊎ (at members node ≡ None)
LacksNode members move = IsThere members (actor move) → ⊥

-- the move delivers an output under a number under which its node has put out no message
abbrev pub LacksOutput : {S D : Type 0} → List (MemberView S D) → Move → Type 0
LacksOutput members (Deliver node output to) = IsThere members to × (at members node ≢ None) × (message_at members node output ≡ None)
LacksOutput members move = ⊥

-- a move that delivers an output
abbrev pub IsDelivery : Move → Type 0
IsDelivery (Deliver node output to) = ⊤
IsDelivery move = ⊥

-- ---- what a cluster is made of

-- all these settings are of the same committee
abbrev pub AreOfOne : {S : Type 0} → List (ConfigView S) → Type 0
AreOfOne settings = AllPairs (λ one other. one.charter ≡ other.charter) settings

-- no two of these settings are of the same member
abbrev pub AreDistinct : {S : Type 0} → List (ConfigView S) → Type 0
AreDistinct settings = AllPairs (λ one other. one.own.0 ≢ other.own.0) settings
