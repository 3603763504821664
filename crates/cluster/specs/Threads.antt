-- What a member does while it runs in a thread of its own.
use Rattle.std.specs.Prelude.{◌≡◌, ◌≢◌, ⊤, ℕ, ◌+◌, List, [], ◌∷◌, All, Option, Some, None, is_some, if◌then◌else◌}
use Rattle.header.specs.Checks.{Accepts}
use Rattle.spec_model.specs.Nodes.{Node}
use Rattle.spec_model.specs.Words.{Author, Event, Output}
use Rattle.spec_world.specs.World.{World}
use Rattle.validator.specs.Setting.{node_of}
use Rattle.wire.specs.Outputs.{receiver_of}
use Rattle.wire.specs.declared.output_bytes.TheConstants.{TO_ALL}
use Rattle.cluster.specs.Answers.{Deed, TakesIn, MakesRound, Makes}
use Rattle.cluster.specs.Member.{MemberView, StandsAt}
use Rattle.cluster.specs.Outputs.{message_of, IsFor}
use Rattle.cluster.specs.declared.moves.Applied.{Applied}
use Rattle.diskmodel.specs.Disk.{Device}
use Rattle.sigface.specs.Scheme.{Scheme}

-- ---- the messages that reach a member

-- an event is in flight to a receiver: the event's message is that of some output, and the output is addressed to this receiver. None, in
-- place of a receiver, stands for an output that is addressed to all members
pub record IsSent (receiver : Option Author) (event : Event) : Type 0 where
  pub output : Output
  pub message : message_of output ≡ Some event.message
  pub named : (to : Author) → receiver ≡ Some to → receiver_of output ≡ to.0
  pub unnamed : receiver ≡ None → receiver_of output ≡ TO_ALL

-- an event that reaches a member comes from another one, and is the message of an output that is for this member
pub record IsHeard (own : Author) (event : Event) : Type 0 where
  pub output : Output
  pub message : message_of output ≡ Some event.message
  pub for_it : IsFor output own
  pub other : event.sender.0 ≢ own.0

-- ---- what a member does

-- one act of a member in its thread, with its answer: it gets a message from a sender, or makes a round of take, append and settle
pub data Act : Type 0 where
  take : Event → Applied → Act
  round : Applied → Act

-- what this act does to the member's desk
abbrev pub DoesAct : {S D : Type 0} → Node → Device D → Accepts → Act → Deed S D → Type 0
DoesAct node device accepts (take event applied) deed = TakesIn node accepts event applied deed
DoesAct node device accepts (round applied) deed = MakesRound node device applied deed

-- A member did this act, and then all outputs that may go out went out; so it was in every world at which the member may have stood.
abbrev pub HasActed : {S D : Type 0} → Scheme S → Device D → Accepts → Act → MemberView S D → MemberView S D → Type 0
HasActed scheme device accepts act before later = (world : World) → StandsAt (node_of scheme before.setting) device world before
    → Makes (node_of scheme before.setting) device (DoesAct (node_of scheme before.setting) device accepts act) world before later

-- a member did all of these acts; the newest comes first in the list
abbrev pub HaveActed : {S D : Type 0} → Scheme S → Device D → Accepts → List Act → MemberView S D → MemberView S D → Type 0
HaveActed scheme device accepts [] before later = later ≡ before
HaveActed {S} {D} scheme device accepts (act ∷ acts) before later = (middle : MemberView S D) × HaveActed scheme device accepts acts before middle × HasActed scheme device accepts act middle later

-- if the act gives the member a message, that message has reached it
abbrev pub Hears : Author → Act → Type 0
Hears own (take event applied) = IsHeard own event
Hears own (round applied) = ⊤

-- how many of these acts are rounds
abbrev pub rounds_in : List Act → ℕ
rounds_in [] = 0
rounds_in (take event applied ∷ acts) = rounds_in acts
rounds_in (round applied ∷ acts) = rounds_in acts + 1

-- A member ran in a thread for `turns` turns. Unless it is gone it made one round in each, and it got only messages that had reached it.
-- Nothing else happened to it; it did not stop.
pub record HasRun {S D : Type 0} (scheme : Scheme S) (device : Device D) (accepts : Accepts) (turns : ℕ) (before later : MemberView S D) : Type 0 where
  pub setting : later.setting ≡ before.setting
  pub there : is_some later.desk ≡ is_some before.desk
  pub acts : List Act
  pub have : HaveActed scheme device accepts acts before later
  pub heard : All (λ act. Hears before.setting.own act) acts
  pub rounds : rounds_in acts ≡ (if is_some before.desk then turns else 0)
