-- What was done with a cluster: moves that were applied, and threads in which its members ran. What is assumed of that, and on what the
-- honest members then agree.
use Rattle.std.specs.Prelude.{◌≡◌, ℕ, ◌&&◌, Bool, true, false, List, [], ◌∷◌, ◌++◌, map, flat_map, ⊤, Option, Some, None, All, Contains, Result, Ok, Err, option_map, if◌then◌else◌}
use Rattle.std.specs.List.{list_any, AllZip}
use Rattle.std.specs.Option.{option_map_or, option_to_list}
use Rattle.header.specs.Checks.{Accepts, fault_of, is_signed}
use Rattle.spec_accord.specs.Accord.{Agree}
use Rattle.spec_accord.specs.Members.{HaveNoClash, Signed, bodies_in, signed_in}
use Rattle.spec_cluster.specs.Agreement.{AreAgreed}
use Rattle.spec_cluster.specs.Cluster as spec
use Rattle.spec_cluster.specs.Premises.{FewFaulty, NoTwoTexts, HasCoin, ComesFair, signed_by_giver}
use Rattle.spec_model.specs.Nodes.{Node}
use Rattle.spec_model.specs.Slots.{same_digest}
use Rattle.spec_model.specs.Words.{Author, Digest, Event, Message}
use Rattle.spec_world.specs.Runs.{first_bytes}
use Rattle.spec_world.specs.Steps.{IsRun}
use Rattle.spec_world.specs.World.{World, put_out, alone_on, run_on}
use Rattle.validator.specs.Setting.{ConfigView, node_of}
use Rattle.wire.specs.declared.message.Message.TheVariants as message
use Rattle.cluster.specs.Cluster.{at, actor, asked_in, message_at, IsApplied}
use Rattle.cluster.specs.Member.{MemberView, StandsAt, IsOn, IsNew}
use Rattle.cluster.specs.Threads.{Act, take, round, HasRun}
use Rattle.cluster.specs.declared.error.ClusterError.{ClusterError}
use Rattle.cluster.specs.declared.error.ClusterError.TheVariants as errors
use Rattle.cluster.specs.declared.moves.Applied.{Applied}
use Rattle.cluster.specs.declared.moves.Applied.TheVariants.{Took}
use Rattle.cluster.specs.declared.moves.Move.{Move}
use Rattle.cluster.specs.declared.moves.Move.TheVariants.{Deliver, Give, Coin}
use Rattle.cluster.specs.declared.moves.Request.{Request}
use Rattle.cluster.specs.declared.moves.Request.TheVariants.{Take}
use Rattle.diskmodel.specs.Disk.{Device}
use Rattle.sigface.specs.Scheme.{Scheme}

-- ---- what was done with a cluster

-- one step of a cluster: a move was applied and got this answer; or all members ran in threads for a number of turns, and did these acts,
-- for each member the newest first
pub data Doing : Type 0 where
  moved : Move → Result Applied ClusterError → Doing
  ran : ℕ → List (List Act) → Doing

-- one step of a cluster, with all members before and after it
pub record Stage (S D : Type 0) : Type 0 where
  pub before : List (MemberView S D)
  pub doing : Doing
  pub later : List (MemberView S D)

-- a member ran in a thread, where it did just these acts
abbrev pub HasRunBy : {S D : Type 0} → Scheme S → Device D → Accepts → ℕ → List Act → MemberView S D → MemberView S D → Type 0
HasRunBy scheme device accepts turns acts before later = (run : HasRun scheme device accepts turns before later) × (run.acts ≡ acts)

-- each of these members ran in a thread, where it did the acts that the list of lists has at its place
abbrev pub HaveRunBy : {S D : Type 0} → Scheme S → Device D → Accepts → ℕ → List (List Act) → List (MemberView S D) → List (MemberView S D) → Type 0
HaveRunBy scheme device accepts turns [] [] [] = ⊤
HaveRunBy scheme device accepts turns (acts ∷ all) (one ∷ before) (other ∷ later) =
    HasRunBy scheme device accepts turns acts one other × HaveRunBy scheme device accepts turns all before later
HaveRunBy scheme device accepts turns all before later = ⊥

-- this step led from the members `before` to the members `later`
abbrev pub IsDone : {S D : Type 0} → Scheme S → Device D → Accepts → List (MemberView S D) → Doing → List (MemberView S D) → Type 0
IsDone scheme device accepts before (moved move answer) later = IsApplied scheme device accepts before move later answer
IsDone scheme device accepts before (ran turns acts) later = HaveRunBy scheme device accepts turns acts before later

-- these steps, one after the other, lead from the members `first` to the members `last`
abbrev pub StagesLead : {S D : Type 0} → Scheme S → Device D → Accepts → List (MemberView S D) → List (Stage S D) → List (MemberView S D) → Type 0
StagesLead scheme device accepts first [] last = first ≡ last
StagesLead scheme device accepts first (stage ∷ stages) last =
    (stage.before ≡ first) × IsDone scheme device accepts stage.before stage.doing stage.later × StagesLead scheme device accepts stage.later stages last

-- ---- what honest members took

-- the event that a request gives to a node; none if the request is a round or a stop
abbrev pub event_asked : Option Request → List Event
event_asked (Some (Take sender given)) = record { sender = sender; message = given } ∷ []
event_asked other = []

-- this answer says that the node accepted the event
abbrev pub was_taken : Applied → Bool
was_taken (Took ticket new) = true
was_taken other = false

-- this answer says that the node accepted the event, or leaves it open: an allocation may have failed after the node had accepted it
abbrev pub may_have_taken : Result Applied ClusterError → Bool
may_have_taken (Ok applied) = was_taken applied
may_have_taken (Err errors.Memory) = true
may_have_taken other = false

-- the events that a member accepted by these acts of its thread
abbrev pub taken_by_acts : List Act → List Event
taken_by_acts [] = []
taken_by_acts (take event applied ∷ acts) = (if was_taken applied then event ∷ [] else []) ++ taken_by_acts acts
taken_by_acts (round applied ∷ acts) = taken_by_acts acts

-- the events that the honest ones of these members accepted while they ran in threads
abbrev pub taken_in_threads : {S D : Type 0} → (ℕ → Bool) → List (MemberView S D) → List (List Act) → List Event
taken_in_threads honest (member ∷ members) (acts ∷ all) = (if honest member.setting.own.0 then taken_by_acts acts else []) ++ taken_in_threads honest members all
taken_in_threads honest members all = []

-- the events that honest members accepted, or may have accepted, in this step
abbrev pub taken_at : {S D : Type 0} → (ℕ → Bool) → List (MemberView S D) → Doing → List Event
taken_at honest before (moved move answer) = if honest (actor move).0 && may_have_taken answer then event_asked (asked_in before move) else []
taken_at honest before (ran turns acts) = taken_in_threads honest before acts

abbrev pub taken_in : {S D : Type 0} → (ℕ → Bool) → List (Stage S D) → List Event
taken_in honest stages = flat_map (λ stage. taken_at honest stage.before stage.doing) stages

-- ---- what is assumed

-- in the events that honest members accepted, no two different texts of headers or certificates have the same digest
abbrev pub HaveNoClashTaken : {S D : Type 0} → (ℕ → Bool) → List (Stage S D) → Type 0
HaveNoClashTaken honest stages = HaveNoClash (λ body. Contains (bodies_in (taken_in honest stages)) body)

-- the event that a move brings to its node from outside. A delivery of an honest member's output brings none
abbrev pub handed_in : {S D : Type 0} → (ℕ → Bool) → List (MemberView S D) → Move → Option Event
handed_in honest members (Deliver from output to) =
    if honest from.0 then None else option_map (λ message. record { sender = from; message = message }) (message_at members from output)
handed_in honest members (Give to sender given) = Some (record { sender = sender; message = given })
handed_in honest members (Coin own coin) = Some (record { sender = own; message = message.Coin coin })
handed_in honest members other = None

-- the events from outside that honest members accepted in this step. In threads all events count as from outside: nothing says who sent
-- them
abbrev pub outside_at : {S D : Type 0} → (ℕ → Bool) → List (MemberView S D) → Doing → List Event
outside_at honest before (moved move answer) = if honest (actor move).0 && may_have_taken answer then option_to_list (handed_in honest before move) else []
outside_at honest before (ran turns acts) = taken_in_threads honest before acts

-- the member with this number signed this digest: one of its outputs has the signature
abbrev pub signed_by : {S D : Type 0} → List (MemberView S D) → Author → Digest → Bool
signed_by members number digest =
    option_map_or (λ member. list_any (λ output. option_map_or (same_digest digest) (signed_by_giver (put_out output)) false) member.out.outputs) (at members number) false

-- no vote in this message is forged in an honest member's name: if its signature is good, that member signed the digest in one of its
-- outputs
abbrev pub NoneForged : {S D : Type 0} → spec.Cluster → List (MemberView S D) → Message → Type 0
NoneForged cluster members message = (vote : Signed) → Contains (signed_in message) vote → cluster.honest vote.signer.0 ≡ true
    → is_signed cluster.charter cluster.accepts vote.signer vote.digest vote.signature ≡ true → signed_by members vote.signer vote.digest ≡ true

-- Every event from outside that an honest member accepted in this stage, and that passed the checks, is fair: it has no forged vote, as far
-- as the outputs after the stage show, and a coin in it has the one value of its wave.
abbrev pub IsFairStage : {S D : Type 0} → spec.Cluster → (ℕ → ℕ) → Stage S D → Type 0
IsFairStage cluster value stage = (event : Event) → Contains (outside_at cluster.honest stage.before stage.doing) event → fault_of cluster.charter cluster.accepts event ≡ None
    → NoneForged cluster stage.later event.message × HasCoin value event.message

-- ---- at which worlds the honest members are

-- the list has the member with this number; it has the setting of this node, and stands at this world
pub record StandsAmong {S D : Type 0} (scheme : Scheme S) (device : Device D) (members : List (MemberView S D)) (number : Author) (own : Node) (world : World) : Type 0 where
  pub member : MemberView S D
  pub is : at members number ≡ Some member
  pub set_up : node_of scheme member.setting ≡ own
  pub stands : StandsAt own device world member

-- the world at which the runs of a node begin on one disk: nothing accepted, and a journal of the configuration alone
abbrev pub first_world : Node → World
first_world own = run_on (alone_on (first_bytes own)) [] []

-- the list has this member of the committee, with the setting that the cluster says; it stands where its runs begin, as `new` leaves it
pub record BeginsAmong {S D : Type 0} (scheme : Scheme S) (device : Device D) (members : List (MemberView S D)) (cluster : spec.Cluster) (number : Author) : Type 0 where
  pub member : MemberView S D
  pub is : at members number ≡ Some member
  pub set_up : node_of scheme member.setting ≡ cluster.node number.0
  pub charter : member.setting.charter ≡ cluster.charter
  pub runs : IsRun (node_of scheme member.setting) [] (first_world (node_of scheme member.setting))
  pub begins : StandsAt (node_of scheme member.setting) device (first_world (node_of scheme member.setting)) member

-- ---- on what the members agree

-- of the longest orders that any two honest members gave out, one is a prefix of the other
abbrev pub HonestOrdersAgree : {S D : Type 0} → (ℕ → Bool) → List (MemberView S D) → Type 0
HonestOrdersAgree {S} {D} honest members = (number also : Author) (one other : MemberView S D) → honest number.0 ≡ true → honest also.0 ≡ true
    → at members number ≡ Some one → at members also ≡ Some other → Agree one.out.order other.out.order

-- Each honest member stands at a world that its own runs reached, and all that came in from outside was fair. If no two different texts
-- that they settled share a digest, then these worlds agree, and so do the orders.
pub record AreInAccord {S D : Type 0} (scheme : Scheme S) (device : Device D) (members : List (MemberView S D)) (cluster : spec.Cluster) (value : ℕ → ℕ) : Type 0 where
  pub worlds : spec.Worlds
  pub have : spec.HaveRun cluster (ComesFair cluster value worlds) worlds
  pub stand : (number : Author) → cluster.honest number.0 ≡ true → StandsAmong scheme device members number (cluster.node number.0) (worlds number.0)
  pub agreed : NoTwoTexts cluster worlds → AreAgreed cluster worlds
  pub orders : NoTwoTexts cluster worlds → HonestOrdersAgree cluster.honest members

-- For any choice of honest members: assume that they began as a cluster begins, that the other members weigh no more than is tolerated,
-- that moves and threads led from there to these members, with whatever answers, and that everything that honest members accepted was fair.
-- Then the honest members are in accord; and if no two different texts that they accepted share a digest, their orders agree.
abbrev pub GivenOrdersAgree : {S D : Type 0} → Scheme S → Device D → Accepts → List (MemberView S D) → Type 0
GivenOrdersAgree {S} {D} scheme device accepts members = (cluster : spec.Cluster) (value : ℕ → ℕ) (first : List (MemberView S D)) (stages : List (Stage S D)) → cluster.accepts ≡ accepts
    → ((number : Author) → cluster.honest number.0 ≡ true → BeginsAmong scheme device first cluster number) → FewFaulty cluster
    → StagesLead scheme device accepts first stages members → All (IsFairStage cluster value) stages
    → AreInAccord scheme device members cluster value × (HaveNoClashTaken cluster.honest stages → HonestOrdersAgree cluster.honest members)

-- ---- a cluster that was opened and moved

-- the list has the member with this number, with the setting that the cluster says
pub record IsAmong {S D : Type 0} (scheme : Scheme S) (members : List (MemberView S D)) (cluster : spec.Cluster) (number : Author) : Type 0 where
  pub member : MemberView S D
  pub is : at members number ≡ Some member
  pub set_up : node_of scheme member.setting ≡ cluster.node number.0
  pub charter : member.setting.charter ≡ cluster.charter

-- the move of this step; none if the members ran in threads
abbrev pub move_in : Doing → Option Move
move_in (moved move answer) = Some move
move_in (ran turns acts) = None

-- the answer to the move of this step; none if the members ran in threads
abbrev pub answer_in : Doing → Option (Result Applied ClusterError)
answer_in (moved move answer) = Some answer
answer_in (ran turns acts) = None

-- these stages are just these moves, with these answers
pub record AreAnswered {S D : Type 0} (stages : List (Stage S D)) (moves : List Move) (answers : List (Result Applied ClusterError)) : Type 0 where
  pub applied : map (λ stage. move_in stage.doing) stages ≡ map (λ move. Some move) moves
  pub answered : map (λ stage. answer_in stage.doing) stages ≡ map (λ answer. Some answer) answers

-- The moves led, with these answers, from new members with these settings to the members of the list. Whichever of them are honest: if the
-- others weigh no more than is tolerated, the moves were fair, and no two different texts that honest members accepted share a digest, then
-- the orders that the honest members gave out agree.
pub record ArePlayed {S D : Type 0} (scheme : Scheme S) (device : Device D) (accepts : Accepts) (settings : List (ConfigView S)) (disks : List D) (moves : List Move)
    (answers : List (Result Applied ClusterError)) (members : List (MemberView S D)) : Type 0 where
  pub first : List (MemberView S D)
  pub set_up : map (λ member. member.setting) first ≡ settings
  pub on : AllZip (IsOn device) disks first
  pub new : All (IsNew scheme device) first
  pub stages : List (Stage S D)
  pub made : AreAnswered stages moves answers
  pub lead : StagesLead scheme device accepts first stages members
  pub agree : (cluster : spec.Cluster) (value : ℕ → ℕ) → cluster.accepts ≡ accepts → ((number : Author) → cluster.honest number.0 ≡ true → IsAmong scheme first cluster number)
      → FewFaulty cluster → All (IsFairStage cluster value) stages → HaveNoClashTaken cluster.honest stages → HonestOrdersAgree cluster.honest members
