-- When a validator's tables hold a state, and when what it answers is right for it.
use Rattle.std.specs.Prelude.{◌≡◌, ◌++◌, ◌∷◌, [], IsTrue, Result}
use Rattle.spec_model.specs.Admitting.{is_new, header_outputs, IsTaken, IsLegal}
use Rattle.spec_model.specs.Giving.{kept}
use Rattle.spec_model.specs.Histories.{History}
use Rattle.wire.specs.Lists.{Begins}
use Rattle.spec_model.specs.Holdings.{order}
use Rattle.spec_model.specs.Nodes.{Node}
use Rattle.spec_model.specs.States.{State}
use Rattle.spec_model.specs.Words.{Digest, Event, Header, Signature}
use Rattle.header.specs.declared.admission.Admission.TheVariants.{New}
use Rattle.header.specs.declared.refusal.Refusal.{Refusal}
use Rattle.spec_laws.specs.Laws.{own_event}
use Rattle.spec_machine.specs.Machine.{answered, after}
use Rattle.spec_machine.specs.Sound.{IsSound}
use Rattle.sigface.specs.Seeds.{seed_of}
use Rattle.admission.specs.Answers.{IsAnswer, RefusesAs}
use Rattle.admission.specs.declared.step.Step.{Step}
use Rattle.admission.specs.Standing.{AreAt, Meets}
use Rattle.admission.specs.declared.tables.Tables.{Tables}
use Rattle.validator.specs.Setting.{ConfigView}

-- a validator: its setting and its tables
pub record ValidatorView (S : Type 0) : Type 0 where
  pub setting : ConfigView S
  pub tables : Tables

-- the tables hold this state of a node, which is sound
pub record AreAtSound (node : Node) (tables : Tables) (state : State) : Type 0 where
  pub sound : IsSound node state
  pub at : AreAt node state tables

-- the tables hold some sound state of the node
abbrev pub StandSomewhere : Node → Tables → Type 0
StandSomewhere node tables = (state : State) × AreAtSound node tables state

-- what holds of each validator's tables: they hold some sound state of its node, and hash with the seed of its signer
pub record StandSeeded (node : Node) (tables : Tables) : Type 0 where
  pub somewhere : StandSomewhere node tables
  pub seed : tables.batches.seed ≡ seed_of node.sign

-- after a new event the longer history is legal, the tables hold the state kept of it, and its order has the earlier order as a prefix
pub record GoesOn (node : Node) (history : History) (event : Event) (later : Tables) : Type 0 where
  pub legal : IsLegal node (history ++ event ∷ [])
  pub at : AreAtSound node later (kept node (history ++ event ∷ []))
  pub order : Begins (order node history) (order node (history ++ event ∷ []))

-- if the node itself hands in this header as an event, the event passes the checks and is new
pub record IsNewThere (node : Node) (state : State) (header : Header) : Type 0 where
  pub taken : IsTaken node (own_event node header)
  pub new : answered node state (own_event node header) ≡ New (header_outputs node header)

-- ---- the result for an event, at each state that the tables hold, of a node with these signatures: it is right, it is the same refusal
-- where the state refuses the event, and after a new event the tables hold the state after it

abbrev pub AnswersEvent : Tables → (Digest → Signature) → Event → Result Step Refusal → Type 0
AnswersEvent tables sign event result = (node : Node) (state : State) → Meets node state event tables event.message → node.sign ≡ sign
    → IsAnswer (answered node state event) result

abbrev pub RefusesEvent : Tables → (Digest → Signature) → Event → Result Step Refusal → Type 0
RefusesEvent tables sign event result = (node : Node) (state : State) → Meets node state event tables event.message → node.sign ≡ sign
    → RefusesAs (answered node state event) result

abbrev pub GoOnAfter : Tables → Tables → (Digest → Signature) → Event → Type 0
GoOnAfter before later sign event = (node : Node) (state : State) → Meets node state event before event.message → node.sign ≡ sign
    → IsTrue (is_new (answered node state event)) → AreAt node (after node state event) later
