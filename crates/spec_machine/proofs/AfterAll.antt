-- A state and the events after it: from every sound state, and where the state is what is kept of a history.
use Rattle.std.proofs.Common.{◌≡◌, List, [], ◌∷◌, ◌++◌, refl, ap, sym, ◌∙◌, subst, append_assoc}
use Rattle.std.specs.Prelude.{Contains, IsTrue}
use Rattle.std.proofs.lemmas.Bool.{and_parts, and_from}
use Rattle.std.proofs.lemmas.List.{append-nil}
use Rattle.std.proofs.lemmas.List.Elements.{All-nil, All-cons, All-head, All-tail, All-contains}
use Rattle.header.specs.declared.admission.Admission.TheVariants.{New, Known}
use Rattle.wire.specs.Lists.{Begins}
use Rattle.spec_laws.specs.Laws.{PutsOutGiven}
use Rattle.spec_laws.proofs.Legal.{legal-begins, legal-last, legal-push}
use Rattle.spec_laws.proofs.PutOut.{outputs_given}
use Rattle.spec_model.specs.Admitting.{admit, is_new, IsTaken, IsLegal}
use Rattle.spec_model.specs.Giving.{kept, MayGive}
use Rattle.spec_model.specs.Histories.{History}
use Rattle.spec_model.specs.Nodes.{Node, IsNode}
use Rattle.spec_model.specs.States.{State}
use Rattle.spec_model.specs.Words.{Event, Output}
use Rattle.spec_machine.specs.After.{after_all, each_new_after, IsLegalAfter, WasPutOutAfter, by_new, by_known, AfterIsKept, LegalAfter, LegalAgain, StatesAreHistories}
use Rattle.spec_machine.specs.After.{PutOutMayBeGiven, OrderGrowsAfter, AfterJoins}
use Rattle.spec_machine.specs.Laws.{KeptIsSound}
use Rattle.spec_machine.specs.Machine.{after, answered}
use Rattle.spec_machine.specs.Sound.{IsSound}
use Rattle.spec_machine.proofs.Answering.{state_answers}
use Rattle.spec_machine.proofs.Following.{state_follows}
use Rattle.spec_machine.proofs.FreshSound.{fresh_is_sound}
use Rattle.spec_machine.proofs.Standing.{state_stands}
use Rattle.spec_machine.proofs.Staying.{sound_stays, kept_from}

pub kept_is_sound : KeptIsSound
kept_is_sound = kept_from fresh_is_sound

-- ---- none, and one more

pub after_none : (node : Node) (state : State) → after_all node state [] ≡ state
unfolding after_all
after_none node state = refl

pub after_first : (node : Node) (state : State) (event : Event) (events : List Event) → after_all node state (event ∷ events) ≡ after_all node (after node state event) events
unfolding after_all
after_first node state event events = refl

pub after_append : (node : Node) (state : State) (events more : List Event) → after_all node state (events ++ more) ≡ after_all node (after_all node state events) more
unfolding after_all
after_append node state [] more = refl
after_append node state (event ∷ events) more = after_append node (after node state event) events more

pub after_last : (node : Node) (state : State) (events : List Event) (event : Event) → after_all node state (events ++ event ∷ []) ≡ after node (after_all node state events) event
unfolding after_all
after_last node state events event = after_append node state events (event ∷ [])

none_new : (node : Node) (state : State) → IsTrue (each_new_after node state [])
unfolding each_new_after
none_new node state = refl

-- the first of events that are legal after a state comes to it, and the others are legal after that
record Goes (node : Node) (state : State) (event : Event) (events : List Event) : Type 0 where
  node_is : IsNode node
  sound : IsSound node state
  taken : IsTaken node event
  new : IsTrue (is_new (answered node state event))
  rest : IsLegalAfter node (after node state event) events

first_goes : (node : Node) (state : State) (event : Event) (events : List Event) → IsLegalAfter node state (event ∷ events) → Goes node state event events
unfolding each_new_after
first_goes node state event events legal =
    let parts = and_parts (is_new (answered node state event)) (each_new_after node (after node state event) events) legal.new in
    let taken = All-head (IsTaken node) event events legal.taken in
    record {
      node_is = legal.node_is;
      sound = legal.sound;
      taken = taken;
      new = parts.0;
      rest = record {
        node_is = legal.node_is;
        sound = sound_stays node state event legal.node_is legal.sound taken parts.0;
        taken = All-tail (IsTaken node) event events legal.taken;
        new = parts.1;
      };
    }

comes_first : (node : Node) (state : State) (event : Event) (events : List Event) → IsSound node state → IsTaken node event → IsTrue (is_new (answered node state event))
    → IsLegalAfter node (after node state event) events → IsLegalAfter node state (event ∷ events)
unfolding each_new_after
comes_first node state event events sound taken new rest =
    record { node_is = rest.node_is; sound = sound; taken = All-cons (IsTaken node) event events taken rest.taken; new = and_from _ _ new rest.new }

pub legal_none : (node : Node) (state : State) → IsNode node → IsSound node state → IsLegalAfter node state []
legal_none node state node_is sound = record { node_is = node_is; sound = sound; taken = All-nil (IsTaken node); new = none_new node state }

-- ---- from each sound state

begins_trans : {X : Type 0} (one two three : List X) → Begins one two → Begins two three → Begins one three
begins_trans one two three first second = record {
  rest = first.rest ++ second.rest;
  parts = second.parts ∙ ap (λ l. l ++ second.rest) first.parts ∙ append_assoc one first.rest second.rest;
}

pub order_grows_after : OrderGrowsAfter
unfolding after_all
order_grows_after node state [] legal = record { order = record { rest = []; parts = sym (append-nil state.order) }; sound = legal.sound }
order_grows_after node state (event ∷ events) legal =
    let goes = first_goes node state event events legal in
    let later = order_grows_after node (after node state event) events goes.rest in
    let stands = state_stands node state event goes.node_is goes.sound goes.taken goes.new in
    record {
      order = begins_trans state.order (after node state event).order (after_all node (after node state event) events).order stands.order later.order;
      sound = later.sound;
    }

legal_parts : (node : Node) (state : State) (events more : List Event) → IsLegalAfter node state (events ++ more)
    → IsLegalAfter node state events × IsLegalAfter node (after_all node state events) more
unfolding after_all
legal_parts node state [] more legal = (legal_none node state legal.node_is legal.sound, legal)
legal_parts node state (event ∷ events) more legal =
    let goes = first_goes node state event (events ++ more) legal in
    let rest = legal_parts node (after node state event) events more goes.rest in
    (comes_first node state event events goes.sound goes.taken goes.new rest.0, rest.1)

legal_joined : (node : Node) (state : State) (events more : List Event) → IsLegalAfter node state events → IsLegalAfter node (after_all node state events) more
    → IsLegalAfter node state (events ++ more)
unfolding after_all
legal_joined node state [] more legal later = later
legal_joined node state (event ∷ events) more legal later =
    let goes = first_goes node state event events legal in
    comes_first node state event (events ++ more) goes.sound goes.taken goes.new (legal_joined node (after node state event) events more goes.rest later)

pub after_joins : AfterJoins
after_joins node state events more = record {
  leads = after_append node state events more;
  parts = legal_parts node state events more;
  joined = legal_joined node state events more;
}

-- events that are legal after a state are so with one more that is new after them
pub legal_push_after : (node : Node) (state : State) (events : List Event) (event : Event) → IsLegalAfter node state events → IsTaken node event
    → IsTrue (is_new (answered node (after_all node state events) event)) → IsLegalAfter node state (events ++ event ∷ [])
legal_push_after node state events event legal taken new =
    let now = after_all node state events in
    let sound = (order_grows_after node state events legal).sound in
    legal_joined node state events (event ∷ []) legal
    (comes_first node now event [] sound taken new (legal_none node (after node now event) legal.node_is (sound_stays node now event legal.node_is sound taken new)))

-- ---- where the state is what is kept of a history

pub after_is_kept : AfterIsKept
unfolding after_all
after_is_kept node history [] legal = ap (kept node) (sym (append-nil history))
after_is_kept node history (event ∷ events) legal =
    let joined = append_assoc history (event ∷ []) events in
    let longer : IsLegal node ((history ++ event ∷ []) ++ events) = subst (IsLegal node) (sym joined) legal in
    ap (λ s. after_all node s events) (sym (state_follows node history event (legal-begins node (history ++ event ∷ []) events longer)))
    ∙ after_is_kept node (history ++ event ∷ []) events longer ∙ ap (kept node) joined

pub legal_after : LegalAfter
legal_after node history [] legal =
    let before = legal-begins node history [] legal in
    legal_none node (kept node history) legal.sound (kept_is_sound node history before)
legal_after node history (event ∷ events) legal =
    let longer : IsLegal node ((history ++ event ∷ []) ++ events) = subst (IsLegal node) (sym (append_assoc history (event ∷ []) events)) legal in
    let adds = legal-last node history event (legal-begins node (history ++ event ∷ []) events longer) in
    comes_first node (kept node history) event events (kept_is_sound node history adds.legal) adds.taken
    (sym (ap is_new (state_answers node history event adds.legal adds.taken)) ∙ adds.new)
    (subst (λ s. IsLegalAfter node s events) (state_follows node history event adds.longer) (legal_after node (history ++ event ∷ []) events longer))

pub legal_again : LegalAgain
legal_again node history [] legal later = subst (IsLegal node) (sym (append-nil history)) legal
legal_again node history (event ∷ events) legal later =
    let goes = first_goes node (kept node history) event events later in
    let longer = legal-push node history event legal goes.taken (ap is_new (state_answers node history event legal goes.taken) ∙ goes.new) in
    subst (IsLegal node) (append_assoc history (event ∷ []) events)
    (legal_again node (history ++ event ∷ []) events longer
    (subst (λ s. IsLegalAfter node s events) (sym (state_follows node history event longer)) goes.rest))

pub states_are_histories : StatesAreHistories
states_are_histories = record { kept = after_is_kept; legal = legal_after; again = legal_again }

-- ---- what was put out

-- an answer's outputs may be given out, by the answer that it is
new_given : (node : Node) (history : History) (event : Event) (outputs : List Output) (output : Output) → admit node history event ≡ New outputs → Contains outputs output
    → MayGive node (history ++ event ∷ []) output
new_given node history event outputs output is holds =
    All-contains (MayGive node (history ++ event ∷ [])) outputs output (subst (PutsOutGiven node history event) is (outputs_given node history event)) holds

known_given : (node : Node) (history : History) (event : Event) (outputs : List Output) (output : Output) → admit node history event ≡ Known outputs → Contains outputs output
    → MayGive node history output
known_given node history event outputs output is holds =
    All-contains (MayGive node history) outputs output (subst (PutsOutGiven node history event) is (outputs_given node history event)) holds

-- what a state answers after events the history that keeps it answers with them
pub answered_kept : (node : Node) (history events : History) (event : Event) → IsLegal node (history ++ events) → IsTaken node event
    → admit node (history ++ events) event ≡ answered node (after_all node (kept node history) events) event
answered_kept node history events event legal taken =
    state_answers node (history ++ events) event legal taken ∙ ap (λ s. answered node s event) (sym (after_is_kept node history events legal))

given_kept : (node : Node) (history events : History) (output : Output) → IsLegal node (history ++ events) → WasPutOutAfter node (kept node history) events output
    → MayGive node (history ++ events) output
given_kept node history events output legal (by_new before event outputs is answer holds) =
    let joined = append_assoc history before (event ∷ []) in
    let longer : IsLegal node ((history ++ before) ++ event ∷ []) = subst (IsLegal node) (ap (λ l. history ++ l) is ∙ sym joined) legal in
    let adds = legal-last node (history ++ before) event longer in
    subst (λ h. MayGive node h output) (joined ∙ ap (λ l. history ++ l) (sym is))
    (new_given node (history ++ before) event outputs output (answered_kept node history before event adds.legal adds.taken ∙ answer) holds)
given_kept node history events output legal (by_known event outputs taken answer holds) =
    known_given node (history ++ events) event outputs output (answered_kept node history events event legal taken ∙ answer) holds

pub put_out_may_be_given : PutOutMayBeGiven
put_out_may_be_given node state events output legal put history from is =
    given_kept node history events output (legal_again node history events from (subst (λ s. IsLegalAfter node s events) (sym is) legal))
    (subst (λ s. WasPutOutAfter node s events output) (sym is) put)
