-- What comes of an event.
use Rattle.std.proofs.Common.{◌≡◌, ◌≢◌, ◌⊎◌, ℕ, ◌+◌, ◌≤◌, List, [], ◌∷◌, ◌++◌, length, inl, inr, refl, sym, ap, ◌∙◌, subst, arith}
use Rattle.std.proofs.lemmas.Bool.{true≢false}
use Rattle.spec_machine.specs.Machine.{answered, after}
use Rattle.spec_model.specs.Admitting.{is_new, IsTaken}
use Rattle.spec_model.specs.Nodes.{Node}
use Rattle.spec_model.specs.States.{State}
use Rattle.spec_model.specs.Words.{Event, Output}
use Rattle.header.specs.declared.admission.Admission.{Admission}
use Rattle.header.specs.declared.admission.Admission.TheVariants.{New, Known, Refused}
use Rattle.header.specs.declared.refusal.Refusal.{Refusal}
use Rattle.header.specs.declared.refusal.Refusal.TheVariants as refusal
use Rattle.spec_records.specs.Records.{record_of}
use Rattle.spec_world.specs.World.{Waiting}
use Rattle.spec_world.specs.Steps.{ticketed}
use Rattle.validator.specs.Standing.{AreAtSound}
use Rattle.book.specs.declared.book.TheConstants.{MAX_ACCEPTED}
use Rattle.book.specs.Book.{BookView, Run, state_in, TakesNew, TakesKnown, MayRefuse, HasPlace}
use Rattle.book.proofs.Accepting.{IsNoted, stands_new, stands_known}

-- what is answered at each state at which the validator stands
abbrev pub Answers : {S : Type 0} → Node → BookView S → Event → (Admission → Type 0) → Type 0
Answers node book event P = (state : State) → AreAtSound node book.validator.tables state → P (answered node state event)

module _ {S : Type 0} (node : Node) (before later : BookView S) (event : Event) (outputs : List Output) where
  pub takes_new : IsTaken node event → Answers node before event (λ answer. answer ≡ New outputs)
      → ((state : State) → AreAtSound node before.validator.tables state → AreAtSound node later.validator.tables (after node state event))
      → later.pending ≡ before.pending ++ record_of event ∷ [] → later.queue ≡ before.queue ++ ticketed (before.accepted + 1) outputs
      → later.accepted ≡ before.accepted + 1 → later.taken ≡ before.taken → later.settled ≡ before.settled → later.rewriting ≡ before.rewriting
      → later.ordered ≡ before.ordered → later.down ≡ before.down
      → (from to : ℕ) → IsNoted before.reached later.reached (before.accepted + 1) from to
      → ((state : State) → AreAtSound node before.validator.tables state → from ≡ length state.order)
      → ((state : State) → AreAtSound node later.validator.tables state → to ≡ length state.order)
      → TakesNew node before later event
  takes_new taken_by answers goes pending queue accepted taken settled rewriting ordered down from to noted froms tos = record {
    taken_by = taken_by;
    outputs = outputs;
    answer = λ run at. answers (state_in node run) at.at;
    stands = λ run at.
        let on = goes (state_in node run) at.at in
        let noted' = subst (λ n. IsNoted before.reached later.reached (before.accepted + 1) n (length (after node (state_in node run) event).order)) (froms (state_in node run) at.at)
        (subst (λ n. IsNoted before.reached later.reached (before.accepted + 1) from n) (tos (after node (state_in node run) event) on) noted) in
        stands_new node run before later event outputs taken_by at (answers (state_in node run) at.at) on pending queue accepted taken settled rewriting ordered noted';
    queue = queue;
    pending = pending;
    accepted = accepted;
    taken = taken;
    settled = settled;
    rewriting = rewriting;
    down = down;
  }

  pub takes_known : IsTaken node event → Answers node before event (λ answer. answer ≡ Known outputs) → later
      ≡ record before { queue = before.queue ++ ticketed before.accepted outputs }
      → TakesKnown node before later event
  takes_known taken_by answers is = record {
    taken_by = taken_by;
    outputs = outputs;
    answer = λ run at. answers (state_in node run) at.at;
    stands = λ run at. stands_known node run before later event outputs taken_by at (answers (state_in node run) at.at) is;
    is = is;
  }

-- a known event leaves all but the queue
pub queue_alone : {S : Type 0} (before later : BookView S) (queue : List Waiting) → later.validator ≡ before.validator → later.pending
    ≡ before.pending → later.queue ≡ queue → later.reached ≡ before.reached
    → later.accepted ≡ before.accepted → later.taken ≡ before.taken → later.settled ≡ before.settled → later.rewriting ≡ before.rewriting → later.ordered ≡ before.ordered → later.down
    ≡ before.down → later ≡ record before { queue = queue }
queue_alone before later queue validator pending queue_is reached accepted taken settled rewriting ordered down =
    λ i. record {
      validator = validator i;
      pending = pending i;
      queue = queue_is i;
      accepted = accepted i;
      taken = taken i;
      settled = settled i;
      rewriting = rewriting i;
      ordered = ordered i;
      reached = reached i;
      down = down i;
    }

-- why it may be refused
pub may_refuse : {S : Type 0} (node : Node) (run : Run) (book : BookView S) (event : Event) (why : Refusal) → (why ≡ refusal.Memory)
    ⊎ (answered node (state_in node run) event ≡ Refused why) → why ≢ refusal.Down
    → MayRefuse node run book event why
may_refuse node run book event refusal.Memory comes up = tt
may_refuse node run book event refusal.Down comes up = absurd (up refl)
may_refuse node run book event refusal.StoreFull (inl same) up = absurd cc
may_refuse node run book event refusal.StoreFull (inr is) up = inl is
may_refuse node run book event other (inl same) up = absurd cc
may_refuse node run book event other (inr is) up = is

-- a new event finds a place
pub one_more : {S : Type 0} (node : Node) (book : BookView S) (event : Event) (outputs : List Output) → HasPlace node book event → book.accepted ≤ MAX_ACCEPTED
    → ((state : State) → AreAtSound node book.validator.tables state → answered node state event ≡ New outputs) → book.accepted + 1 ≤ MAX_ACCEPTED
one_more node book event outputs (inl place) most new = omega (arith, place)
one_more node book event outputs (inr old) most new = absurd (true≢false (sym (ap is_new (new old.0 old.1)) ∙ old.2))
