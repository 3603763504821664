-- Events at the tables of a validator.
use Rattle.std.proofs.Common.{◌≡◌, ◌≢◌, ◌++◌, ◌∷◌, [], true, false, None, inl, inr, refl, ap, sym, subst, ◌∙◌}
use Rattle.std.specs.Prelude.{Result, Ok, Err}
use Rattle.std.proofs.lemmas.Bool.{cases_Bool, true≢false}
use Rattle.wire.specs.Grammar.{IsMessage}
use Rattle.wire.specs.declared.message.Message.TheVariants as message
use Rattle.header.specs.Checks.{fault_of, accepts_all}
use Rattle.spec_laws.specs.Laws.{OrderGrows}
use Rattle.spec_laws.proofs.Legal.{legal-push}
use Rattle.spec_model.specs.Admitting.{is_new, IsTaken, IsLegal}
use Rattle.spec_model.specs.Giving.{kept}
use Rattle.spec_model.specs.Histories.{History}
use Rattle.spec_model.specs.Nodes.{Node, IsNode}
use Rattle.spec_model.specs.States.{State}
use Rattle.spec_model.specs.Words.{Certificate, Digest, Event, Header, Message, Signature}
use Rattle.header.specs.declared.admission.Admission.{Admission}
use Rattle.header.specs.declared.refusal.Refusal.{Refusal}
use Rattle.spec_machine.specs.Laws.{SoundStays, StateAnswers, StateFollows}
use Rattle.spec_machine.specs.Machine.{answered, after}
use Rattle.admission.specs.Answers.{IsAnswer, is_new_step}
use Rattle.admission.specs.declared.step.Step.{Step}
use Rattle.admission.specs.declared.step.Step.TheVariants as step
use Rattle.admission.specs.Standing.{Meets, MeetSome, has_parents}
use Rattle.validator.specs.Standing.{AreAtSound, StandSomewhere, AnswersEvent, GoOnAfter, GoesOn}
use Rattle.admission.specs.declared.tables.Tables.{Tables}

-- an event with this message meets them
pub met : (node : Node) (state : State) (event : Event) (tables : Tables) (came : Message) → Meets node state event tables event.message → event.message ≡ came
    → Meets node state event tables came
met node state event tables came meets is = record { node_is = meets.node_is; sound = meets.sound; taken = meets.taken; message = is; at = meets.at }

pub meet_some : (tables : Tables) (one came : Message) → one ≡ came → MeetSome tables one → MeetSome tables came
meet_some tables one came is some =
    (some.0, some.1, some.2, record { node_is = some.3.node_is; sound = some.3.sound; taken = some.3.taken; message = some.3.message ∙ is; at = some.3.at })

-- what is new was answered so
pub answered_new : (answer : Admission) (result : Result Step Refusal) → IsAnswer answer result → is_new_step result ≡ true → is_new answer ≡ true
answered_new answer (Ok (step.New outputs)) is new = ap is_new is
answered_new answer (Ok (step.Known outputs)) is new = absurd (true≢false (sym new))
answered_new answer (Err refusal) is new = absurd (true≢false (sym new))

-- an event that passed the checks meets the tables at each state
pub meets_at : (node : Node) (state : State) (event : Event) (tables : Tables) → IsNode node → IsMessage event.message → fault_of node.charter accepts_all event ≡ None
    → AreAtSound node tables state → Meets node state event tables event.message
meets_at node state event tables node_is within passed stands =
    record { node_is = node_is; sound = stands.sound; taken = record { message = within; passed = passed }; message = refl; at = stands.at }

-- after a new one the tables are at the state after
pub following : SoundStays → (node : Node) (state : State) (event : Event) (before later : Tables) (sign : Digest → Signature) (result : Result Step Refusal)
    → Meets node state event before event.message → node.sign ≡ sign → AnswersEvent before sign event result → GoOnAfter before later sign event → is_new_step result ≡ true
    → AreAtSound node later (after node state event)
following stays node state event before later sign result meets signs answers goes new =
    let there = answered_new (answered node state event) result (answers node state meets signs) new in
    record { sound = stays node state event meets.node_is meets.sound meets.taken there; at = goes node state meets signs there }

-- so they stand somewhere after each
pub stands : SoundStays → (node : Node) (event : Event) (before later : Tables) (sign : Digest → Signature) (result : Result Step Refusal)
    → ((state : State) → AreAtSound node before state → Meets node state event before event.message) → node.sign ≡ sign → AnswersEvent before sign event result
    → (is_new_step result ≡ true → GoOnAfter before later sign event) → (is_new_step result ≡ false → later ≡ before) → StandSomewhere node before → StandSomewhere node later
stands stays node event before later sign result meets signs answers goes same somewhere =
    elim (cases_Bool (is_new_step result)) [
      | inl new ↦ (after node somewhere.0 event, following stays node somewhere.0 event before later sign result (meets somewhere.0 somewhere.1) signs answers (goes new) new)
      | inr old ↦ subst (λ (t : Tables). StandSomewhere node t) (sym (same old)) somewhere
    ]

-- neither a header nor a certificate has no parents
pub no_parents : (m : Message) → ((header : Header) → m ≢ message.Header header) → ((certificate : Certificate) → m ≢ message.Certificate certificate) → has_parents m ≡ false
no_parents (message.Batch batch) header certificate = refl
no_parents (message.BatchAck ack) header certificate = refl
no_parents (message.Header h) header certificate = absurd (header h refl)
no_parents (message.Vote vote) header certificate = refl
no_parents (message.Certificate c) header certificate = absurd (certificate c refl)
no_parents (message.Coin coin) header certificate = refl

-- ---- histories

-- after an event that was answered New at what is kept of a legal history
pub goes_on : StateAnswers → StateFollows → SoundStays → OrderGrows → (node : Node) (history : History) (event : Event) (later : Tables) → IsLegal node history → IsTaken node event
    → is_new (answered node (kept node history) event) ≡ true → AreAtSound node later (after node (kept node history) event) → GoesOn node history event later
goes_on answers follows stays grows node history event later legal taken new stands =
    let longer : IsLegal node (history ++ event ∷ []) = legal-push node history event legal taken (ap is_new (answers node history event legal taken) ∙ new) in
    record {
      legal = longer;
      at = subst (λ (s : State). AreAtSound node later s) (sym (follows node history event longer)) stands;
      order = grows node history (event ∷ []) longer;
    }
