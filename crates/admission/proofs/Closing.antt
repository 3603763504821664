-- What comes of a message, by what admission answers.
use Rattle.std.proofs.Common.{◌≡◌, true, List, inl, inr, refl, ap, sym, ◌∙◌}
use Rattle.std.specs.Prelude.{Result, Ok, Err, IfOk, IfErr, OnOk}
use Rattle.std.specs.Global.{Vec}
use Rattle.std.specs.declared.alloc.AllocError.{AllocError}
use Rattle.std.proofs.lemmas.Bool.{true≢false}
use Rattle.spec_model.specs.Admitting.{is_new}
use Rattle.spec_model.specs.Nodes.{Node}
use Rattle.spec_model.specs.States.{State}
use Rattle.spec_model.specs.Words.{Event, Message, Output}
use Rattle.header.specs.declared.admission.Admission.{Admission}
use Rattle.header.specs.declared.admission.Admission.TheVariants as admission
use Rattle.header.specs.declared.refusal.Refusal.{Refusal}
use Rattle.header.specs.declared.refusal.Refusal.TheVariants.{Memory}
use Rattle.spec_machine.specs.Laws.{Comes}
use Rattle.spec_machine.specs.Machine.{answered}
use Rattle.admission.specs.Answers.{IsAnswer, RefusesAs, is_new_step}
use Rattle.admission.specs.declared.step.Step.{Step}
use Rattle.admission.specs.declared.step.Step.TheVariants as step
use Rattle.admission.specs.Decisions.{reported, is_new_decision}
use Rattle.admission.specs.Standing.{Meets}
use Rattle.admission.specs.declared.tables.answer.Answer.{Answer}
use Rattle.admission.specs.declared.tables.answer.Answer.TheVariants.{New, Known}
use Rattle.admission.specs.declared.tables.Tables.{Tables}

-- where the event is new, it comes to a sound state
pub comes_of : (node : Node) (state : State) (event : Event) (tables : Tables) (came : Message) → Meets node state event tables came
    → is_new (answered node state event) ≡ true → Comes node state event
comes_of node state event tables came meets new = record { node_is = meets.node_is; sound = meets.sound; taken = meets.taken; new = new }

-- ---- refusals

same_refusal : (one other : Refusal) → ◌≡◌ {A = Admission} (admission.Refused one) (admission.Refused other) → one ≡ other
same_refusal one other is = cc

pub refused_answer : (answer : Admission) (new known : List Output) (decision : Result Answer Refusal) (refusal : Refusal) → answer ≡ reported new known decision
    → decision ≡ Err refusal → IsAnswer answer (Err refusal)
refused_answer answer new known decision refusal is decided = inr (is ∙ ap (reported new known) decided)

pub refused_refuses : (answer : Admission) (new known : List Output) (decision : Result Answer Refusal) (refusal : Refusal) → answer ≡ reported new known decision
    → decision ≡ Err refusal → RefusesAs answer (Err refusal)
refused_refuses answer new known decision refusal is decided other refused =
    ap (λ r. Err r) (same_refusal refusal other (sym (is ∙ ap (reported new known) decided) ∙ refused))

-- ---- known events

known_not_refused : (outputs : List Output) (refusal : Refusal) → ◌≡◌ {A = Admission} (admission.Known outputs) (admission.Refused refusal) → ⊥
known_not_refused outputs refusal is = cc

pub known_refuses : (answer : Admission) (outputs : List Output) (result : Result Step Refusal) → answer ≡ admission.Known outputs → RefusesAs answer result
known_refuses answer outputs result is refusal refused = absurd (known_not_refused outputs refusal (sym is ∙ refused))

pub known_answer : (answer : Admission) (outputs : List Output) (made : Result (Vec Output) AllocError) (result : Result Step Refusal) → answer ≡ admission.Known outputs
    → IfOk made (λ found. result ≡ Ok (step.Known found)) → IfErr made (λ _. result ≡ Err Memory) → IfOk made (λ found. found.items ≡ outputs) → IsAnswer answer result
known_answer answer outputs (Ok found) result is ok err items = rw ok (is ∙ ap admission.Known (sym items))
known_answer answer outputs (Err e) result is ok err items = rw err (inl refl)

pub known_not_new : (made : Result (Vec Output) AllocError) (result : Result Step Refusal)
    → IfOk made (λ found. result ≡ Ok (step.Known found)) → IfErr made (λ _. result ≡ Err Memory) → is_new_step result ≡ true → ⊥
known_not_new (Ok found) result ok err new = true≢false (sym new ∙ ap is_new_step ok)
known_not_new (Err e) result ok err new = true≢false (sym new ∙ ap is_new_step err)

-- ---- new events

new_not_refused : (outputs : List Output) (refusal : Refusal) → ◌≡◌ {A = Admission} (admission.New outputs) (admission.Refused refusal) → ⊥
new_not_refused outputs refusal is = cc

pub new_refuses : (answer : Admission) (outputs : List Output) (result : Result Step Refusal) → answer ≡ admission.New outputs → RefusesAs answer result
new_refuses answer outputs result is refusal refused = absurd (new_not_refused outputs refusal (sym is ∙ refused))

pub new_answer : (answer : Admission) (outputs : List Output) (made : Result (Vec Output) AllocError) (result : Result Step Refusal) → answer ≡ admission.New outputs
    → IfOk made (λ found. result ≡ Ok (step.New found)) → IfErr made (λ _. result ≡ Err Memory) → IfOk made (λ found. found.items ≡ outputs) → IsAnswer answer result
new_answer answer outputs (Ok found) result is ok err items = rw ok (is ∙ ap admission.New (sym items))
new_answer answer outputs (Err e) result is ok err items = rw err (inl refl)

-- what holds where nothing was refused holds where the event is new
pub went : {P : Type 0} (made : Result (Vec Output) AllocError) (result : Result Step Refusal)
    → IfOk made (λ found. result ≡ Ok (step.New found)) → IfErr made (λ _. result ≡ Err Memory) → is_new_step result ≡ true → OnOk made P → P
went (Ok found) result ok err new holds = holds
went (Err e) result ok err new holds = absurd (true≢false (sym new ∙ ap is_new_step err))

-- an answer that is told is new only where the decision is
reported_new : (new known : List Output) (decision : Result Answer Refusal) → is_new (reported new known decision) ≡ true → reported new known decision ≡ admission.New new
reported_new new known (Ok New) is = refl
reported_new new known (Ok Known) is = absurd (true≢false (sym is))
reported_new new known (Err refusal) is = absurd (true≢false (sym is))

pub new_is_reported : (answer : Admission) (new known : List Output) (decision : Result Answer Refusal) → answer ≡ reported new known decision → is_new answer ≡ true → answer ≡ admission.New new
new_is_reported answer new known decision is new_there = is ∙ reported_new new known decision (ap is_new (sym is) ∙ new_there)

-- it is new just where the decision is
reported_is_new : (new known : List Output) (decision : Result Answer Refusal) → is_new_decision decision ≡ is_new (reported new known decision)
reported_is_new new known (Ok New) = refl
reported_is_new new known (Ok Known) = refl
reported_is_new new known (Err refusal) = refl

pub newness_is_reported : (answer : Admission) (new known : List Output) (decision : Result Answer Refusal) → answer ≡ reported new known decision → is_new_decision decision ≡ is_new answer
newness_is_reported answer new known decision is = reported_is_new new known decision ∙ ap is_new (sym is)
