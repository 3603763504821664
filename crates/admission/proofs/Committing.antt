-- What tables have after an event that adds a certificate or a coin.
use Rattle.std.proofs.Common.{◌≡◌, ℕ, Bool, true, false, Option, Some, None, inl, inr, refl, ap, sym, subst, ◌∙◌}
use Rattle.std.specs.Prelude.{not, ◌==◌, nat_le, if◌then◌else◌, IfOk, IfErr, Result, Ok, Err}
use Rattle.std.specs.Global.{Vec}
use Rattle.std.specs.declared.alloc.AllocError.{AllocError}
use Rattle.std.proofs.lemmas.Bool.{cases_Bool, eqb-true, true≢false}
use Rattle.spec_model.specs.Admitting.{is_new}
use Rattle.spec_model.specs.Nodes.{Node}
use Rattle.spec_model.specs.States.{State}
use Rattle.spec_model.specs.Words.{Event, Message, Output}
use Rattle.header.specs.declared.admission.Admission.{Admission}
use Rattle.header.specs.declared.admission.Admission.TheVariants as admission
use Rattle.header.specs.declared.refusal.Refusal.{Refusal}
use Rattle.header.specs.declared.refusal.Refusal.TheVariants.{Memory, NotOurs, TooOld}
use Rattle.spec_machine.specs.Laws.{Comes}
use Rattle.spec_machine.specs.Machine.{answered, after}
use Rattle.votebook.specs.Votes.{ForgetsTo}
use Rattle.admission.specs.Headers.{AssembliesView, assembly_at, IsWith, IsForgotten}
use Rattle.admission.specs.Headers as headers
use Rattle.admission.specs.HeaderLaws.{is_other}
use Rattle.certify.specs.Assembled.{AssemblyView}
use Rattle.sequencer.specs.Sequence.{ComesTo, SequencerView}
use Rattle.sequencer.specs.Sequence as sequence
use Rattle.admission.specs.Answers.{IsAnswer}
use Rattle.admission.specs.Batches.{HasBatches, changes_batches}
use Rattle.admission.specs.Votes.{is_peers_header}
use Rattle.admission.specs.declared.step.Step.{Step}
use Rattle.admission.specs.declared.step.Step.TheVariants as step
use Rattle.admission.specs.After.{OthersStay}
use Rattle.admission.specs.Standing.{AreAt, Meets, PutsOut}
use Rattle.admission.specs.declared.tables.Tables.{Tables}
use Rattle.admission.proofs.Beside.{unless_held}

-- an event comes to the certificates, the coins and the order
pub comes_to : (node : Node) (state : State) (event : Event) (tables : Tables) → Comes node state event → AreAt node state tables → ComesTo node state event tables.sequencer
comes_to node state event tables comes at = record { comes = comes; at = at.sequence }

-- own headers of which none is low with one more of a round that isn't
pub with_high : (before held : AssembliesView) (floor round : ℕ) (new : Option AssemblyView) → IsForgotten before before floor → IsWith before held round new → nat_le round floor ≡ false
    → IsForgotten held held floor
with_high before held floor round new forgotten with high = record {
  charter = refl;
  own = refl;
  rounds = λ other. unless_held (nat_le other floor) (assembly_at held other) (is_high other);
}
  where
    is_high : (other : ℕ) (a : AssemblyView) → assembly_at held other ≡ Some a → nat_le other floor ≡ false
    is_high other a is =
        elim (cases_Bool (other == round)) [
          | inl here ↦ ap (λ (n : ℕ). nat_le n floor) (eqb-true other round here) ∙ high
          | inr apart ↦
              let there : assembly_at before other ≡ Some a = sym (with.rounds other ∙ ap (λ b. if b then new else assembly_at before other) apart) ∙ is in
              not_low (nat_le other floor) a (sym there ∙ forgotten.rounds other)
        ]
      where
        not_low : (low : Bool) (x : AssemblyView) → Some x ≡ (if low then None else assembly_at before other) → low ≡ false
        not_low true x same = absurd cc
        not_low false x same = refl

-- after such an event, with votes and headers without what fell low
pub after_commit : (others : OthersStay) (node : Node) (state : State) (event : Event) (tables later : Tables) (made : SequencerView) (before : ℕ) → Comes node state event → AreAt node state tables
    → changes_batches node event.message ≡ false → is_peers_header node event.message ≡ false
    → later.own ≡ tables.own → later.batches ≡ tables.batches
    → sequence.IsAt node (after node state event) made → later.sequencer ≡ made
    → before ≡ tables.sequencer.graph.floor
    → (ForgetsTo before tables.votes tables.votes → ForgetsTo made.graph.floor tables.votes later.votes)
    → headers.IsAt node (after node state event) later.headers
    → AreAt node (after node state event) later
after_commit others node state event tables later made before comes at no_batch no_header own batches at_made is_made floor forgets headers =
    let low = others.low node state event tables comes at in
    record {
      own = own ∙ at.own;
      batches = subst (λ s. HasBatches node (after node state event) s) (sym batches) (others.batches node state event tables.batches at.batches no_batch);
      votes = others.votes node state event tables.votes later.votes comes at.votes no_header
          (subst (λ (f : ℕ). ForgetsTo f tables.votes later.votes) at_made.floor
          (forgets (subst (λ (f : ℕ). ForgetsTo f tables.votes tables.votes) (sym (floor ∙ at.sequence.floor)) low.votes)));
      headers = headers;
      sequence = subst (λ (s : SequencerView). sequence.IsAt node (after node state event) s) (sym is_made) at_made;
    }

-- own headers where the event is neither one nor a vote
pub headers_after : (others : OthersStay) (node : Node) (state : State) (event : Event) (tables later : Tables) (made : SequencerView) (before : ℕ) → Comes node state event → AreAt node state tables
    → is_other node event.message ≡ true → sequence.IsAt node (after node state event) made → before ≡ tables.sequencer.graph.floor
    → (IsForgotten tables.headers tables.headers before → IsForgotten tables.headers later.headers made.graph.floor)
    → headers.IsAt node (after node state event) later.headers
headers_after others node state event tables later made before comes at other at_made floor forgets =
    let low = others.low node state event tables comes at in
    others.headers node state event tables.headers comes at.headers other later.headers
    (subst (λ (f : ℕ). IsForgotten tables.headers later.headers f) at_made.floor
    (forgets (subst (λ (f : ℕ). IsForgotten tables.headers tables.headers f) (sym (floor ∙ at.sequence.floor)) low.headers)))

-- what a new event puts out, if memory allows it, is its answer
pub put_out : (tables : Tables) (came : Message) (made : Result (Vec Output) AllocError) (result : Result Step Refusal) (node : Node) (state : State) (event : Event)
    → IfOk made (λ found. result ≡ Ok (step.New found)) → IfErr made (λ _. result ≡ Err Memory) → IfOk made (PutsOut tables came)
    → Meets node state event tables came → is_new (answered node state event) ≡ true → IsAnswer (answered node state event) result
put_out tables came (Ok found) result node state event ok err puts meets new = rw ok (puts node state event meets new)
put_out tables came (Err e) result node state event ok err puts meets new = rw err (inl refl)

-- what is tested first of an own vote
pub vote_is_high : (own low : Bool) (rest : Admission) → is_new (if not own then admission.Refused NotOurs else if low then admission.Refused TooOld else rest) ≡ true → low ≡ false
vote_is_high false low rest is = absurd (true≢false (sym is))
vote_is_high true true rest is = absurd (true≢false (sym is))
vote_is_high true false rest is = refl

pub header_is_high : (low : Bool) (rest : Admission) → is_new (if low then admission.Refused TooOld else rest) ≡ true → low ≡ false
header_is_high true rest is = absurd (true≢false (sym is))
header_is_high false rest is = refl
