use Rattle.std.proofs.Common.{◌≡◌, ◌∙◌, Bool, true, false, List, [], Option, Some, None, ap, sym, refl}
use Rattle.std.specs.Prelude.{not, Result, Ok, Err, if◌then◌else◌}
use Rattle.std.specs.Option.{option_map_or}
use Rattle.spec_model.specs.Admitting.{certificate_answer, held_certificate_answer, order_outputs, same_header, when◌gives◌else◌}
use Rattle.spec_model.specs.Holdings.{is_low, all_held}
use Rattle.spec_model.specs.Slots.{Slots, same_digest, certificate_digest}
use Rattle.spec_model.specs.States.{floor_in}
use Rattle.spec_model.specs.Words.{Certificate, Output}
use Rattle.header.specs.declared.admission.Admission.{Admission}
use Rattle.header.specs.declared.admission.Admission.TheVariants as admission
use Rattle.header.specs.declared.refusal.Refusal.TheVariants as refusal
use Rattle.dag.specs.Answer.{held_answer, answer}
use Rattle.dag.specs.Graph.{slots_in}
use Rattle.dag.specs.declared.answers.Added.{Added}
use Rattle.dag.specs.declared.answers.Added.TheVariants.{New, Known}
use Rattle.dag.specs.declared.refusal.DagRefusal.{DagRefusal}
use Rattle.dag.specs.declared.refusal.DagRefusal.TheVariants.{Memory, TooOld, CertConflict, DigestClash, MissingParents}
use Rattle.dag.proofs.facts.answers_as_admission.Goals as goal

-- the answer of admission for that of a DAG; a DAG's own answer is never want of memory
abbrev admitted : List Output → Result Added DagRefusal → Admission
admitted outputs (Ok New) = admission.New outputs
admitted outputs (Ok Known) = admission.Known []
admitted outputs (Err Memory) = admission.Known []
admitted outputs (Err TooOld) = admission.Refused refusal.TooOld
admitted outputs (Err CertConflict) = admission.Refused refusal.CertConflict
admitted outputs (Err DigestClash) = admission.Refused refusal.DigestClash
admitted outputs (Err MissingParents) = admission.Refused refusal.MissingParents

held_by : (outputs : List Output) (digest header : Bool)
    → (if not digest then admission.Refused refusal.CertConflict else if header then admission.Known [] else admission.Refused refusal.DigestClash)
    ≡ admitted outputs (if not digest then Err CertConflict else if header then Ok Known else Err DigestClash)
held_by outputs false header = refl
held_by outputs true true = refl
held_by outputs true false = refl

alike : (outputs : List Output) (certificate : Certificate) (low all : Bool) (slot : Option Certificate)
    → (if low then admission.Refused refusal.TooOld
    else when slot gives (λ held. held_certificate_answer held certificate) else if not all then admission.Refused refusal.MissingParents else admission.New outputs)
    ≡ admitted outputs (if low then Err TooOld else option_map_or (λ held. held_answer held certificate) slot (if not all then Err MissingParents else Ok New))
alike outputs certificate true all slot = refl
alike outputs certificate false true None = refl
alike outputs certificate false false None = refl
alike outputs certificate false all (Some held) =
    held_by outputs (same_digest (certificate_digest held.header) (certificate_digest certificate.header)) (same_header held.header certificate.header)

pub returns : goal.returns
returns c node now later graph certificate floor slots =
    let header = certificate.header in
    let outputs = order_outputs now later in
    let low : is_low graph.floor header.round ≡ is_low (floor_in node now) header.round = ap (λ f. is_low f header.round) floor in
    let slot : slots_in graph header.round header.author.0 ≡ now.slots header.round header.author.0 = ap (λ (s : Slots). s header.round header.author.0) slots in
    let all : all_held (slots_in graph) graph.floor header ≡ all_held now.slots (floor_in node now) header =
    ap (λ (s : Slots). all_held s graph.floor header) slots ∙ ap (λ f. all_held now.slots f header) floor in
    let dag : Bool → Bool → Option Certificate → Result Added DagRefusal =
    λ l a s. if l then Err TooOld else option_map_or (λ held. held_answer held certificate) s (if not a then Err MissingParents else Ok New) in
    let same : certificate_answer node now later certificate ≡ admitted outputs (answer graph certificate) =
    alike outputs certificate (is_low (floor_in node now) header.round) (all_held now.slots (floor_in node now) header) (now.slots header.round header.author.0)
    ∙ sym (ap (λ l. admitted outputs (dag l (all_held (slots_in graph) graph.floor header) (slots_in graph header.round header.author.0))) low
    ∙ ap (λ a. admitted outputs (dag (is_low (floor_in node now) header.round) a (slots_in graph header.round header.author.0))) all
    ∙ ap (λ s. admitted outputs (dag (is_low (floor_in node now) header.round) (all_held now.slots (floor_in node now) header) s)) slot) in
    record {
      new = λ is. same ∙ ap (admitted outputs) is;
      known = λ is. same ∙ ap (admitted outputs) is;
      too_old = λ is. same ∙ ap (admitted outputs) is;
      conflict = λ is. same ∙ ap (admitted outputs) is;
      clash = λ is. same ∙ ap (admitted outputs) is;
      missing = λ is. same ∙ ap (admitted outputs) is;
    }
