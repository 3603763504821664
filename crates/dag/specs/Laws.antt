-- Laws on how a DAG agrees with admission, and on what stays the same when a DAG changes.
use Rattle.std.specs.Prelude.{◌≡◌, ◌≤◌, ◌<◌, ℕ, true, [], Ok, Err, is_some}
use Rattle.spec_model.specs.Admitting.{certificate_answer, order_outputs}
use Rattle.spec_model.specs.Nodes.{Node}
use Rattle.spec_model.specs.States.{State, floor_in}
use Rattle.spec_model.specs.Words.{Certificate}
use Rattle.header.specs.declared.admission.Admission.TheVariants as admission
use Rattle.header.specs.declared.refusal.Refusal.TheVariants as refusal
use Rattle.dag.specs.Answer.{answer}
use Rattle.dag.specs.Changes.{IsWith, IsDropped}
use Rattle.dag.specs.Graph.{DagView, IsGraph, size_in, slots_in, reaches_in}
use Rattle.dag.specs.declared.answers.Added.TheVariants.{New, Known}
use Rattle.dag.specs.declared.refusal.DagRefusal.TheVariants.{TooOld, CertConflict, DigestClash, MissingParents}

-- the DAG's answer to a certificate, and admission's answer at a node's state, are the same
pub record AnswersAlike (node : Node) (now later : State) (graph : DagView) (certificate : Certificate) : Type 0 where
  pub new : answer graph certificate ≡ Ok New → certificate_answer node now later certificate ≡ admission.New (order_outputs now later)
  pub known : answer graph certificate ≡ Ok Known → certificate_answer node now later certificate ≡ admission.Known []
  pub too_old : answer graph certificate ≡ Err TooOld → certificate_answer node now later certificate ≡ admission.Refused refusal.TooOld
  pub conflict : answer graph certificate ≡ Err CertConflict → certificate_answer node now later certificate ≡ admission.Refused refusal.CertConflict
  pub clash : answer graph certificate ≡ Err DigestClash → certificate_answer node now later certificate ≡ admission.Refused refusal.DigestClash
  pub missing : answer graph certificate ≡ Err MissingParents → certificate_answer node now later certificate ≡ admission.Refused refusal.MissingParents

-- a DAG that has the floor and the certificates of a state answers a certificate as admission does at that state
abbrev pub AnswersAsAdmission : Type 0
AnswersAsAdmission = (node : Node) (now later : State) (graph : DagView) (certificate : Certificate) → graph.floor ≡ floor_in node now → slots_in graph ≡ now.slots
    → AnswersAlike node now later graph certificate

-- when a certificate is added, the earlier certificates reach what they reached before
abbrev pub ReachStays : Type 0
ReachStays = (before after : DagView) (certificate : Certificate) → IsGraph before → certificate.header.author.0 < size_in before → answer before certificate ≡ Ok New
    → IsWith before after certificate → (round author below other : ℕ) → is_some (slots_in before round author) ≡ true
    → reaches_in after round author below other ≡ reaches_in before round author below other

-- when everything below a round is dropped, the remaining certificates reach each other as before
abbrev pub ReachStaysAbove : Type 0
ReachStaysAbove = (before after : DagView) (low : ℕ) → IsGraph before → IsDropped before after low → (round author below other : ℕ) → low ≤ below
    → reaches_in after round author below other ≡ reaches_in before round author below other
