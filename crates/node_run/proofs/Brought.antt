-- What comes of a message, by what the caller made of it.
use Rattle.std.proofs.Common.{◌≡◌, Bool, true, false, cond, Option, Some, None, Result, Ok, Err, inl, inr, refl, sym, ap, ◌∙◌}
use Rattle.std.specs.Prelude.{◌≢◌, IfErr, OnOk, OnErr, is_some}
use Rattle.book.specs.declared.book.Receipt.{Receipt}
use Rattle.header.specs.Digested.{certificate_digest_in}
use Rattle.header.specs.declared.error.CheckError.{CheckError}
use Rattle.spec_model.specs.Words.{Event}
use Rattle.header.specs.declared.refusal.Refusal.{Refusal}
use Rattle.node_io.specs.declared.rejection.Rejection.{Rejection}
use Rattle.node_io.specs.declared.rejection.Rejection.TheVariants.{Unchecked}
use Rattle.node.specs.Callers.{CallerView}
use Rattle.node_shared.specs.Home.{NodeView}
use Rattle.sigface.specs.Scheme.{Scheme}
use Rattle.waiter.specs.Rounds.{WaitersView}
use Rattle.node_run.specs.Bringing.{Brings, CantWait, Enters}
use Rattle.node_run.specs.Taking.{Handles, OnlyLooks, reported_as}
use Rattle.node_run.specs.declared.caller.Taken.{Taken}
use Rattle.node_run.specs.declared.caller.Taken.TheVariants.{New, Known, Waits}

either_way : (certificate : Event) (new : Bool) → ◌≡◌ {A = Result Taken Rejection} (Ok (cond new New Known)) (Ok (Waits certificate)) → ⊥
either_way certificate true is = absurd cc
either_way certificate false is = absurd cc

-- what was submitted doesn't wait
never_waits : (certificate : Event) (answer : Result Receipt Refusal) → reported_as answer ≡ Ok (Waits certificate) → ⊥
never_waits certificate (Ok receipt) is = either_way certificate receipt.new is
never_waits certificate (Err why) is = absurd cc

module _ {S : Type 0} (scheme : Scheme S) (node : NodeView S) (fault : Option CheckError) (event : Event) (before later : CallerView S) (old new : WaitersView)
    (reported : Result Taken Rejection) (handles : Handles scheme node fault event before later reported) where
  pub brings_new : reported ≡ Ok New → new ≡ old → Brings scheme node fault event before later old new (Ok true)
  brings_new is same = record {
    reported = reported;
    later = later;
    handles = handles;
    is_new = λ _. (refl, same, refl);
    is_known = λ other. let bad : Ok New ≡ Ok Known = sym is ∙ other in absurd cc;
    waits = λ certificate other. let bad : Ok New ≡ Ok (Waits certificate) = sym is ∙ other in absurd cc;
    refused = λ why other. let bad : Ok New ≡ Err why = sym is ∙ other in absurd cc;
  }

  pub brings_known : reported ≡ Ok Known → new ≡ old → Brings scheme node fault event before later old new (Ok false)
  brings_known is same = record {
    reported = reported;
    later = later;
    handles = handles;
    is_new = λ other. let bad : Ok Known ≡ Ok New = sym is ∙ other in absurd cc;
    is_known = λ _. (refl, same, refl);
    waits = λ certificate other. let bad : Ok Known ≡ Ok (Waits certificate) = sym is ∙ other in absurd cc;
    refused = λ why other. let bad : Ok Known ≡ Err why = sym is ∙ other in absurd cc;
  }

  pub brings_refusal : (why : Rejection) → reported ≡ Err why → new ≡ old → Brings scheme node fault event before later old new (Err why)
  brings_refusal why is same = record {
    reported = reported;
    later = later;
    handles = handles;
    is_new = λ other. let bad : Err why ≡ Ok New = sym is ∙ other in absurd cc;
    is_known = λ other. let bad : Err why ≡ Ok Known = sym is ∙ other in absurd cc;
    waits = λ certificate other. let bad : Err why ≡ Ok (Waits certificate) = sym is ∙ other in absurd cc;
    refused = λ another other.
        let both : Err why ≡ Err another = sym is ∙ other in
        let one : why ≡ another = cc in
        (ap Err one, same, refl);
  }

  pub brings_waiting : (now : CallerView S) (certificate : Event) (result : Result Bool Rejection) → OnlyLooks later.seat now.seat → reported
      ≡ Ok (Waits certificate) → result ≢ Ok true → OnOk result (Enters certificate old new) → OnErr result (new ≡ old)
      → IfErr result (CantWait certificate old now.seat.view.down)
      → Brings scheme node fault event before now old new result
  brings_waiting now certificate (Ok found) looks is never enters same why = record {
    reported = reported;
    later = later;
    handles = handles;
    is_new = λ other. let bad : Ok (Waits certificate) ≡ Ok New = sym is ∙ other in absurd cc;
    is_known = λ other. let bad : Ok (Waits certificate) ≡ Ok Known = sym is ∙ other in absurd cc;
    waits = λ another other.
        let both : Ok (Waits certificate) ≡ Ok (Waits another) = sym is ∙ other in
        let one : certificate ≡ another = cc in
        (never, λ _. rw (← one) enters, tt, tt, looks);
    refused = λ why other. let bad : Ok (Waits certificate) ≡ Err why = sym is ∙ other in absurd cc;
  }
  brings_waiting now certificate (Err reported_so) looks is never enters same why = record {
    reported = reported;
    later = later;
    handles = handles;
    is_new = λ other. let bad : Ok (Waits certificate) ≡ Ok New = sym is ∙ other in absurd cc;
    is_known = λ other. let bad : Ok (Waits certificate) ≡ Ok Known = sym is ∙ other in absurd cc;
    waits = λ another other.
        let both : Ok (Waits certificate) ≡ Ok (Waits another) = sym is ∙ other in
        let one : certificate ≡ another = cc in
        (never, λ fine. let bad : Err reported_so ≡ Ok false = fine in absurd cc, same, rw (← one) why, looks);
    refused = λ why other. let bad : Ok (Waits certificate) ≡ Err why = sym is ∙ other in absurd cc;
  }

  waits_by : (certificate : Event) (found : Option CheckError) → fault ≡ found → reported ≡ Ok (Waits certificate) → certificate_digest_in certificate.message ≢ None
  waits_by certificate (Some error) faulty is = let bad : Ok (Waits certificate) ≡ Err (Unchecked error) = sym is ∙ (handles.unchecked error faulty).0 in absurd cc
  waits_by certificate None sound is =
      elim (handles.checked sound) [
        | inl lacks ↦
            let both : Ok (Waits event) ≡ Ok (Waits certificate) = sym lacks.2 ∙ is in
            let one : event ≡ certificate = cc in
            λ none. let bad : false ≡ true = ap is_some (sym (ap (λ (e : Event). certificate_digest_in e.message) one ∙ none)) ∙ lacks.0.certificate in absurd cc
        | inr goes ↦ absurd (never_waits certificate goes.1.answer (sym goes.1.is ∙ is))
      ]

  -- what has to wait is a certificate
  pub waits_certificate : (certificate : Event) → reported ≡ Ok (Waits certificate) → certificate_digest_in certificate.message ≢ None
  waits_certificate certificate is = waits_by certificate fault refl is
