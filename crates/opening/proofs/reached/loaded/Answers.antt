use Rattle.std.proofs.Common.{List, ℕ, drop, sym, ap, ◌∙◌, subst}
use Rattle.journal.specs.Format.{FailsAs}
use Rattle.journal.specs.declared.error.JournalError.{JournalError}
use Rattle.spec_checkpoint.specs.Loading.{load_fault}
use Rattle.spec_checkpoint.specs.Meaning.{state_in}
use Rattle.spec_checkpoint.specs.Reading.{checkpoint_read}
use Rattle.validator.specs.Setting.{node_of}
use Rattle.opening.specs.PairReplayed.{error_at}
use Rattle.opening.specs.Decoded.{read_state}
use Rattle.opening.proofs.PairReplays.{load_fails}
use Rattle.opening.proofs.PairReporting.{state_read}
use Rattle.opening.proofs.reached.loaded.Goals as goal

pub returns-in-Ok-clause-stands : goal.returns-in-Ok-clause-stands
returns-in-Ok-clause-stands g c first state rows =
    let node = node_of g.S.Sign.scheme c.args.loading.setting in
    let at = c.in-Ok.ensures.at in
    record {
      state = state_in node at.0;
      is_read = state_read node first state at.0 (ap (load_fault node) (sym rows) ∙ c.in-Ok.ensures.ok)
          (ap (λ (l : List (List ℕ)). checkpoint_read node (drop 1 l)) (sym rows) ∙ at.1);
      at = at.2;
    }

pub returns-clause-err : goal.returns-clause-err
returns-clause-err g c first state rows gates =
    let node = node_of g.S.Sign.scheme c.args.loading.setting in
    subst (λ (e : JournalError). FailsAs e (read_state node first state)) (sym (c.fault_at.ensures ∙ ap (λ (l : List ℕ). error_at l c.in-Err.error) c.deref.ensures.value))
    (load_fails node first state c.args.gates.items c.in-Err.error gates (λ other. ap (load_fault node) (sym rows) ∙ c.in-Err.ensures.err other))
