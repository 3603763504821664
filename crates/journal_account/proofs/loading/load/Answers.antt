use Rattle.std.proofs.Common.{◌≡◌, ◌+◌, List, ℕ, ◌∷◌, ◌++◌, take, drop, sym, ap, subst, ◌∙◌, arith}
use Rattle.std.proofs.lemmas.List.{take_all}
use Rattle.checkpoint.specs.Reader.{fault_of}
use Rattle.journal.specs.Format.{FailsAs}
use Rattle.journal.specs.declared.error.JournalError.{JournalError}
use Rattle.journal.specs.declared.record.Record.{Record}
use Rattle.spec_checkpoint.specs.Loading.{load_fault}
use Rattle.spec_checkpoint.specs.Meaning.{state_in}
use Rattle.spec_checkpoint.specs.Reading.{checkpoint_read}
use Rattle.spec_world.specs.World.{bytes_of}
use Rattle.validator.specs.Setting.{node_of}
use Rattle.opening.specs.Decoded.{read_state, StandsAt}
use Rattle.opening.proofs.PairReporting.{state_read}
use Rattle.opening.proofs.Reporting.{here}
use Rattle.journal_account.proofs.States.{load_fails, rows_split}
use Rattle.journal_account.proofs.loading.load.Goals as goal

pub returns-in-Err-clause-err : goal.returns-in-Err-clause-err
returns-in-Err-clause-err g c =
    let scheme = g.S.Sign.scheme in
    let node = node_of scheme c.args.config.now in
    let first = c.args.first.now in
    let state = c.args.state.now in
    let before : load_fault (node_of scheme c.begin-loading.result.setting) (c.begin-loading.result.records ++ c.as_slice.result.now ∷ bytes_of state)
    ≡ load_fault node (bytes_of (first ∷ state)) =
    λ i. load_fault (node_of scheme (c.begin-loading.ensures i).setting) ((c.begin-loading.ensures i).records ++ c.as_slice.ensures i ∷ bytes_of state) in
    subst (λ (e : JournalError). FailsAs e (read_state node first state)) (sym c.fault_of.ensures)
    (load_fails node first state c.in-Err.error (λ other. sym before ∙ c.in-Err.ensures.fault other (bytes_of state)))

pub returns-in-Err-put-clause-err : goal.returns-in-Err-put-clause-err
returns-in-Err-put-clause-err g c =
    let scheme = g.S.Sign.scheme in
    let node = node_of scheme c.args.config.now in
    let first = c.args.first.now in
    let state = c.args.state.now in
    let n = c.loop-one.one-index in
    let one = c.one-item.result in
    let more = bytes_of (drop (n + 1) state) in
    let rows : bytes_of (first ∷ state) ≡ bytes_of (first ∷ take n state) ++ one.bytes ∷ more =
    ap (λ (l : List (List ℕ)). first.bytes ∷ l) (rows_split state n one (here state n one (omega arith) c.one-item.is)) in
    let before : load_fault (node_of scheme c.loop-one.loading.setting) (c.loop-one.loading.records ++ c.as_slice-in-loop-one.result.now ∷ more)
    ≡ load_fault node (bytes_of (first ∷ take n state) ++ one.bytes ∷ more) =
    λ i. load_fault (node_of scheme (c.loop-one.invariant.setting i)) (c.loop-one.invariant.records i ++ c.as_slice-in-loop-one.ensures i ∷ more) in
    subst (λ (e : JournalError). FailsAs e (read_state node first state)) (sym c.fault_of-in-Err-put.ensures)
    (load_fails node first state c.in-Err-put.error (λ other. ap (load_fault node) rows ∙ sym before ∙ c.in-Err-put.ensures.fault other more))

pub returns-in-Ok-clause-stands : goal.returns-in-Ok-clause-stands
returns-in-Ok-clause-stands g c =
    let scheme = g.S.Sign.scheme in
    let first = c.args.first.now in
    let state = c.args.state.now in
    let loading = c.loop-one.loading in
    let node = node_of scheme loading.setting in
    let rows : loading.records ≡ bytes_of (first ∷ state) =
    c.loop-one.invariant.records ∙ ap (λ (l : List Record). bytes_of (first ∷ l)) (take_all c.loop-one.one-index state (omega (arith, c.loop-one-test.false))) in
    let at = c.in-Ok.ensures.at in
    let found : StandsAt node (read_state node first state) c.in-Ok.validator.tables =
    record {
      state = state_in node at.0;
      is_read = state_read node first state at.0 (ap (load_fault node) (sym rows) ∙ c.in-Ok.ensures.ok)
          (ap (λ (l : List (List ℕ)). checkpoint_read node (drop 1 l)) (sym rows) ∙ at.1);
      at = at.2;
    } in
    subst (λ s. StandsAt (node_of scheme s) (read_state (node_of scheme s) first state) c.in-Ok.validator.tables) c.loop-one.invariant.setting found

pub returns-in-Err-finish-clause-err : goal.returns-in-Err-finish-clause-err
returns-in-Err-finish-clause-err g c =
    let scheme = g.S.Sign.scheme in
    let node = node_of scheme c.args.config.now in
    let first = c.args.first.now in
    let state = c.args.state.now in
    let loading = c.loop-one.loading in
    let rows : loading.records ≡ bytes_of (first ∷ state) =
    c.loop-one.invariant.records ∙ ap (λ (l : List Record). bytes_of (first ∷ l)) (take_all c.loop-one.one-index state (omega (arith, c.loop-one-test.false))) in
    let before : load_fault (node_of scheme loading.setting) loading.records ≡ load_fault node (bytes_of (first ∷ state)) =
    λ i. load_fault (node_of scheme (c.loop-one.invariant.setting i)) (rows i) in
    subst (λ (e : JournalError). FailsAs e (read_state node first state)) (sym c.fault_of-in-Err-finish.ensures)
    (load_fails node first state c.in-Err-finish.error (λ other. sym before ∙ c.in-Err-finish.ensures.err other))
