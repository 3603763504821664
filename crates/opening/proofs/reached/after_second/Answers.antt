use Rattle.std.proofs.Common.{List, ℕ, [], ◌∷◌, ◌++◌, sym, ◌∙◌, subst}
use Rattle.journal.specs.declared.record.Record.{Record}
use Rattle.spec_checkpoint.proofs.Loadable.{read_as_written}
use Rattle.spec_records.specs.Records.{configuration_of}
use Rattle.validator.specs.Loading.{LoadingView}
use Rattle.validator.specs.Setting.{ConfigView}
use Rattle.opening.specs.PairReplayed.{IsStandingBefore, HasReached, IsPut}
use Rattle.opening.proofs.PairReplays.{begins_state, begins_events}
use Rattle.opening.proofs.Reporting.{ok_weaker}
use Rattle.opening.proofs.reached.after_second.Goals as goal

pub returns-in_ok-own : goal.returns-in_ok-own
returns-in_ok-own g c =
    ok_weaker c.put.result _ _
    (λ later put records texts is.
    let bytes = c.as_slice.result.now in
    begins_state g.S.Sign.scheme c.args.config.now c.fails_at_first.ensures read_as_written records c.args.version c.args.gate
    (record { bytes = c.args.bytes.now; gate = c.args.place }) bytes later is c.if-place-gate.true
    (c.as_slice.ensures.value ∙ c.in_ok-own.ensures.bytes ∙ (λ i. configuration_of c.args.version (c.committee.ensures i) (c.own.ensures i)))
    (subst (λ (l : LoadingView g.row.S.Denot). IsPut g.S.Sign.scheme l [] bytes c.args.gate later) c.begin-loading.ensures
    (subst (λ (l : List ℕ). IsPut g.S.Sign.scheme c.begin-loading.result l bytes c.args.gate later) c.new.ensures.items put)))
    c.put.ensures

pub returns-in_ok-validator : goal.returns-in_ok-validator
returns-in_ok-validator g c =
    ok_weaker c.after_event.result _ _
    (λ later goes records texts is.
    let one : Record = record { bytes = c.args.bytes.now; gate = c.args.place } in
    let validator = c.in_ok-validator.validator in
    let set = c.in_ok-validator.ensures.setting in
    subst (λ (s : ConfigView g.row.S.Denot). HasReached g.S.Sign.scheme s (records ++ one ∷ []) later) set
    (goes records (subst (λ (s : ConfigView g.row.S.Denot). IsStandingBefore g.S.Sign.scheme s records one validator) (sym set)
    (begins_events g.S.Sign.scheme c.args.config.now records c.args.version c.args.gate one validator is c.if-place-gate.false set c.in_ok-validator.ensures.at))))
    c.after_event.ensures
