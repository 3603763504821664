use Rattle.std.proofs.Common.{rules, ◌≡◌, ◌≢◌, true, false, List, ℕ, [], ◌∷◌, ◌++◌, sym, ◌∙◌, subst}
use Rattle.journal.specs.declared.record.Record.{Record}
use Rattle.journal.specs.declared.error.JournalError.TheVariants as errors
use Rattle.spec_checkpoint.proofs.Loadable.{read_as_written}
use Rattle.validator.specs.Setting.{ConfigView}
use Rattle.opening.specs.PairReplayed.{IsStandingBefore, HasReached, IsPut}
use Rattle.opening.proofs.PairReplays.{put_more, ends_state, ends_fault}
use Rattle.opening.proofs.Reporting.{ok_weaker}
use Rattle.opening.proofs.reached.after_state.Goals as goal

pub returns-then-not-is_event : goal.returns-then-not-is_event
returns-then-not-is_event g c =
    let off : c.is_event.result ≡ false = search rules in
    ok_weaker c.put.result _ _
    (λ later put records texts is.
    put_more g.S.Sign.scheme c.args.loading.setting c.fails_at_first.ensures read_as_written records c.args.loading c.args.gates.items
    (record { bytes = c.args.bytes.now; gate = c.args.place }) later texts c.is_text.ensures
    (sym (c.is_event.ensures c.args.place) ∙ off) is
    put)
    c.put.ensures

pub returns-in-Ok : goal.returns-in-Ok
returns-in-Ok g c =
    let on : c.is_event.result ≡ true = search rules in
    ok_weaker c.after_event.result _ _
    (λ later goes records texts is.
    let one : Record = record { bytes = c.args.bytes.now; gate = c.args.place } in
    let validator = c.in-Ok.validator in
    let set = c.in-Ok.ensures.setting in
    subst (λ (s : ConfigView g.row.S.Denot). HasReached g.S.Sign.scheme s (records ++ one ∷ []) later) set
    (goes records (subst (λ (s : ConfigView g.row.S.Denot). IsStandingBefore g.S.Sign.scheme s records one validator) (sym set)
    (ends_state g.S.Sign.scheme c.args.loading.setting records c.args.loading c.args.gates.items is one validator (sym (c.is_event.ensures c.args.place) ∙ on) set
    (c.in-Ok.ensures.stands is.first is.state is.came)))))
    c.after_event.ensures

pub returns-in-Err : goal.returns-in-Err
returns-in-Err g c records texts is =
    let on : c.is_event.result ≡ true = search rules in
    let other : c.in-Err.fault ≢ errors.Memory = search rules in
    ends_fault g.S.Sign.scheme c.args.loading.setting records c.args.loading c.args.gates.items is
    (record { bytes = c.args.bytes.now; gate = c.args.place }) c.in-Err.fault (sym (c.is_event.ensures c.args.place) ∙ on) other
    (c.in-Err.ensures.err is.first is.state is.came is.gates_are)
