use Rattle.std.proofs.Common.{◌∷◌, [], ◌++◌, sym, subst}
use Rattle.journal.specs.declared.record.Record.{Record}
use Rattle.validator.specs.Setting.{ConfigView}
use Rattle.opening.specs.PairReplayed.{IsStandingBefore, HasReached}
use Rattle.opening.specs.declared.reached.Reached.{Reached}
use Rattle.opening.proofs.PairReplays.{goes_on, stayed}
use Rattle.opening.proofs.Reporting.{ok_weaker}
use Rattle.opening.proofs.pair_replay.next.Goals as goal

pub returns-in-Standing : goal.returns-in-Standing
returns-in-Standing g c =
    ok_weaker c.after_event.result _ _
    (λ later goes records texts has.
    let one : Record = record { bytes = c.args.bytes.now; gate = c.args.place } in
    let validator = c.in-Standing.validator in
    let is = subst (λ (r : Reached g.row.S.Denot). HasReached g.S.Sign.scheme c.args.config.now records r) c.in-Standing.is has in
    subst (λ (s : ConfigView g.row.S.Denot). HasReached g.S.Sign.scheme s (records ++ one ∷ []) later) is.set
    (goes records (subst (λ (s : ConfigView g.row.S.Denot). IsStandingBefore g.S.Sign.scheme s records one validator) (sym is.set)
    (goes_on g.S.Sign.scheme c.args.config.now records one validator is))))
    c.after_event.ensures

pub returns-in-Failed : goal.returns-in-Failed
returns-in-Failed g c records texts has =
    stayed g.S.Sign.scheme c.args.config.now records (record { bytes = c.args.bytes.now; gate = c.args.place }) c.in-Failed.fault
    (subst (λ (r : Reached g.row.S.Denot). HasReached g.S.Sign.scheme c.args.config.now records r) c.in-Failed.is has)
