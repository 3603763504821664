use Rattle.std.proofs.Common.{subst}
use Rattle.validator.specs.Setting.{ConfigView, node_of}
use Rattle.journal.specs.Format.{FailsAs}
use Rattle.opening.specs.PairReplayed.{HasReached}
use Rattle.opening.specs.Decoded.{StandsAt, read_state}
use Rattle.opening.specs.declared.reached.Reached.{Reached}
use Rattle.opening.proofs.PairReplays.{fresh_stands, whole_stands, whole_fails, standing_stands, failed_reports}
use Rattle.opening.proofs.Reporting.{ok_weaker, err_weaker}
use Rattle.opening.proofs.pair_replay.PairReplay.finish.Goals as goal

pub returns-in_ok-new-in-Empty-clause-stands : goal.returns-in_ok-new-in-Empty-clause-stands
returns-in_ok-new-in-Empty-clause-stands g c records has =
    let setting = c.args.self.config.now in
    fresh_stands g.S.Sign.scheme setting records c.args.self.reached c.in_ok-new-in-Empty.field-0.tables has.reached c.in-Empty.is c.in_ok-new-in-Empty.ensures.at

pub returns-in-Checkpoint-clause-stands : goal.returns-in-Checkpoint-clause-stands
returns-in-Checkpoint-clause-stands g c records has =
    let setting = c.args.self.config.now in
    let loading = c.in-Checkpoint.loading in
    let is = subst (λ (r : Reached g.row.S.Denot). HasReached g.S.Sign.scheme setting records r) c.in-Checkpoint.is has.reached in
    ok_weaker c.loaded.result _ _
    (λ validator stands.
    whole_stands g.S.Sign.scheme setting records loading c.in-Checkpoint.gates.items is validator.tables
    (subst (λ (s : ConfigView g.row.S.Denot). StandsAt (node_of g.S.Sign.scheme s) (read_state (node_of g.S.Sign.scheme s) is.first is.state) validator.tables) is.set
    (stands is.first is.state is.came)))
    c.loaded.ensures.stands

pub returns-in-Checkpoint-clause-err : goal.returns-in-Checkpoint-clause-err
returns-in-Checkpoint-clause-err g c records has =
    let setting = c.args.self.config.now in
    let loading = c.in-Checkpoint.loading in
    let is = subst (λ (r : Reached g.row.S.Denot). HasReached g.S.Sign.scheme setting records r) c.in-Checkpoint.is has.reached in
    err_weaker c.loaded.result _ _
    (λ error fails.
    (whole_fails g.S.Sign.scheme setting records loading c.in-Checkpoint.gates.items is error
    (subst (λ (s : ConfigView g.row.S.Denot). FailsAs error (read_state (node_of g.S.Sign.scheme s) is.first is.state)) is.set (fails is.first is.state is.came is.gates_are))).0)
    c.loaded.ensures.err

pub returns-in-Checkpoint-clause-never : goal.returns-in-Checkpoint-clause-never
returns-in-Checkpoint-clause-never g c records has =
    let setting = c.args.self.config.now in
    let loading = c.in-Checkpoint.loading in
    let is = subst (λ (r : Reached g.row.S.Denot). HasReached g.S.Sign.scheme setting records r) c.in-Checkpoint.is has.reached in
    err_weaker c.loaded.result _ _
    (λ error fails.
    let all = whole_fails g.S.Sign.scheme setting records loading c.in-Checkpoint.gates.items is error
    (subst (λ (s : ConfigView g.row.S.Denot). FailsAs error (read_state (node_of g.S.Sign.scheme s) is.first is.state)) is.set (fails is.first is.state is.came is.gates_are)) in
    (all.1, all.2))
    c.loaded.ensures.err

pub returns-in-Standing-clause-stands : goal.returns-in-Standing-clause-stands
returns-in-Standing-clause-stands g c records has =
    let setting = c.args.self.config.now in
    standing_stands g.S.Sign.scheme setting records c.in-Standing.validator
    (subst (λ (r : Reached g.row.S.Denot). HasReached g.S.Sign.scheme setting records r) c.in-Standing.is has.reached)

pub returns-in-Failed-clause-err : goal.returns-in-Failed-clause-err
returns-in-Failed-clause-err g c records has =
    let setting = c.args.self.config.now in
    (failed_reports g.S.Sign.scheme setting records c.in-Failed.fault
    (subst (λ (r : Reached g.row.S.Denot). HasReached g.S.Sign.scheme setting records r) c.in-Failed.is has.reached)).0
