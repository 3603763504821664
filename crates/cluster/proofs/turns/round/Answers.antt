use Rattle.std.proofs.Common.{Err, ap}
use Rattle.validator.specs.Setting.{node_of}
use Rattle.cluster.proofs.Turning.{settled, fault, flush_err_same, up_of, device_is}
use Rattle.cluster.proofs.turns.round.Goals as goal

pub returns-in-Ok-clause-moved : goal.returns-in-Ok-clause-moved
returns-in-Ok-clause-moved g c = λ world at.
    settled (node_of g.S.Sign.scheme c.args.desk.now.book.validator.setting) g.D.Disk.device world c.args.desk.now c.flush.new.self at
    (up_of _ _ c.args.desk.now.book.down c.in-Ok.ensures.down.1) c.in-Ok.count c.in-Ok.ensures.idle c.in-Ok.ensures.flushed c.in-Ok.ensures.steps

pub returns-in-Err-clause-moved : goal.returns-in-Err-clause-moved
returns-in-Err-clause-moved g c = λ world at.
    let error = c.in-Err.error in
    fault (node_of g.S.Sign.scheme c.args.desk.now.book.validator.setting) g.D.Disk.device world c.args.desk.now c.flush.new.self at error
    (λ so. c.in-Err.ensures.down.0 (ap (λ e. Err e) so), λ down. flush_err_same error _ (c.in-Err.ensures.down.1 down)) c.in-Err.ensures.unchanged
    (λ so. c.in-Err.ensures.full (ap (λ e. Err e) so)) (λ so. c.in-Err.ensures.fails (ap (λ e. Err e) so)) c.in-Err.ensures.fails_step

pub returns-in-Ok-clause-device : goal.returns-in-Ok-clause-device
returns-in-Ok-clause-device g c = λ is. absurd is

pub returns-in-Err-clause-device : goal.returns-in-Err-clause-device
returns-in-Err-clause-device g c = λ is. c.in-Err.ensures.cause.1.0 (device_is c.in-Err.error is)
