use Rattle.std.proofs.Common.{sym, ◌∙◌}
use Rattle.cluster.proofs.Acting.{made_one}
use Rattle.cluster.proofs.worker.make_round.Goals as goal

pub returns : goal.returns
returns g c = λ accepts.
    made_one g.S.Sign.scheme g.D.Disk.device accepts c.in_ok-flush.field-0 c.args.member.now c.flush.new.self (c.flush.ensures.became accepts).setting
    c.flush.ensures.there (sym c.is_there.ensures ∙ c.if-not-is_there.false) (c.in_ok-flush.ensures.became accepts).ok
