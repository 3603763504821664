use Rattle.std.proofs.Common.{ℕ, Ok, sym, subst, ◌∙◌}
use Rattle.node_io.specs.declared.faults.Faults.{Faults}
use Rattle.node_run.specs.Flushing.{FlushesOnce}
use Rattle.node_run.proofs.Pending.{Ended, loop_begins, looped, ended_well, ended_by}
use Rattle.node_run.proofs.flushing.flush_pending.Goals as goal

pub loop-init : goal.loop-init
loop-init g c = (tt, tt, loop_begins g.S.Sign.scheme g.D.Disk.device c.args.rule.now c.args.missed.now c.args.rounds.now c.requires.pair, λ is. is)

pub loop-preserved : goal.loop-preserved
loop-preserved g c = (
  tt,
  tt,
  looped g.S.Sign.scheme g.D.Disk.device c.args.rule.now c.loop.rule c.flush_once.new.rule c.loop.missed c.flush_once.new.missed c.flush_once.ensures.missed
      c.args.rounds.now c.loop.rounds c.flush_once.new.rounds c.loop.invariant.2 c.in-Ok.field-0 c.in-Ok.ensures.once,
  λ is. c.flush_once.ensures.missed (c.loop.invariant.3 is),
)

pub returns-in-Ok-eq0 : goal.returns-in-Ok-eq0
returns-in-Ok-eq0 g c =
    let it =
    subst (λ (f : Faults). Ended g.S.Sign.scheme g.D.Disk.device c.args.rule.now c.flush_once.new.rule c.flush_once.new.missed c.args.rounds.now c.flush_once.new.rounds f) (sym c.none.ensures)
    (ended_well g.S.Sign.scheme g.D.Disk.device c.args.rule.now c.loop.rule c.flush_once.new.rule c.loop.missed c.flush_once.new.missed c.flush_once.ensures.missed
    c.args.rounds.now c.loop.rounds c.flush_once.new.rounds c.loop.invariant.2
    (subst (λ (n : ℕ). FlushesOnce g.S.Sign.scheme g.D.Disk.device c.loop.rule c.flush_once.new.rule c.flush_once.new.missed c.loop.rounds c.flush_once.new.rounds (Ok n))
    (sym c.in-Ok-eq0.field-0-is ∙ c.in-Ok-eq0.field-0-test) c.in-Ok-eq0.ensures.once)) in
    record {
      pair = it.pair;
      rounds = it.rounds;
      down = it.down;
      stays = it.stays;
      full = it.full;
      by_rule = it.by_rule;
      missed = λ is. c.flush_once.ensures.missed (c.loop.invariant.3 is);
      seen = it.seen;
      all = it.all;
      memory = it.memory;
      others = it.others;
      node = it.node;
      more = it.more;
      earlier = it.earlier;
      any_moment = it.any_moment;
      at_end = it.at_end;
    }

pub returns-in-Err : goal.returns-in-Err
returns-in-Err g c =
    let it =
    subst (λ (f : Faults). Ended g.S.Sign.scheme g.D.Disk.device c.args.rule.now c.flush_once.new.rule c.flush_once.new.missed c.args.rounds.now c.flush_once.new.rounds f) (sym c.faults_of.ensures)
    (ended_by g.S.Sign.scheme g.D.Disk.device c.args.rule.now c.loop.rule c.flush_once.new.rule c.loop.missed c.flush_once.new.missed c.flush_once.ensures.missed
    c.args.rounds.now c.loop.rounds c.flush_once.new.rounds c.loop.invariant.2 c.in-Err.error c.in-Err.ensures.once) in
    record {
      pair = it.pair;
      rounds = it.rounds;
      down = it.down;
      stays = it.stays;
      full = it.full;
      by_rule = it.by_rule;
      missed = λ is. c.flush_once.ensures.missed (c.loop.invariant.3 is);
      seen = it.seen;
      all = it.all;
      memory = it.memory;
      others = it.others;
      node = it.node;
      more = it.more;
      earlier = it.earlier;
      any_moment = it.any_moment;
      at_end = it.at_end;
    }
