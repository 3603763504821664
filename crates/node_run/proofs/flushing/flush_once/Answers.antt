use Rattle.std.specs.Prelude.{IfOk}
use Rattle.std.proofs.Common.{rules, ◌≡◌, ◌<◌, ℕ, true, Result, Ok, Err, refl, ap, sym, subst, ◌∙◌}
use Rattle.book.specs.declared.own.error.FlushError.{FlushError}
use Rattle.book.specs.declared.own.error.FlushError.TheVariants as flush
use Rattle.flusher.specs.Rounds.{AddsSettled, GoesDown, TakesAndSettles}
use Rattle.node.specs.Rounds.{Flushes}
use Rattle.node_run.specs.Flushing.{FlushesOnce, IsOver}
use Rattle.node_run.proofs.Once.{once_over, once_both, once_without, with_count}
use Rattle.node_run.proofs.flushing.flush_once.Goals as goal

-- nothing was pending
pub returns-in-Ok-eq0 : goal.returns-in-Ok-eq0
returns-in-Ok-eq0 g c =
    let round = c.round-round in
    let ok = c.in-Ok-eq0.is ∙ ap Ok (sym c.in-Ok-eq0.field-0-is ∙ c.in-Ok-eq0.field-0-test) in
    record {
      once = subst (λ (r : Result ℕ FlushError). FlushesOnce g.S.Sign.scheme g.D.Disk.device c.args.rule.now c.args.rule.now c.args.missed.now c.args.rounds.now round.new.self r) ok
          (once_over g.S.Sign.scheme g.D.Disk.device g.met.D.Disk.counts_now c.args.rule.now c.args.missed.now c.args.rounds.now round.new.self round.result (subst IsOver (sym ok) refl)
          round.ensures.node round.ensures.down round.ensures.reported round.ensures.settles round.ensures.room round.ensures.flushes round.ensures.nothing round.ensures.alive);
      missed = λ is. is;
    }

-- a round brought something, and a checkpoint was taken after it, or none was due
pub returns-in-Ok-rewrite_if_due : goal.returns-in-Ok-rewrite_if_due
returns-in-Ok-rewrite_if_due g c =
    let round = c.round-round in
    let count = c.in-Ok.count in
    let rewritten = c.rewrite_if_due in
    let some : count ≡ 0 → ⊥ = rw c.in-Ok.is at c.in-Ok.count-test.1 in
    let fine : rewritten.result ≡ Err flush.Memory → ⊥ = λ is. let bad : ◌≡◌ {A = Result (Unit {0}) FlushError} (Ok tt) (Err flush.Memory) = sym c.in-Ok-rewrite_if_due.is ∙ is in cc in
    record {
      once = subst
          (λ (r : Result (Unit {0}) FlushError). FlushesOnce g.S.Sign.scheme g.D.Disk.device c.args.rule.now rewritten.new.rule c.args.missed.now c.args.rounds.now rewritten.new.rounds
          (with_count count r))
          c.in-Ok-rewrite_if_due.is
          (once_both g.S.Sign.scheme g.D.Disk.device g.met.D.Disk.counts_now c.args.rule.now c.args.missed.now c.args.rounds.now round.new.self rewritten.new.rounds rewritten.new.rule count
          round.ensures.node (subst (λ (r : Result ℕ FlushError). GoesDown c.args.rounds.now.flusher round.new.self.flusher r) c.in-Ok.is round.ensures.down) round.ensures.reported.more
          (subst (λ (r : Result ℕ FlushError). TakesAndSettles c.args.rounds.now.seat round.new.self.seat c.args.rounds.now.flusher round.new.self.flusher r) c.in-Ok.is round.ensures.settles)
          (subst (λ (r : Result ℕ FlushError). Flushes g.S.Sign.scheme g.D.Disk.device c.args.rounds.now.node c.args.rounds.now.flusher round.new.self.flusher r) c.in-Ok.is round.ensures.flushes)
          round.ensures.spare (subst (λ (r : Result ℕ FlushError). IfOk r (λ n. 0 < n → AddsSettled g.D.Disk.device c.args.rounds.now.flusher round.new.self.flusher)) c.in-Ok.is round.ensures.adds)
          rewritten.result fine some rewritten.ensures.rewrites);
      missed = λ is. is;
    }

-- memory was refused for the checkpoint
pub returns-in-Err-Memory : goal.returns-in-Err-Memory
returns-in-Err-Memory g c =
    let round = c.round-round in
    let count = c.in-Ok.count in
    let rewritten = c.rewrite_if_due in
    let some : count ≡ 0 → ⊥ = rw c.in-Ok.is at c.in-Ok.count-test.1 in
    record {
      once =
          once_without g.S.Sign.scheme g.D.Disk.device g.met.D.Disk.counts_now c.args.rule.now true c.args.rounds.now round.new.self rewritten.new.rounds rewritten.new.rule count
          round.ensures.node (subst (λ (r : Result ℕ FlushError). GoesDown c.args.rounds.now.flusher round.new.self.flusher r) c.in-Ok.is round.ensures.down) round.ensures.reported.more
          (subst (λ (r : Result ℕ FlushError). TakesAndSettles c.args.rounds.now.seat round.new.self.seat c.args.rounds.now.flusher round.new.self.flusher r) c.in-Ok.is round.ensures.settles)
          (subst (λ (r : Result ℕ FlushError). Flushes g.S.Sign.scheme g.D.Disk.device c.args.rounds.now.node c.args.rounds.now.flusher round.new.self.flusher r) c.in-Ok.is round.ensures.flushes)
          round.ensures.spare (subst (λ (r : Result ℕ FlushError). IfOk r (λ n. 0 < n → AddsSettled g.D.Disk.device c.args.rounds.now.flusher round.new.self.flusher)) c.in-Ok.is round.ensures.adds)
          rewritten.result (c.in-Err-Memory.is ∙ ap Err c.in-Err-Memory.field-0-is) refl some rewritten.ensures.rewrites;
      missed = λ _. refl;
    }

-- the checkpoint failed for another reason
pub returns-in-Err-rewrite_if_due : goal.returns-in-Err-rewrite_if_due
returns-in-Err-rewrite_if_due g c =
    let round = c.round-round in
    let count = c.in-Ok.count in
    let rewritten = c.rewrite_if_due in
    let some : count ≡ 0 → ⊥ = rw c.in-Ok.is at c.in-Ok.count-test.1 in
    let fine : rewritten.result ≡ Err flush.Memory → ⊥ = λ is. let memory : rewritten.result ≡ Err flush.Memory = is in absurd (search rules) in
    record {
      once = subst
          (λ (r : Result (Unit {0}) FlushError). FlushesOnce g.S.Sign.scheme g.D.Disk.device c.args.rule.now rewritten.new.rule c.args.missed.now c.args.rounds.now rewritten.new.rounds
          (with_count count r))
          c.in-Err-rewrite_if_due.is
          (once_both g.S.Sign.scheme g.D.Disk.device g.met.D.Disk.counts_now c.args.rule.now c.args.missed.now c.args.rounds.now round.new.self rewritten.new.rounds rewritten.new.rule count
          round.ensures.node (subst (λ (r : Result ℕ FlushError). GoesDown c.args.rounds.now.flusher round.new.self.flusher r) c.in-Ok.is round.ensures.down) round.ensures.reported.more
          (subst (λ (r : Result ℕ FlushError). TakesAndSettles c.args.rounds.now.seat round.new.self.seat c.args.rounds.now.flusher round.new.self.flusher r) c.in-Ok.is round.ensures.settles)
          (subst (λ (r : Result ℕ FlushError). Flushes g.S.Sign.scheme g.D.Disk.device c.args.rounds.now.node c.args.rounds.now.flusher round.new.self.flusher r) c.in-Ok.is round.ensures.flushes)
          round.ensures.spare (subst (λ (r : Result ℕ FlushError). IfOk r (λ n. 0 < n → AddsSettled g.D.Disk.device c.args.rounds.now.flusher round.new.self.flusher)) c.in-Ok.is round.ensures.adds)
          rewritten.result fine some rewritten.ensures.rewrites);
      missed = λ is. is;
    }

-- the round failed
pub returns-in-Err : goal.returns-in-Err
returns-in-Err g c =
    let round = c.round-round in
    record {
      once = subst (λ (r : Result ℕ FlushError). FlushesOnce g.S.Sign.scheme g.D.Disk.device c.args.rule.now c.args.rule.now c.args.missed.now c.args.rounds.now round.new.self r) c.in-Err.is
          (once_over g.S.Sign.scheme g.D.Disk.device g.met.D.Disk.counts_now c.args.rule.now c.args.missed.now c.args.rounds.now round.new.self round.result (subst IsOver (sym c.in-Err.is) tt)
          round.ensures.node round.ensures.down round.ensures.reported round.ensures.settles round.ensures.room round.ensures.flushes round.ensures.nothing round.ensures.alive);
      missed = λ is. is;
    }
