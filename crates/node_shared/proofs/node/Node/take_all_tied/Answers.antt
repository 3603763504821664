use Rattle.std.proofs.Common.{◌≡◌, ℕ, true, refl, sym, subst}
use Rattle.node_shared.specs.Home.{IsFlushOf, IsTied, IsCheckpointAfter, taken_by}
use Rattle.node_shared.proofs.Groups.{home_all, tied_all, taken_all, flush_all, checkpoint_all}
use Rattle.node_shared.proofs.node.Node.take_all_tied.Goals as goal

pub returns-clause-home : goal.returns-clause-home
returns-clause-home g c = home_all c.args.self.now g.S.Sign.scheme c.args.locked.now.seat c.args.locked.now.book c.args.flush.now c.requires.home c.requires.tied
    c.take_all.new.self c.in_ok-snapshot.snapshot c.in_ok-snapshot.ensures.taken c.in_ok-snapshot.ensures.stands c.in_ok-snapshot.ensures.checkpoint

pub returns-clause-tied : goal.returns-clause-tied
returns-clause-tied g c =
    subst (λ (n : ℕ). IsTied c.args.self.now c.args.locked.now.seat c.take_all.new.self (record c.args.flush.now { taken = n; rewriting = true })) (sym c.taken-flush.ensures)
    (tied_all c.args.self.now g.S.Sign.scheme c.args.locked.now.seat c.args.locked.now.book c.args.flush.now c.requires.home c.requires.tied
    c.take_all.new.self c.in_ok-snapshot.snapshot c.in_ok-snapshot.ensures.taken c.in_ok-snapshot.ensures.stands c.in_ok-snapshot.ensures.checkpoint)

pub returns-clause-flush : goal.returns-clause-flush
returns-clause-flush g c =
    subst (λ (n : ℕ). IsFlushOf c.args.self.now (record c.args.flush.now { taken = n; rewriting = true })) (sym c.taken-flush.ensures)
    (flush_all c.args.self.now g.S.Sign.scheme c.args.locked.now.seat c.args.locked.now.book c.args.flush.now c.requires.home c.requires.tied
    c.take_all.new.self c.in_ok-snapshot.snapshot c.in_ok-snapshot.ensures.taken c.in_ok-snapshot.ensures.stands c.in_ok-snapshot.ensures.checkpoint)

pub returns-clause-takes : goal.returns-clause-takes
returns-clause-takes g c = record {
  all = (
    subst (λ (n : ℕ). taken_by (record c.args.flush.now { taken = n; rewriting = true }) ≡ c.args.flush.now.seat.view.seen) (sym c.taken-flush.ensures)
        (taken_all c.args.self.now g.S.Sign.scheme c.args.locked.now.seat c.args.locked.now.book c.args.flush.now c.requires.home c.requires.tied
        c.take_all.new.self c.in_ok-snapshot.snapshot c.in_ok-snapshot.ensures.taken c.in_ok-snapshot.ensures.stands c.in_ok-snapshot.ensures.checkpoint),
    refl,
  );
  checkpoint = subst (λ (n : ℕ). IsCheckpointAfter g.S.Sign.scheme c.args.self.now
      (taken_by (record c.args.flush.now { taken = n; rewriting = true })) c.in_ok-snapshot.snapshot) (sym c.taken-flush.ensures)
      (checkpoint_all c.args.self.now g.S.Sign.scheme c.args.locked.now.seat c.args.locked.now.book c.args.flush.now c.requires.home c.requires.tied
      c.take_all.new.self c.in_ok-snapshot.snapshot c.in_ok-snapshot.ensures.taken c.in_ok-snapshot.ensures.stands c.in_ok-snapshot.ensures.checkpoint);
  err = tt;
}
