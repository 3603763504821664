use Rattle.std.proofs.Common.{rules, List, ℕ, refl, sym, subst}
use Rattle.std.specs.Prelude.{Option, IsNone}
use Rattle.node_shared.specs.Home.{IsFlushOf, IsTied}
use Rattle.book.proofs.Options.{of_some}
use Rattle.node_shared.proofs.Groups.{home_taken, takes_next, flush_taken, tied_taken, all_settled}
use Rattle.node_shared.proofs.node.Node.take_tied.Goals as goal

pub returns-clause-home : goal.returns-clause-home
returns-clause-home g c =
    home_taken c.args.self.now g.S.Sign.scheme c.args.locked.now.seat c.args.locked.now.book c.args.flush.now c.requires.home c.requires.tied
    c.take.new.self c.in-Some.group c.requires.rests c.requires.idle (of_some _ _ _ c.in-Some.is c.in_ok-group.ensures.group) (of_some _ _ _ c.in-Some.is c.in_ok-group.ensures.taken)
    (of_some _ _ _ c.in-Some.is c.in_ok-group.ensures.stands) (of_some _ _ _ c.in-Some.is c.in_ok-group.ensures.records)

pub returns-clause-takes : goal.returns-clause-takes
returns-clause-takes g c = record {
  none = search rules;
  group =
      rw c.taken-flush.ensures
      (takes_next c.args.self.now g.S.Sign.scheme c.args.locked.now.seat c.args.locked.now.book c.args.flush.now c.requires.home c.requires.tied
      c.take.new.self c.in-Some.group c.requires.rests c.requires.idle (of_some _ _ _ c.in-Some.is c.in_ok-group.ensures.group) (of_some _ _ _ c.in-Some.is c.in_ok-group.ensures.taken)
      (of_some _ _ _ c.in-Some.is c.in_ok-group.ensures.stands) (of_some _ _ _ c.in-Some.is c.in_ok-group.ensures.records));
  err = search rules;
}

pub returns-in_default-clause-takes : goal.returns-in_default-clause-takes
returns-in_default-clause-takes g c = record {
  none = λ _. (
    refl,
    all_settled c.args.self.now g.S.Sign.scheme c.args.locked.now.seat c.args.locked.now.book c.args.flush.now c.requires.home c.requires.tied c.requires.rests
        (c.in_ok-group.ensures.none.0 (subst (λ (o : Option (List (List ℕ))). IsNone o) (sym c.in_default.is) refl)),
  );
  group = tt;
  err = tt;
}

pub returns-clause-flush : goal.returns-clause-flush
returns-clause-flush g c =
    subst (λ (n : ℕ). IsFlushOf c.args.self.now (record c.args.flush.now { taken = n })) (sym c.taken-flush.ensures)
    (flush_taken c.args.self.now g.S.Sign.scheme c.args.locked.now.seat c.args.locked.now.book c.args.flush.now c.requires.home c.requires.tied
    c.take.new.self c.in-Some.group c.requires.rests c.requires.idle (of_some _ _ _ c.in-Some.is c.in_ok-group.ensures.group) (of_some _ _ _ c.in-Some.is c.in_ok-group.ensures.taken)
    (of_some _ _ _ c.in-Some.is c.in_ok-group.ensures.stands) (of_some _ _ _ c.in-Some.is c.in_ok-group.ensures.records))

pub returns-clause-tied : goal.returns-clause-tied
returns-clause-tied g c =
    subst (λ (n : ℕ). IsTied c.args.self.now c.args.locked.now.seat c.take.new.self (record c.args.flush.now { taken = n })) (sym c.taken-flush.ensures)
    (tied_taken c.args.self.now g.S.Sign.scheme c.args.locked.now.seat c.args.locked.now.book c.args.flush.now c.requires.home c.requires.tied
    c.take.new.self c.in-Some.group c.requires.rests c.requires.idle (of_some _ _ _ c.in-Some.is c.in_ok-group.ensures.group) (of_some _ _ _ c.in-Some.is c.in_ok-group.ensures.taken)
    (of_some _ _ _ c.in-Some.is c.in_ok-group.ensures.stands) (of_some _ _ _ c.in-Some.is c.in_ok-group.ensures.records))
