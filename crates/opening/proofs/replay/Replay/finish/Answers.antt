use Rattle.std.proofs.Common.{rules, ◌≡◌, inl, inr, false, Bool, Option, ℕ, subst}
use Rattle.opening.specs.Replayed.{HasReplayed}
use Rattle.opening.proofs.Replays.{ends_shared, ends_standing, ends_at_fault}
use Rattle.opening.proofs.replay.Replay.finish.Goals as goal

pub returns-in-Some-clause-err : goal.returns-in-Some-clause-err
returns-in-Some-clause-err g c records has =
    let was = c.args.self in
    let shared : was.alone ≡ false = search rules in
    ends_shared g.S.Sign.scheme was.config.now records c.in-Some.gate was.reached
    (subst (λ (first : Option ℕ). HasReplayed g.S.Sign.scheme was.config.now first false was.reached records) c.in-Some.is
    (subst (λ (alone : Bool). HasReplayed g.S.Sign.scheme was.config.now was.first alone was.reached records) shared has))

pub returns-in_default-clause-stands : goal.returns-in_default-clause-stands
returns-in_default-clause-stands g c records has = ends_standing g.S.Sign.scheme c.args.self.config.now c.args.self.first c.args.self.alone records c.args.self.reached has (inr (search rules))

pub returns-in_default-clause-err : goal.returns-in_default-clause-err
returns-in_default-clause-err g c records has = ends_at_fault g.S.Sign.scheme c.args.self.config.now c.args.self.first c.args.self.alone records c.args.self.reached has (inr (search rules))

pub returns-in_default-2-clause-stands : goal.returns-in_default-2-clause-stands
returns-in_default-2-clause-stands g c records has = ends_standing g.S.Sign.scheme c.args.self.config.now c.args.self.first c.args.self.alone records c.args.self.reached has (inl c.in_default.is)
