use Rattle.std.proofs.Common.{Option, ℕ, sym, ◌∙◌, subst}
use Rattle.opening.specs.Replayed.{HasReplayed}
use Rattle.opening.proofs.Replays.{began}
use Rattle.opening.proofs.replay.Replay.take_first.Goals as goal

pub returns-in_default-clause-taken : goal.returns-in_default-clause-taken
returns-in_default-clause-taken g c before has =
    let was = c.args.self.now in
    began g.S.Sign.scheme was.config.now (record { bytes = c.args.bytes.now; gate = c.args.place }) was.alone before was.reached
    (subst (λ (first : Option ℕ). HasReplayed g.S.Sign.scheme was.config.now first was.alone was.reached before) c.requires has)
    (sym c.in_default.is ∙ c.in_ok-fault.ensures.fault)
