use Rattle.std.proofs.Common.{List, ℕ, sym, ap, ◌∙◌}
use Rattle.journal.specs.Configuration.{shaped_version}
use Rattle.validator.specs.Setting.{node_of}
use Rattle.opening.specs.Decoded.{is_own}
use Rattle.opening.proofs.PairReplays.{began_shapeless, began_other}
use Rattle.opening.proofs.reached.after_first.Goals as goal

pub returns-in_default : goal.returns-in_default
returns-in_default g c =
    began_shapeless g.S.Sign.scheme c.args.config.now (record { bytes = c.args.bytes.now; gate = c.args.place }) (sym c.shaped_version.ensures ∙ c.in_default.is)

pub returns-else-branch : goal.returns-else-branch
returns-else-branch g c =
    let node = node_of g.S.Sign.scheme c.args.config.now in
    let version = c.in-Some.version in
    began_other g.S.Sign.scheme c.args.config.now (record { bytes = c.args.bytes.now; gate = c.args.place }) version
    (sym c.shaped_version.ensures ∙ c.in-Some.is)
    (sym c.in_ok-is_own.ensures ∙ c.if-branch.false)
