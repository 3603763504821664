use Rattle.std.proofs.Common.{None, Some, sym, subst, ◌∙◌}
use Rattle.sequencer.specs.Restored.{AreListed}
use Rattle.checkpoint.proofs.Sequenced.{listed_above, led_by}
use Rattle.checkpoint.proofs.parts.leading.last_leader.Goals as goal

pub listed_top-requires : goal.listed_top-requires
listed_top-requires c = subst AreListed (sym c.requires) (listed_above c.args.dag.now c.limits_hold.ensures)

pub returns-in_err-wave : goal.returns-in_err-wave
returns-in_err-wave c =
    c.from_residual.ensures ∙ led_by c.args.dag.now c.args.coins.now c.committee.result.now c.args.certificates.now None c.limits_hold.ensures c.committee.ensures
    c.requires (sym c.listed_top.ensures ∙ c.in_err-wave.was)

pub returns : goal.returns
returns c =
    c.leader.ensures.value
    ∙ led_by c.args.dag.now c.args.coins.now c.committee.result.now c.args.certificates.now (Some c.in_ok-wave.wave) c.limits_hold.ensures c.committee.ensures c.requires
    (sym c.listed_top.ensures ∙ c.in_ok-wave.was)
