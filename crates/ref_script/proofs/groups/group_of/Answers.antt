use Rattle.std.proofs.Common.{sym, ◌∙◌}
use Rattle.ref_script.proofs.Steps.{fill_more, fill_ends, fill_all}
use Rattle.ref_script.proofs.groups.group_of.Goals as goal

pub returns-then-not-fits_group-clause-value : goal.returns-then-not-fits_group-clause-value
returns-then-not-fits_group-clause-value c =
    sym (c.loop-count.invariant ∙ fill_ends c.args.events.now c.loop-count.count c.loop-count-test.true (sym c.fits_group.ensures ∙ c.if-not-fits_group.true))

pub loop-count-preserved : goal.loop-count-preserved
loop-count-preserved c = c.loop-count.invariant ∙ fill_more c.args.events.now c.loop-count.count c.loop-count-test.true (sym c.fits_group.ensures ∙ c.if-not-fits_group.false)

pub returns-clause-value : goal.returns-clause-value
returns-clause-value c = sym (c.loop-count.invariant ∙ fill_all c.args.events.now c.loop-count.count c.loop-count-test.false)
