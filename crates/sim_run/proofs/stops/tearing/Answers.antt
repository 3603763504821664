use Rattle.std.proofs.Common.{arith}
use Rattle.sim_run.specs.Stops.{IsTornBy}
use Rattle.sim_run.proofs.Possible.{torn_possible}
use Rattle.sim_run.proofs.stops.tearing.Goals as goal

pub returns : goal.returns
returns c =
    let torn : IsTornBy c.args.byte c.args.disk c.in_ok-found.found.items = c.in_ok-found.ensures in (
      c.in_ok-found.found.items,
      torn,
      record {
        chosen = c.choose.ensures;
        possible = torn_possible c.args.disk c.args.byte c.in_ok-found.found.items (omega (arith, c.ranges.byte.fits)) torn c.args.disk.history.kept.possible;
      },
    )
