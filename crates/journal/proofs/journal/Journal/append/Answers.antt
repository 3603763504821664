use Rattle.std.proofs.Common.{arith}
use Rattle.journal.proofs.Pairs.{pair_goes_on}
use Rattle.journal.proofs.journal.Journal.append.Goals as goal

pub returns-clause-alive : goal.returns-clause-alive
returns-clause-alive g c =
    let met = c.in_default.ensures in
    let alive = c.requires.alive in
    record {
      ends_closed = met.ends_closed;
      len = omega (arith, met.len, alive.len, c.written_len-added.ensures);
      durable = met.durable;
      pair = pair_goes_on g.D.Disk.device c.args.self.now.disk c.write_group.new.disk c.args.group met.fits alive.ends_closed met.content c.args.self.now.spare c.requires.first alive.pair;
    }

pub returns-clause-records : goal.returns-clause-records
returns-clause-records g c = c.in_default.ensures.records

pub returns-clause-content : goal.returns-clause-content
returns-clause-content g c = c.in_default.ensures.content

pub returns-clause-any_moment : goal.returns-clause-any_moment
returns-clause-any_moment g c = c.in_default.ensures.any_moment
