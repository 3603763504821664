use Rattle.std.proofs.Common.{drop}
use Rattle.journal.proofs.Rewritten.{closes, closed, cuts, then_same}
use Rattle.journal.specs.Areas.{IsOlder}
use Rattle.journal.proofs.rewriting.clear.Goals as goal

pub returns-in_err-write_at-clause-any_moment : goal.returns-in_err-write_at-clause-any_moment
returns-in_err-write_at-clause-any_moment g c above at_rest =
    let device = g.D.Disk.device in
    let old = c.args.disk.now in
    let one = c.write_at.new.self in
    (closes device above old one one (g.met.D.Disk.only_now old) c.requires at_rest c.write_at.ensures.time c.write_at.ensures.outcomes).moments

pub returns-in_err-sync-clause-any_moment : goal.returns-in_err-sync-clause-any_moment
returns-in_err-sync-clause-any_moment g c above at_rest =
    let device = g.D.Disk.device in
    let old = c.args.disk.now in
    let one = c.write_at.new.self in
    let two = c.sync.new.self in
    (closed device above old one two (g.met.D.Disk.only_now old) c.requires at_rest c.write_at.ensures.time c.write_at.ensures.outcomes c.sync.ensures.time c.sync.ensures.outcomes).moments

pub returns-in_err-cut-clause-any_moment : goal.returns-in_err-cut-clause-any_moment
returns-in_err-cut-clause-any_moment g c above at_rest =
    let device = g.D.Disk.device in
    let old = c.args.disk.now in
    let one = c.write_at.new.self in
    let two = c.sync.new.self in
    let three = c.cut.new.self in
    let shut = closed device above old one two (g.met.D.Disk.only_now old) c.requires at_rest c.write_at.ensures.time c.write_at.ensures.outcomes c.sync.ensures.time c.sync.ensures.outcomes in
    (cuts device above old one two three (drop 1 (device.content old)) shut c.in_ok-write_at.ensures.content c.in_ok-sync.ensures.durable c.cut.ensures.time c.cut.ensures.outcomes).moments

pub returns-in_err-sync-2-clause-any_moment : goal.returns-in_err-sync-2-clause-any_moment
returns-in_err-sync-2-clause-any_moment g c above at_rest =
    let device = g.D.Disk.device in
    let old = c.args.disk.now in
    let one = c.write_at.new.self in
    let two = c.sync.new.self in
    let three = c.cut.new.self in
    let shut = closed device above old one two (g.met.D.Disk.only_now old) c.requires at_rest c.write_at.ensures.time c.write_at.ensures.outcomes c.sync.ensures.time c.sync.ensures.outcomes in
    let shorter = cuts device above old one two three (drop 1 (device.content old)) shut c.in_ok-write_at.ensures.content c.in_ok-sync.ensures.durable c.cut.ensures.time c.cut.ensures.outcomes in
    (then_same device old three c.sync-2.new.self (IsOlder above) shorter c.sync-2.ensures.time c.sync-2.ensures.outcomes).moments

pub returns-clause-any_moment : goal.returns-clause-any_moment
returns-clause-any_moment g c above at_rest =
    let device = g.D.Disk.device in
    let old = c.args.disk.now in
    let one = c.write_at.new.self in
    let two = c.sync.new.self in
    let three = c.cut.new.self in
    let shut = closed device above old one two (g.met.D.Disk.only_now old) c.requires at_rest c.write_at.ensures.time c.write_at.ensures.outcomes c.sync.ensures.time c.sync.ensures.outcomes in
    let shorter = cuts device above old one two three (drop 1 (device.content old)) shut c.in_ok-write_at.ensures.content c.in_ok-sync.ensures.durable c.cut.ensures.time c.cut.ensures.outcomes in
    (then_same device old three c.sync-2.new.self (IsOlder above) shorter c.sync-2.ensures.time c.sync-2.ensures.outcomes).moments
