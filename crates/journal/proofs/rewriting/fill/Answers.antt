use Rattle.std.proofs.Common.{length}
use Rattle.journal.proofs.Rewritten.{fills, opens, staged, then_same}
use Rattle.journal.specs.Areas.{IsOlderOrNew}
use Rattle.journal.proofs.rewriting.fill.Goals as goal

pub returns-in_err-write_at-clause-any_moment : goal.returns-in_err-write_at-clause-any_moment
returns-in_err-write_at-clause-any_moment g c above =
    let device = g.D.Disk.device in
    let bytes = c.args.bytes.now in
    let old = c.args.disk.now in
    let one = c.write_at.new.self in
    (fills device above (length bytes) bytes old one (g.met.D.Disk.only_now old) c.requires.cleared c.requires.durable c.write_at.ensures.time c.write_at.ensures.outcomes).moments

pub returns-in_err-sync-clause-any_moment : goal.returns-in_err-sync-clause-any_moment
returns-in_err-sync-clause-any_moment g c above =
    let device = g.D.Disk.device in
    let bytes = c.args.bytes.now in
    let old = c.args.disk.now in
    let one = c.write_at.new.self in
    let two = c.sync.new.self in
    let filled = fills device above (length bytes) bytes old one (g.met.D.Disk.only_now old) c.requires.cleared c.requires.durable c.write_at.ensures.time c.write_at.ensures.outcomes in
    (then_same device old one two (IsOlderOrNew above bytes) filled c.sync.ensures.time c.sync.ensures.outcomes).moments

pub returns-in_err-write_at-2-clause-any_moment : goal.returns-in_err-write_at-2-clause-any_moment
returns-in_err-write_at-2-clause-any_moment g c above =
    let device = g.D.Disk.device in
    let bytes = c.args.bytes.now in
    let old = c.args.disk.now in
    let one = c.write_at.new.self in
    let two = c.sync.new.self in
    let three = c.write_at-2.new.self in
    let filled = fills device above (length bytes) bytes old one (g.met.D.Disk.only_now old) c.requires.cleared c.requires.durable c.write_at.ensures.time c.write_at.ensures.outcomes in
    let durable = then_same device old one two (IsOlderOrNew above bytes) filled c.sync.ensures.time c.sync.ensures.outcomes in
    let content = staged (device.content old) (device.content one) bytes c.requires.cleared c.in_ok-write_at.ensures.content in
    (opens device above bytes old one two three durable content c.in_ok-sync.ensures.durable c.write_at-2.ensures.time c.write_at-2.ensures.outcomes).moments

pub returns-in_err-sync-2-clause-any_moment : goal.returns-in_err-sync-2-clause-any_moment
returns-in_err-sync-2-clause-any_moment g c above =
    let device = g.D.Disk.device in
    let bytes = c.args.bytes.now in
    let old = c.args.disk.now in
    let one = c.write_at.new.self in
    let two = c.sync.new.self in
    let three = c.write_at-2.new.self in
    let filled = fills device above (length bytes) bytes old one (g.met.D.Disk.only_now old) c.requires.cleared c.requires.durable c.write_at.ensures.time c.write_at.ensures.outcomes in
    let durable = then_same device old one two (IsOlderOrNew above bytes) filled c.sync.ensures.time c.sync.ensures.outcomes in
    let content = staged (device.content old) (device.content one) bytes c.requires.cleared c.in_ok-write_at.ensures.content in
    let opened = opens device above bytes old one two three durable content c.in_ok-sync.ensures.durable c.write_at-2.ensures.time c.write_at-2.ensures.outcomes in
    (then_same device old three c.sync-2.new.self (IsOlderOrNew above bytes) opened c.sync-2.ensures.time c.sync-2.ensures.outcomes).moments

pub returns-clause-any_moment : goal.returns-clause-any_moment
returns-clause-any_moment g c above =
    let device = g.D.Disk.device in
    let bytes = c.args.bytes.now in
    let old = c.args.disk.now in
    let one = c.write_at.new.self in
    let two = c.sync.new.self in
    let three = c.write_at-2.new.self in
    let filled = fills device above (length bytes) bytes old one (g.met.D.Disk.only_now old) c.requires.cleared c.requires.durable c.write_at.ensures.time c.write_at.ensures.outcomes in
    let durable = then_same device old one two (IsOlderOrNew above bytes) filled c.sync.ensures.time c.sync.ensures.outcomes in
    let content = staged (device.content old) (device.content one) bytes c.requires.cleared c.in_ok-write_at.ensures.content in
    let opened = opens device above bytes old one two three durable content c.in_ok-sync.ensures.durable c.write_at-2.ensures.time c.write_at-2.ensures.outcomes in
    (then_same device old three c.sync-2.new.self (IsOlderOrNew above bytes) opened c.sync-2.ensures.time c.sync-2.ensures.outcomes).moments
