use Rattle.std.proofs.Common.{inl, [], List, ℕ, ap, ◌∙◌}
use Rattle.journal.specs.Areas.{reports}
use Rattle.journal.specs.Journal.{IsSameAs}
use Rattle.journal.proofs.Closing.{shut_scans, shut_stands, until_closed}
use Rattle.journal.proofs.Rewritten.{begins, then_same}
use Rattle.journal.proofs.areas.shut_area.Goals as goal

pub close_end-requires-clause-found : goal.close_end-requires-clause-found
close_end-requires-clause-found g c = ([], shut_scans (g.D.Disk.device.content c.len.new.self) (ap reports c.len.ensures.content ∙ c.requires.shut))

pub returns-clause-any_moment : goal.returns-clause-any_moment
returns-clause-any_moment g c =
    let device = g.D.Disk.device in
    let old = c.args.disk.now in
    let P : List ℕ → Type 0 = IsSameAs (device.content old) in
    let read = then_same device old old c.len.new.self P (begins device old P (g.met.D.Disk.only_now old) (λ left now. inl (c.requires.durable left now))) c.len.ensures.time c.len.ensures.outcomes in
    until_closed device old c.len.new.self c.close_end.new.disk [] (shut_stands (device.content old) c.requires.shut) c.len.ensures.content read.moments
    c.close_end.ensures.any_moment c.close_end.ensures.reporting
