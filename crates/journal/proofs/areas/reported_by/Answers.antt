use Rattle.std.proofs.Common.{List, ℕ, refl, ap, ◌∙◌}
use Rattle.diskmodel.proofs.Clock.{joins}
use Rattle.journal.specs.Areas.{reports}
use Rattle.journal.proofs.Closing.{reports_front}
use Rattle.journal.proofs.Rewritten.{begins, then_same}
use Rattle.journal.proofs.areas.reported_by.Goals as goal

pub returns-in_err-sync-clause-any_moment : goal.returns-in_err-sync-clause-any_moment
returns-in_err-sync-clause-any_moment g c =
    let device = g.D.Disk.device in
    let old = c.args.disk.now in
    let P : List ℕ → Type 0 = device.outcome old in
    (then_same device old old c.sync.new.self P (begins device old P (g.met.D.Disk.only_now old) (λ left now. now)) c.sync.ensures.time c.sync.ensures.outcomes).moments

pub returns-in_err-bytes-clause-any_moment : goal.returns-in_err-bytes-clause-any_moment
returns-in_err-bytes-clause-any_moment g c =
    let device = g.D.Disk.device in
    let old = c.args.disk.now in
    let P : List ℕ → Type 0 = device.outcome old in
    let synced = then_same device old old c.sync.new.self P (begins device old P (g.met.D.Disk.only_now old) (λ left now. now)) c.sync.ensures.time c.sync.ensures.outcomes in
    joins device old c.sync.new.self c.read_front.new.disk P (device.outcome c.sync.new.self) synced.moments c.read_front.ensures.any_moment c.sync.ensures.outcomes

pub returns-in_err-reports-clause-any_moment : goal.returns-in_err-reports-clause-any_moment
returns-in_err-reports-clause-any_moment g c =
    let device = g.D.Disk.device in
    let old = c.args.disk.now in
    let P : List ℕ → Type 0 = device.outcome old in
    let synced = then_same device old old c.sync.new.self P (begins device old P (g.met.D.Disk.only_now old) (λ left now. now)) c.sync.ensures.time c.sync.ensures.outcomes in
    joins device old c.sync.new.self c.read_front.new.disk P (device.outcome c.sync.new.self) synced.moments c.read_front.ensures.any_moment c.sync.ensures.outcomes

pub returns-clause-any_moment : goal.returns-clause-any_moment
returns-clause-any_moment g c =
    let device = g.D.Disk.device in
    let old = c.args.disk.now in
    let P : List ℕ → Type 0 = device.outcome old in
    let synced = then_same device old old c.sync.new.self P (begins device old P (g.met.D.Disk.only_now old) (λ left now. now)) c.sync.ensures.time c.sync.ensures.outcomes in
    joins device old c.sync.new.self c.read_front.new.disk P (device.outcome c.sync.new.self) synced.moments c.read_front.ensures.any_moment c.sync.ensures.outcomes

pub returns-clause-reported : goal.returns-clause-reported
returns-clause-reported g c =
    c.in_ok-reports.ensures ∙ ap reports (c.deref.ensures.value ∙ c.in_ok-bytes.ensures.bytes)
    ∙ reports_front 4194309 (g.D.Disk.device.content c.sync.new.self) refl
    ∙ ap reports c.sync.ensures.content
