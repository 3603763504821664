use Rattle.std.proofs.Common.{◌≡◌, ◌+◌, ◌<◌, ◌≤◌, ap, sym, refl, ◌∙◌, List, [], ◌∷◌, ℕ, length, take, arith}
use Rattle.diskmodel.specs.Disk.{IsTorn, IsCut}
use Rattle.journal.specs.Format.{stands}
use Rattle.diskmodel.proofs.Clock.{started, goes_on}
use Rattle.journal.proofs.Moments.{from_only}
use Rattle.journal.proofs.Stops.{torn_short, repaired_short, cut_keeps, repaired_cut, repaired_whole}
use Rattle.journal.specs.Areas.{reports}
use Rattle.journal.proofs.Closing.{changes, torn_reports, cut_reports, cut_whole}
use Rattle.journal.proofs.Rewritten.{then_same}
use Rattle.journal.proofs.Reporting.{reports_short}
use Rattle.journal.proofs.journal.close_end.Goals as goal

pub returns-in_err-write_at-clause-any_moment : goal.returns-in_err-write_at-clause-any_moment
returns-in_err-write_at-clause-any_moment g c =
    let file = g.D.Disk.device.content c.args.disk.now in
    let P : List ℕ → Type 0 = λ left. stands left ≡ stands file in
    let device = g.D.Disk.device in
    let old = c.args.disk.now in
    let at_start = started device old P (λ left now. ap stands (c.requires.durable left (g.met.D.Disk.only_now old left now))) in
    let short : length file < 2 = omega (arith, c.requires.len, c.if-len-lt2.true) in
    let torn = from_only (IsTorn 0 1) file (g.D.Disk.device.outcome old) (g.D.Disk.device.outcome c.write_at.new.self) P c.requires.durable
    c.write_at.ensures.outcomes (torn_short file c.args.gate c.requires.found short) in
    let one = goes_on device old old c.write_at.new.self P (g.D.Disk.device.outcome c.write_at.new.self) at_start c.write_at.ensures.time torn in
    one

pub returns-in_err-sync-clause-any_moment : goal.returns-in_err-sync-clause-any_moment
returns-in_err-sync-clause-any_moment g c =
    let file = g.D.Disk.device.content c.args.disk.now in
    let P : List ℕ → Type 0 = λ left. stands left ≡ stands file in
    let device = g.D.Disk.device in
    let old = c.args.disk.now in
    let at_start = started device old P (λ left now. ap stands (c.requires.durable left (g.met.D.Disk.only_now old left now))) in
    let short : length file < 2 = omega (arith, c.requires.len, c.if-len-lt2.true) in
    let torn = from_only (IsTorn 0 1) file (g.D.Disk.device.outcome old) (g.D.Disk.device.outcome c.write_at.new.self) P c.requires.durable
    c.write_at.ensures.outcomes (torn_short file c.args.gate c.requires.found short) in
    let one = goes_on device old old c.write_at.new.self P (g.D.Disk.device.outcome c.write_at.new.self) at_start c.write_at.ensures.time torn in
    goes_on device old c.write_at.new.self c.sync.new.self P (g.D.Disk.device.outcome c.sync.new.self) one c.sync.ensures.time (λ left now. torn left (c.sync.ensures.outcomes left now))

pub returns-in_ok-sync-clause-any_moment : goal.returns-in_ok-sync-clause-any_moment
returns-in_ok-sync-clause-any_moment g c =
    let file = g.D.Disk.device.content c.args.disk.now in
    let P : List ℕ → Type 0 = λ left. stands left ≡ stands file in
    let device = g.D.Disk.device in
    let old = c.args.disk.now in
    let at_start = started device old P (λ left now. ap stands (c.requires.durable left (g.met.D.Disk.only_now old left now))) in
    let short : length file < 2 = omega (arith, c.requires.len, c.if-len-lt2.true) in
    let torn = from_only (IsTorn 0 1) file (g.D.Disk.device.outcome old) (g.D.Disk.device.outcome c.write_at.new.self) P c.requires.durable
    c.write_at.ensures.outcomes (torn_short file c.args.gate c.requires.found short) in
    let one = goes_on device old old c.write_at.new.self P (g.D.Disk.device.outcome c.write_at.new.self) at_start c.write_at.ensures.time torn in
    goes_on device old c.write_at.new.self c.sync.new.self P (g.D.Disk.device.outcome c.sync.new.self) one c.sync.ensures.time (λ left now. torn left (c.sync.ensures.outcomes left now))

pub returns-in_err-cut-clause-any_moment : goal.returns-in_err-cut-clause-any_moment
returns-in_err-cut-clause-any_moment g c =
    let file = g.D.Disk.device.content c.args.disk.now in
    let P : List ℕ → Type 0 = λ left. stands left ≡ stands file in
    let device = g.D.Disk.device in
    let old = c.args.disk.now in
    let at_start = started device old P (λ left now. ap stands (c.requires.durable left (g.met.D.Disk.only_now old left now))) in
    let long : 2 ≤ length file = omega (arith, c.requires.len, c.if-len-lt2.false) in
    let torn = from_only (IsCut (c.args.gate + 1)) file (g.D.Disk.device.outcome old) (g.D.Disk.device.outcome c.cut.new.self) P c.requires.durable
    c.cut.ensures.outcomes (cut_keeps file c.args.gate c.requires.found long) in
    let one = goes_on device old old c.cut.new.self P (g.D.Disk.device.outcome c.cut.new.self) at_start c.cut.ensures.time torn in
    one

pub returns-in_err-sync-2-clause-any_moment : goal.returns-in_err-sync-2-clause-any_moment
returns-in_err-sync-2-clause-any_moment g c =
    let file = g.D.Disk.device.content c.args.disk.now in
    let P : List ℕ → Type 0 = λ left. stands left ≡ stands file in
    let device = g.D.Disk.device in
    let old = c.args.disk.now in
    let at_start = started device old P (λ left now. ap stands (c.requires.durable left (g.met.D.Disk.only_now old left now))) in
    let long : 2 ≤ length file = omega (arith, c.requires.len, c.if-len-lt2.false) in
    let torn = from_only (IsCut (c.args.gate + 1)) file (g.D.Disk.device.outcome old) (g.D.Disk.device.outcome c.cut.new.self) P c.requires.durable
    c.cut.ensures.outcomes (cut_keeps file c.args.gate c.requires.found long) in
    let one = goes_on device old old c.cut.new.self P (g.D.Disk.device.outcome c.cut.new.self) at_start c.cut.ensures.time torn in
    goes_on device old c.cut.new.self c.sync-then-len-gate.new.self P (g.D.Disk.device.outcome c.sync-then-len-gate.new.self) one
    c.sync-then-len-gate.ensures.time (λ left now. torn left (c.sync-then-len-gate.ensures.outcomes left now))

pub returns-in_ok-sync-2-clause-any_moment : goal.returns-in_ok-sync-2-clause-any_moment
returns-in_ok-sync-2-clause-any_moment g c =
    let file = g.D.Disk.device.content c.args.disk.now in
    let P : List ℕ → Type 0 = λ left. stands left ≡ stands file in
    let device = g.D.Disk.device in
    let old = c.args.disk.now in
    let at_start = started device old P (λ left now. ap stands (c.requires.durable left (g.met.D.Disk.only_now old left now))) in
    let long : 2 ≤ length file = omega (arith, c.requires.len, c.if-len-lt2.false) in
    let torn = from_only (IsCut (c.args.gate + 1)) file (g.D.Disk.device.outcome old) (g.D.Disk.device.outcome c.cut.new.self) P c.requires.durable
    c.cut.ensures.outcomes (cut_keeps file c.args.gate c.requires.found long) in
    let one = goes_on device old old c.cut.new.self P (g.D.Disk.device.outcome c.cut.new.self) at_start c.cut.ensures.time torn in
    goes_on device old c.cut.new.self c.sync-then-len-gate.new.self P (g.D.Disk.device.outcome c.sync-then-len-gate.new.self) one
    c.sync-then-len-gate.ensures.time (λ left now. torn left (c.sync-then-len-gate.ensures.outcomes left now))

pub returns-in_ok-sync-clause-ends_closed : goal.returns-in_ok-sync-clause-ends_closed
returns-in_ok-sync-clause-ends_closed g c =
    let file = g.D.Disk.device.content c.args.disk.now in
    let short : length file < 2 = omega (arith, c.requires.len, c.if-len-lt2.true) in
    (repaired_short file c.args.gate c.requires.found short _ (c.sync.ensures.content ∙ c.in_ok-write_at.ensures.content)).ends_closed

pub returns-in_ok-sync-2-clause-ends_closed : goal.returns-in_ok-sync-2-clause-ends_closed
returns-in_ok-sync-2-clause-ends_closed g c =
    let file = g.D.Disk.device.content c.args.disk.now in
    let long : 2 ≤ length file = omega (arith, c.requires.len, c.if-len-lt2.false) in
    (repaired_cut file c.args.gate c.requires.found long _ (c.sync-then-len-gate.ensures.content ∙ c.in_ok-cut.ensures.content)).ends_closed

pub returns-in_ok-sync-clause-len : goal.returns-in_ok-sync-clause-len
returns-in_ok-sync-clause-len g c =
    let file = g.D.Disk.device.content c.args.disk.now in
    let short : length file < 2 = omega (arith, c.requires.len, c.if-len-lt2.true) in
    (repaired_short file c.args.gate c.requires.found short _ (c.sync.ensures.content ∙ c.in_ok-write_at.ensures.content)).size

pub returns-in_ok-sync-2-clause-len : goal.returns-in_ok-sync-2-clause-len
returns-in_ok-sync-2-clause-len g c =
    let file = g.D.Disk.device.content c.args.disk.now in
    let long : 2 ≤ length file = omega (arith, c.requires.len, c.if-len-lt2.false) in
    (repaired_cut file c.args.gate c.requires.found long _ (c.sync-then-len-gate.ensures.content ∙ c.in_ok-cut.ensures.content)).size

pub returns-in_ok-sync-clause-records : goal.returns-in_ok-sync-clause-records
returns-in_ok-sync-clause-records g c =
    let file = g.D.Disk.device.content c.args.disk.now in
    let short : length file < 2 = omega (arith, c.requires.len, c.if-len-lt2.true) in
    (repaired_short file c.args.gate c.requires.found short _ (c.sync.ensures.content ∙ c.in_ok-write_at.ensures.content)).records

pub returns-in_ok-sync-2-clause-records : goal.returns-in_ok-sync-2-clause-records
returns-in_ok-sync-2-clause-records g c =
    let file = g.D.Disk.device.content c.args.disk.now in
    let long : 2 ≤ length file = omega (arith, c.requires.len, c.if-len-lt2.false) in
    (repaired_cut file c.args.gate c.requires.found long _ (c.sync-then-len-gate.ensures.content ∙ c.in_ok-cut.ensures.content)).records

pub returns-else-len-gate-clause-ends_closed : goal.returns-else-len-gate-clause-ends_closed
returns-else-len-gate-clause-ends_closed g c =
    let file = g.D.Disk.device.content c.args.disk.now in
    let long : 2 ≤ length file = omega (arith, c.requires.len, c.if-len-lt2.false) in
    (repaired_whole file c.args.gate c.requires.found long (omega (arith, c.requires.len))).ends_closed

pub returns-else-len-gate-clause-len : goal.returns-else-len-gate-clause-len
returns-else-len-gate-clause-len g c =
    let file = g.D.Disk.device.content c.args.disk.now in
    let long : 2 ≤ length file = omega (arith, c.requires.len, c.if-len-lt2.false) in
    (repaired_whole file c.args.gate c.requires.found long (omega (arith, c.requires.len))).size

pub returns-in_ok-sync-clause-content : goal.returns-in_ok-sync-clause-content
returns-in_ok-sync-clause-content g c =
    let file = g.D.Disk.device.content c.args.disk.now in
    let short : length file < 2 = omega (arith, c.requires.len, c.if-len-lt2.true) in
    (repaired_short file c.args.gate c.requires.found short _ (c.sync.ensures.content ∙ c.in_ok-write_at.ensures.content)).content

pub returns-in_ok-sync-2-clause-content : goal.returns-in_ok-sync-2-clause-content
returns-in_ok-sync-2-clause-content g c =
    let file = g.D.Disk.device.content c.args.disk.now in
    let long : 2 ≤ length file = omega (arith, c.requires.len, c.if-len-lt2.false) in
    (repaired_cut file c.args.gate c.requires.found long _ (c.sync-then-len-gate.ensures.content ∙ c.in_ok-cut.ensures.content)).content

pub returns-else-len-gate-clause-content : goal.returns-else-len-gate-clause-content
returns-else-len-gate-clause-content g c =
    let file = g.D.Disk.device.content c.args.disk.now in
    let long : 2 ≤ length file = omega (arith, c.requires.len, c.if-len-lt2.false) in
    (repaired_whole file c.args.gate c.requires.found long (omega (arith, c.requires.len))).content

pub returns-in_err-write_at-clause-reporting : goal.returns-in_err-write_at-clause-reporting
returns-in_err-write_at-clause-reporting g c =
    let device = g.D.Disk.device in
    let old = c.args.disk.now in
    let file = device.content old in
    let short : length file < 2 = omega (arith, c.requires.len, c.if-len-lt2.true) in
    (changes device (IsTorn 0 1) old c.write_at.new.self (λ left. reports left ≡ reports file) (g.met.D.Disk.only_now old) c.requires.durable refl c.write_at.ensures.time c.write_at.ensures.outcomes
    (λ left torn. torn_reports file left short torn)).moments

pub returns-in_err-sync-clause-reporting : goal.returns-in_err-sync-clause-reporting
returns-in_err-sync-clause-reporting g c =
    let device = g.D.Disk.device in
    let old = c.args.disk.now in
    let file = device.content old in
    let P : List ℕ → Type 0 = λ left. reports left ≡ reports file in
    let short : length file < 2 = omega (arith, c.requires.len, c.if-len-lt2.true) in
    let one = changes device (IsTorn 0 1) old c.write_at.new.self P (g.met.D.Disk.only_now old) c.requires.durable refl c.write_at.ensures.time c.write_at.ensures.outcomes
    (λ left torn. torn_reports file left short torn) in
    (then_same device old c.write_at.new.self c.sync.new.self P one c.sync.ensures.time c.sync.ensures.outcomes).moments

pub returns-in_ok-sync-clause-reporting : goal.returns-in_ok-sync-clause-reporting
returns-in_ok-sync-clause-reporting g c =
    let device = g.D.Disk.device in
    let old = c.args.disk.now in
    let file = device.content old in
    let P : List ℕ → Type 0 = λ left. reports left ≡ reports file in
    let short : length file < 2 = omega (arith, c.requires.len, c.if-len-lt2.true) in
    let one = changes device (IsTorn 0 1) old c.write_at.new.self P (g.met.D.Disk.only_now old) c.requires.durable refl c.write_at.ensures.time c.write_at.ensures.outcomes
    (λ left torn. torn_reports file left short torn) in
    (then_same device old c.write_at.new.self c.sync.new.self P one c.sync.ensures.time c.sync.ensures.outcomes).moments

pub returns-in_err-cut-clause-reporting : goal.returns-in_err-cut-clause-reporting
returns-in_err-cut-clause-reporting g c =
    let device = g.D.Disk.device in
    let old = c.args.disk.now in
    let file = device.content old in
    let P : List ℕ → Type 0 = λ left. reports left ≡ reports file in
    let long : 2 ≤ length file = omega (arith, c.requires.len, c.if-len-lt2.false) in
    (changes device (IsCut (c.args.gate + 1)) old c.cut.new.self P (g.met.D.Disk.only_now old) c.requires.durable refl c.cut.ensures.time c.cut.ensures.outcomes
    (λ left cut. cut_reports file left c.args.gate c.requires.found long cut)).moments

pub returns-in_err-sync-2-clause-reporting : goal.returns-in_err-sync-2-clause-reporting
returns-in_err-sync-2-clause-reporting g c =
    let device = g.D.Disk.device in
    let old = c.args.disk.now in
    let file = device.content old in
    let P : List ℕ → Type 0 = λ left. reports left ≡ reports file in
    let long : 2 ≤ length file = omega (arith, c.requires.len, c.if-len-lt2.false) in
    let one = changes device (IsCut (c.args.gate + 1)) old c.cut.new.self P (g.met.D.Disk.only_now old) c.requires.durable refl c.cut.ensures.time c.cut.ensures.outcomes
    (λ left cut. cut_reports file left c.args.gate c.requires.found long cut) in
    (then_same device old c.cut.new.self c.sync-then-len-gate.new.self P one c.sync-then-len-gate.ensures.time c.sync-then-len-gate.ensures.outcomes).moments

pub returns-in_ok-sync-2-clause-reporting : goal.returns-in_ok-sync-2-clause-reporting
returns-in_ok-sync-2-clause-reporting g c =
    let device = g.D.Disk.device in
    let old = c.args.disk.now in
    let file = device.content old in
    let P : List ℕ → Type 0 = λ left. reports left ≡ reports file in
    let long : 2 ≤ length file = omega (arith, c.requires.len, c.if-len-lt2.false) in
    let one = changes device (IsCut (c.args.gate + 1)) old c.cut.new.self P (g.met.D.Disk.only_now old) c.requires.durable refl c.cut.ensures.time c.cut.ensures.outcomes
    (λ left cut. cut_reports file left c.args.gate c.requires.found long cut) in
    (then_same device old c.cut.new.self c.sync-then-len-gate.new.self P one c.sync-then-len-gate.ensures.time c.sync-then-len-gate.ensures.outcomes).moments

pub returns-in_ok-sync-clause-reports : goal.returns-in_ok-sync-clause-reports
returns-in_ok-sync-clause-reports g c =
    let file = g.D.Disk.device.content c.args.disk.now in
    let short : length file < 2 = omega (arith, c.requires.len, c.if-len-lt2.true) in
    let size = (repaired_short file c.args.gate c.requires.found short _ (c.sync.ensures.content ∙ c.in_ok-write_at.ensures.content)).content.short short in
    ap reports size ∙ reports_short (0 ∷ []) (omega arith) ∙ sym (reports_short file short)

pub returns-in_ok-sync-2-clause-reports : goal.returns-in_ok-sync-2-clause-reports
returns-in_ok-sync-2-clause-reports g c =
    let device = g.D.Disk.device in
    let file = device.content c.args.disk.now in
    let long : 2 ≤ length file = omega (arith, c.requires.len, c.if-len-lt2.false) in
    ap reports (c.sync-then-len-gate.ensures.content ∙ c.in_ok-cut.ensures.content) ∙ cut_reports file (take (c.args.gate + 1) file) c.args.gate c.requires.found long (cut_whole
    (c.args.gate + 1) file)
