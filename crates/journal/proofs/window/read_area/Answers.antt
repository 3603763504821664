use Rattle.std.specs.Prelude.{Result, IfErr}
use Rattle.journal.specs.declared.error.JournalError.{JournalError}
use Rattle.journal.specs.declared.error.JournalError.TheVariants as errors
use Rattle.std.proofs.Common.{ℕ, ◌≡◌, ◌≢◌, ◌+◌, List, [], Ok, sym, ap, ◌∙◌, subst, arith}
use Rattle.std.proofs.lemmas.Result.{err_from_is_err_and}
use Rattle.journal.specs.Areas.{base_of, stands_at}
use Rattle.journal.specs.Format.{walk, FailsAs}
use Rattle.journal.proofs.Sides.{scanned, scan_failed, short_stands, short_scans, fails_as}
use Rattle.journal.proofs.window.read_area.Goals as goal

pub returns-then-len-lt2-clause-taken : goal.returns-then-len-lt2-clause-taken
returns-then-len-lt2-clause-taken g c =
    ([], short_stands c.args.side (g.D.Disk.device.content c.args.disk.now) (omega (arith, c.if-len-lt2.true, c.in_ok-len.ensures.value)), g.met.R.Reader.takes_none c.args.reader.now)

pub returns-then-len-lt2-clause-gate : goal.returns-then-len-lt2-clause-gate
returns-then-len-lt2-clause-gate g c = ([], short_scans (g.D.Disk.device.content c.args.disk.now) (omega (arith, c.if-len-lt2.true, c.in_ok-len.ensures.value)))

pub returns-in_err-gate-clause-err : goal.returns-in_err-gate-clause-err
returns-in_err-gate-clause-err g c =
    let file = g.D.Disk.device.content c.args.disk.now in
    let exit = err_from_is_err_and c.from_residual-in_err-gate.result c.from_residual-in_err-gate.ensures.1 in
    let same : exit.0 ≡ c.in_err-gate.field-0.0 = exit.2 in
    subst (λ (r : Result (ℕ × ℕ) JournalError). IfErr r (λ error. error ≢ errors.Device → FailsAs error (stands_at c.args.side file))) (sym exit.1)
    (λ other. fails_as exit.0 (walk c.base.result 0 file) (stands_at c.args.side file)
    (λ place failed. scan_failed c.args.side file place (omega (arith, c.if-len-lt2.false, c.in_ok-len.ensures.value)) (ap (λ (n : ℕ). walk n 0 file) (sym c.base.ensures) ∙ failed))
    (subst (λ (e : JournalError). FailsAs e (walk c.base.result 0 file)) (sym same)
    (subst (λ (l : List ℕ). FailsAs c.in_err-gate.field-0.0 (walk c.base.result 0 l)) c.len.ensures.content (c.in_err-gate.ensures.err (λ is. other (same ∙ is))))))

pub returns-clause-taken : goal.returns-clause-taken
returns-clause-taken g c =
    let file = g.D.Disk.device.content c.args.disk.now in
    let taken = c.in_ok-gate.ensures.taken in
    let later = g.D.Disk.device.content c.len.new.self in
    let walked = subst (λ (l : List ℕ). walk (base_of c.args.side) 0 l ≡ Ok (taken.0, base_of c.args.side + c.in_ok-gate.gate)) c.len.ensures.content
    (subst (λ (n : ℕ). walk n 0 later ≡ Ok (taken.0, n + c.in_ok-gate.gate)) c.base.ensures taken.1) in
    (taken.0, (scanned c.args.side file taken.0 c.in_ok-gate.gate (omega (arith, c.if-len-lt2.false, c.in_ok-len.ensures.value)) walked).stand, taken.2)

pub returns-clause-gate : goal.returns-clause-gate
returns-clause-gate g c =
    let file = g.D.Disk.device.content c.args.disk.now in
    let taken = c.in_ok-gate.ensures.taken in
    let later = g.D.Disk.device.content c.len.new.self in
    let walked = subst (λ (l : List ℕ). walk (base_of c.args.side) 0 l ≡ Ok (taken.0, base_of c.args.side + c.in_ok-gate.gate)) c.len.ensures.content
    (subst (λ (n : ℕ). walk n 0 later ≡ Ok (taken.0, n + c.in_ok-gate.gate)) c.base.ensures taken.1) in
    (scanned c.args.side file taken.0 c.in_ok-gate.gate (omega (arith, c.if-len-lt2.false, c.in_ok-len.ensures.value)) walked).scans
