use Rattle.std.proofs.Common.{◌≡◌, ◌<◌, length, Err, sym, ap, subst, ◌∙◌, arith}
use Rattle.diskmodel.specs.Outcomes.{AreBytes}
use Rattle.journal.specs.Format.{FailsAs, stands}
use Rattle.journal.specs.declared.error.JournalError.{JournalError}
use Rattle.journal_account.proofs.Files.{damaged_below, stands_below}
use Rattle.journal_account.proofs.areas.second_records.Goals as goal

pub move_all-requires-clause-below : goal.move_all-requires-clause-below
move_all-requires-clause-below c = λ k d within.
    let below = stands_below c.args.bytes.items c.in-Ok.records.items (ap stands (sym c.deref-2.ensures.value) ∙ c.in-Ok.ensures.ok) k d within in
    omega (arith, below, c.len-len.ensures, c.args.bytes.ok)

pub overflow_add-gate : goal.overflow_add-gate
overflow_add-gate c =
    let bytes = c.args.bytes.items in
    let gate = c.in-Err-Damaged.gate in
    let are : AreBytes bytes = subst AreBytes c.deref.ensures.value c.is_text.ensures in
    let damaged : stands bytes ≡ Err gate =
    ap stands (sym c.deref-2.ensures.value) ∙ subst (λ (e : JournalError). FailsAs e (stands c.deref-2.result.now)) c.in-Err-Damaged.field-0-is c.in-Err-Damaged.ensures.err in
    let below : gate < length bytes = damaged_below bytes gate ((c.damage_is_found.ensures bytes gate are).0 damaged) in
    omega (arith, below, c.args.bytes.ok, c.args.bytes.small)
