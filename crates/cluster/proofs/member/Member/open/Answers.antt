use Rattle.std.proofs.Common.{List, ℕ, Some, refl, ap, ◌∙◌, subst}
use Rattle.desk.specs.Desk.{IsOpened}
use Rattle.journal.specs.Areas.{alone}
use Rattle.desk.proofs.Worlds.{begins}
use Rattle.opening.specs.Decoded.{decoded}
use Rattle.opening.proofs.Opened.{no_refusal}
use Rattle.spec_world.proofs.Beginning.{runs_begin}
use Rattle.validator.specs.Setting.{node_of}
use Rattle.cluster.specs.Member.{MemberView}
use Rattle.spec_machine.specs.Machine.{fresh}
use Rattle.cluster.proofs.Counting.{reported_nothing}
use Rattle.cluster.proofs.Members.{begins_at, journal_err}
use Rattle.journal.specs.declared.error.JournalError.TheVariants.{Device}
use Rattle.cluster.proofs.member.Member.open.Goals as goal

pub returns-in-Ok-clause-begins : goal.returns-in-Ok-clause-begins
returns-in-Ok-clause-begins g c = λ empty.
    let node = node_of g.S.Sign.scheme c.args.config.now in
    let keys = c.keys_hold.ensures in
    let opened = subst (λ (bytes : List ℕ). IsOpened node g.D.Disk.device (alone bytes) c.in-Ok.desk) empty c.in-Ok.ensures.ok in
    let member : MemberView g.row.S.Denot g.row.D.Denot = record { setting = c.args.config.now; desk = Some c.in-Ok.desk; out = c.new.result } in
    begins_at node g.D.Disk.device member c.in-Ok.desk refl c.new.ensures.outputs c.new.ensures.order
    (begins c.starts_fresh.ensures node g.D.Disk.device c.in-Ok.desk c.limits_hold.ensures keys opened)

pub returns-in-Ok-clause-new : goal.returns-in-Ok-clause-new
returns-in-Ok-clause-new g c = λ empty.
    let node = node_of g.S.Sign.scheme c.args.config.now in
    let opened = subst (λ (bytes : List ℕ). IsOpened node g.D.Disk.device (alone bytes) c.in-Ok.desk) empty c.in-Ok.ensures.ok in
    record {
      desk = c.in-Ok.desk;
      has = refl;
      opened = opened;
      accepted = opened.is_of.stands_at.accepted;
      outputs = c.new.ensures.outputs;
      order = c.new.ensures.order;
    }

pub returns-in-Err-clause-errors : goal.returns-in-Err-clause-errors
returns-in-Err-clause-errors g c = λ empty.
    let node = node_of g.S.Sign.scheme c.args.config.now in
    no_refusal c.in-Err.failed.error (fresh node) (decoded node (g.D.Disk.device.content c.args.disk)) (ap (decoded node) empty ∙ reported_nothing node) c.in-Err.ensures.err.reports

pub returns-in-Ok-clause-runs : goal.returns-in-Ok-clause-runs
returns-in-Ok-clause-runs g c =
    let keys = c.keys_hold.ensures in
    runs_begin (node_of g.S.Sign.scheme c.args.config.now) c.limits_hold.ensures keys

pub returns-in-Err-clause-device : goal.returns-in-Err-clause-device
returns-in-Err-clause-device g c = λ is. (c.in-Err.failed.disk, c.in-Err.ensures.opening.cause.1.0 (journal_err c.in-Err.failed.error Device is))
