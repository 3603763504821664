use Rattle.std.proofs.Common.{◌≡◌, None, Result, Ok, Err, sym, ap, ◌∙◌, subst, arith}
use Rattle.std.specs.Prelude.{IfOk, IfErr}
use Rattle.header.specs.Checks.{fault_of, accepts_all}
use Rattle.desk.specs.Disks.{Leaves}
use Rattle.journal.specs.Pairs.{areas_in, store_of}
use Rattle.journal.specs.Stores.{faults_in}
use Rattle.journal.specs.declared.journal.Journal.{Journal}
use Rattle.validator.specs.Setting.{ConfigView, node_of}
use Rattle.spec_world.specs.Text.{Desk, after, take_in, flush, checkpoint, Command as ScriptCommand}
use Rattle.recovery.specs.Script.{said, is_two, Passes, CarriesOut, IsOf, Breaks}
use Rattle.recovery.specs.declared.driving.Command.{Command}
use Rattle.opening.proofs.Reporting.{ok_weaker, err_weaker}
use Rattle.recovery.proofs.commands.apply.Goals as goal

pub with_event-requires-clause-stands : goal.with_event-requires-clause-stands
with_event-requires-clause-stands g c = (
  c.requires.stands.0,
  subst (λ (s : ConfigView g.row.S.Denot). IsOf (node_of g.S.Sign.scheme s) g.D.Disk.device c.requires.stands.0
      c.args.desk.book c.args.desk.journal) (sym c.requires.setting) c.requires.stands.1,
)

pub with_event-requires-clause-passed : goal.with_event-requires-clause-passed
with_event-requires-clause-passed g c =
    subst (λ (s : ConfigView g.row.S.Denot). fault_of s.charter accepts_all c.in-Event.event ≡ None) (sym c.requires.setting)
    (subst (λ (k : Command). Passes c.args.config.now.charter k) c.in-Event.is c.requires.passed)

pub flushed-requires : goal.flushed-requires
flushed-requires g c = record {
  stands = (
    c.requires.stands.0,
    subst (λ (s : ConfigView g.row.S.Denot). IsOf (node_of g.S.Sign.scheme s) g.D.Disk.device c.requires.stands.0
        c.args.desk.book c.args.desk.journal) (sym c.requires.setting) c.requires.stands.1,
  );
}

pub rewritten-requires : goal.rewritten-requires
rewritten-requires g c = record {
  stands = (
    c.requires.stands.0,
    subst (λ (s : ConfigView g.row.S.Denot). IsOf (node_of g.S.Sign.scheme s) g.D.Disk.device c.requires.stands.0
        c.args.desk.book c.args.desk.journal) (sym c.requires.setting) c.requires.stands.1,
  );
  pair = subst (CarriesOut (is_two (store_of c.args.desk.journal))) c.in-Checkpoint.is c.requires.can;
}

pub returns-in-Event-clause-ok : goal.returns-in-Event-clause-ok
returns-in-Event-clause-ok g c =
    subst (λ (k : ScriptCommand). IfOk c.with_event.result
    (λ next. (desk : Desk) → IsOf (node_of g.S.Sign.scheme c.args.config.now) g.D.Disk.device desk c.args.desk.book c.args.desk.journal
    → IsOf (node_of g.S.Sign.scheme c.args.config.now) g.D.Disk.device (after (node_of g.S.Sign.scheme c.args.config.now) desk k) next.book
    next.journal)) (ap said (sym c.in-Event.is))
    (subst (λ (s : ConfigView g.row.S.Denot). IfOk c.with_event.result
    (λ next. (desk : Desk) → IsOf (node_of g.S.Sign.scheme s) g.D.Disk.device desk c.args.desk.book c.args.desk.journal
    → IsOf (node_of g.S.Sign.scheme s) g.D.Disk.device (after (node_of g.S.Sign.scheme s) desk (take_in c.in-Event.event)) next.book
    next.journal)) c.requires.setting c.with_event.ensures.ok)

pub returns-in-Event-clause-err : goal.returns-in-Event-clause-err
returns-in-Event-clause-err g c =
    subst (λ (k : ScriptCommand). IfErr c.with_event.result
    (λ failed. (desk : Desk) → IsOf (node_of g.S.Sign.scheme c.args.config.now) g.D.Disk.device desk c.args.desk.book c.args.desk.journal
    → Breaks (node_of g.S.Sign.scheme c.args.config.now) desk k failed.error (areas_in g.D.Disk.device failed.disk)
    (Leaves g.D.Disk.device failed.disk))) (ap said (sym c.in-Event.is))
    (subst (λ (s : ConfigView g.row.S.Denot). IfErr c.with_event.result
    (λ failed. (desk : Desk) → IsOf (node_of g.S.Sign.scheme s) g.D.Disk.device desk c.args.desk.book c.args.desk.journal
    → Breaks (node_of g.S.Sign.scheme s) desk (take_in c.in-Event.event) failed.error (areas_in g.D.Disk.device failed.disk)
    (Leaves g.D.Disk.device failed.disk))) c.requires.setting c.with_event.ensures.err)

pub returns-in-Event-clause-setting : goal.returns-in-Event-clause-setting
returns-in-Event-clause-setting g c = ok_weaker c.with_event.result _ _ (λ next same. same ∙ c.requires.setting) c.with_event.ensures.setting

pub returns-in-Flush-clause-ok : goal.returns-in-Flush-clause-ok
returns-in-Flush-clause-ok g c =
    subst (λ (k : ScriptCommand). IfOk c.flushed.result
    (λ next. (desk : Desk) → IsOf (node_of g.S.Sign.scheme c.args.config.now) g.D.Disk.device desk c.args.desk.book c.args.desk.journal
    → IsOf (node_of g.S.Sign.scheme c.args.config.now) g.D.Disk.device (after (node_of g.S.Sign.scheme c.args.config.now) desk k) next.book
    next.journal)) (ap said (sym c.in-Flush.is))
    (subst (λ (s : ConfigView g.row.S.Denot). IfOk c.flushed.result
    (λ next. (desk : Desk) → IsOf (node_of g.S.Sign.scheme s) g.D.Disk.device desk c.args.desk.book c.args.desk.journal
    → IsOf (node_of g.S.Sign.scheme s) g.D.Disk.device (after (node_of g.S.Sign.scheme s) desk flush) next.book next.journal)) c.requires.setting
    c.flushed.ensures.ok)

pub returns-in-Flush-clause-err : goal.returns-in-Flush-clause-err
returns-in-Flush-clause-err g c =
    subst (λ (k : ScriptCommand). IfErr c.flushed.result
    (λ failed. (desk : Desk) → IsOf (node_of g.S.Sign.scheme c.args.config.now) g.D.Disk.device desk c.args.desk.book c.args.desk.journal
    → Breaks (node_of g.S.Sign.scheme c.args.config.now) desk k failed.error (areas_in g.D.Disk.device failed.disk)
    (Leaves g.D.Disk.device failed.disk))) (ap said (sym c.in-Flush.is))
    (subst (λ (s : ConfigView g.row.S.Denot). IfErr c.flushed.result
    (λ failed. (desk : Desk) → IsOf (node_of g.S.Sign.scheme s) g.D.Disk.device desk c.args.desk.book c.args.desk.journal
    → Breaks (node_of g.S.Sign.scheme s) desk flush failed.error (areas_in g.D.Disk.device failed.disk) (Leaves g.D.Disk.device failed.disk)))
    c.requires.setting c.flushed.ensures.err)

pub returns-in-Flush-clause-setting : goal.returns-in-Flush-clause-setting
returns-in-Flush-clause-setting g c = ok_weaker c.flushed.result _ _ (λ next same. same ∙ c.requires.setting) c.flushed.ensures.setting

pub returns-in-Checkpoint-clause-ok : goal.returns-in-Checkpoint-clause-ok
returns-in-Checkpoint-clause-ok g c =
    subst (λ (k : ScriptCommand). IfOk c.rewritten.result
    (λ next. (desk : Desk) → IsOf (node_of g.S.Sign.scheme c.args.config.now) g.D.Disk.device desk c.args.desk.book c.args.desk.journal
    → IsOf (node_of g.S.Sign.scheme c.args.config.now) g.D.Disk.device (after (node_of g.S.Sign.scheme c.args.config.now) desk k) next.book
    next.journal)) (ap said (sym c.in-Checkpoint.is))
    (subst (λ (s : ConfigView g.row.S.Denot). IfOk c.rewritten.result
    (λ next. (desk : Desk) → IsOf (node_of g.S.Sign.scheme s) g.D.Disk.device desk c.args.desk.book c.args.desk.journal
    → IsOf (node_of g.S.Sign.scheme s) g.D.Disk.device (after (node_of g.S.Sign.scheme s) desk checkpoint) next.book next.journal)) c.requires.setting
    c.rewritten.ensures.ok)

pub returns-in-Checkpoint-clause-err : goal.returns-in-Checkpoint-clause-err
returns-in-Checkpoint-clause-err g c =
    subst (λ (k : ScriptCommand). IfErr c.rewritten.result
    (λ failed. (desk : Desk) → IsOf (node_of g.S.Sign.scheme c.args.config.now) g.D.Disk.device desk c.args.desk.book c.args.desk.journal
    → Breaks (node_of g.S.Sign.scheme c.args.config.now) desk k failed.error (areas_in g.D.Disk.device failed.disk)
    (Leaves g.D.Disk.device failed.disk))) (ap said (sym c.in-Checkpoint.is))
    (subst (λ (s : ConfigView g.row.S.Denot). IfErr c.rewritten.result
    (λ failed. (desk : Desk) → IsOf (node_of g.S.Sign.scheme s) g.D.Disk.device desk c.args.desk.book c.args.desk.journal
    → Breaks (node_of g.S.Sign.scheme s) desk checkpoint failed.error (areas_in g.D.Disk.device failed.disk) (Leaves g.D.Disk.device failed.disk)))
    c.requires.setting c.rewritten.ensures.err)

pub returns-in-Checkpoint-clause-setting : goal.returns-in-Checkpoint-clause-setting
returns-in-Checkpoint-clause-setting g c = ok_weaker c.rewritten.result _ _ (λ next same. same ∙ c.requires.setting) c.rewritten.ensures.setting

pub returns-in-Stop-clause-ok : goal.returns-in-Stop-clause-ok
returns-in-Stop-clause-ok g c =
    subst (λ (k : ScriptCommand). IfOk c.stopped.result
    (λ next. (desk : Desk) → IsOf (node_of g.S.Sign.scheme c.args.config.now) g.D.Disk.device desk c.args.desk.book c.args.desk.journal
    → IsOf (node_of g.S.Sign.scheme c.args.config.now) g.D.Disk.device (after (node_of g.S.Sign.scheme c.args.config.now) desk k) next.book
    next.journal)) (ap said (sym c.in-Stop.is))
    c.stopped.ensures.ok

pub returns-in-Stop-clause-err : goal.returns-in-Stop-clause-err
returns-in-Stop-clause-err g c =
    subst (λ (k : ScriptCommand). IfErr c.stopped.result
    (λ failed. (desk : Desk) → IsOf (node_of g.S.Sign.scheme c.args.config.now) g.D.Disk.device desk c.args.desk.book c.args.desk.journal
    → Breaks (node_of g.S.Sign.scheme c.args.config.now) desk k failed.error (areas_in g.D.Disk.device failed.disk)
    (Leaves g.D.Disk.device failed.disk))) (ap said (sym c.in-Stop.is))
    c.stopped.ensures.err

err_by_both : {T E : Type 0} (result : Result T E) (P Q R : E → Type 0) → ((error : E) → P error → Q error → R error) → IfErr result P → IfErr result Q → IfErr result R
err_by_both (Ok value) P Q R both one other = tt
err_by_both (Err error) P Q R both one other = both error one other

pub returns-in-Event-clause-cause : goal.returns-in-Event-clause-cause
returns-in-Event-clause-cause g c = (
  ok_weaker c.with_event.result _ _ (λ next same. ap (λ (j : Journal g.row.D.Denot). faults_in g.D.Disk.device (store_of j)) same) c.with_event.ensures.same,
  err_by_both c.with_event.result _ _ _ (λ failed same memory. (λ device. absurd (cc), λ other. ap (faults_in g.D.Disk.device) same)) c.with_event.ensures.same_err c.with_event.ensures.memory,
)

pub returns-in-Flush-clause-count : goal.returns-in-Flush-clause-count
returns-in-Flush-clause-count g c = ok_weaker c.flushed.result _ _ (λ next same. omega (arith, same)) c.flushed.ensures.count

pub returns-in-Checkpoint-clause-count : goal.returns-in-Checkpoint-clause-count
returns-in-Checkpoint-clause-count g c = ok_weaker c.rewritten.result _ _ (λ next same. omega (arith, same)) c.rewritten.ensures.count

pub returns-in-Event-clause-disks : goal.returns-in-Event-clause-disks
returns-in-Event-clause-disks g c = (
  ok_weaker c.with_event.result _ _ (λ next same. ap (λ (j : Journal g.row.D.Denot). is_two (store_of j)) same) c.with_event.ensures.same,
  err_weaker c.with_event.result _ _ (λ failed same. ap is_two same) c.with_event.ensures.same_err,
)

pub returns-in-Stop-clause-count : goal.returns-in-Stop-clause-count
returns-in-Stop-clause-count g c = ok_weaker c.stopped.result _ _ (λ next same. omega (arith, same)) c.stopped.ensures.count
