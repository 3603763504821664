use Rattle.std.proofs.Common.{inl, inr, ◌∙◌, ap, subst}
use Rattle.journal.specs.Pairs.{areas_in, store_of}
use Rattle.journal.specs.Stores.{faults_in}
use Rattle.journal.specs.declared.error.JournalError.TheVariants.{Device}
use Rattle.validator.specs.Setting.{node_of}
use Rattle.opening.proofs.Reporting.{ok_weaker}
use Rattle.desk.specs.Disks.{HaveStopped}
use Rattle.desk.proofs.Worlds.{stops}
use Rattle.desk.proofs.Openings.{never_refused}
use Rattle.desk.proofs.Stores.{may_leave, faults_from, on_err, err_both}
use Rattle.desk.proofs.desk.Desk.stop_store.Goals as goal

pub returns-clause-ok : goal.returns-clause-ok
returns-clause-ok g c =
    let device = g.D.Disk.device in
    let found = areas_in device c.stopped.result in
    let may = may_leave device c.args.self.journal c.into_store.result c.into_store.ensures found c.stopped.ensures.content in
    ok_weaker c.open_store.result _ _ (λ next opened. (found, may, opened)) c.open_store.ensures.ok

pub returns-clause-err : goal.returns-clause-err
returns-clause-err g c =
    on_err c.open_store.result _
    (c.stopped.result, subst (λ store. HaveStopped g.D.Disk.device store c.stopped.result) c.into_store.ensures c.stopped.ensures, c.open_store.ensures.opening)

pub returns-clause-never_refused : goal.returns-clause-never_refused
returns-clause-never_refused g c =
    let node = node_of g.S.Sign.scheme c.args.config.now in
    let device = g.D.Disk.device in
    let found = areas_in device c.stopped.result in
    let may = may_leave device c.args.self.journal c.into_store.result c.into_store.ensures found c.stopped.ensures.content in
    let opening = c.open_store.ensures.opening in
    err_both c.open_store.result _ _ _
    (λ failed reports full run is. elim (is.left found may) [
      | inl so ↦ never_refused node device c.stopped.result _ failed.error is.stands_at.legal.node_is c.keys_hold.ensures so reports full
      | inr so ↦ never_refused node device c.stopped.result _ failed.error is.stands_at.legal.node_is c.keys_hold.ensures so reports full
    ]) opening.reports opening.full

pub returns-clause-steps : goal.returns-clause-steps
returns-clause-steps g c =
    let node = node_of g.S.Sign.scheme c.args.config.now in
    let device = g.D.Disk.device in
    let found = areas_in device c.stopped.result in
    let may = may_leave device c.args.self.journal c.into_store.result c.into_store.ensures found c.stopped.ensures.content in
    ok_weaker c.open_store.result _ _ (λ next opened world is. stops node device world c.args.self is found
    (λ two. (c.keys_hold.ensures, c.histories_begin_on_two.ensures)) may next opened) c.open_store.ensures.ok

pub returns-clause-cause : goal.returns-clause-cause
returns-clause-cause g c =
    let device = g.D.Disk.device in
    faults_from (faults_in device) (λ next. store_of next.journal) Device (store_of c.args.self.journal) c.stopped.result
    (c.stopped.ensures.faults ∙ ap (faults_in device) c.into_store.ensures) c.open_store.result c.open_store.ensures.opening.cause
