use Rattle.std.proofs.Common.{sym, ◌∙◌, subst}
use Rattle.journal.specs.Areas.{alone}
use Rattle.validator.specs.Setting.{ConfigView, node_of}
use Rattle.validator.specs.Standing.{AreAtSound}
use Rattle.spec_model.specs.States.{State}
use Rattle.book.specs.Book.{Stands, run_on}
use Rattle.journal.specs.Journal.{disk_of}
use Rattle.desk.proofs.Reading.{alone_configured}
use Rattle.desk.proofs.Worlds.{not_two, opened_at_begun}
use Rattle.desk.proofs.Openings.{set_at, opened_of, opened_desk, opening_desk, decoded_as_one, same_reported, not_opened_of}
use Rattle.desk.proofs.desk.Desk.open.Goals as goal

pub over-requires : goal.over-requires
over-requires g c = record {
  alive = c.in-Ok.ensures.alive;
  begun = λ some. absurd (not_two c.in-Ok.journal c.in-Ok.ensures.alone some);
  stands = set_at g.S.Sign.scheme c.in-Ok.ensures.setting c.in-Ok.ensures.stands;
}

pub returns-in-Ok-clause-ok : goal.returns-in-Ok-clause-ok
returns-in-Ok-clause-ok g c =
    let node = node_of g.S.Sign.scheme c.args.config.now in
    let device = g.D.Disk.device in
    let journal = c.in-Ok.journal in
    let tables = c.in-Ok.validator.tables in
    let one = c.in-Ok.ensures.alone in
    let stands = subst (λ (s : ConfigView g.row.S.Denot). (base : State) → AreAtSound (node_of g.S.Sign.scheme s) tables base
    → Stands (node_of g.S.Sign.scheme s) (run_on base) c.over.result.book) c.in-Ok.ensures.setting c.over.ensures.stands in
    opened_desk node device c.over.result journal c.over.ensures.journal (alone (device.content c.args.disk))
    (opened_of node device (alone (device.content c.args.disk)) tables c.over.result.book journal c.in-Ok.ensures.stands stands
    c.over.ensures.waits c.over.ensures.up c.over.ensures.free c.over.ensures.small c.in-Ok.ensures.alive (λ some. absurd (not_two journal one some)) one
    (alone_configured device journal one c.in-Ok.ensures.configured) (same_reported node device journal one c.in-Ok.ensures.same) (decoded_as_one node device journal one))

pub returns-in-Ok-clause-world : goal.returns-in-Ok-clause-world
returns-in-Ok-clause-world g c = λ world history begun is.
    let node = node_of g.S.Sign.scheme c.args.config.now in
    let bytes = g.D.Disk.device.content c.args.disk in
    let opened = returns-in-Ok-clause-ok g c in
    opened_at_begun node g.D.Disk.device (alone bytes) _ opened.is_of.stands_at.legal.node_is opened begun.moves world begun.run begun.on history is begun.is
    (λ some. absurd (not_two c.over.result.journal opened.disks some))

pub returns-in-Ok-clause-opening : goal.returns-in-Ok-clause-opening
returns-in-Ok-clause-opening g c =
    opening_desk (node_of g.S.Sign.scheme c.args.config.now) g.D.Disk.device c.over.result c.in-Ok.journal c.over.ensures.journal c.in-Ok.validator c.args.disk c.in-Ok.ensures.opening

pub returns-in-Err-clause-err : goal.returns-in-Err-clause-err
returns-in-Err-clause-err g c =
    not_opened_of (node_of g.S.Sign.scheme c.args.config.now) g.D.Disk.device (λ opened. disk_of opened.1) c.args.disk c.in-Err.failed c.in-Err.ensures.opening
    g.met.D.Disk.counts_now

pub returns-in-Err-clause-opening : goal.returns-in-Err-clause-opening
returns-in-Err-clause-opening g c =
    let opened = c.in-Err.ensures.opening in
    record {
      reports = opened.reports;
      never_full = opened.never_full;
      cause = (tt, opened.cause.1);
      any_moment = opened.any_moment;
      keeps = opened.keeps;
      never_refused = opened.never_refused;
    }
