use Rattle.std.proofs.Common.{sym, ◌∙◌, subst}
use Rattle.journal.specs.Pairs.{areas_in}
use Rattle.validator.specs.Setting.{ConfigView, node_of}
use Rattle.validator.specs.Standing.{AreAtSound}
use Rattle.spec_model.specs.States.{State}
use Rattle.book.specs.Book.{Stands, run_on}
use Rattle.opening.specs.Laws.{IsReadIn}
use Rattle.desk.proofs.Worlds.{opened_at_begun}
use Rattle.desk.proofs.Openings.{set_at, opened_of, opened_desk, opening_desk_on, held_as, as_many}
use Rattle.desk.proofs.desk.Desk.open_store.Goals as goal

pub over-requires : goal.over-requires
over-requires g c = record {
  alive = c.in-Ok.ensures.alive;
  begun = c.in-Ok.ensures.begun;
  stands = set_at g.S.Sign.scheme c.in-Ok.ensures.setting c.in-Ok.ensures.stands;
}

pub returns-in-Ok-clause-ok : goal.returns-in-Ok-clause-ok
returns-in-Ok-clause-ok g c =
    let node = node_of g.S.Sign.scheme c.args.config.now in
    let device = g.D.Disk.device in
    let journal = c.in-Ok.journal in
    let tables = c.in-Ok.validator.tables in
    let stands = subst (λ (s : ConfigView g.row.S.Denot). (base : State) → AreAtSound (node_of g.S.Sign.scheme s) tables base
    → Stands (node_of g.S.Sign.scheme s) (run_on base) c.over.result.book) c.in-Ok.ensures.setting c.over.ensures.stands in
    opened_desk node device c.over.result journal c.over.ensures.journal (areas_in device c.args.store)
    (opened_of node device (areas_in device c.args.store) tables c.over.result.book journal c.in-Ok.ensures.stands stands
    c.over.ensures.waits c.over.ensures.up c.over.ensures.free c.over.ensures.small c.in-Ok.ensures.alive c.in-Ok.ensures.begun
    (as_many node device c.args.store journal c.in-Ok.ensures.disks) c.in-Ok.ensures.configured c.in-Ok.ensures.same (held_as node device journal tables c.in-Ok.ensures.holds c.in-Ok.ensures.newest))

pub returns-in-Ok-clause-world : goal.returns-in-Ok-clause-world
returns-in-Ok-clause-world g c = λ world history begun beside is.
    let node = node_of g.S.Sign.scheme c.args.config.now in
    let opened = returns-in-Ok-clause-ok g c in
    opened_at_begun node g.D.Disk.device (areas_in g.D.Disk.device c.args.store) _ opened.is_of.stands_at.legal.node_is opened begun.moves world begun.run begun.on history is begun.is beside

pub returns-in-Ok-clause-read : goal.returns-in-Ok-clause-read
returns-in-Ok-clause-read g c =
    let node = node_of g.S.Sign.scheme c.args.config.now in
    subst (λ j. IsReadIn node g.D.Disk.device c.args.store j) (sym c.over.ensures.journal) c.in-Ok.ensures.disks

pub returns-in-Ok-clause-opening : goal.returns-in-Ok-clause-opening
returns-in-Ok-clause-opening g c =
    opening_desk_on (node_of g.S.Sign.scheme c.args.config.now) g.D.Disk.device c.over.result c.in-Ok.journal c.over.ensures.journal c.in-Ok.validator c.args.store c.in-Ok.ensures.opening
