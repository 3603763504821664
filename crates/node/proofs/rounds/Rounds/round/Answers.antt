use Rattle.std.proofs.Common.{subst}
use Rattle.std.specs.Prelude.{◌⊎◌, ◌<◌, IfOk, IsErrOf, OnOk}
use Rattle.diskmodel.specs.Disk.{AtEachMoment}
use Rattle.flusher.specs.Rounds.{journal_of, settled_in, taken_in, areas_at, AddsSettled, HoldsEither, KeepsEarlier}
use Rattle.flusher.specs.declared.FlushError.TheVariants.{Down}
use Rattle.journal.specs.Journal.{disk_of}
use Rattle.journal.specs.Pairs.{areas_of}
use Rattle.node.specs.Callers.{RoundsView}
use Rattle.node.specs.Rounds.{Flushes}
use Rattle.node.proofs.Flushed.{round_flushes}
use Rattle.node.proofs.rounds.Rounds.round.Goals as goal

-- the flusher is that of the view
pub returns-clause-any_moment : goal.returns-clause-any_moment
returns-clause-any_moment g c =
    let device = g.D.Disk.device in
    subst (λ (r : RoundsView g.row.S.Denot g.row.D.Denot). IsErrOf c.round.result Down ⊎ AtEachMoment device (disk_of (journal_of r.flusher)) (disk_of (journal_of c.round.new.self))
    (λ left. HoldsEither g.S.Sign.scheme r.node (settled_in r.flusher) (taken_in c.round.new.self) (areas_of device (journal_of r.flusher)) (areas_at device (journal_of r.flusher) left)))
    c.self.view_is c.round.ensures.any_moment

pub returns-clause-earlier : goal.returns-clause-earlier
returns-clause-earlier g c =
    let device = g.D.Disk.device in
    subst (λ (r : RoundsView g.row.S.Denot g.row.D.Denot). OnOk c.round.result
    (KeepsEarlier g.S.Sign.scheme r.node (settled_in r.flusher) (settled_in c.round.new.self) (areas_of device (journal_of r.flusher)) (areas_of device (journal_of c.round.new.self))))
    c.self.view_is c.round.ensures.earlier

pub returns-clause-flushes : goal.returns-clause-flushes
returns-clause-flushes g c =
    let device = g.D.Disk.device in
    subst (λ (r : RoundsView g.row.S.Denot g.row.D.Denot). Flushes g.S.Sign.scheme device r.node r.flusher c.round.new.self c.round.result) c.self.view_is
    (round_flushes g.S.Sign.scheme device g.met.D.Disk.only_now c.self.inside.node.now c.self.inside.flusher c.round.new.self c.round.result c.self.invariant.1 c.round.ensures.down _ _
    c.round.ensures.settles c.round.ensures.cause c.round.ensures.spare c.round.ensures.any_moment c.round.ensures.earlier)

pub returns-clause-adds : goal.returns-clause-adds
returns-clause-adds g c =
    subst (λ (r : RoundsView g.row.S.Denot g.row.D.Denot). IfOk c.round.result (λ count. 0 < count → AddsSettled g.D.Disk.device r.flusher c.round.new.self)) c.self.view_is c.round.ensures.adds
