use Rattle.std.proofs.Common.{subst, sym}
use Rattle.std.specs.Prelude.{◌⊎◌, IsErrOf, IsSome, OnOk}
use Rattle.diskmodel.specs.Disk.{AtEachMoment}
use Rattle.flusher.specs.Rounds.{journal_of, settled_in, taken_in, HoldsEither, IsAtCheckpoint, KeepsEarlier}
use Rattle.flusher.specs.declared.FlushError.TheVariants.{Down}
use Rattle.journal.specs.Journal.{spare_of}
use Rattle.journal.specs.Pairs.{areas_of, areas_with, rewritten_disk, spare_disk}
use Rattle.node.specs.Callers.{RoundsView}
use Rattle.node.specs.Rounds.{Flushes}
use Rattle.node.proofs.Flushed.{checkpoint_flushes}
use Rattle.node.proofs.rounds.Rounds.checkpoint.Goals as goal

-- the flusher is that of the view
pub returns-clause-any_moment : goal.returns-clause-any_moment
returns-clause-any_moment g c =
    let device = g.D.Disk.device in
    subst (λ (r : RoundsView g.row.S.Denot g.row.D.Denot). IsErrOf c.checkpoint.result Down
    ⊎ AtEachMoment device (spare_disk (journal_of r.flusher)) (rewritten_disk c.checkpoint.result (journal_of c.checkpoint.new.self))
    (λ left. HoldsEither g.S.Sign.scheme r.node (settled_in r.flusher) (taken_in c.checkpoint.new.self) (areas_of device (journal_of r.flusher)) (areas_with device (journal_of r.flusher) left)))
    c.self.view_is c.checkpoint.ensures.any_moment

pub returns-clause-earlier : goal.returns-clause-earlier
returns-clause-earlier g c =
    let device = g.D.Disk.device in
    subst (λ (r : RoundsView g.row.S.Denot g.row.D.Denot). OnOk c.checkpoint.result
    (KeepsEarlier g.S.Sign.scheme r.node (settled_in r.flusher) (settled_in c.checkpoint.new.self) (areas_of device (journal_of r.flusher)) (areas_of device (journal_of c.checkpoint.new.self))))
    c.self.view_is c.checkpoint.ensures.earlier

pub returns-clause-flushes : goal.returns-clause-flushes
returns-clause-flushes g c =
    let device = g.D.Disk.device in
    subst (λ (r : RoundsView g.row.S.Denot g.row.D.Denot). Flushes g.S.Sign.scheme device r.node r.flusher c.checkpoint.new.self c.checkpoint.result) c.self.view_is
    (checkpoint_flushes g.S.Sign.scheme device g.met.D.Disk.only_now c.self.inside.node.now c.self.inside.flusher c.checkpoint.new.self c.checkpoint.result
    c.self.invariant.1 c.checkpoint.ensures.down _ _
    c.checkpoint.ensures.settles (subst (λ (r : RoundsView g.row.S.Denot g.row.D.Denot). IsSome (spare_of (journal_of r.flusher))) (sym c.self.view_is) c.requires.pair)
    c.checkpoint.ensures.cause c.checkpoint.ensures.swapped c.checkpoint.ensures.keeps c.checkpoint.ensures.untouched
    c.checkpoint.ensures.any_moment c.checkpoint.ensures.earlier)

pub returns-clause-writes : goal.returns-clause-writes
returns-clause-writes g c =
    subst (λ (r : RoundsView g.row.S.Denot g.row.D.Denot). OnOk c.checkpoint.result (IsAtCheckpoint g.S.Sign.scheme g.D.Disk.device r.node c.checkpoint.new.self)) c.self.view_is
    c.checkpoint.ensures.writes
