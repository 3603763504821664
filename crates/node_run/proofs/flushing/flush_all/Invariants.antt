use Rattle.std.proofs.Common.{◌≡◌, false, None}
use Rattle.std.specs.Prelude.{IsSome}
use Rattle.wire.specs.Lists.{Begins}
use Rattle.journal.specs.Journal.{spare_of}
use Rattle.journal.specs.Pairs.{store_of}
use Rattle.journal.specs.Stores.{faults_in}
use Rattle.flusher.specs.Rounds.{journal_of, is_down, settled_in}
use Rattle.node_run.specs.Ends.{ReportsJournal}
use Rattle.node_run.specs.Rewriting.{point_of, ByTheRule, HasCheckpoint, HasNoPlace}
use Rattle.node_run.proofs.Moments.{AllSoFar}
use Rattle.node_run.proofs.flushing.flush_all.Given as goal

abbrev pub invariant-loop : goal.invariant-loop
invariant-loop g l =
    let first = l.initial.rounds.flusher in
    let now = l.rounds.flusher in
    (goal.iterator-loop g).can_next l.iterator' × (goal.iterator-loop g).is_finite l.iterator' × (l.faults.output ≡ false) × (l.faults.input ≡ false)
    × ReportsJournal (faults_in g.D.Disk.device (store_of (journal_of first))) (faults_in g.D.Disk.device (store_of (journal_of now))) (is_down first) (is_down now) l.faults.journal
    (HasNoPlace g.S.Sign.scheme g.D.Disk.device l.initial.rounds.node l.initial.rule l.missed (point_of first) now)
    × (l.rounds.node ≡ l.initial.rounds.node)
    × Begins (settled_in first) (settled_in now)
    × AllSoFar g.S.Sign.scheme g.D.Disk.device l.initial.rounds.node first now
    × (is_down first ≡ false → l.faults.journal ≡ None → ByTheRule g.D.Disk.device (HasCheckpoint g.S.Sign.scheme g.D.Disk.device l.initial.rounds.node) l.initial.rule l.missed
    (point_of first) l.rule (point_of now))
    × (IsSome l.rule.every → IsSome (spare_of (journal_of now)))
    × (is_down now ≡ false → is_down first ≡ false)
    × Begins l.initial.rounds.seat.view.seen l.rounds.seat.view.seen
