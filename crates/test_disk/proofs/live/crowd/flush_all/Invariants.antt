use Rattle.std.specs.Prelude.{IsSome, IsTrue}
use Rattle.flusher.specs.Rounds.{journal_of}
use Rattle.journal.specs.Journal.{spare_of}
use Rattle.test_disk.proofs.live.crowd.flush_all.Given as goal

-- only a journal on two disks is rewritten
abbrev pub invariant-loop-turn : goal.invariant-loop-turn
invariant-loop-turn g l = IsTrue l.rewrites → IsSome (spare_of (journal_of l.rounds.flusher))
