use Rattle.journal.proofs.Drafting.{as_snapshot}
use Rattle.journal.proofs.draft.SnapshotDraft.close.Goals as goal

pub of_bytes-requires : goal.of_bytes-requires
of_bytes-requires c = as_snapshot c.self.inside.bytes.items c.self.inside.place c.self.inside.count c.self.inside.last.start c.self.inside.last.records c.self.invariant
