use Rattle.book.proofs.Packs.{empty_reports}
use Rattle.book.proofs.pending.Pending.is_empty.Goals as goal

pub returns : goal.returns
returns c = empty_reports c.self.inside.drafts.items c.args.self.now c.self.inside.drafts.len c.is_empty.result c.self.inside.drafts.ok.0 c.is_empty.ensures c.self.invariant c.self.view_is
