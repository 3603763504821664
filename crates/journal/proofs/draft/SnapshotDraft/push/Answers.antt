use Rattle.std.proofs.Common.{arith}
use Rattle.journal.specs.Drafts.{whole}
use Rattle.journal.proofs.Drafting.{pushed}
use Rattle.journal.proofs.draft.SnapshotDraft.push.Goals as goal

pub invariant_of-self-2 : goal.invariant_of-self-2
invariant_of-self-2 c =
    let now = c.in_ok-self-inside.field-0 in
    let was = c.self.inside in
    pushed was.bytes.items c.put_record.new.bytes.items was.place was.count was.last.start was.last.records now.start now.records (whole c.args.parts.now) c.self.invariant
    c.in_ok-self-inside.ensures.draft c.in_ok-self-inside.ensures.records (omega (arith, c.in_ok-self-inside.ensures.longer, was.bytes.ok, c.put_record.new.bytes.ok))
