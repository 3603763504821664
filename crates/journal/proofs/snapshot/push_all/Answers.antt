use Rattle.std.proofs.Common.{sym, ◌∙◌, subst}
use Rattle.std.proofs.lemmas.List.{append-nil}
use Rattle.journal.specs.Snapshot.{FitsAlone}
use Rattle.journal.proofs.Drafting.{alone_at}
use Rattle.journal.proofs.snapshot.push_all.Goals as goal

pub push-requires : goal.push-requires
push-requires c =
    subst FitsAlone (sym (append-nil c.as_slice.result.now ∙ c.as_slice.ensures.value))
    (alone_at c.args.records.now c.loop-record.record-index c.record-item.result c.loop-record-test.true c.record-item.is c.requires)
