use Rattle.std.proofs.Common.{[], ◌∷◌, ap, ◌∙◌}
use Rattle.journal.specs.Snapshot.{records_in}
use Rattle.journal.proofs.Drafting.{fresh}
use Rattle.journal.proofs.Packing.{records_back}
use Rattle.journal.proofs.draft.SnapshotDraft.new.Goals as goal

pub invariant_of-result : goal.invariant_of-result
invariant_of-result c = fresh c.in_ok-bytes.bytes.items c.args.configuration.now c.in_ok-bytes.ensures c.requires.fits c.requires.shaped

pub returns : goal.returns
returns c = ap records_in c.in_ok-bytes.ensures ∙ records_back 0 (c.args.configuration.now ∷ []) c.requires.fits
