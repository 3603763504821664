use Rattle.std.proofs.Common.{◌≡◌, length, drop}
use Rattle.diskmodel.proofs.Spans.{DifferWithin}
use Rattle.diskmodel.proofs.history.copy_spans.Given as goal

abbrev pub invariant-loop-span : goal.invariant-loop-span
invariant-loop-span l = record {
  size : length l.into ≡ length l.initial.into;
  differ : DifferWithin (drop l.span-index l.spans) (length l.into) l.from l.into;
}
