use Rattle.std.proofs.Common.{◌≡◌, ◌+◌, [], length}
use Rattle.std.specs.Prelude.{All}
use Rattle.std.specs.BTreeSet.{contains}
use Rattle.std.specs.List.{list_any}
use Rattle.std.specs.Map.{values_of}
use Rattle.batchstore.specs.Kept.{IsUnderItsDigest, compared}
use Rattle.spec_checkpoint.specs.Faults.{batch_tests}
use Rattle.spec_model.specs.Holdings.{batch_digest}
use Rattle.spec_model.specs.Nodes.{node_view}
use Rattle.spec_model.specs.Slots.{same_digest}
use Rattle.spec_model.specs.Words.{Digest}
use Rattle.checkpoint.specs.Judging.{AreHeldAs, NoneFails}
use Rattle.checkpoint.proofs.judging.batches.sound_batches.Given as goal

-- none of the batches so far fails, and they are held; their digests are in the set
abbrev pub invariant-loop-batch : goal.invariant-loop-batch
invariant-loop-batch g l = record {
  place : l.place ≡ l.first + length l.yielded;
  none : NoneFails l.first (batch_tests (node_view g.S.Sign.scheme l.node) [] l.yielded);
  digested : All IsUnderItsDigest l.found.items;
  held : AreHeldAs l.yielded (values_of l.found.items);
  seen : (digest : Digest) → contains compared l.digests digest ≡ list_any (λ other. same_digest (batch_digest other.batch) digest) l.yielded;
}
