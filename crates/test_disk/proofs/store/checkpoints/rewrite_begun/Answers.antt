use Rattle.std.proofs.Common.{inl, inr}
use Rattle.test_disk.proofs.store.checkpoints.rewrite_begun.Goals as goal

pub len-requires : goal.len-requires
len-requires c = elim c.in-Ok.ensures.alive [ inl failed ↦ absurd (cc) | inr alive ↦ alive ]
