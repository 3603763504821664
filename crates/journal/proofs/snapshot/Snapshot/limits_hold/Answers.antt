use Rattle.std.proofs.Common.{List, ℕ, subst}
use Rattle.diskmodel.specs.Outcomes.{AreBytes}
use Rattle.journal.specs.Snapshot.{bytes_for, CanPack}
use Rattle.journal.proofs.Numbered.{numbered_bytes}
use Rattle.journal.proofs.snapshot.Snapshot.limits_hold.Goals as goal

pub returns-clause-packs : goal.returns-clause-packs
returns-clause-packs c = subst CanPack c.self.view_is c.self.invariant.packable

pub returns-clause-are_bytes : goal.returns-clause-are_bytes
returns-clause-are_bytes c generation =
    let inside = c.self.inside in
    let are = numbered_bytes inside.bytes.items inside.place inside.count generation c.self.invariant (subst AreBytes c.deref.ensures.value c.are_bytes.ensures) in
    subst (λ (l : List (List ℕ)). AreBytes (bytes_for generation l)) c.self.view_is are
