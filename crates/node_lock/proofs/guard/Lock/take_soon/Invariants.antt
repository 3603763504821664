use Rattle.std.proofs.Common.{◌≡◌, []}
use Rattle.node_lock.proofs.guard.Lock.take_soon.Given as goal

abbrev pub ghosts-take_free : goal.ghosts-take_free
ghosts-take_free g a = record { known = g.F.Fits.fits a.self.now.key }

abbrev pub invariant-loop-doublings : goal.invariant-loop-doublings
invariant-loop-doublings g l = (l.seat.table_id ≡ l.self.id) × (l.seat.me.1 ≡ [])
