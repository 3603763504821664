use Rattle.std.proofs.Common.{◌≡◌, []}
use Rattle.node_lock.proofs.guard.Lock.acquire.Given as goal

abbrev pub ghosts-take_wanted : goal.ghosts-take_wanted
ghosts-take_wanted g a = record { known = g.F.Fits.fits a.self.now.key }

abbrev pub invariant-loop : goal.invariant-loop
invariant-loop g l = (l.seat.table_id ≡ l.self.id) × (l.seat.me.1 ≡ [])
