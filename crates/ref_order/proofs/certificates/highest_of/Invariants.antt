use Rattle.std.proofs.Common.{◌≡◌, drop, fold, map, max}
use Rattle.ref_order.proofs.certificates.highest_of.Given as goal

-- the greatest so far and among those that are left is the greatest of all
abbrev pub invariant-loop-certificate : goal.invariant-loop-certificate
invariant-loop-certificate l =
    fold max l.highest (map (λ c. c.header.round) (drop l.certificate-index l.certificates)) ≡ fold max 0 (map (λ c. c.header.round) l.certificates)
