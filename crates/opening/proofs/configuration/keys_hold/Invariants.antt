use Rattle.std.proofs.Common.{take}
use Rattle.std.specs.Prelude.{All}
use Rattle.wire.specs.Fields.{HasBytes}
use Rattle.opening.proofs.configuration.keys_hold.Given as goal

-- the keys so far
abbrev pub invariant-loop-member : goal.invariant-loop-member
invariant-loop-member l = All (λ key. HasBytes 32 key.0) (take l.member l.committee.keys)
