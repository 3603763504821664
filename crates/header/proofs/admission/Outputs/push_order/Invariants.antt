use Rattle.std.proofs.Common.{◌≡◌, ◌+◌, ◌-◌, ◌/◌, ◌++◌, length, map}
use Rattle.std.specs.List.{range_with_len}
use Rattle.header.specs.Answers.{piece_at, pieces}
use Rattle.header.proofs.admission.Outputs.push_order.Given as goal

-- the pieces so far and those that are left are all
abbrev pub invariant-loop-piece : goal.invariant-loop-piece
invariant-loop-piece l =
    l.self ++ map (piece_at l.start l.digests) (range_with_len l.piece ((length l.digests + 15999) / 16000 - l.piece))
    ≡ l.fn.self ++ pieces l.start l.digests
