use Rattle.std.proofs.Common.{◌≡◌, ◌*◌, ◌++◌, map, take, drop}
use Rattle.std.specs.List.{range_with_len}
use Rattle.spec_checkpoint.specs.Faults.{piece_tests}
use Rattle.spec_checkpoint.specs.Records.{ORDER_PIECE}
use Rattle.ref_checkpoint.proofs.judging.put_order_tests.Given as goal

-- the tests of the pieces so far have been put
abbrev pub invariant-loop : goal.invariant-loop
invariant-loop l = l.tests.items ≡ l.initial.tests.items ++ piece_tests (map (λ piece. take ORDER_PIECE (drop (ORDER_PIECE * piece) l.digests)) (range_with_len 0 l.counter))
