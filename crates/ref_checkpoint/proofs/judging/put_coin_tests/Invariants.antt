use Rattle.std.proofs.Common.{◌≡◌, ◌*◌, ◌++◌, map, take, drop}
use Rattle.std.specs.List.{range_with_len}
use Rattle.spec_checkpoint.specs.Faults.{piece_tests}
use Rattle.spec_checkpoint.specs.Records.{COINS_PIECE}
use Rattle.ref_checkpoint.proofs.judging.put_coin_tests.Given as goal

-- the tests of the pieces so far have been put
abbrev pub invariant-loop : goal.invariant-loop
invariant-loop l = l.tests.items ≡ l.initial.tests.items ++ piece_tests (map (λ piece. take COINS_PIECE (drop (COINS_PIECE * piece) l.coins)) (range_with_len 0 l.counter))
