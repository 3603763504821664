use Rattle.std.proofs.Common.{◌≡◌, ℕ, ◌-◌, ◌≤◌, ◌++◌, IsTrue, length, filter_map}
use Rattle.std.specs.List.{range_with_len}
use Rattle.std.specs.Prelude.{option_map}
use Rattle.wire.specs.References.{vote_follows}
use Rattle.spec_model.specs.Holdings.{entry_of}
use Rattle.committee.specs.Charter.{numbers}
use Rattle.ref_order.proofs.votes.votes_of.Given as goal

-- those so far and those of the members that are left are those of all, and the next one may be added
abbrev pub invariant-loop-voter : goal.invariant-loop-voter
invariant-loop-voter g l =
    let make = λ (voter : ℕ). option_map entry_of (g.C.Counted.vote_of l.counted voter) in
    record {
      all : l.found ++ filter_map make (range_with_len l.voter (l.size - l.voter)) ≡ filter_map make (numbers l.size);
      few : length l.found ≤ l.voter;
      follows : IsTrue (vote_follows l.found (record { 0 = l.voter }));
    }
