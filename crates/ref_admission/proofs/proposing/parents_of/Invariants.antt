use Rattle.std.proofs.Common.{◌≡◌, ℕ, ◌-◌, ◌≤◌, ◌++◌, IsTrue, length, filter_map}
use Rattle.std.specs.List.{range_with_len}
use Rattle.std.specs.Prelude.{option_map}
use Rattle.wire.specs.References.{parent_follows}
use Rattle.committee.specs.Charter.{numbers}
use Rattle.spec_model.specs.Proposing.{as_parent}
use Rattle.spec_model.specs.Slots.{slots_of}
use Rattle.ref_admission.proofs.proposing.parents_of.Given as goal

-- those so far and those of the authors that are left are those of all, and the next one may be added
abbrev pub invariant-loop-author : goal.invariant-loop-author
invariant-loop-author l =
    let make = λ (author : ℕ). option_map as_parent (slots_of l.certificates l.round author) in
    record {
      all : l.found ++ filter_map make (range_with_len l.author (l.size - l.author)) ≡ filter_map make (numbers l.size);
      few : length l.found ≤ l.author;
      follows : IsTrue (parent_follows l.found (record { 0 = l.author }));
    }
