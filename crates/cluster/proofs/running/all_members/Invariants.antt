use Rattle.std.proofs.Common.{◌≡◌, Ok}
use Rattle.std.specs.List.{AllZip}
use Rattle.cluster.proofs.running.all_members.Given as goal

-- those so far ended well
abbrev pub invariant-ended : goal.invariant-ended
invariant-ended g l = record {
  so_far : AllZip (λ one member. one ≡ Ok member) l.yielded l.members.items;
  can_next : (goal.iterator-ended g).can_next l.member-iterator;
  is_finite : (goal.iterator-ended g).is_finite l.member-iterator;
}
