use Rattle.std.proofs.Common.{◌≡◌, ℕ, false, length}
use Rattle.std.specs.Prelude.{map, nat_le}
use Rattle.std.specs.BTreeMap.{is_at}
use Rattle.std.specs.List.Sorted.{IsStrictlySortedBy}
use Rattle.std.specs.Map.{lookup}
use Rattle.std.specs.Ordering.{nat_cmp}
use Rattle.admission.proofs.assemblies.Assemblies.forget_to.Given as goal

-- the committee and the validator stay, the rounds rise, and the later ones have what they had
abbrev pub invariant-loop-first : goal.invariant-loop-first
invariant-loop-first l = record {
  charter : l.self-inside.committee.now ≡ l.initial.self-inside.committee.now;
  own : l.self-inside.own ≡ l.initial.self-inside.own;
  rise : IsStrictlySortedBy nat_cmp (map (λ entry. entry.0) l.self-inside.rounds.entries);
  later : (round : ℕ) → nat_le round l.last ≡ false → lookup (is_at (nat_cmp round)) l.self-inside.rounds.entries ≡ lookup (is_at (nat_cmp round)) l.initial.self-inside.rounds.entries;
}

abbrev pub decreases-loop-first : goal.decreases-loop-first
decreases-loop-first l = length l.self-inside.rounds.entries
