use Rattle.std.proofs.Common.{◌<◌, ◌^◌, ℕ, [], drop}
use Rattle.spec_model.specs.Ordering.{segments}
use Rattle.spec_model.specs.Words.{Author}
use Rattle.std.specs.Prelude.{Option}
use Rattle.tusk.specs.Chain.{ledger_in}
use Rattle.flatten.specs.Segments.{leader_held, read_references_by, digests_of, leaders_in, AreLinked, IsMarkedFor}
use Rattle.flatten.specs.Sets.{is_free}
use Rattle.flatten.proofs.Leaders.{IsAfter, before_at}
use Rattle.flatten.proofs.lengthening.Lengthening.new.Given as goal

-- the leaders of the places so far are taken
abbrev pub invariant-loop-place : goal.invariant-loop-place
invariant-loop-place l =
    (l.reads < 2 ^ 64)
    × ((previous : Option (ℕ × Author)) → AreLinked l.dag previous l.chain → IsMarkedFor l.dag previous l.chain
    → IsAfter l.dag (digests_of (segments (ledger_in l.dag []) (leader_held l.dag previous) (leaders_in l.dag l.chain)))
    (read_references_by l.dag (leader_held l.dag previous) (leaders_in l.dag l.chain)) l.last.0 (before_at previous l.chain l.place)
    (drop l.place l.chain) (is_free l.dag l.last.0 l.ordered.items) l.digests.items l.reads)
