use Rattle.std.proofs.Common.{◌≡◌, ℕ, ◌<◌, false, get_or}
use Rattle.diskmodel.specs.Outcomes.{is_written}
use Rattle.diskmodel.proofs.history.History.keeps_durable.Given as goal

abbrev pub invariant-loop-place : goal.invariant-loop-place
invariant-loop-place l = (k : ℕ) → k < l.place → is_written l.self.spans.items k ≡ false → get_or l.found k 0 ≡ get_or l.self.durable.items k 0
