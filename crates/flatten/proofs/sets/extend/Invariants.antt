use Rattle.std.proofs.Common.{◌≡◌, ℕ}
use Rattle.std.specs.Prelude.{vec_len}
use Rattle.flatten.specs.Sets.{is_in}
use Rattle.flatten.proofs.sets.extend.Given as goal

-- the sets so far are those that were there, and sets of nobody
abbrev pub invariant-loop : goal.invariant-loop
invariant-loop l = (vec_len l.sets ≡ l.counter) × ((place author : ℕ) → is_in l.sets.items place author ≡ is_in l.initial.sets.items place author)
