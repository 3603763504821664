-- The greatest full round, one round at a time.
use Rattle.std.proofs.Common.{◌≡◌, ℕ, zero, suc, ◌<◌, ◌-◌, true, false, refl, ap, arith}
use Rattle.spec_machine.specs.Machine.{full_to}
use Rattle.spec_model.specs.Holdings.{is_full}
use Rattle.spec_model.specs.Nodes.{Node}
use Rattle.spec_model.specs.Slots.{Slots}

pub full_here : (node : Node) (slots : Slots) (round : ℕ) → 0 < round → is_full node slots round ≡ true → full_to node slots round ≡ round
full_here node slots zero above is = absurd (omega arith)
full_here node slots (suc round) above is = rw is refl

pub full_below : (node : Node) (slots : Slots) (round : ℕ) → 0 < round → is_full node slots round ≡ false → full_to node slots round ≡ full_to node slots (round - 1)
full_below node slots zero above isnt = absurd (omega arith)
full_below node slots (suc round) above isnt = let less : round ≡ suc round - 1 = omega arith in rw isnt (ap (full_to node slots) less)
