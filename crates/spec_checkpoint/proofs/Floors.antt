-- The leaders, and the floor, of a checkpoint's state are those of its certificates: none of them is of the genesis.
use Rattle.std.proofs.Common.{◌≡◌, ℕ, zero, suc, ◌+◌, ◌-◌, ◌*◌, Bool, false, List, Option, refl, ap, ◌∙◌, arith}
use Rattle.std.proofs.Math.Path.{fun_ext}
use Rattle.std.specs.Prelude.{◌==◌, ◌%◌, nat_le, slice_get, length, option_and_then, if◌then◌else◌, Some}
use Rattle.std.specs.Option.{option_map_or}
use Rattle.committee.specs.Charter.{weight, support_of}
use Rattle.spec_model.specs.Holdings.{ledger_of}
use Rattle.spec_model.specs.Nodes.{Node}
use Rattle.spec_model.specs.Ordering.{Ledger, leader, has_support, is_directly_committed, top_to, top}
use Rattle.spec_model.specs.Slots.{Slots, is_parent}
use Rattle.spec_model.specs.States.{ledger_in, floor_in}
use Rattle.spec_model.specs.Words.{Certificate}
use Rattle.spec_checkpoint.specs.Data.{Checkpoint}
use Rattle.spec_checkpoint.specs.Meaning.{listed, listed_floor, state_in}

-- slots that hold the same above round 0 say the same of leaders
module _ (node : Node) (coins : List ℕ) (held other : Slots) (same : (round : ℕ) → held (round + 1) ≡ other (round + 1)) where
  abbrev one : Ledger
  one = ledger_of node held coins

  abbrev two : Ledger
  two = ledger_of node other coins

  leaders : (wave : ℕ) → leader one wave ≡ leader two wave
  leaders zero = refl
  leaders (suc wave) =
      ap (λ (row : ℕ → Option Certificate). option_and_then (λ coin. row (coin % length node.charter.keys)) (slice_get coins wave)) (same (2 * wave))

  supported : (c : Certificate) → has_support one c ≡ has_support two c
  supported c =
      ap (λ (row : ℕ → Option Certificate). nat_le (support_of node.charter) (weight node.charter (λ member. option_map_or (is_parent c) (row member) false)))
      (same c.header.round)

  directly : (wave : ℕ) → is_directly_committed one wave ≡ is_directly_committed two wave
  directly wave =
      ap (λ o. option_map_or (has_support one) o false) (leaders wave)
      ∙ ap (λ (test : Certificate → Bool). option_map_or test (leader two wave) false) (fun_ext supported)

  top_same : (wave : ℕ) → top_to one wave ≡ top_to two wave
  top_same zero = refl
  top_same (suc wave) = λ i. if directly (suc wave) i then Some (suc wave) else top_same wave i

-- the state of a checkpoint holds its certificates above the genesis
above : (node : Node) (checkpoint : Checkpoint) (round : ℕ) → (state_in node checkpoint).slots (round + 1) ≡ listed checkpoint (round + 1)
above node checkpoint round = fun_ext (λ author. here author)
  where
    here : (author : ℕ) → (state_in node checkpoint).slots (round + 1) author ≡ listed checkpoint (round + 1) author
    here author = let more : (round + 1 == 0) ≡ false = grind (arith) in rw more refl

pub same_top : (node : Node) (checkpoint : Checkpoint) → top (ledger_in node (state_in node checkpoint)) ≡ top (ledger_of node (listed checkpoint) checkpoint.coins)
same_top node checkpoint = top_same node checkpoint.coins (state_in node checkpoint).slots (listed checkpoint) (above node checkpoint) (length checkpoint.coins)

pub same_floor : (node : Node) (checkpoint : Checkpoint) → floor_in node (state_in node checkpoint) ≡ listed_floor node checkpoint
same_floor node checkpoint = ap (λ o. option_map_or (λ wave. (2 * wave - 1) - node.charter.depth) o 0) (same_top node checkpoint)
