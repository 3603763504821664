-- The certificates that were read, with the coins, are those of the state, and so are the floor and the last leader.
use Rattle.std.proofs.Common.{◌≡◌, ℕ, zero, suc, ◌+◌, ◌-◌, ◌*◌, Bool, false, List, [], ◌∷◌, length, map, Option, Some, None, refl, sym, ap, ◌∙◌, arith}
use Rattle.std.proofs.Math.Path.{fun_ext}
use Rattle.std.specs.Prelude.{◌==◌, ◌&&◌, ◌%◌, slice_get, All, IsTrue, option_map, option_and_then, if◌then◌else◌}
use Rattle.std.specs.Option.{option_map_or}
use Rattle.std.proofs.lemmas.Option.{same_Some, none-some}
use Rattle.committee.specs.Charter.{numbers}
use Rattle.sequencer.proofs.Waves.{listed_is_enough}
use Rattle.sequencer.specs.Listing.{ledger_of as ledger_of_list}
use Rattle.sequencer.specs.Restored.{Digested, AreListed, HoldsListed, ArePartsOf, is_before, listed as listed_in}
use Rattle.spec_machine.specs.Machine.{last_leader}
use Rattle.spec_machine.specs.Sound.{IsSound}
use Rattle.spec_model.specs.Holdings.{genesis, ledger_of}
use Rattle.spec_model.specs.Nodes.{Node, IsNode, size_of}
use Rattle.spec_model.specs.Ordering.{floor_by, leader, top}
use Rattle.spec_model.specs.Slots.{Slots, certificate_digest, slots_of}
use Rattle.spec_model.specs.States.{ledger_in}
use Rattle.spec_model.specs.Words.{Author, Certificate}
use Rattle.tusk.specs.Chain.{slot_of}
use Rattle.wire.specs.Rising.{rises}
use Rattle.spec_checkpoint.specs.Data.{Checkpoint, IsKeptCertificate, place_before}
use Rattle.spec_checkpoint.specs.Meaning.{listed, listed_floor, state_in}
use Rattle.checkpoint.specs.Judging.{slots_at}
use Rattle.checkpoint.specs.Kept.{certificate_of}
use Rattle.checkpoint.proofs.Rising.{all_unmapped, places_through, rise_pairs}

abbrev pub certificate_before : Certificate → Certificate → Bool
certificate_before one other = place_before one.header.round one.header.author.0 other.header.round other.header.author.0

-- ---- they are listed

rises-map : {X Y : Type 0} (f : X → Y) (below : Y → Y → Bool) (xs : List X) → rises below (map f xs) ≡ rises (λ x y. below (f x) (f y)) xs
rises-map f below [] = refl
rises-map f below (x ∷ []) = refl
rises-map f below (x ∷ y ∷ xs) = ap (λ b. below (f x) (f y) && b) (rises-map f below (y ∷ xs))

pub are_listed : (list : List Digested) → All IsKeptCertificate (map certificate_of list) → IsTrue (rises certificate_before (map certificate_of list))
    → All (λ (one : Digested). one.1 ≡ certificate_digest one.0.header) list → AreListed list
are_listed list kept rise digested = record {
  rising = rise_pairs is_before (λ x y z one two. places_through x.0.header.round x.0.header.author.0 y.0.header.round y.0.header.author.0 z.0.header.round z.0.header.author.0 one two) list
      (sym (rises-map certificate_of certificate_before list) ∙ rise);
  positive = let each = all_unmapped certificate_of IsKeptCertificate list kept in λ i d within. (each i d within).above;
  digested = digested;
}

-- ---- the floor and the last leader

-- the floor that a leader has is that of its wave
floor_of_wave : (depth : ℕ) (last : Option (ℕ × Author)) (wave : Option ℕ) → option_map (λ (slot : ℕ × Author). slot.0) last ≡ option_map (λ w. 2 * w - 1) wave
    → option_map_or (λ (slot : ℕ × Author). slot.0 - depth) last 0 ≡ option_map_or (λ w. (2 * w - 1) - depth) wave 0
floor_of_wave depth None None is = refl
floor_of_wave depth None (Some w) is = absurd (none-some (2 * w - 1) is)
floor_of_wave depth (Some slot) None is = absurd (none-some slot.0 (sym is))
floor_of_wave depth (Some slot) (Some w) is = ap (λ n. n - depth) (same_Some slot.0 (2 * w - 1) is)

module _ (node : Node) (checkpoint : Checkpoint) (list : List Digested) (same : map certificate_of list ≡ checkpoint.certificates) where
  pub list_ledger : ledger_of_list node.charter list checkpoint.coins ≡ ledger_of node (listed checkpoint) checkpoint.coins
  list_ledger = ap (λ (l : List Certificate). ledger_of node (slots_of l) checkpoint.coins) same

  pub same_floor : (last : Option (ℕ × Author)) → option_map (λ (slot : ℕ × Author). slot.0) last ≡ option_map (λ w. 2 * w - 1) (top (ledger_of_list node.charter list checkpoint.coins))
      → option_map_or (λ (slot : ℕ × Author). slot.0 - node.charter.depth) last 0 ≡ listed_floor node checkpoint
  same_floor last is = floor_of_wave node.charter.depth last (top (ledger_of_list node.charter list checkpoint.coins)) is ∙ ap floor_by list_ledger

  abbrev with_slots : List Certificate → Slots
  with_slots certificates round author =
      if round == 0 then (if listed_floor node checkpoint == 0 then slots_of (map genesis (numbers (size_of node))) 0 author else None) else slots_of certificates round author

  -- the slots at its floor are those of the state
  pub same_slots : (floor : ℕ) → floor ≡ listed_floor node checkpoint → slots_at node floor list ≡ (state_in node checkpoint).slots
  same_slots floor is = ap (λ (n : ℕ). slots_at node n list) is ∙ ap with_slots same

  holds : HoldsListed (state_in node checkpoint).slots list
  holds round author positive =
      let off : (round == 0) ≡ false = grind (arith, positive) in
      rw off (ap (λ (l : List Certificate). slots_of l round author) (sym same))

  tops : top (ledger_in node (state_in node checkpoint)) ≡ top (ledger_of_list node.charter list checkpoint.coins)
  tops = listed_is_enough node.charter list checkpoint.coins (state_in node checkpoint).slots holds

  above_same : (round : ℕ) → (state_in node checkpoint).slots (round + 1) ≡ listed_in list (round + 1)
  above_same round = fun_ext (λ author. holds (round + 1) author (omega arith))

  leaders : (wave : ℕ) → leader (ledger_in node (state_in node checkpoint)) wave ≡ leader (ledger_of_list node.charter list checkpoint.coins) wave
  leaders zero = refl
  leaders (suc wave) =
      ap (λ (row : ℕ → Option Certificate). option_and_then (λ coin. row (coin % length node.charter.keys)) (slice_get checkpoint.coins wave)) (above_same (2 * wave))

  lasts : last_leader (ledger_in node (state_in node checkpoint)) ≡ last_leader (ledger_of_list node.charter list checkpoint.coins)
  lasts = ap (option_and_then (leader (ledger_in node (state_in node checkpoint)))) tops ∙ by (top (ledger_of_list node.charter list checkpoint.coins))
    where
      by : (o : Option ℕ) → option_and_then (leader (ledger_in node (state_in node checkpoint))) o ≡ option_and_then (leader (ledger_of_list node.charter list checkpoint.coins)) o
      by None = refl
      by (Some wave) = leaders wave

  pub are_parts : (floor : ℕ) (last : Option (ℕ × Author)) → IsNode node → IsSound node (state_in node checkpoint) → AreListed list
      → floor ≡ option_map_or (λ (slot : ℕ × Author). slot.0 - node.charter.depth) last 0
      → last ≡ option_map slot_of (last_leader (ledger_of_list node.charter list checkpoint.coins))
      → option_map (λ (slot : ℕ × Author). slot.0) last ≡ option_map (λ w. 2 * w - 1) (top (ledger_of_list node.charter list checkpoint.coins))
      → ArePartsOf node (state_in node checkpoint) (record { charter = node.charter; floor = floor; last = last; held = list; coins = checkpoint.coins; order = checkpoint.order })
  are_parts floor last node_is sound are floor_is last_is round_is = record {
    node_is = node_is;
    sound = sound;
    charter = refl;
    floor = floor_is ∙ floor_of_wave node.charter.depth last (top (ledger_of_list node.charter list checkpoint.coins)) round_is
        ∙ ap (λ o. option_map_or (λ w. (2 * w - 1) - node.charter.depth) o 0) (sym tops);
    last = last_is ∙ ap (option_map slot_of) (sym lasts);
    listed = are;
    held = holds;
    coins = refl;
    order = refl;
  }
