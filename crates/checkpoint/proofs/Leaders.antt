-- The leader of the last committed wave of listed certificates.
use Rattle.std.proofs.Common.{◌≡◌, ℕ, zero, suc, ◌+◌, ◌-◌, ◌*◌, ◌≤◌, List, length, Option, Some, None, refl, sym, ap, ◌∙◌, arith}
use Rattle.std.specs.Prelude.{◌%◌, map, slice_get, option_and_then}
use Rattle.std.proofs.lemmas.Option.{none-some}
use Rattle.committee.specs.Charter.{Charter}
use Rattle.sequencer.specs.Listing.{ledger_of}
use Rattle.sequencer.specs.Restored.{Digested, listed}
use Rattle.spec_laws.proofs.Lists.{found_passes}
use Rattle.spec_laws.proofs.OrderLonger.{directly_committed_leader, is_top_of}
use Rattle.spec_laws.proofs.Votes.{slot_is}
use Rattle.spec_model.specs.Ordering.{leader, top}
use Rattle.spec_model.specs.Slots.{is_of_slot}
use Rattle.spec_model.specs.Words.{Certificate}
use Rattle.tusk.specs.Chain.{coin_of}

-- the wave's coin chooses it, and its slot holds it
pub record IsLed (charter : Charter) (list : List Digested) (coins : List ℕ) (wave : ℕ) : Type 0 where
  pub coin : ℕ
  pub certificate : Certificate
  pub chosen : coin_of coins wave ≡ Some coin
  pub held : listed list (2 * wave - 1) (coin % length charter.keys) ≡ Some certificate
  pub within : wave ≤ length coins

led_by : (charter : Charter) (list : List Digested) (coins : List ℕ) (wave : ℕ) (c : Certificate) → wave ≤ length coins → leader (ledger_of charter list coins) wave ≡ Some c → IsLed charter
    list coins wave
led_by charter list coins zero c within is = absurd (none-some c is)
led_by charter list coins (suc wave) c within is = by (slice_get coins wave) refl
  where
    by : (o : Option ℕ) → slice_get coins wave ≡ o → IsLed charter list coins (suc wave)
    by None none = absurd (none-some c (sym (ap (option_and_then (λ coin. listed list (2 * wave + 1) (coin % length charter.keys))) none) ∙ is))
    by (Some coin) some =
        let level : 2 * wave + 1 ≡ 2 * suc wave - 1 = omega arith in
        record {
          coin = coin;
          certificate = c;
          chosen = some;
          held = ap (λ (r : ℕ). listed list r (coin % length charter.keys)) (sym level) ∙ sym (ap (option_and_then (λ x. listed list (2 * wave + 1) (x % length charter.keys))) some) ∙ is;
          within = within;
        }

pub is_led : (charter : Charter) (list : List Digested) (coins : List ℕ) (wave : ℕ) → top (ledger_of charter list coins) ≡ Some wave → IsLed charter list coins wave
is_led charter list coins wave is =
    let facts = is_top_of (ledger_of charter list coins) (length coins) wave is in
    let lead = directly_committed_leader (ledger_of charter list coins) wave facts.is in
    led_by charter list coins wave lead.0 facts.within lead.1

-- what a slot holds is of its round
pub listed_round : (list : List Digested) (round author : ℕ) (c : Certificate) → listed list round author ≡ Some c → c.header.round ≡ round
listed_round list round author c is =
    let found = found_passes (λ (d : Certificate). is_of_slot round author d.header) (map (λ (one : Digested). one.0) list) c is in
    (slot_is round author c.header found.0).0
