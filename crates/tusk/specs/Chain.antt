-- The leaders of waves among the certificates of a DAG, and the chain of those that are newer than a committed wave.
use Rattle.std.specs.Prelude.{◌≡◌, ℕ, zero, suc, ◌+◌, ◌-◌, ◌*◌, ◌/◌, ◌<◌, true, List, [], ◌∷◌, map, Option, Some, None, IfSome, slice_get}
use Rattle.std.specs.Option.{option_map_or}
use Rattle.spec_model.specs.Ordering.{Ledger, is_directly_committed, top, newer}
use Rattle.spec_model.specs.Words.{Author, Certificate}
use Rattle.dag.specs.Graph.{DagView, slots_in}

-- the ledger of a DAG's certificates and of these coins: all that the order depends on
abbrev pub ledger_in : DagView → List ℕ → Ledger
ledger_in graph coins = record { charter = graph.charter; slots = slots_in graph; coins = coins }

-- the coin of a wave; waves are counted from 1
abbrev pub coin_of : List ℕ → ℕ → Option ℕ
coin_of coins zero = None
coin_of coins (suc wave) = slice_get coins wave

-- the round and author of a certificate
abbrev pub slot_of : Certificate → ℕ × Author
slot_of certificate = (certificate.header.round, certificate.header.author)

-- the number of a committed wave; 0 if there is none
abbrev pub wave_of : Option ℕ → ℕ
wave_of last = option_map_or (λ wave. wave) last 0

-- the round of a committed wave's leader; 1 if there is no such wave
abbrev pub base_of : Option ℕ → ℕ
base_of last = option_map_or (λ wave. 2 * wave - 1) last 1

-- this wave, if there is one, is directly committed: its leader has support
abbrev pub IsSure : Ledger → Option ℕ → Type 0
IsSure ledger last = IfSome last (λ wave. is_directly_committed ledger wave ≡ true)

-- the base of a DAG is the round of a leader that has support, or 1
pub record IsBased (graph : DagView) (coins : List ℕ) : Type 0 where
  pub odd : graph.base ≡ 2 * ((graph.base + 1) / 2) - 1
  pub committed : 1 < graph.base → is_directly_committed (ledger_in graph coins) ((graph.base + 1) / 2) ≡ true

-- the last committed wave once these leaders, given by round and author, are committed too
abbrev pub raised_to : Option ℕ → List (ℕ × Author) → Option ℕ
raised_to last [] = last
raised_to last (slot ∷ slots) = raised_to (Some ((slot.0 + 1) / 2)) slots

-- `chain` are the rounds and authors of the leaders newer than a committed wave; with them the last committed wave is that of the last of
-- them
pub record IsChain (ledger : Ledger) (last : Option ℕ) (chain : List (ℕ × Author)) : Type 0 where
  pub newer : chain ≡ map slot_of (newer ledger (wave_of last))
  pub top : top ledger ≡ raised_to last chain

-- `last` is the last committed wave, if there is one, and the DAG's base is the round of its leader
pub record IsAt (graph : DagView) (coins : List ℕ) (last : Option ℕ) : Type 0 where
  pub base : graph.base ≡ base_of last
  pub top : top (ledger_in graph coins) ≡ last

-- the leader of the wave `last`, if there is one, has support, and the DAG's base is the round of that leader
pub record IsFrom (graph : DagView) (coins : List ℕ) (last : Option ℕ) : Type 0 where
  pub base : graph.base ≡ base_of last
  pub committed : IfSome last (λ wave. is_directly_committed (ledger_in graph coins) wave ≡ true)
