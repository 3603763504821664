-- The last committed wave of a list of certificates, before a DAG has them.
use Rattle.std.specs.Prelude.{◌≡◌, ℕ, ◌==◌, ◌&&◌, ◌||◌, nat_lt, Bool, List}
use Rattle.committee.specs.Charter.{Charter}
use Rattle.spec_model.specs.Ordering.{Ledger, top}
use Rattle.spec_model.specs.Slots.{Slots}
use Rattle.sequencer.specs.Restored.{Digested, listed, HoldsListed}

-- a certificate comes before the place of this round and author in a sorted list: its round is lower, or it is equal and its author is
-- lower
abbrev pub comes_before : ℕ → ℕ → Digested → Bool
comes_before round author one =
    nat_lt one.0.header.round round || ((one.0.header.round == round) && nat_lt one.0.header.author.0 author)

-- the ledger of these certificates and coins: all that the order depends on
abbrev pub ledger_of : Charter → List Digested → List ℕ → Ledger
ledger_of charter held coins = record { charter = charter; slots = listed held; coins = coins }

-- A table of certificates that, in rounds above 0, has just those of a list, has the last committed wave of the list: no leader or
-- supporter is of round 0.
abbrev pub ListedIsEnough : Type 0
ListedIsEnough = (charter : Charter) (held : List Digested) (coins : List ℕ) (slots : Slots) → HoldsListed slots held
    → top (record { charter = charter; slots = slots; coins = coins }) ≡ top (ledger_of charter held coins)
