-- What contracts see of a ledger of the reference implementation.
use Rattle.spec_model.specs.Ordering.{Ledger}
use Rattle.spec_model.specs.Slots.{slots_of}
use Rattle.ref_order.specs.declared.ledger.Ledger as declared

-- what contracts see of a `Ledger` of the running code: committee, certificate of each round and author, coins
abbrev pub ledger_view : declared.Ledger → Ledger
ledger_view ledger = record { charter = ledger.committee.now; slots = slots_of ledger.certificates.now; coins = ledger.coins.now }
