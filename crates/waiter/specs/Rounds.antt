-- The certificates that wait for their parents, by round.
use Rattle.std.specs.Prelude.{◌≡◌, ◌≢◌, ◌==◌, ℕ, suc, List, [], ◌∷◌, ◌++◌, All, length, if◌then◌else◌}
use Rattle.std.specs.BTreeMap.{is_at}
use Rattle.std.specs.List.{sum_by}
use Rattle.std.specs.Map.{lookup, values_of}
use Rattle.std.specs.Option.{option_map_or}
use Rattle.std.specs.Ordering.{nat_cmp}
use Rattle.wire.specs.Events.{Event}
use Rattle.wire.specs.declared.message.Message.{Message}
use Rattle.wire.specs.declared.message.Message.TheVariants as message
use Rattle.waiter.specs.Waiting.{Waits}

-- the round of a certificate that waits
abbrev pub round_of : Event → ℕ
round_of event = on event.message
  where
    on : Message → ℕ
    on (message.Certificate certificate) = certificate.header.round
    on _ = 0

-- the certificates that wait in a round, given the tree of all rounds
abbrev pub held_in : List (ℕ × List Event) → ℕ → List Event
held_in rounds round = option_map_or (λ (events : List Event). events) (lookup (is_at (nat_cmp round)) rounds) []

-- what contracts see of the waiting certificates: each round with its certificates, in the order in which they came; and how many wait in
-- all
pub record WaitersView : Type 0 where
  pub rounds : List (ℕ × List Event)
  pub count : ℕ

-- the certificates of this round that wait
abbrev pub held : WaitersView → ℕ → List Event
held waiters round = held_in waiters.rounds round

-- no certificate waits
abbrev pub none_waits : WaitersView
none_waits = record { rounds = []; count = 0 }

-- a certificate with the same digest waits already
abbrev pub WaitsThere : WaitersView → Event → Type 0
WaitsThere waiters event = Waits (held waiters (round_of event)) event

-- this round now has these waiting certificates, and every other round has those that it had before
abbrev pub HeldWith : (ℕ → List Event) → (ℕ → List Event) → ℕ → List Event → Type 0
HeldWith old new round events = (other : ℕ) → new other ≡ (if other == round then events else old other)

-- one more certificate waits, as the last one of its round
pub record IsWithOne (old new : WaitersView) (event : Event) : Type 0 where
  pub held_are : HeldWith (held old) (held new) (round_of event) (held old (round_of event) ++ event ∷ [])
  pub count : new.count ≡ suc old.count

-- each round in the tree has at least one waiting certificate
abbrev pub NoneIsEmpty : List (ℕ × List Event) → Type 0
NoneIsEmpty rounds = All (λ (events : List Event). events ≢ []) (values_of rounds)

-- how many certificates wait in all rounds
abbrev pub waiting_in : List (ℕ × List Event) → ℕ
waiting_in rounds = sum_by (λ (events : List Event). length events) (values_of rounds)
