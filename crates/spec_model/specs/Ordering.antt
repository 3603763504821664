-- Which certificates are leaders, which leaders are committed, and the order that follows. Waves are counted from 1.
use Rattle.std.specs.Prelude.{ℕ, zero, suc, ◌+◌, ◌-◌, ◌*◌, ◌%◌, ◌&&◌, not, nat_le, Bool, false, List, [], ◌∷◌, ◌++◌, map, length, filter, flat_map}
use Rattle.std.specs.Prelude.{Option, Some, None, slice_get, option_and_then, if◌then◌else◌}
use Rattle.std.specs.List.{range_with_len}
use Rattle.std.specs.Option.{option_map_or}
use Rattle.committee.specs.Charter.{Charter, weight, support_of}
use Rattle.spec_model.specs.Slots.{Slots, certificate_digest, round_of, is_parent, reaches}
use Rattle.spec_model.specs.Words.{Certificate, Digest}

-- all that the order depends on: the committee, the certificate of each round and author, and the coins' values
pub record Ledger : Type 0 where
  pub charter : Charter
  pub slots : Slots
  pub coins : List ℕ

-- how many members the committee has
abbrev pub size_in : Ledger → ℕ
size_in ledger = length ledger.charter.keys

-- a path of parents leads from the certificate `start` to the certificate `end`
abbrev pub reaches_in : Ledger → Certificate → Certificate → Bool
reaches_in ledger start end = reaches (size_in ledger) ledger.slots start end

-- the leader of a wave: the certificate of the wave's first round whose author the coin chooses; None without a coin or certificate
abbrev pub leader : Ledger → ℕ → Option Certificate
leader ledger zero = None
leader ledger (suc wave) = option_and_then (λ coin. ledger.slots (2 * wave + 1) (coin % size_in ledger)) (slice_get ledger.coins wave)

-- a member supports a certificate: the member's certificate of the next round names it as a parent
abbrev pub supports : Ledger → Certificate → ℕ → Bool
supports ledger certificate member =
    option_map_or (is_parent certificate) (ledger.slots (certificate.header.round + 1) member) false

-- a certificate has support: the members who support it weigh enough
abbrev pub has_support : Ledger → Certificate → Bool
has_support ledger certificate = nat_le (support_of ledger.charter) (weight ledger.charter (supports ledger certificate))

-- A wave is directly committed if its leader has support. Earlier leaders are committed with it, as `newer_to` says.
abbrev pub is_directly_committed : Ledger → ℕ → Bool
is_directly_committed ledger wave = option_map_or (has_support ledger) (leader ledger wave) false

-- the greatest wave up to the given one that is directly committed, if there is one
abbrev pub top_to : Ledger → ℕ → Option ℕ
top_to ledger zero = None
top_to ledger (suc wave) = if is_directly_committed ledger (suc wave) then Some (suc wave) else top_to ledger wave

-- the greatest wave that is directly committed, if there is one
abbrev pub top : Ledger → Option ℕ
top ledger = top_to ledger (length ledger.coins)

-- The leaders that are committed together with the leader `last`, oldest first, and then `last`: those of waves above `base` and up to the
-- given wave. Going down the waves, a leader is taken if the leader taken before it reaches it.
abbrev pub newer_to : Ledger → ℕ → ℕ → Certificate → List Certificate
newer_to ledger base zero last = last ∷ []
newer_to ledger base (suc wave) last =
    if nat_le (suc wave) base then last ∷ []
    else option_map_or (λ earlier. if reaches_in ledger last earlier then newer_to ledger base wave earlier ++ last ∷ [] else newer_to ledger base wave last)
    (leader ledger (suc wave)) (newer_to ledger base wave last)

-- the leaders of waves above `base` that are committed when the leader of `wave` is, oldest first
abbrev pub newer_at : Ledger → ℕ → ℕ → List Certificate
newer_at ledger base wave = if nat_le wave base then [] else option_map_or (newer_to ledger base (wave - 1)) (leader ledger wave) []

-- all committed leaders of waves above `base`, oldest first
abbrev pub newer : Ledger → ℕ → List Certificate
newer ledger base = option_map_or (newer_at ledger base) (top ledger) []

-- all leaders that are committed when the leader of `wave` is, oldest first
abbrev pub chain : Ledger → ℕ → List Certificate
chain ledger wave = newer_at ledger 0 wave

-- all committed leaders, oldest first
abbrev pub committed : Ledger → List Certificate
committed ledger = newer ledger 0

-- the greatest wave that is directly committed; 0 if there is none
abbrev pub last_wave : Ledger → ℕ
last_wave ledger = option_map_or (λ wave. wave) (top ledger) 0

-- the committed leader before reaches this certificate, so it has ordered the certificate already
abbrev pub is_past : Ledger → Option Certificate → Certificate → Bool
is_past ledger previous certificate = option_map_or (λ leader. reaches_in ledger leader certificate) previous false

-- the certificates of the rounds from 1 to this one, sorted by round and then by author
abbrev pub rounds_to : Ledger → ℕ → List Certificate
rounds_to ledger round = flat_map (round_of (size_in ledger) ledger.slots) (range_with_len 1 round)

-- a leader orders a certificate: it reaches it, the committed leader before doesn't, and the certificate is at most `depth` rounds lower
abbrev pub is_ordered_by : Ledger → Option Certificate → Certificate → Certificate → Bool
is_ordered_by ledger previous leader certificate =
    nat_le leader.header.round (certificate.header.round + ledger.charter.depth)
    && (reaches_in ledger leader certificate && not (is_past ledger previous certificate))

-- the certificates that one leader orders, sorted by round and then by author
abbrev pub segment : Ledger → Option Certificate → Certificate → List Certificate
segment ledger previous leader = filter (is_ordered_by ledger previous leader) (rounds_to ledger leader.header.round)

-- the certificates that several leaders order, one leader after the other
abbrev pub segments : Ledger → Option Certificate → List Certificate → List Certificate
segments ledger previous [] = []
segments ledger previous (leader ∷ leaders) = segment ledger previous leader ++ segments ledger (Some leader) leaders

-- the order: the digests of the certificates that all committed leaders order
abbrev pub order_by : Ledger → List Digest
order_by ledger = map (λ c. certificate_digest c.header) (segments ledger None (committed ledger))

-- the floor (the garbage-collection round): the round of the last committed leader minus `depth`; 0 if that is negative or there is no
-- leader
abbrev pub floor_by : Ledger → ℕ
floor_by ledger = option_map_or (λ wave. (2 * wave - 1) - ledger.charter.depth) (top ledger) 0
