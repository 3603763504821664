-- Where the last wave of a node's ledger is later than it was: the newer leaders are those of all that two nodes hold,
-- and so is what they order.
use Rattle.std.proofs.Common.{◌≡◌, ℕ, suc, ◌+◌, ◌-◌, ◌*◌, ◌<◌, ◌≤◌, true, false, List, [], ◌++◌, map, length, Option, Some, None, refl, ap, sym, ◌∙◌, subst, arith}
use Rattle.std.specs.Prelude.{Contains, nat_le, option_map}
use Rattle.std.specs.Option.{option_map_or}
use Rattle.std.proofs.lemmas.Option.{same_Some, none-some}
use Rattle.committee.specs.Charter.{IsCharter}
use Rattle.spec_model.specs.Ordering.{Ledger, size_in, leader, top, segments, chain, newer_to, newer_at, newer, is_directly_committed}
use Rattle.spec_model.specs.Slots.{Slots}
use Rattle.spec_model.specs.Words.{Certificate}
use Rattle.spec_laws.proofs.FromRounds.{IsFar, newer_high}
use Rattle.spec_laws.proofs.Growing.{AreInPlace, IsIn, WasHeld, grown, leader_in}
use Rattle.spec_laws.proofs.Meeting.{mapped_from}
use Rattle.spec_laws.proofs.OrderLonger.{directly_committed_leader, leader_place, newer_held, not_old}
use Rattle.spec_laws.proofs.Weighing.{size_some}
use Rattle.spec_accord.proofs.Bare.{bare, bared, plain, bared_to, leader_bared, newer_bared, segments_bared}
use Rattle.spec_accord.proofs.Joining.{AllMeet, chain_joined}
use Rattle.spec_accord.proofs.Leading.{leader_also, newer_alike}
use Rattle.spec_accord.proofs.Parts.{IsPart, reached_in}
use Rattle.spec_accord.proofs.Reaching.{reaches_supported}
use Rattle.spec_accord.proofs.Segments.{segments_alike}

-- the last wave of a node's ledger is later than a base, and what the node holds is a part of all, low enough for it
pub record IsLifted (ledger : Ledger) (all : Slots) (low base wave : ℕ) (last : Certificate) : Type 0 where
  pub sound : IsCharter ledger.charter
  pub placed : AreInPlace ledger.slots
  pub part : IsPart ledger.charter low (bared ledger.slots) all
  pub under : low ≤ 2 * base
  pub far : (round : ℕ) → round < low → round + ledger.charter.depth < 2 * base
  pub later : base ≤ wave
  pub is_top : top ledger ≡ Some (suc wave)
  pub is_last : leader ledger (suc wave) ≡ Some last

-- the newer leaders of a ledger by its last one
pub newer_is : (ledger : Ledger) (base wave : ℕ) (last : Certificate) → base ≤ wave → top ledger ≡ Some (suc wave)
    → leader ledger (suc wave) ≡ Some last → newer ledger base ≡ newer_to ledger base wave last
newer_is ledger base wave last low is_top is_last =
    let young : nat_le (suc wave) base ≡ false = not_old base (suc wave) (omega (arith, low)) in
    let below : suc wave - 1 ≡ wave = omega arith in
    ap (λ o. option_map_or (newer_at ledger base) o []) is_top
    ∙ rw young
    (ap (λ w. option_map_or (newer_to ledger base w) (leader ledger (suc wave)) []) below
    ∙ ap (λ o. option_map_or (newer_to ledger base wave) o []) is_last)

-- the last leader is one of all, and in the part
pub last_there : (ledger : Ledger) (all : Slots) (low base wave : ℕ) (last : Certificate)
    → IsLifted ledger all low base wave last → (more : List ℕ)
    → (leader (grown (plain ledger) all more) (suc wave) ≡ Some (bare last)) × IsIn (bared ledger.slots) (bare last)
last_there ledger all low base wave last is more =
    let lead : leader (plain ledger) (suc wave) ≡ Some (bare last) =
    leader_bared ledger (suc wave) ∙ ap (option_map bare) is.is_last in (
      leader_also (plain ledger) all is.part.kept more (suc wave) (bare last) lead,
      leader_in (plain ledger) (suc wave) (bare last) is.part.placed lead,
    )

-- the newer leaders are those of all
pub newer_whole : (ledger : Ledger) (all : Slots) (low base wave : ℕ) (last : Certificate)
    → IsLifted ledger all low base wave last → (more : List ℕ) → suc wave ≤ length ledger.coins
    → map bare (newer ledger base) ≡ newer_to (grown (plain ledger) all more) base wave (bare last)
newer_whole ledger all low base wave last is more within =
    let there = last_there ledger all low base wave last is more in
    let under = is.under in
    ap (map bare) (newer_is ledger base wave last is.later is.is_top is.is_last)
    ∙ sym (newer_bared ledger base wave last)
    ∙ sym (newer_alike (plain ledger) all low (size_some ledger.charter is.sound) is.part more base
    (omega (arith, under)) wave (bare last) (omega (arith, within)) there.1)

-- a leader before that was held is held without votes
past_bare : (slots : Slots) (previous : Option Certificate) → WasHeld slots previous
    → WasHeld (bared slots) (option_map bare previous)
past_bare slots None past c is = absurd (none-some c is)
past_bare slots (Some last) past c is =
    subst (IsIn (bared slots)) (same_Some (bare last) c is)
    (bared_to slots last.header.round last.header.author.0 last (past last refl))

-- a newer leader without votes is in the part, far enough above its low rounds
newer_bare : (ledger : Ledger) (all : Slots) (low base wave : ℕ) (last : Certificate)
    → IsLifted ledger all low base wave last → (b : Certificate) → Contains (map bare (newer ledger base)) b
    → IsIn (bared ledger.slots) b × IsFar low ledger.charter.depth b
newer_bare ledger all low base wave last is b inside =
    let from = mapped_from bare (newer ledger base) b inside in
    let c = from.0 in
    let among = subst (λ l. Contains l c) (newer_is ledger base wave last is.later is.is_top is.is_last) from.1 in
    let in_last = leader_in ledger (suc wave) last is.placed is.is_last in
    let held = newer_held ledger is.placed base wave last c in_last among in
    let high = newer_high ledger (size_some ledger.charter is.sound) is.placed base c from.1 in
    let far : IsFar low ledger.charter.depth c =
    λ round below. let near = is.far round below in omega (arith, high, near) in (
      subst (IsIn (bared ledger.slots)) from.2 (bared_to ledger.slots c.header.round c.header.author.0 c held),
      subst (IsFar low ledger.charter.depth) from.2 far,
    )

-- and they order what they do in all, after a leader that was held
pub segments_whole : (ledger : Ledger) (all : Slots) (low base wave : ℕ) (last : Certificate)
    → IsLifted ledger all low base wave last → (more : List ℕ) → (previous : Option Certificate)
    → WasHeld ledger.slots previous
    → map bare (segments ledger previous (newer ledger base))
    ≡ segments (grown (plain ledger) all more) (option_map bare previous) (map bare (newer ledger base))
segments_whole ledger all low base wave last is more previous past =
    let new = newer ledger base in
    sym (segments_bared ledger previous new)
    ∙ sym (segments_alike (plain ledger) all low is.part more (option_map bare previous) (map bare new)
    (past_bare ledger.slots previous past)
    (λ b inside. (newer_bare ledger all low base wave last is b inside).0)
    (λ b inside. (newer_bare ledger all low base wave last is b inside).1))

-- ---- the chain

-- all that the part holds reaches the leader of each wave from the base on that all commits
meets : (ledger : Ledger) (all : Slots) (low base wave : ℕ) (last : Certificate)
    → IsLifted ledger all low base wave last → (more : List ℕ) (early : ℕ) → base ≤ suc early
    → is_directly_committed (grown (plain ledger) all more) (suc early) ≡ true
    → (first : Certificate) × AllMeet (grown (plain ledger) all more) early first (IsIn (bared ledger.slots))
meets ledger all low base wave last is more early from committed =
    let whole = grown (plain ledger) all more in
    let part = bared ledger.slots in
    let some = size_some ledger.charter is.sound in
    let lead = directly_committed_leader whole (suc early) committed in
    let first = lead.0 in
    let held = leader_in whole (suc early) first is.part.placed_all lead.1 in
    let place = leader_place whole early first some is.part.placed_all lead.1 in
    let under = is.under in (
      first,
      record {
        is = lead.1;
        reaches = reaches_supported ledger.charter is.sound low part all is.part first held place.1 lead.2
            (omega (arith, under, place.0, from));
        stays = λ later c d counts less is_leader reached.
            let place' = leader_place whole later d some is.part.placed_all is_leader in
            let in_all = leader_in whole (suc later) d is.part.placed_all is_leader in
            let high : low ≤ d.header.round = omega (arith, under, from, less, place'.0) in
            reached_in ledger.charter (size_in ledger) low part all is.part c d counts in_all high reached;
      },
    )

-- so its chain begins that of the last wave, after which come the newer leaders
pub chain_whole : (ledger : Ledger) (all : Slots) (low base wave : ℕ) (last : Certificate)
    → IsLifted ledger all low base wave last → (more : List ℕ) (early : ℕ) → base ≤ suc early → early < wave
    → is_directly_committed (grown (plain ledger) all more) (suc early) ≡ true
    → chain (grown (plain ledger) all more) (suc wave)
    ≡ chain (grown (plain ledger) all more) (suc early)
    ++ newer_to (grown (plain ledger) all more) (suc early) wave (bare last)
chain_whole ledger all low base wave last is more early from less committed =
    let whole = grown (plain ledger) all more in
    let meet = meets ledger all low base wave last is more early from committed in
    let there = last_there ledger all low base wave last is more in
    chain_joined whole (size_some ledger.charter is.sound) is.part.placed_all early meet.0
    (IsIn (bared ledger.slots)) meet.1 wave (bare last) less there.0 there.1
