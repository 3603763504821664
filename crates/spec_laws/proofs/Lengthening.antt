-- The leaders of a longer history are those that were committed and then newer ones, and its order is the order and
-- then what the newer ones order.
use Rattle.std.proofs.Common.{◌≡◌, ℕ, suc, ◌+◌, ◌-◌, ◌*◌, ◌≤◌, arith, true, length, List, [], ◌∷◌, ◌++◌, map, Option, Some, None, inl, inr, refl, ap, sym, ◌∙◌, subst, append_assoc}
use Rattle.std.proofs.Math.Path.{fun_ext}
use Rattle.std.specs.Prelude.{Contains, nat_le, option_and_then}
use Rattle.std.specs.Option.{option_map_or, option_to_list}
use Rattle.std.proofs.lemmas.Bool.{le-leb}
use Rattle.std.proofs.lemmas.Option.{same_Some, none-some}
use Rattle.std.proofs.lemmas.List.{append-nil, length-append, map-append}
use Rattle.std.proofs.lemmas.List.Elements.{Contains-append_left, Contains-append_right}
use Rattle.spec_model.specs.Admitting.{IsLegal}
use Rattle.spec_model.specs.Histories.{History, coins, as_coin}
use Rattle.spec_model.specs.Holdings.{ledger_of, ledger_at, slots, order, floor}
use Rattle.spec_laws.specs.Laws.{last_or, committed_at, newer_at_later, HoldsFrom, Lengthens, OrderLengthens}
use Rattle.spec_model.specs.Nodes.{Node, IsNode}
use Rattle.spec_model.specs.Ordering.{Ledger, leader, is_directly_committed, top, segment, segments, committed, newer_at, newer, last_wave, order_by}
use Rattle.spec_model.specs.Slots.{Slots, certificate_digest}
use Rattle.spec_model.specs.Words.{Certificate, Digest, Event}
use Rattle.spec_laws.proofs.Closed.{in_place, closed, coins_later, extends, floor_of}
use Rattle.spec_laws.proofs.FromRounds.{AgreeFrom, newer_from, since_from}
use Rattle.spec_laws.proofs.Growing.{AreInPlace, Extends, IsIn, WasHeld, grown, leader_in, segments_same, leader_kept, directly_committed_kept}
use Rattle.spec_laws.proofs.Legal.{Adds, legal-grows}
use Rattle.spec_laws.proofs.Lists.{given_or_none, Contains-nothing, Contains-first, Contains-later}
use Rattle.spec_laws.proofs.OrderGrows.{longer, members_some}
use Rattle.spec_laws.proofs.OrderLonger.{IsLonger, newer_ends, committed_is, newer_held, newer_grows, committed_grows, is_top_of, top_leader, top_grows}

-- ---- the last of a list

last_pushed : {X : Type 0} (before : Option X) (xs : List X) (x : X) → last_or before (xs ++ x ∷ []) ≡ Some x
last_pushed before [] x = refl
last_pushed before (y ∷ xs) x = last_pushed (Some y) xs x

last_joined : {X : Type 0} (before : Option X) (xs ys : List X) → last_or before (xs ++ ys) ≡ last_or (last_or before xs) ys
last_joined before [] ys = refl
last_joined before (x ∷ xs) ys = last_joined (Some x) xs ys

last_inside : {X : Type 0} (first : X) (xs : List X) (x : X) → last_or (Some first) xs ≡ Some x → Contains (first ∷ xs) x
last_inside first [] x is = subst (λ z. Contains (first ∷ []) z) (same_Some first x is) (Contains-first [] first)
last_inside first (y ∷ xs) x is = Contains-later first (y ∷ xs) x (last_inside y xs x is)

last_in : {X : Type 0} (xs : List X) (x : X) → last_or None xs ≡ Some x → Contains xs x
last_in [] x is = absurd (none-some x is)
last_in (y ∷ xs) x is = last_inside y xs x is

-- the last of the committed leaders is that of the greatest wave
pub last_is : (ledger : Ledger) → last_or None (committed ledger) ≡ option_and_then (leader ledger) (top ledger)
last_is ledger =
    elim (given_or_none (top ledger)) [
      | inr none ↦
          ap (λ o. last_or None (option_map_or (newer_at ledger 0) o [])) none
          ∙ sym (ap (option_and_then (leader ledger)) none)
      | inl found ↦
          let lead = top_leader ledger found.0 found.1 in
          let wave = found.0 - 1 in
          let ends = newer_ends ledger 0 wave lead.0 in
          ap (λ l. last_or None l) (committed_is ledger wave lead.0 lead.1 lead.2 ∙ ends.1) ∙ last_pushed None ends.0 lead.0
          ∙ sym (ap (option_and_then (leader ledger)) lead.1 ∙ lead.2)
    ]

-- ---- what leaders order

pub segments_joined : (ledger : Ledger) (previous : Option Certificate) (front rest : List Certificate)
    → segments ledger previous (front ++ rest) ≡ segments ledger previous front ++ segments ledger (last_or previous front) rest
segments_joined ledger previous [] rest = refl
segments_joined ledger previous (first ∷ front) rest =
    ap (λ l. segment ledger previous first ++ l) (segments_joined ledger (Some first) front rest)
    ∙ sym (append_assoc (segment ledger previous first) (segments ledger (Some first) front) (segments ledger (last_or (Some first) front) rest))

abbrev digests : List Certificate → List Digest
digests certificates = map (λ c. certificate_digest c.header) certificates

-- ---- one more event

-- the committed leaders are held
committed_in : (ledger : Ledger) → AreInPlace ledger.slots → (c : Certificate) → Contains (committed ledger) c → IsIn ledger.slots c
committed_in ledger placed c inside =
    elim (given_or_none (top ledger)) [
      | inr none ↦ let inside' = rw none at inside in absurd (Contains-nothing c inside')
      | inl found ↦
          let lead = top_leader ledger found.0 found.1 in
          let is = committed_is ledger (found.0 - 1) lead.0 lead.1 lead.2 in
          newer_held ledger placed 0 (found.0 - 1) lead.0 c (leader_in ledger (suc (found.0 - 1)) lead.0 placed lead.2) (subst (λ l. Contains l c) is inside)
    ]

-- one step: what the newer leaders order comes after the order
one_step : (before : Ledger) (after : Slots) → IsLonger before after → (more : List ℕ)
    → order_by (grown before after more) ≡ order_by before ++ digests (segments (grown before after more) (last_or None (committed before)) (newer (grown before after more) (last_wave before)))
one_step before after longer more =
    let was = committed before in
    let new = newer (grown before after more) (last_wave before) in
    let same : segments (grown before after more) None was ≡ segments before None was =
    segments_same before after longer.ext more None was (λ c is. absurd (none-some c is)) (λ c inside. committed_in before longer.ext.placed_before c inside) in
    ap (λ l. digests (segments (grown before after more) None l)) (committed_grows before after longer more)
    ∙ ap digests (segments_joined (grown before after more) None was new)
    ∙ map-append (λ c. certificate_digest c.header) (segments (grown before after more) None was) (segments (grown before after more) (last_or None was) new)
    ∙ ap (λ l. digests l ++ digests (segments (grown before after more) (last_or None was) new)) same

-- ---- any number of events

-- what stays of a history: its waves are committed, and nothing goes down
pub record IsLater (node : Node) (history later : History) : Type 0 where
  pub base : last_wave (ledger_at node history) ≤ last_wave (ledger_at node later)
  pub committed : (wave : ℕ) → is_directly_committed (ledger_at node history) wave ≡ true → is_directly_committed (ledger_at node later) wave ≡ true
  pub leaders : (wave : ℕ) (c : Certificate) → leader (ledger_at node history) wave ≡ Some c → leader (ledger_at node later) wave ≡ Some c
  pub coins : length (coins history) ≤ length (coins later)
  pub lengthens : Lengthens node history later (slots node later)

wave_grows : (before : Ledger) (after : Slots) → Extends before.slots after → (more : List ℕ) → last_wave before ≤ last_wave (grown before after more)
wave_grows before after ext more =
    elim (given_or_none (top before)) [
      | inr none ↦ let is : last_wave before ≡ 0 = ap (λ o. option_map_or (λ w. w) o 0) none in omega (arith, is)
      | inl found ↦
          let higher_top = top_grows before after ext more found.0 found.1 in
          let is : last_wave before ≡ found.0 = ap (λ o. option_map_or (λ w. w) o 0) found.1 in
          let is' : last_wave (grown before after more) ≡ higher_top.0 = ap (λ o. option_map_or (λ w. w) o 0) higher_top.1 in
          let higher = higher_top.2 in
          omega (arith, is, is', higher)
    ]

later_push : (node : Node) (history later : History) (event : Event) → Adds node later event → IsLater node history later → IsLater node history (later ++ event ∷ [])
later_push node history later event adds so_far =
    let more = option_to_list (as_coin event.message) in
    let before = ledger_at node later in
    let after = slots node (later ++ event ∷ []) in
    let now = grown before after more in
    let ext = extends node later event (closed node later adds.legal) adds in
    let long = longer node later event adds in
    let base = last_wave (ledger_at node history) in
    let first = last_or None (committed_at node history) in
    let old = newer before base in
    let new = newer now (last_wave before) in
    let coins_same = coins_later later event in
    let joined : newer (ledger_at node (later ++ event ∷ [])) base ≡ old ++ new =
    ap (λ c. newer (ledger_of node after c) base) coins_same ∙ newer_grows before after long more base so_far.base in
    let held : (c : Certificate) → Contains (committed_at node history ++ old) c → IsIn before.slots c =
    λ c inside. committed_in before (in_place node later) c (subst (λ l. Contains l c) (sym so_far.lengthens.chain) inside) in
    let past : WasHeld before.slots first = λ c is. held c (Contains-append_left (committed_at node history) old c (last_in (committed_at node history) c is)) in
    let same : segments now first old ≡ segments before first old =
    segments_same before after ext more first old past (λ c inside. held c (Contains-append_right (committed_at node history) old c inside)) in
    let second = last_or first old in
    let is_second : last_or None (committed_at node later) ≡ second = ap (last_or None) so_far.lengthens.chain ∙ last_joined None (committed_at node history) old in
    let both : digests (segments now first (old ++ new)) ≡ digests (segments before first old) ++ digests (segments now second new) =
    ap digests (segments_joined now first old new)
    ∙ map-append (λ c. certificate_digest c.header) (segments now first old) (segments now second new)
    ∙ ap (λ l. digests l ++ digests (segments now second new)) same in
    let size = length-append (coins later) more in
    let fewer = so_far.coins in
    let know : length (coins (later ++ event ∷ [])) ≡ length (coins later ++ more) = ap (λ (l : List ℕ). length l) coins_same in
    let grows : last_wave before ≤ last_wave (ledger_at node (later ++ event ∷ [])) =
    subst (λ c. last_wave before ≤ last_wave (ledger_of node after c)) (sym coins_same) (wave_grows before after ext more) in
    let from = so_far.base in
    record {
      base = omega (arith, from, grows);
      committed = λ wave is. ap (λ c. is_directly_committed (ledger_of node after c) wave) coins_same ∙ directly_committed_kept before after ext more wave (so_far.committed wave is);
      leaders = λ wave c is. ap (λ c. leader (ledger_of node after c) wave) coins_same ∙ leader_kept before after ext more wave c (so_far.leaders wave c is);
      coins = omega (arith, fewer, know, size);
      lengthens = record {
        chain = ap (λ c. committed (ledger_of node after c)) coins_same ∙ committed_grows before after long more ∙ ap (λ l. l ++ new) so_far.lengthens.chain
            ∙ append_assoc (committed_at node history) old new ∙ ap (λ l. committed_at node history ++ l) (sym joined);
        order = ap (λ c. order_by (ledger_of node after c)) coins_same ∙ one_step before after long more
            ∙ ap (λ l. l ++ digests (segments now (last_or None (committed_at node later)) new)) so_far.lengthens.order
            ∙ ap (λ p. (order node history ++ digests (segments before first old)) ++ digests (segments now p new)) is_second
            ∙ append_assoc (order node history) (digests (segments before first old)) (digests (segments now second new))
            ∙ ap (λ l. order node history ++ l) (sym both)
            ∙ ap (λ l. order node history ++ digests (segments now first l)) (sym joined);
      };
    }

-- nothing is newer than the last leader
pub newer_none : (ledger : Ledger) → newer ledger (last_wave ledger) ≡ []
newer_none ledger =
    elim (given_or_none (top ledger)) [
      | inr none ↦ ap (λ o. option_map_or (newer_at ledger (last_wave ledger)) o []) none
      | inl found ↦
          let is : last_wave ledger ≡ found.0 = ap (λ o. option_map_or (λ w. w) o 0) found.1 in
          let old : nat_le found.0 (last_wave ledger) ≡ true = le-leb _ _ (omega (arith, is)) in
          ap (λ o. option_map_or (newer_at ledger (last_wave ledger)) o []) found.1 ∙ rw old refl
    ]

later_first : (node : Node) (history : History) → IsLater node history history
later_first node history =
    let none = newer_none (ledger_at node history) in
    let first = last_or None (committed_at node history) in
    record {
      base = omega arith;
      committed = λ wave is. is;
      leaders = λ wave c is. is;
      coins = omega arith;
      lengthens = record {
        chain = sym (append-nil (committed_at node history)) ∙ ap (λ l. committed_at node history ++ l) (sym none);
        order = sym (append-nil (order node history)) ∙ ap (λ l. order node history ++ digests (segments (ledger_at node history) first l)) (sym none);
      };
    }

pub is_later : (node : Node) (history more : History) → IsLegal node (history ++ more) → IsLater node history (history ++ more)
is_later node history more legal = legal-grows node (IsLater node history) (λ later event adds so_far. later_push node history later event adds so_far) history more legal (later_first node history)

-- ---- by what lies at or above the floor

-- the newer leaders and what they order, where the rest isn't held
record IsFound (node : Node) (history later : History) (held : Slots) : Type 0 where
  leaders : newer_at_later node history later (slots node later) ≡ newer_at_later node history later held
  digests : digests (segments (ledger_of node (slots node later) (coins later)) (last_or None (committed_at node history)) (newer_at_later node history later (slots node later)))
      ≡ digests (segments (ledger_of node held (coins later)) (last_or None (committed_at node history)) (newer_at_later node history later held))

found : (node : Node) (history later : History) (held : Slots) → IsNode node → IsLater node history later → HoldsFrom (floor node history) held (slots node later) → IsFound node history later held
found node history later held sound is from =
    let depth = node.charter.depth in
    let all = slots node later in
    let low = floor node history in
    let first = last_or None (committed_at node history) in
    elim (given_or_none (top (ledger_at node history))) [
      | inr none ↦
          let least : low ≡ 0 = ap (floor_of node) none in
          let same : all ≡ held = fun_ext (λ round. fun_ext (λ author. sym (from.same round author (omega (arith, least))))) in
          record {
            leaders = ap (newer_at_later node history later) same;
            digests = ap (λ (s : Slots). digests (segments (ledger_of node s (coins later)) first (newer_at_later node history later s))) same;
          }
      | inl top_found ↦
          let lead = top_leader (ledger_at node history) top_found.0 top_found.1 in
          let wave = top_found.0 - 1 in
          let facts = is_top_of (ledger_at node history) (length (coins history)) (suc wave) lead.1 in
          let at : low ≡ (2 * suc wave - 1) - depth = ap (floor_of node) lead.1 in
          let is_wave : last_wave (ledger_at node history) ≡ suc wave = ap (λ o. option_map_or (λ w. w) o 0) lead.1 in
          let agree : AgreeFrom low all held = record { placed = in_place node later; placed_other = from.placed; same = λ round author above. sym (from.same round author above) } in
          let some = members_some node sound in
          let above : low ≤ 2 * wave + 1 = omega (arith, at) in
          let committed = is.committed (suc wave) facts.is in
          let fewer = is.coins in
          let size = facts.within in
          let within : suc wave ≤ length (coins later) = omega (arith, fewer, size) in
          record {
            leaders = ap (newer (ledger_of node all (coins later))) is_wave ∙ newer_from low (ledger_of node all (coins later)) held some agree wave
                above committed within ∙ ap (newer (ledger_of node held (coins later))) (sym is_wave);
            digests = ap (λ w. digests (segments (ledger_of node all (coins later)) first (newer (ledger_of node all (coins later)) w))) is_wave
                ∙ since_from low (ledger_of node all (coins later)) held some agree wave above committed within (λ round below. omega (arith, below, at)) first
                ∙ ap (λ w. digests (segments (ledger_of node held (coins later)) first (newer (ledger_of node held (coins later)) w))) (sym is_wave);
          }
    ]

pub order_lengthens : OrderLengthens
order_lengthens node history more held legal from =
    let later = history ++ more in
    let is = is_later node history more legal in
    let by = found node history later held legal.sound is from in
    record {
      chain = is.lengthens.chain ∙ ap (λ l. committed_at node history ++ l) by.leaders;
      order = is.lengthens.order ∙ ap (λ l. order node history ++ l) by.digests;
    }
