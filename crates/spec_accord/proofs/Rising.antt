-- One more event keeps the leaders and the order those of all that two nodes hold, whether it lifts the last wave or
-- not.
use Rattle.std.proofs.Common.{◌≡◌, ℕ, zero, suc, ◌≤◌, true, List, [], ◌∷◌, ◌++◌, map, length, Some, None, inl, inr, refl, ap, sym, ◌∙◌, subst, arith}
use Rattle.std.specs.Prelude.{option_map, option_and_then}
use Rattle.std.proofs.lemmas.Bool.{cases_lt}
use Rattle.std.proofs.lemmas.Option.{none-some}
use Rattle.std.proofs.lemmas.List.{append-nil, map-append}
use Rattle.spec_model.specs.Histories.{History, coins}
use Rattle.wire.specs.Lists.{Begins}
use Rattle.spec_model.specs.Holdings.{ledger_of, ledger_at, slots, order, floor}
use Rattle.spec_model.specs.Nodes.{Node}
use Rattle.spec_model.specs.Ordering.{Ledger, leader, is_directly_committed, top, last_wave, committed, newer, newer_to, chain, segments}
use Rattle.spec_model.specs.Slots.{Slots, certificate_digest}
use Rattle.spec_model.specs.Words.{Certificate, Event}
use Rattle.spec_laws.specs.Laws.{last_or, committed_at}
use Rattle.spec_laws.proofs.Closed.{in_place}
use Rattle.spec_laws.proofs.Growing.{AreInPlace, WasHeld, grown, leader_in}
use Rattle.spec_laws.proofs.Legal.{Adds}
use Rattle.spec_laws.proofs.Lengthening.{IsLater, last_is, newer_none, segments_joined}
use Rattle.spec_laws.proofs.Lists.{given_or_none}
use Rattle.spec_accord.proofs.Bare.{bare, bared, plain, bared_place, bared_rooted, digests, digests_bared}
use Rattle.spec_accord.proofs.Joining.{chain_is}
use Rattle.spec_accord.proofs.Parts.{AreKept}
use Rattle.spec_accord.proofs.Lifting.{IsLifted, last_there, newer_whole, segments_whole, chain_whole}
use Rattle.spec_accord.proofs.Rooted.{held_from, rooted_from, floor_is, held_below, held_under}
use Rattle.spec_accord.proofs.Whole.{Follows, IsFollowing, Begins-self, Begins-more, last_bare, last_committed, committed_whole}

-- what one more event says, where the last wave is later then: what the node holds is a part of all
pub lifts : (node : Node) (history : History) (event : Event) → Adds node history event → (all : Slots)
    → AreInPlace all → AreKept (bared (slots node (history ++ event ∷ []))) all
    → (wave : ℕ) (last : Certificate) → last_wave (ledger_at node history) ≤ wave
    → top (ledger_at node (history ++ event ∷ [])) ≡ Some (suc wave)
    → leader (ledger_at node (history ++ event ∷ [])) (suc wave) ≡ Some last
    → IsLifted (ledger_at node (history ++ event ∷ [])) all (held_from (floor node history))
    (last_wave (ledger_at node history)) wave last
lifts node history event adds all placed kept wave last low is_top is_last =
    let later = history ++ event ∷ [] in
    let base = last_wave (ledger_at node history) in
    let depth = node.charter.depth in
    let is = floor_is node history in
    let deep = adds.legal.sound.charter.depth.0 in
    record {
      sound = adds.legal.sound.charter;
      placed = in_place node later;
      part = record {
        placed = bared_place (slots node later) (in_place node later);
        placed_all = placed;
        kept = kept;
        rooted = bared_rooted node.charter (slots node later) (held_from (floor node history))
            (rooted_from node history event adds);
      };
      under = held_under (floor node history) base depth is deep;
      far = λ round below. held_below (floor node history) base depth round is below;
      later = low;
      is_top = is_top;
      is_last = is_last;
    }

-- the chain is that of the last wave from before, if there was any, and then the newer leaders
chain_from : (ledger : Ledger) (all : Slots) (low base wave : ℕ) (last : Certificate)
    → IsLifted ledger all low base wave last → (more : List ℕ)
    → ((early : ℕ) → base ≡ suc early → is_directly_committed (grown (plain ledger) all more) (suc early) ≡ true)
    → chain (grown (plain ledger) all more) (suc wave)
    ≡ chain (grown (plain ledger) all more) base ++ newer_to (grown (plain ledger) all more) base wave (bare last)
chain_from ledger all low zero wave last is more committed =
    chain_is (grown (plain ledger) all more) wave (bare last) (last_there ledger all low 0 wave last is more).0
chain_from ledger all low (suc early) wave last is more committed =
    chain_whole ledger all low (suc early) wave last is more early (omega arith) (omega (arith, is.later))
    (committed early refl)

-- the leader before the newer ones is still held
last_held : (node : Node) (history later : History) → IsLater node history later
    → WasHeld (slots node later) (last_or None (committed_at node history))
last_held node history later is c found =
    let at : option_and_then (leader (ledger_at node history)) (top (ledger_at node history)) ≡ Some c =
    sym (last_is (ledger_at node history)) ∙ found in
    elim (given_or_none (top (ledger_at node history))) [
      | inr none ↦ let nothing = rw none at at in absurd (none-some c nothing)
      | inl wave ↦
          let lead = rw wave.1 at at in
          leader_in (ledger_at node later) wave.0 c (in_place node later) (is.leaders wave.0 c lead)
    ]

-- so the leaders and the order are still those of all, up to the later wave
pub follows_lifted : (node : Node) (history later : History) (all : Slots) (low wave : ℕ) (last : Certificate)
    → IsLater node history later
    → IsLifted (ledger_at node later) all low (last_wave (ledger_at node history)) wave last
    → suc wave ≤ length (coins later) → (more : List ℕ)
    → IsFollowing node history all (coins later ++ more)
    → Follows (ledger_of node all (coins later ++ more)) (committed_at node later) (order node later) (suc wave)
follows_lifted node history later all low wave last is lifted within more so_far =
    let now = ledger_at node later in
    let whole = grown (plain now) all more in
    let base = last_wave (ledger_at node history) in
    let first = last_or None (committed_at node history) in
    let new = newer now base in
    let new' = newer_to whole base wave (bare last) in
    let news : map bare new ≡ new' = newer_whole now all low base wave last lifted more within in
    let joined : chain whole (suc wave) ≡ chain whole base ++ new' =
    chain_from now all low base wave last lifted more
    (λ early at. committed_whole now all lifted.part.kept more (suc early)
    (is.committed (suc early) (last_committed (ledger_at node history) early at))) in
    let first' : option_map bare first ≡ last_or None (chain whole base) =
    sym (last_bare None (committed_at node history)) ∙ ap (last_or None) so_far.leaders in
    let same : digests (segments now first new) ≡ digests (segments whole (last_or None (chain whole base)) new') =
    sym (digests_bared (segments now first new))
    ∙ ap digests (segments_whole now all low base wave last lifted more first (last_held node history later is))
    ∙ ap (λ p. digests (segments whole p (map bare new))) first'
    ∙ ap (λ l. digests (segments whole (last_or None (chain whole base)) l)) news in
    let old = segments whole None (chain whole base) in
    let rest = segments whole (last_or None (chain whole base)) new' in
    record {
      leaders = ap (map bare) is.lengthens.chain ∙ map-append bare (committed_at node history) new
          ∙ ap (λ l. l ++ map bare new) so_far.leaders ∙ ap (λ l. chain whole base ++ l) news ∙ sym joined;
      order = is.lengthens.order ∙ ap (λ l. l ++ digests (segments now first new)) so_far.order
          ∙ ap (λ l. digests old ++ l) same
          ∙ sym (map-append (λ c. certificate_digest c.header) old rest)
          ∙ ap digests (sym (segments_joined whole None (chain whole base) new'))
          ∙ ap (λ l. digests (segments whole None l)) (sym joined);
      begins = λ early within committed.
          elim (cases_lt early base) [
            | inl old ↦
                subst (Begins (chain whole (suc early))) (sym joined)
                (Begins-more (chain whole (suc early)) (chain whole base) new' (so_far.begins early old committed))
            | inr young ↦ elim (cases_lt early wave) [
              | inl below ↦ record {
                rest = newer_to whole (suc early) wave (bare last);
                parts =
                    chain_whole now all low base wave last lifted more early (omega (arith, young)) below committed;
              }
              | inr highest ↦
                  let same : suc early ≡ suc wave = omega (arith, highest, within) in
                  subst (λ w. Begins (chain whole (suc early)) (chain whole w)) same
                  (Begins-self (chain whole (suc early)))
            ]
          ];
    }

-- an event that doesn't lift it leaves all as it was
pub follows_same : (node : Node) (history later : History) (ledger : Ledger) → IsLater node history later
    → last_wave (ledger_at node later) ≡ last_wave (ledger_at node history)
    → Follows ledger (committed_at node history) (order node history) (last_wave (ledger_at node history))
    → Follows ledger (committed_at node later) (order node later) (last_wave (ledger_at node later))
follows_same node history later ledger is same so_far =
    let now = ledger_at node later in
    let none : newer now (last_wave (ledger_at node history)) ≡ [] = ap (newer now) (sym same) ∙ newer_none now in
    let first = last_or None (committed_at node history) in
    let chain_same : committed_at node later ≡ committed_at node history =
    is.lengthens.chain ∙ ap (λ l. committed_at node history ++ l) none ∙ append-nil (committed_at node history) in
    let order_same : order node later ≡ order node history =
    is.lengthens.order ∙ ap (λ l. order node history ++ digests (segments now first l)) none
    ∙ append-nil (order node history) in
    subst (λ w. Follows ledger (committed_at node later) (order node later) w) (sym same)
    (record {
      leaders = ap (map bare) chain_same ∙ so_far.leaders;
      order = order_same ∙ so_far.order;
      begins = so_far.begins;
    })
