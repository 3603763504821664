-- The leaders and the order of a legal history are those of all that two nodes hold, up to its last committed wave.
use Rattle.std.proofs.Common.{◌≡◌, ℕ, suc, ◌-◌, List, [], ◌∷◌, ◌++◌, length, Some, inl, inr, refl, ap, sym, ◌∙◌, subst, arith, append_assoc}
use Rattle.std.specs.Option.{option_map_or, option_to_list}
use Rattle.std.proofs.lemmas.Bool.{cases_lt}
use Rattle.spec_model.specs.Admitting.{IsLegal}
use Rattle.spec_model.specs.Histories.{History, coins, as_coin}
use Rattle.spec_model.specs.Holdings.{ledger_of, ledger_at, slots, order, floor}
use Rattle.spec_model.specs.Nodes.{Node}
use Rattle.spec_model.specs.Ordering.{top, last_wave}
use Rattle.spec_model.specs.Slots.{Slots}
use Rattle.spec_model.specs.Words.{Event}
use Rattle.spec_laws.specs.Laws.{committed_at}
use Rattle.spec_laws.proofs.Closed.{coins_later, kept_slot}
use Rattle.spec_laws.proofs.Legal.{Adds, legal-induction}
use Rattle.spec_laws.proofs.Lengthening.{is_later}
use Rattle.spec_laws.proofs.Lists.{given_or_none}
use Rattle.spec_laws.proofs.OrderLonger.{is_top_of, top_leader}
use Rattle.spec_accord.proofs.Bare.{bared_from, bared_to}
use Rattle.spec_accord.proofs.Rooted.{held_from}
use Rattle.spec_accord.proofs.Rising.{lifts, follows_lifted, follows_same}
use Rattle.spec_accord.proofs.Whole.{IsWithin, Follows, IsFollowing}

-- what a history follows it follows with one more event
follows_push : (node : Node) (all : Slots) (values : List ℕ) (history : History) (event : Event)
    → Adds node history event → (IsWithin node history all values → IsFollowing node history all values)
    → IsWithin node (history ++ event ∷ []) all values → IsFollowing node (history ++ event ∷ []) all values
follows_push node all values history event adds before within =
    let later = history ++ event ∷ [] in
    let is = is_later node history (event ∷ []) adds.longer in
    let more = within.coins.rest in
    let split = within.coins.parts in
    let coin = option_to_list (as_coin event.message) in
    let was : IsWithin node history all values = record {
      placed = within.placed;
      kept = λ round author b held.
          let from = bared_from (slots node history) round author b held in
          within.kept round author b
          (bared_to (slots node later) round author from.0
          (kept_slot node history event adds round author from.0 from.1) ∙ ap (λ c. Some c) from.2);
      coins = record {
        rest = coin ++ more;
        parts = split ∙ ap (λ l. l ++ more) (coins_later history event) ∙ append_assoc (coins history) coin more;
      };
    } in
    let so_far : IsFollowing node history all (coins later ++ more) =
    subst (IsFollowing node history all) split (before was) in
    subst (IsFollowing node later all) (sym split)
    (elim (cases_lt (last_wave (ledger_at node history)) (last_wave (ledger_at node later))) [
      | inr stays ↦
          let base = is.base in
          follows_same node history later (ledger_of node all (coins later ++ more)) is
          (omega (arith, stays, base)) so_far
      | inl higher ↦ elim (given_or_none (top (ledger_at node later))) [
        | inr none ↦
            let at : last_wave (ledger_at node later) ≡ 0 = ap (λ o. option_map_or (λ w. w) o 0) none in
            absurd (omega (arith, at, higher))
        | inl found ↦
            let lead = top_leader (ledger_at node later) found.0 found.1 in
            let wave = found.0 - 1 in
            let at : last_wave (ledger_at node later) ≡ suc wave = ap (λ o. option_map_or (λ w. w) o 0) lead.1 in
            let facts = is_top_of (ledger_at node later) (length (coins later)) (suc wave) lead.1 in
            let lifted = lifts node history event adds all within.placed within.kept wave lead.0
            (omega (arith, at, higher)) lead.1 lead.2 in
            let low = held_from (floor node history) in
            let whole = ledger_of node all (coins later ++ more) in
            subst (Follows whole (committed_at node later) (order node later)) (sym at)
            (follows_lifted node history later all low wave lead.0 is lifted facts.within more so_far)
      ]
    ])

-- the empty history follows all, up to no wave
follows_first : (node : Node) (all : Slots) (values : List ℕ) → IsWithin node [] all values
    → IsFollowing node [] all values
follows_first node all values within =
    record { leaders = refl; order = refl; begins = λ early low committed. absurd (omega (arith, low)) }

-- so each legal history follows all that holds what it does
pub follows : (node : Node) (all : Slots) (values : List ℕ) (history : History) → IsLegal node history
    → IsWithin node history all values → IsFollowing node history all values
follows node all values =
    legal-induction node (λ history. IsWithin node history all values → IsFollowing node history all values)
    (follows_first node all values) (follows_push node all values)
