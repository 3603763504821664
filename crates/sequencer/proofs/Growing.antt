-- The slots after an event extend those from before.
use Rattle.std.proofs.Common.{◌≡◌, ◌≢◌, ℕ, ◌*◌, ◌/◌, suc, true, false, [], ◌∷◌, ◌++◌, Some, inl, inr, ap, sym, ◌∙◌, subst, arith}
use Rattle.std.proofs.Math.Path.{fun_ext}
use Rattle.std.specs.Prelude.{◌==◌}
use Rattle.std.specs.Option.{option_map_or, option_or, option_to_list}
use Rattle.std.proofs.lemmas.Bool.{cases_Bool, eqb-true, true≢false}
use Rattle.std.proofs.lemmas.List.{append-nil, length-append}
use Rattle.spec_model.specs.Histories.{as_coin}
use Rattle.spec_model.specs.Holdings.{ledger_of}
use Rattle.spec_model.specs.Nodes.{Node}
use Rattle.spec_model.specs.Ordering.{Ledger, has_support, is_directly_committed}
use Rattle.spec_model.specs.Slots.{Slots, slots_of}
use Rattle.spec_model.specs.States.{State}
use Rattle.spec_model.specs.States as states
use Rattle.spec_model.specs.Words.{Certificate, Event}
use Rattle.spec_laws.proofs.Growing.{Extends}
use Rattle.spec_machine.specs.Machine.{certificate_of, grown}
use Rattle.spec_machine.specs.Sound.{IsSound}
use Rattle.dag.specs.Changes.{IsWith}
use Rattle.dag.specs.Graph.{DagView, IsGraph, slots_in}
use Rattle.tusk.specs.Chain.{ledger_in}
use Rattle.tusk.proofs.Adding.{is_new, extends, same_ledger, same_slots, with_certificate, one_wave}
use Rattle.tusk.proofs.Chains.{above_top, committed_within}
use Rattle.sequencer.specs.Sequence.{SequencerView, IsAt, ComesTo, wave_in}
use Rattle.sequencer.proofs.Chaining.{IsHigher}
use Rattle.sequencer.proofs.Coming.{new_in, no_coin, no_certificate}
use Rattle.sequencer.proofs.Preparing.{at_wave, wave_is}
use Rattle.sequencer.proofs.Staying.{slots_same}

-- ---- a certificate

-- the DAG with the certificate has the slots of the state with it
pub later_slots : (node : Node) (state : State) (event : Event) (sequence : SequencerView) (certificate : Certificate) (later : DagView)
    → IsAt node state sequence → certificate_of node state event.message ≡ Some certificate
    → IsWith sequence.graph later certificate → slots_in later ≡ (grown node state event.message).slots
later_slots node state event sequence certificate later at is more =
    fun_ext (λ round. fun_ext (λ author.
    more.slots round author
    ∙ ap (λ (s : Slots). option_or (s round author) (slots_of (certificate ∷ []) round author)) at.slots
    ∙ sym (ap (λ o. option_or (state.slots round author) (slots_of (option_to_list o) round author)) is)))

pub later_ledger : (node : Node) (state : State) (event : Event) (sequence : SequencerView) (certificate : Certificate) (later : DagView)
    → IsAt node state sequence → certificate_of node state event.message ≡ Some certificate
    → IsWith sequence.graph later certificate → ledger_in later sequence.coins ≡ states.ledger_in node (grown node state event.message)
later_ledger node state event sequence certificate later at is more =
    let coins : sequence.coins ≡ (grown node state event.message).coins = at.coins ∙ sym (append-nil state.coins)
    ∙ sym (ap (λ l. state.coins ++ l) (no_coin node state event.message certificate is)) in
    ap (λ x. let l : Ledger = record { charter = x; slots = slots_in later; coins = sequence.coins } in l) (more.charter ∙ at.charter)
    ∙ ap (λ (s : Slots). ledger_of node s sequence.coins) (later_slots node state event sequence certificate later at is more)
    ∙ ap (ledger_of node (grown node state event.message).slots) coins

pub certificate_extends : (node : Node) (state : State) (event : Event) (sequence : SequencerView) (certificate : Certificate) (later : DagView)
    → ComesTo node state event sequence → certificate_of node state event.message ≡ Some certificate
    → IsGraph sequence.graph → IsWith sequence.graph later certificate → Extends state.slots (grown node state event.message).slots
certificate_extends node state event sequence certificate later comes is graph more =
    let new = is_new sequence.graph certificate (new_in node state event sequence certificate comes is) in
    let ext = extends sequence.graph later certificate graph new more in
    subst (λ (s : Slots). Extends s (grown node state event.message).slots) comes.at.slots
    (subst (λ (s : Slots). Extends (slots_in sequence.graph) s) (later_slots node state event sequence certificate later comes.at is more) ext)

unequal : (one other : ℕ) → (one == other) ≡ false → one ≢ other
unequal one other apart = grind (arith, apart)

-- the certificate is of the round above the last leader's, where one is newer
pub above_last : (node : Node) (state : State) (event : Event) (sequence : SequencerView) (certificate : Certificate) (later : DagView)
    → ComesTo node state event sequence → certificate_of node state event.message ≡ Some certificate
    → IsGraph sequence.graph → IsWith sequence.graph later certificate → (wave : ℕ) (last : Certificate)
    → IsHigher (states.ledger_in node state) (states.ledger_in node (grown node state event.message)) wave last → certificate.header.round ≡ 2 * suc wave
above_last node state event sequence certificate later comes is graph more wave last higher =
    let before = sequence.graph in
    let coins = sequence.coins in
    let new = is_new before certificate (new_in node state event sequence certificate comes is) in
    let at = at_wave node state sequence comes.comes.node_is comes.comes.sound comes.at in
    let now = with_certificate before later coins in
    let same : now ≡ states.ledger_in node (grown node state event.message) = same_ledger before later certificate coins more
    ∙ later_ledger node state event sequence certificate later comes.at is more in
    let committed : is_directly_committed now (suc wave) ≡ true =
    ap (λ l. is_directly_committed l (suc wave)) same ∙ ap (λ o. option_map_or (has_support (states.ledger_in node (grown node state event.message))) o false) higher.leads ∙ higher.supported in
    let within = (committed_within now (suc wave) committed).1 in
    let waves = wave_is node state sequence comes.comes.node_is comes.comes.sound comes.at in
    let low = higher.low in
    let long = length-append coins [] in
    let impossible : (v : ℕ) → ((w : ℕ) → w ≢ v → certificate.header.round ≢ 2 * w) → suc wave ≢ v → ⊥ =
    λ v apart other.
    let step = one_wave before later certificate coins graph new more v apart in
    let was = step.same (suc wave) other within in
    true≢false (sym (sym was ∙ committed) ∙ above_top (ledger_in before coins) (wave_in sequence.last) at.top (suc wave) (omega (arith, waves, low)) (omega (arith, within, long))) in
    elim (cases_Bool (certificate.header.round == 2 * suc wave)) [
      | inl level ↦ eqb-true certificate.header.round (2 * suc wave) level
      | inr apart ↦
          let apart' = unequal certificate.header.round (2 * suc wave) apart in
          elim (cases_Bool (suc wave == certificate.header.round / 2)) [
            | inl half ↦
                let half' = eqb-true (suc wave) (certificate.header.round / 2) half in
                absurd (impossible 0 (λ w other same. apart' (omega (arith, same, half'))) (λ none. absurd (omega (arith, none))))
            | inr elsewhere ↦
                let elsewhere' = unequal (suc wave) (certificate.header.round / 2) elsewhere in
                absurd (impossible (certificate.header.round / 2) (λ w other same. other (omega (arith, same))) elsewhere')
          ]
    ]

-- ---- a coin

pub coin_slots : (node : Node) (state : State) (event : Event) (value : ℕ) → as_coin event.message ≡ Some value → (grown node state event.message).slots ≡ state.slots
coin_slots node state event value is = slots_same node state event (no_certificate node state event.message value is)

pub coin_extends : (node : Node) (state : State) (event : Event) (value : ℕ) → as_coin event.message ≡ Some value → IsSound node state → Extends state.slots (grown node state event.message).slots
coin_extends node state event value is sound = subst (λ (s : Slots). Extends state.slots s) (sym (coin_slots node state event value is)) (same_slots state.slots sound.certificates.placed)

pub coin_ledger : (node : Node) (state : State) (event : Event) (sequence : SequencerView) (value : ℕ) → IsAt node state sequence → as_coin event.message ≡ Some value
    → ledger_in sequence.graph (sequence.coins ++ value ∷ []) ≡ states.ledger_in node (grown node state event.message)
coin_ledger node state event sequence value at is =
    let coins : sequence.coins ++ value ∷ [] ≡ (grown node state event.message).coins = ap (λ l. l ++ value ∷ []) at.coins ∙ sym (ap (λ o. state.coins ++ option_to_list o) is) in
    ap (λ x. let l : Ledger = record { charter = x; slots = slots_in sequence.graph; coins = sequence.coins ++ value ∷ [] } in l) at.charter
    ∙ ap (λ (s : Slots). ledger_of node s (sequence.coins ++ value ∷ [])) (at.slots ∙ sym (coin_slots node state event value is))
    ∙ ap (ledger_of node (grown node state event.message).slots) coins
