-- What was made of the chain of a step is what is prepared for it.
use Rattle.std.proofs.Common.{◌≡◌, ℕ, ◌-◌, ◌<◌, List, [], ◌∷◌, ◌++◌, map, Option, Some, inl, inr, ap, sym, ◌∙◌, subst}
use Rattle.std.specs.Prelude.{Ok}
use Rattle.std.specs.Option.{option_map_or}
use Rattle.std.proofs.lemmas.Option.{same_Some, none-some}
use Rattle.spec_model.specs.Histories.{as_coin}
use Rattle.spec_model.specs.Nodes.{Node, IsNode}
use Rattle.spec_laws.proofs.Lists.{given_or_none}
use Rattle.spec_model.specs.Ordering.{Ledger, newer, segments}
use Rattle.spec_model.specs.States.{State}
use Rattle.spec_model.specs.States as states
use Rattle.spec_model.specs.Words.{Author, Certificate, Event}
use Rattle.spec_machine.specs.Machine.{certificate_of, grown}
use Rattle.spec_machine.specs.Sound.{IsSound}
use Rattle.dag.specs.Answer.{answer}
use Rattle.dag.specs.Changes.{IsWith}
use Rattle.dag.specs.Graph.{DagView, IsGraph, size_in}
use Rattle.dag.specs.declared.answers.Added.TheVariants.{New}
use Rattle.tusk.specs.Chain.{ledger_in, slot_of, wave_of, IsChain}
use Rattle.tusk.specs.Chain as chain
use Rattle.flatten.specs.Lengthening.{LengtheningView, FitsTo}
use Rattle.flatten.specs.Segments.{leader_held, digests_of, leaders_in, IsMarkedFor}
use Rattle.sequencer.specs.Sequence.{SequencerView, IsAt, ComesTo, IsPrepared, IsMadeOf, IsMadeOfAll, wave_in}
use Rattle.sequencer.specs.declared.prepared.Prepared.{Prepared}
use Rattle.sequencer.proofs.Coming.{new_in}
use Rattle.sequencer.proofs.Extending.{there_is, with_one}
use Rattle.sequencer.proofs.Growing.{later_ledger, certificate_extends, coin_ledger, coin_extends}
use Rattle.sequencer.proofs.Naming.{names_some}
use Rattle.sequencer.proofs.Preparing.{IsChainOf, chain_of, marked_past, at_wave, wave_is}

marked_for : (node : Node) (state : State) (sequence : SequencerView) (slots : List (ℕ × Author)) → IsNode node → IsSound node state
    → IsAt node state sequence → IsMarkedFor sequence.graph sequence.last slots
marked_for node state sequence [] node_is sound at = tt
marked_for node state sequence (first ∷ slots) node_is sound at = marked_past node state sequence node_is sound at (first.0 - sequence.graph.charter.depth)

pub ready : (node : Node) (state : State) (event : Event) (sequence : SequencerView) (slots : List (ℕ × Author)) (prepared : Prepared)
    → ComesTo node state event sequence → IsChainOf node state event sequence slots
    → IsMadeOf sequence.graph sequence.last slots prepared.committed → IsPrepared node state event sequence prepared
ready node state event sequence slots prepared comes chained made =
    elim (given_or_none prepared.committed) [
      | inr none ↦
          let empty : slots ≡ [] = subst (IsMadeOf sequence.graph sequence.last slots) none made in
          record {
            digests = ap (λ o. option_map_or (λ (m : LengtheningView). m.digests) o []) none
                ∙ sym (ap (λ l. digests_of
                (segments (ledger_in sequence.graph sequence.coins) (leader_held sequence.graph sequence.last) (leaders_in sequence.graph l))) empty)
                ∙ chained.digests;
            last = chained.none empty ∙ sym (ap (λ o. option_map_or (λ (m : LengtheningView). Some m.last) o sequence.last) none);
            made = λ m is. absurd (none-some m (sym none ∙ is));
            newer = λ m is. absurd (none-some m (sym none ∙ is));
          }
      | inl found ↦
          let all : IsMadeOfAll sequence.graph sequence.last slots found.0 = subst (IsMadeOf sequence.graph sequence.last slots) found.1 made in
          let marked = marked_for node state sequence slots comes.comes.node_is comes.comes.sound comes.at in
          let end = chained.some found.0.last all.last_slot in
          record {
            digests = ap (λ o. option_map_or (λ (m : LengtheningView). m.digests) o []) found.1 ∙ all.digests sequence.coins chained.linked marked ∙ chained.digests;
            last = end.0 ∙ sym (ap (λ o. option_map_or (λ (m : LengtheningView). Some m.last) o sequence.last) found.1);
            made = λ m is. subst (FitsTo sequence.graph) (same_Some found.0 m (sym found.1 ∙ is)) (all.of chained.linked marked);
            newer = λ m is. subst (λ (x : LengtheningView). option_map_or (λ (s : ℕ × Author). s.0) sequence.last 0 < x.last.0) (same_Some found.0 m (sym found.1 ∙ is)) end.1;
          }
    ]

pub certificate_chain : (node : Node) (state : State) (event : Event) (sequence : SequencerView) (certificate : Certificate) (later : DagView)
    (slots : List (ℕ × Author)) → ComesTo node state event sequence
    → certificate_of node state event.message ≡ Some certificate → IsGraph sequence.graph → IsWith sequence.graph later certificate
    → IsChain (ledger_in later sequence.coins) (wave_in sequence.last) slots
    → IsChainOf node state event sequence slots
certificate_chain node state event sequence certificate later slots comes adds graph more is =
    chain_of node state event sequence comes.comes.node_is comes.comes.sound comes.at (certificate_extends node state event sequence certificate later comes adds graph more) slots
    (is.newer ∙ ap (λ (l : Ledger). map slot_of (newer l (wave_of (wave_in sequence.last)))) (later_ledger node state event sequence certificate later comes.at adds more)
    ∙ ap (λ w. map slot_of (newer (states.ledger_in node (grown node state event.message)) w)) (wave_is node state sequence comes.comes.node_is comes.comes.sound comes.at))

pub coin_chain : (node : Node) (state : State) (event : Event) (sequence : SequencerView) (value : ℕ) (slots : List (ℕ × Author))
    → ComesTo node state event sequence → as_coin event.message ≡ Some value
    → IsChain (ledger_in sequence.graph (sequence.coins ++ value ∷ [])) (wave_in sequence.last) slots → IsChainOf node state event sequence slots
coin_chain node state event sequence value slots comes adds is =
    chain_of node state event sequence comes.comes.node_is comes.comes.sound comes.at (coin_extends node state event value adds comes.comes.sound) slots
    (is.newer ∙ ap (λ (l : Ledger). map slot_of (newer l (wave_of (wave_in sequence.last)))) (coin_ledger node state event sequence value comes.at adds)
    ∙ ap (λ w. map slot_of (newer (states.ledger_in node (grown node state event.message)) w)) (wave_is node state sequence comes.comes.node_is comes.comes.sound comes.at))

-- what was made of the leaders that a certificate commits is prepared for it
pub ready_for : (node : Node) (state : State) (event : Event) (sequence : SequencerView) (certificate : Certificate) (last : Option ℕ)
    (slots : List (ℕ × Author)) (prepared : Prepared) → ComesTo node state event sequence
    → certificate_of node state event.message ≡ Some certificate → IsGraph sequence.graph → certificate.header.author.0 < size_in sequence.graph → last ≡ wave_in sequence.last
    → (chain.IsAt sequence.graph sequence.coins last → answer sequence.graph certificate ≡ Ok New
    → (later : DagView) → IsWith sequence.graph later certificate → IsChain (ledger_in later sequence.coins) last slots)
    → IsMadeOf sequence.graph sequence.last slots prepared.committed → IsPrepared node state event sequence prepared
ready_for node state event sequence certificate last slots prepared comes adds graph member wave commits made =
    let new = new_in node state event sequence certificate comes adds in
    let later = with_one sequence.graph certificate in
    let more = there_is sequence.graph certificate graph member (names_some node state event sequence certificate comes adds) new in
    let at = at_wave node state sequence comes.comes.node_is comes.comes.sound comes.at in
    let is = commits (subst (chain.IsAt sequence.graph sequence.coins) (sym wave) at) new later more in
    ready node state event sequence slots prepared comes
    (certificate_chain node state event sequence certificate later slots comes adds graph more (subst (λ (o : Option ℕ). IsChain (ledger_in later sequence.coins) o slots) wave is)) made

-- so it is with a coin
pub ready_with : (node : Node) (state : State) (event : Event) (sequence : SequencerView) (value : ℕ) (last : Option ℕ) (slots : List (ℕ × Author))
    (prepared : Prepared) → ComesTo node state event sequence
    → as_coin event.message ≡ Some value → last ≡ wave_in sequence.last
    → (chain.IsAt sequence.graph sequence.coins last → IsChain (ledger_in sequence.graph (sequence.coins ++ value ∷ [])) last slots)
    → IsMadeOf sequence.graph sequence.last slots prepared.committed → IsPrepared node state event sequence prepared
ready_with node state event sequence value last slots prepared comes adds wave commits made =
    let at = at_wave node state sequence comes.comes.node_is comes.comes.sound comes.at in
    let is = commits (subst (chain.IsAt sequence.graph sequence.coins) (sym wave) at) in
    ready node state event sequence slots prepared comes
    (coin_chain node state event sequence value slots comes adds (subst (λ (o : Option ℕ). IsChain (ledger_in sequence.graph (sequence.coins ++ value ∷ [])) o slots) wave is)) made
