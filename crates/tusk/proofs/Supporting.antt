-- Who supports a leader over what a DAG holds, and with one certificate more.
use Rattle.std.proofs.Common.{◌≡◌, ◌<◌, ℕ, zero, suc, ◌+◌, ◌-◌, ◌*◌, ◌%◌, false, List, Some, None, inl, inr, refl, ap, sym, ◌∙◌, arith}
use Rattle.std.specs.Prelude.{option_map, option_and_then, nat_le, slice_get, ◌==◌, ◌&&◌}
use Rattle.std.specs.List.{list_any}
use Rattle.std.specs.Option.{option_map_or}
use Rattle.std.proofs.lemmas.Option.{same_Some, slice_get_past}
use Rattle.std.proofs.lemmas.Bool.{cases_Bool, leb-true}
use Rattle.spec_laws.proofs.Growing.{AreInPlace, leader_in}
use Rattle.spec_laws.proofs.Lists.{given_or_none}
use Rattle.spec_model.specs.Ordering.{Ledger, leader, supports}
use Rattle.spec_model.specs.Slots.{same_digest, certificate_digest, is_parent, is_named}
use Rattle.spec_model.specs.Words.{Author, Certificate, Digest, ParentReference}
use Rattle.spec_laws.proofs.Votes.{slot_is}
use Rattle.dag.specs.Graph.{DagView, IsGraph, size_in, slots_in, has_parent_in, digest_in}
use Rattle.tusk.specs.Chain.{ledger_in, coin_of, slot_of}
use Rattle.wire.specs.declared.round.TheConstants.Round.{MAX}

-- the supporters that a DAG tells of are those of the order
pub supports_in : (graph : DagView) → IsGraph graph → (coins : List ℕ) (round author : ℕ) (c : Certificate) → slots_in graph round author ≡ Some c → (member : ℕ)
    → has_parent_in graph (round + 1) member round author ≡ supports (ledger_in graph coins) c member
supports_in graph is coins round author c held member =
    let place = slot_is round author c.header (is.placed round author c held) in
    ap (λ o. option_map_or (λ child. option_map_or (λ d. is_parent d child) o false) (slots_in graph (round + 1) member) false) held
    ∙ ap (λ (r : ℕ). option_map_or (is_parent c) (slots_in graph (r + 1) member) false) (sym place.0)

-- a reference by its author and digest is one to what the slot holds
pub named_in : (graph : DagView) → IsGraph graph → (round : ℕ) (author : Author) (c : Certificate) (digest : Digest) (parents : List ParentReference)
    → slots_in graph round author.0 ≡ Some c → Some digest ≡ digest_in graph round author.0
    → list_any (λ parent. (parent.author.0 == author.0) && same_digest parent.certificate digest) parents ≡ list_any (is_named c) parents
named_in graph is round author c digest parents held digested =
    let place = slot_is round author.0 c.header (is.placed round author.0 c held) in
    let same : digest ≡ certificate_digest c.header = same_Some digest (certificate_digest c.header) (digested ∙ ap (option_map (λ (d : Certificate). certificate_digest d.header)) held) in
    ap (λ d. list_any (λ (parent : ParentReference). (parent.author.0 == author.0) && same_digest parent.certificate d) parents) same
    ∙ ap (λ (a : ℕ). list_any (λ (parent : ParentReference). (parent.author.0 == a) && same_digest parent.certificate (certificate_digest c.header)) parents) (sym place.1)

-- the leader of a wave with a coin is what the slot holds that the coin chooses
pub leader_chosen : (graph : DagView) (coins : List ℕ) (wave coin : ℕ) → Some coin ≡ coin_of coins wave
    → option_map slot_of (slots_in graph (2 * wave - 1) (coin % size_in graph)) ≡ option_map slot_of (leader (ledger_in graph coins) wave)
leader_chosen graph coins zero coin is = absurd cc
leader_chosen graph coins (suc wave) coin is =
    let round : 2 * suc wave - 1 ≡ 2 * wave + 1 = omega arith in
    rw (round, ← is) refl

-- what a slot is that holds a certificate
-- past the greatest round nothing is held
pub above_all : (graph : DagView) → IsGraph graph → (round author : ℕ) → MAX < round → slots_in graph round author ≡ None
above_all graph is round author past =
    let few = is.few in
    elim (cases_Bool (nat_le graph.floor round)) [
      | inl above ↦ rw above
          (ap (λ row. option_map (λ placed. placed.certificate)
          (option_and_then (λ slots. option_and_then (λ held. held) (slice_get slots author)) row))
          (slice_get_past graph.rounds (round - graph.floor) (omega (arith, few, past, leb-true graph.floor round above))))
      | inr below ↦ rw below refl
    ]

pub slot_held : (graph : DagView) → IsGraph graph → (r a round author : ℕ) (c : Certificate) → r ≡ round → a ≡ author → Some c ≡ slots_in graph r a
    → Some (r, (let b : Author = record { 0 = a } in b)) ≡ option_map slot_of (slots_in graph round author)
slot_held graph is r a round author c same_round same_author held =
    let place = slot_is r a c.header (is.placed r a c (sym held)) in
    ap (λ (x : ℕ). Some (x, (let b : Author = record { 0 = a } in b))) (sym place.0)
    ∙ ap (λ (x : ℕ). Some (c.header.round, (let b : Author = record { 0 = x } in b))) (sym place.1)
    ∙ ap (option_map slot_of) held
    ∙ ap (λ (x : ℕ). option_map slot_of (slots_in graph x a)) same_round
    ∙ ap (λ (x : ℕ). option_map slot_of (slots_in graph round x)) same_author

-- a leader's slot holds it
pub record IsLed (ledger : Ledger) (wave round author : ℕ) : Type 0 where
  pub certificate : Certificate
  pub leads : leader ledger wave ≡ Some certificate
  pub held : ledger.slots round author ≡ Some certificate
  pub same_round : certificate.header.round ≡ round
  pub same_author : certificate.header.author.0 ≡ author

pub led_by : (ledger : Ledger) (wave : ℕ) (slot : ℕ × Author) → AreInPlace ledger.slots → Some slot ≡ option_map slot_of (leader ledger wave) → IsLed ledger wave slot.0 slot.1.0
led_by ledger wave slot placed is =
    elim (given_or_none (leader ledger wave)) [
      | inl found ↦
          let same : slot ≡ slot_of found.0 = same_Some slot (slot_of found.0) (is ∙ ap (option_map slot_of) found.1) in
          record {
            certificate = found.0;
            leads = found.1;
            held = ap (λ (s : ℕ × Author). ledger.slots s.0 s.1.0) same ∙ leader_in ledger wave found.0 placed found.1;
            same_round = sym (ap (λ (s : ℕ × Author). s.0) same);
            same_author = sym (ap (λ (s : ℕ × Author). s.1.0) same);
          }
      | inr none ↦ let nothing = is ∙ ap (option_map slot_of) none in absurd cc
    ]

-- a wave without a leader
pub led_by_none : (ledger : Ledger) (wave : ℕ) → None ≡ option_map slot_of (leader ledger wave) → leader ledger wave ≡ None
led_by_none ledger wave is =
    elim (given_or_none (leader ledger wave)) [
      | inl found ↦ let bad = is ∙ ap (option_map slot_of) found.1 in absurd cc
      | inr none ↦ none
    ]
