use Rattle.std.proofs.Common.{◌≡◌, ◌+◌, ◌-◌, ◌<◌, ◌∙◌, ◌∷◌, ◌++◌, [], List, Option, ℕ, true, false, length, ap, sym, arith, map, inl, inr}
use Rattle.std.specs.Option.{option_map_or}
use Rattle.std.proofs.lemmas.Bool.{cases_Bool}
use Rattle.std.proofs.lemmas.Result.{IfOk-weaker}
use Rattle.spec_laws.proofs.Growing.{is_in}
use Rattle.spec_laws.proofs.Weighing.{size_some}
use Rattle.spec_model.specs.Ordering.{has_support, is_directly_committed, newer_to}
use Rattle.spec_model.specs.Words.{Author}
use Rattle.dag.specs.Graph.{DagView, IsGraph, slots_in}
use Rattle.tusk.proofs.Adding.{same_slots, one_coin, coin_last, grows_some, grows_none}
use Rattle.tusk.proofs.Chains.{top_within}
use Rattle.tusk.proofs.Supporting.{IsLed, leader_chosen, led_by, led_by_none}
use Rattle.tusk.proofs.coins.Coins.committed_with.Goals as goal
use Rattle.tusk.specs.Chain.{ledger_in, slot_of, wave_of, IsAt, IsChain}

-- with the coin of the next wave, whose leader has support
with_support : (graph : DagView) (coins : List ℕ) (value : ℕ) (last : Option ℕ) (wave : ℕ) (leader : ℕ × Author) (chain : List (ℕ × Author))
    → IsGraph graph → IsAt graph coins last → wave ≡ length coins + 1 → wave_of last < wave
    → (led : IsLed (ledger_in graph (coins ++ value ∷ [])) wave leader.0 leader.1.0)
    → has_support (ledger_in graph (coins ++ value ∷ [])) led.certificate ≡ true
    → chain ≡ map slot_of (newer_to (ledger_in graph coins) (wave_of last) (wave - 1) led.certificate)
    → IsChain (ledger_in graph (coins ++ value ∷ [])) last chain
with_support graph coins value last wave leader chain is at next higher led supported all =
    grows_some (ledger_in graph coins) (slots_in graph) (value ∷ []) last wave led.certificate chain
    (same_slots (slots_in graph) is.placed) (size_some graph.charter is.charter)
    (one_coin graph coins value wave is next) at.top higher (omega (arith, next))
    (is_in (slots_in graph) leader.0 leader.1.0 led.certificate is.placed led.held) led.leads supported all

-- with one that commits nothing
with_none : (graph : DagView) (coins : List ℕ) (value : ℕ) (last : Option ℕ) (wave : ℕ) (chain : List (ℕ × Author))
    → IsGraph graph → IsAt graph coins last → wave ≡ length coins + 1
    → is_directly_committed (ledger_in graph (coins ++ value ∷ [])) wave ≡ false → chain ≡ []
    → IsChain (ledger_in graph (coins ++ value ∷ [])) last chain
with_none graph coins value last wave chain is at next apart none =
    grows_none (ledger_in graph coins) (ledger_in graph (coins ++ value ∷ [])) last wave chain
    (one_coin graph coins value wave is next) at.top (λ _. apart) none

pub returns-then-wave-base : goal.returns-then-wave-base
returns-then-wave-base c at =
    let last = c.args.last in
    let base : c.committed_to-base.result ≡ wave_of last = c.committed_to-base.ensures in
    let within = top_within (ledger_in c.args.dag.now c.args.self.now) last at.top in
    absurd (omega (arith, within, base, c.if-wave-base.true, c.count.ensures.value))

pub returns-in-Some : goal.returns-in-Some
returns-in-Some c =
    let graph = c.args.dag.now in
    let coins = c.args.self.now in
    let value = c.args.value in
    let last = c.args.last in
    let now = ledger_in graph (coins ++ value ∷ []) in
    let is = c.limits_hold.ensures in
    let wave = c.count.result + 1 in
    let next : wave ≡ length coins + 1 = omega (arith, c.count.ensures.value) in
    let base : c.committed_to-base.result ≡ wave_of last = c.committed_to-base.ensures in
    let led = led_by now wave c.in-Some.leader is.placed
    (c.in-Some.ensures.value ∙ leader_chosen graph (coins ++ value ∷ []) wave value (coin_last coins value wave next)) in
    let supported = sym (c.is_supported-supported.ensures led.certificate (coins ++ value ∷ []) led.held) in
    elim (cases_Bool c.is_supported-supported.result) [
      | inl enough ↦
          IfOk-weaker c.newer_if_supported.result _ _
          (λ chain taken at. with_support graph coins value last wave c.in-Some.leader chain.items is at next (omega (arith, base, c.if-wave-base.false)) led (supported ∙ enough)
          (taken enough led.certificate led.held ∙ ap (λ (b : ℕ). map slot_of (newer_to (ledger_in graph coins) b (wave - 1) led.certificate)) base))
          c.newer_if_supported.ensures.some
      | inr few ↦
          IfOk-weaker c.newer_if_supported.result _ _
          (λ chain taken at. with_none graph coins value last wave chain.items is at next
          (ap (λ o. option_map_or (has_support now) o false) led.leads ∙ supported ∙ few) (taken few))
          c.newer_if_supported.ensures.none
    ]

pub returns-in-None : goal.returns-in-None
returns-in-None c at =
    let graph = c.args.dag.now in
    let coins = c.args.self.now in
    let value = c.args.value in
    let now = ledger_in graph (coins ++ value ∷ []) in
    let wave = c.count.result + 1 in
    let next : wave ≡ length coins + 1 = omega (arith, c.count.ensures.value) in
    let none = led_by_none now wave
    (c.in-None.ensures.value ∙ leader_chosen graph (coins ++ value ∷ []) wave value (coin_last coins value wave next)) in
    with_none graph coins value c.args.last wave c.new-in-None.result.items c.limits_hold.ensures at next
    (ap (λ o. option_map_or (has_support now) o false) none) c.new-in-None.ensures.items
