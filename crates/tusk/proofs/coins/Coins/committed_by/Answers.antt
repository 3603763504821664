use Rattle.std.proofs.Common.{◌≡◌, ◌≢◌, ◌+◌, ◌-◌, ◌*◌, ◌/◌, ◌<◌, ◌∙◌, ℕ, ap, sym, arith, map, inl, inr}
use Rattle.std.proofs.lemmas.Bool.{cases_Bool}
use Rattle.std.proofs.lemmas.Result.{IfOk-weaker}
use Rattle.spec_model.specs.Ordering.{newer_to}
use Rattle.dag.specs.Changes.{IsWith}
use Rattle.dag.specs.Graph.{DagView}
use Rattle.tusk.proofs.Adding.{IsNew, is_new, extends, no_leader, enough_with, certificate_some, certificate_none, not_enough}
use Rattle.tusk.proofs.Supporting.{led_by, led_by_none}
use Rattle.tusk.proofs.coins.Coins.committed_by.Goals as goal
use Rattle.tusk.proofs.coins.Coins.committed_by.Goals.{then-round-eq1-via-then-round-eq1, then-round-eq1-via-else-round-eq1+then-wave-base}
use Rattle.tusk.specs.Chain.{ledger_in, slot_of, wave_of}

-- an even round is of one wave
halved : (round v : ℕ) → v ≢ round / 2 → round ≢ 2 * v
halved round v other same = other (omega (arith, same))

pub returns-then-round-eq1 : goal.returns-then-round-eq1
returns-then-round-eq1 c at fresh after more =
    let graph = c.args.dag.now in
    let certificate = c.args.certificate.now in
    let last = c.args.last in
    let is = c.limits_hold.ensures in
    let new = is_new graph certificate fresh in
    let round = c.number-round.ensures.value in
    let base : c.committed_to-base.result ≡ wave_of last = c.committed_to-base.ensures in
    elim c.then-round-eq1.branch [
      | then-round-eq1-via-then-round-eq1 w ↦
          certificate_none graph after certificate c.args.self.now last 0 c.new.result.items is new more at.top
          (λ v other same. omega (arith, round, w.if-round-eq1.true, same)) (λ less. absurd (omega (arith, less))) c.new.ensures.items
      | then-round-eq1-via-else-round-eq1+then-wave-base w ↦
          certificate_none graph after certificate c.args.self.now last (certificate.header.round / 2) c.new.result.items is new more at.top
          (halved certificate.header.round) (λ less. absurd (omega (arith, less, round, base, w.if-wave-base.true))) c.new.ensures.items
    ]

pub returns-in-Some : goal.returns-in-Some
returns-in-Some c =
    let graph = c.args.dag.now in
    let coins = c.args.self.now in
    let certificate = c.args.certificate.now in
    let last = c.args.last in
    let is = c.limits_hold.ensures in
    let wave = c.number-round.result / 2 in
    let slot = c.in-Some.leader in
    let led = led_by (ledger_in graph coins) wave slot is.placed c.in-Some.ensures.value in
    let level : certificate.header.round ≡ 2 * wave = omega (arith, c.number-round.ensures.value, c.if-round-eq1.false) in
    let base : c.committed_to-base.result ≡ wave_of last = c.committed_to-base.ensures in
    let higher : wave_of last < wave = omega (arith, base, c.if-wave-base.false) in
    let next : slot.0 + 1 ≡ certificate.header.round = omega (arith, c.in-Some.ensures.round, level, higher) in
    let supported = λ (after : DagView) (new : IsNew graph certificate) (more : IsWith graph after certificate).
    enough_with graph after certificate coins is new more slot.0 slot.1.0 led.certificate led.held next _
    (λ m. c.supporters_with-supporters.ensures led.certificate m led.held) ∙ sym c.is_enough-supported.ensures in
    elim (cases_Bool c.is_enough-supported.result) [
      | inl enough ↦
          IfOk-weaker c.newer_if_supported.result _ _
          (λ chain taken at fresh after more.
          let new = is_new graph certificate fresh in
          certificate_some graph after certificate coins last wave slot.0 slot.1.0 chain.items is new more at.top level higher led
          (supported after new more ∙ enough)
          (taken enough led.certificate led.held ∙ ap (λ (b : ℕ). map slot_of (newer_to (ledger_in graph coins) b (wave - 1) led.certificate)) base))
          c.newer_if_supported.ensures.some
      | inr few ↦
          IfOk-weaker c.newer_if_supported.result _ _
          (λ chain taken at fresh after more.
          let new = is_new graph certificate fresh in
          certificate_none graph after certificate coins last wave chain.items is new more at.top (λ v other same. other (omega (arith, level, same)))
          (λ _. not_enough graph after certificate coins wave led.certificate (extends graph after certificate is new more) led.leads
          (supported after new more ∙ few))
          (taken few))
          c.newer_if_supported.ensures.none
    ]

pub returns-in-None : goal.returns-in-None
returns-in-None c at fresh after more =
    let graph = c.args.dag.now in
    let coins = c.args.self.now in
    let certificate = c.args.certificate.now in
    let last = c.args.last in
    let is = c.limits_hold.ensures in
    let new = is_new graph certificate fresh in
    let wave = c.number-round.result / 2 in
    let level : certificate.header.round ≡ 2 * wave = omega (arith, c.number-round.ensures.value, c.if-round-eq1.false) in
    certificate_none graph after certificate coins last wave c.new-in-None.result.items is new more at.top (λ v other same. other (omega (arith, level, same)))
    (λ _. no_leader graph after certificate coins is new more wave (led_by_none (ledger_in graph coins) wave c.in-None.ensures.value))
    c.new-in-None.ensures.items
