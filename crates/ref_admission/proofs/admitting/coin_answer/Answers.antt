use Rattle.std.proofs.Common.{arith, rules, ◌≡◌, ◌+◌, ◌-◌, ◌*◌, true, false, Some, None, length, slice_get, refl, sym, ap, ◌∙◌}
use Rattle.std.specs.Prelude.{◌==◌}
use Rattle.std.proofs.lemmas.Bool.{eqb-true, eq-eqb, ne_eqb, ltb-true}
use Rattle.std.proofs.lemmas.Option.{slice_get_past, slice_get_read}
use Rattle.spec_model.specs.Admitting.{is_own}
use Rattle.spec_model.specs.Holdings.{is_full}
use Rattle.spec_model.specs.Nodes.{node_view}
use Rattle.header.specs.declared.admission.Admission.TheVariants.{Known}
use Rattle.ref_admission.proofs.admitting.coin_answer.Goals as goal

pub returns-then-not-branch : goal.returns-then-not-branch
returns-then-not-branch g c =
    let node = node_view g.S.Sign.scheme c.args.node.now in
    let state = g.H.Held.state c.args.now.now in
    let coin = c.args.coin.now in
    let own : is_own node c.args.sender ≡ true = search rules in
    let turn : (coin.wave == length state.coins + 1) ≡ true = search rules in
    let last : coin.wave ≡ length state.coins + 1 = eqb-true coin.wave (length state.coins + 1) turn in
    let free : slice_get state.coins (coin.wave - 1) ≡ None = slice_get_past state.coins (coin.wave - 1) (omega (arith, last)) in
    let early : is_full node state.slots (2 * coin.wave + 1) ≡ false =
    ap (λ wave. is_full node state.slots (2 * wave + 1)) (sym c.number-wave.ensures.value) ∙ sym c.in_ok-is_full_in.ensures ∙ c.if-not-branch.true in
    rw (own, free, turn, early) refl

pub returns : goal.returns
returns g c =
    let node = node_view g.S.Sign.scheme c.args.node.now in
    let state = g.H.Held.state c.args.now.now in
    let coin = c.args.coin.now in
    let own : is_own node c.args.sender ≡ true = search rules in
    let turn : (coin.wave == length state.coins + 1) ≡ true = search rules in
    let last : coin.wave ≡ length state.coins + 1 = eqb-true coin.wave (length state.coins + 1) turn in
    let free : slice_get state.coins (coin.wave - 1) ≡ None = slice_get_past state.coins (coin.wave - 1) (omega (arith, last)) in
    let full : is_full node state.slots (2 * coin.wave + 1) ≡ true =
    ap (λ wave. is_full node state.slots (2 * wave + 1)) (sym c.number-wave.ensures.value) ∙ sym c.in_ok-is_full_in.ensures ∙ c.if-not-branch.false in
    rw (own, free, turn, full) (search rules)

pub returns-then-not-is_own : goal.returns-then-not-is_own
returns-then-not-is_own g c =
    let node = node_view g.S.Sign.scheme c.args.node.now in
    let other : is_own node c.args.sender ≡ false = sym c.is_own.ensures ∙ c.if-not-is_own.true in
    rw other refl

pub returns-in-Some : goal.returns-in-Some
returns-in-Some g c =
    let node = node_view g.S.Sign.scheme c.args.node.now in
    let state = g.H.Held.state c.args.now.now in
    let coin = c.args.coin.now in
    let taken = c.in-Some.taken.now in
    let own : is_own node c.args.sender ≡ true = sym c.is_own.ensures ∙ c.if-not-is_own.false in
    let coins_are : c.deref.result.now ≡ state.coins = c.deref.ensures.value ∙ c.in_ok-coins.ensures in
    let here : slice_get c.deref.result.now (c.number-wave.result - 1) ≡ Some taken =
    slice_get_read c.deref.result.now (length c.deref.result.now) (c.number-wave.result - 1) taken refl
    (ltb-true (c.number-wave.result - 1) (length c.deref.result.now) (sym c.in-Some.ensures.lookup.0)) c.in-Some.ensures.lookup.1 in
    let there : slice_get c.deref.result.now (c.number-wave.result - 1) ≡ slice_get state.coins (coin.wave - 1) = λ i. slice_get (coins_are i) (c.number-wave.ensures.value i - 1) in
    let held : slice_get state.coins (coin.wave - 1) ≡ Some taken = sym there ∙ here in
    let differs : (taken == coin.value) ≡ false = ne_eqb taken coin.value c.if-taken-coin.false in
    rw (own, held, differs) refl

pub returns-then-taken-coin : goal.returns-then-taken-coin
returns-then-taken-coin g c =
    let node = node_view g.S.Sign.scheme c.args.node.now in
    let state = g.H.Held.state c.args.now.now in
    let coin = c.args.coin.now in
    let taken = c.in-Some.taken.now in
    let own : is_own node c.args.sender ≡ true = sym c.is_own.ensures ∙ c.if-not-is_own.false in
    let coins_are : c.deref.result.now ≡ state.coins = c.deref.ensures.value ∙ c.in_ok-coins.ensures in
    let here : slice_get c.deref.result.now (c.number-wave.result - 1) ≡ Some taken =
    slice_get_read c.deref.result.now (length c.deref.result.now) (c.number-wave.result - 1) taken refl
    (ltb-true (c.number-wave.result - 1) (length c.deref.result.now) (sym c.in-Some.ensures.lookup.0)) c.in-Some.ensures.lookup.1 in
    let there : slice_get c.deref.result.now (c.number-wave.result - 1) ≡ slice_get state.coins (coin.wave - 1) = λ i. slice_get (coins_are i) (c.number-wave.ensures.value i - 1) in
    let held : slice_get state.coins (coin.wave - 1) ≡ Some taken = sym there ∙ here in
    let same : (taken == coin.value) ≡ true = eq-eqb taken coin.value c.if-taken-coin.true in
    rw (own, held, same) (ap Known c.new.ensures)
