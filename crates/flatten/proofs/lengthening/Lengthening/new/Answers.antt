use Rattle.std.proofs.Common.{◌≡◌, ℕ, suc, ◌+◌, ◌-◌, ◌^◌, Bool, [], ◌∷◌, length, drop, slice_get, Option, Some, refl, ap, sym, ◌∙◌, subst, add-one, arith}
use Rattle.std.specs.Prelude.{min}
use Rattle.std.proofs.lemmas.Option.{slice_get_read}
use Rattle.spec_model.specs.Ordering.{segments}
use Rattle.spec_model.specs.Words.{Author}
use Rattle.tusk.specs.Chain.{ledger_in}
use Rattle.flatten.specs.Lengthening.{FitsTo}
use Rattle.flatten.specs.Segments.{leader_held, read_references_by, digests_of, leaders_in, AreLinked, IsMarkedFor}
use Rattle.flatten.specs.Sets.{is_free}
use Rattle.flatten.proofs.Leaders.{IsAfter, none_taken, one_taken, all_taken, reads_below, before_at, next_place, at_end, drop_one, dropped_all, no_coin}
use Rattle.flatten.proofs.Taking.{bare}
use Rattle.flatten.proofs.lengthening.Lengthening.new.Goals as goal

pub loop-place-init : goal.loop-place-init
loop-place-init c = (
  omega arith,
  λ previous linked marked.
      none_taken c.args.dag.now c.limits_hold.ensures previous c.args.chain.now c.index-chain-chain.result
      (is_free c.args.dag.now c.index-chain-chain.result.0 c.new-ordered.result.items) c.new-digests.result.items c.requires.some linked marked
      (slice_get_read c.args.chain.now (length c.args.chain.now) (length c.args.chain.now - 1) c.index-chain-chain.result refl (omega (arith, c.requires.some)) c.index-chain-chain.is)
      (bare c.args.dag.now c.index-chain-chain.result.0 c.new-ordered.result.items c.new-ordered.ensures.items) c.new-digests.ensures.items,
)

pub loop-place-preserved : goal.loop-place-preserved
loop-place-preserved c = (
  omega (arith, c.saturating_add-reads.ensures),
  λ previous linked marked.
      let graph = c.args.dag.now in
      let chain = c.args.chain.now in
      let place = c.loop-place.place in
      let leader = c.index-chain-place.result in
      let at : slice_get chain place ≡ Some leader = slice_get_read chain (length chain) place leader refl c.loop-place-test.true c.index-chain-place.is in
      let total = digests_of (segments (ledger_in graph []) (leader_held graph previous) (leaders_in graph chain)) in
      let most = read_references_by graph (leader_held graph previous) (leaders_in graph chain) in
      let reads = c.loop-place.reads in
      let reads' = c.saturating_add-reads.result in
      let high = c.index-chain-chain.result.0 in
      let free : ℕ → ℕ → Bool = is_free graph high c.loop-place.ordered.items in
      let free' : ℕ → ℕ → Bool = is_free graph high c.order.new.taken.items in
      let was : IsAfter graph total most high (before_at previous chain place) (leader ∷ drop (suc place) chain) free c.loop-place.digests.items reads =
      subst (λ l. IsAfter graph total most high (before_at previous chain place) l free c.loop-place.digests.items reads)
      (drop_one chain place leader at) (c.loop-place.invariant.1 previous linked marked) in
      let now = one_taken graph c.limits_hold.ensures total most high (before_at previous chain place) leader (drop (suc place) chain) free free'
      c.loop-place.digests.items c.order.new.digests.items reads c.in_ok-more.more reads' was c.saturating_add-reads.ensures
      (λ d leads. c.in_ok-more.ensures.digests (leader_held graph (before_at previous chain place)) d leads)
      (λ d leads all. c.in_ok-more.ensures.unordered (leader_held graph (before_at previous chain place)) d leads all)
      (λ d leads. c.in_ok-more.ensures.reads (leader_held graph (before_at previous chain place)) d leads) in
      subst (λ l. IsAfter graph total most high (before_at previous chain (place + 1)) l free' c.order.new.digests.items reads') (ap (λ k. drop k chain) (sym (add-one place)))
      (subst (λ b. IsAfter graph total most high b (drop (suc place) chain) free' c.order.new.digests.items reads') (sym (next_place previous chain place ∙ at)) now),
)

-- the last leader, at the last place
last_at : (c : goal.After-loop-place) → slice_get c.args.chain.now (length c.args.chain.now - 1) ≡ Some c.index-chain-chain.result
last_at c = slice_get_read c.args.chain.now (length c.args.chain.now) (length c.args.chain.now - 1) c.index-chain-chain.result refl (omega (arith, c.requires.some)) c.index-chain-chain.is

-- all leaders are taken
all_done : (c : goal.After-loop-place) → (previous : Option (ℕ × Author)) → AreLinked c.args.dag.now previous c.args.chain.now → IsMarkedFor c.args.dag.now previous c.args.chain.now
    → (c.loop-place.digests.items ≡ digests_of (segments (ledger_in c.args.dag.now []) (leader_held c.args.dag.now previous) (leaders_in c.args.dag.now c.args.chain.now)))
    × FitsTo c.args.dag.now (record { digests = c.loop-place.digests.items; last = c.index-chain-chain.result; ordered = c.loop-place.ordered.items; reads = c.loop-place.reads })
    × (c.loop-place.reads ≡ min (read_references_by c.args.dag.now (leader_held c.args.dag.now previous) (leaders_in c.args.dag.now c.args.chain.now)) (2 ^ 64 - 1))
all_done c previous linked marked =
    let graph = c.args.dag.now in
    let chain = c.args.chain.now in
    let place = c.loop-place.place in
    let past = c.loop-place-test.false in
    let some = c.requires.some in
    let most = c.loop-place.auto.place-end in
    let end : place - 1 ≡ length chain - 1 = omega (arith, past, most, some) in
    all_taken graph (digests_of (segments (ledger_in graph []) (leader_held graph previous) (leaders_in graph chain)))
    (read_references_by graph (leader_held graph previous) (leaders_in graph chain)) (before_at previous chain place) (drop place chain)
    c.index-chain-chain.result c.loop-place.ordered.items c.loop-place.digests.items c.loop-place.reads
    (c.loop-place.invariant.1 previous linked marked) c.loop-place.invariant.0 (dropped_all chain place past)
    (at_end previous chain place (omega (arith, past, some)) ∙ ap (slice_get chain) end ∙ last_at c)

pub returns-clause-digests : goal.returns-clause-digests
returns-clause-digests c previous coins linked marked =
    let graph = c.args.dag.now in
    (all_done c previous linked marked).0 ∙ ap digests_of (no_coin graph [] coins (leader_held graph previous) (leaders_in graph c.args.chain.now))

pub returns-clause-last : goal.returns-clause-last
returns-clause-last c = last_at c

pub returns-clause-of : goal.returns-clause-of
returns-clause-of c previous linked marked = (all_done c previous linked marked).1

pub returns-clause-reads : goal.returns-clause-reads
returns-clause-reads c previous linked marked =
    let exact = (all_done c previous linked marked).2 in
    let few = reads_below c.args.dag.now (leader_held c.args.dag.now previous) (leaders_in c.args.dag.now c.args.chain.now) in
    omega (arith, exact, few)

pub returns-clause-exact : goal.returns-clause-exact
returns-clause-exact c previous linked marked = (all_done c previous linked marked).2
