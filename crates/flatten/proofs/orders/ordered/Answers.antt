use Rattle.std.proofs.Common.{◌≡◌, ℕ, ◌+◌, ◌-◌, ◌<◌, ◌≤◌, Bool, false, List, [], ◌∷◌, ◌++◌, length, ap, sym, ◌∙◌, inl, inr, arith, length-append}
use Rattle.std.specs.Prelude.{◌&&◌}
use Rattle.std.proofs.lemmas.Bool.{cases_lt, eqb-true}
use Rattle.committee.specs.Sets.{has}
use Rattle.committee.specs.declared.sets.MemberSet.{MemberSet}
use Rattle.dag.specs.Graph.{reaches_in, is_parent_of, references_of}
use Rattle.flatten.specs.Sets.{is_in, is_free, orders_in, AreClosed}
use Rattle.flatten.proofs.Below.{next_orders, next_reads, none_further, all_read}
use Rattle.flatten.proofs.Places.{one_pushed, past_end}
use Rattle.flatten.proofs.orders.ordered.Goals as goal

pub loop-place-init : goal.loop-place-init
loop-place-init c =
    let graph = c.args.dag.now in
    let leader = c.args.leader.0 in
    let author = c.args.leader.1.0 in
    let free : ℕ → ℕ → Bool = is_free graph c.args.top c.args.taken.now in
    let own : (other : ℕ) → has c.retain.new.self other ≡ orders_in graph leader author free leader other =
    λ other. c.retain.ensures other
    ∙ ap (λ b. b && has c.free_at.result other) (c.reached-set.ensures other)
    ∙ ap (λ b. reaches_in graph leader author leader other && b) (c.free_at.ensures other ∙ ap (λ (t : ℕ). free t other) c.number-first.ensures.value) in
    let all : c.push.new.self.items ≡ c.retain.new.self ∷ [] = c.in_ok-push.ensures.items ∙ ap (λ l. l ++ c.retain.new.self ∷ []) c.new-sets.ensures.items in
    let none : leader ≡ leader - 0 = omega arith in (
      ap length all,
      omega (arith, c.requires.none),
      λ closed. (
        λ other. own other ∙ ap (λ r. orders_in graph leader author free r other) none,
        λ place other less.
            let at : 0 ≡ place = omega (arith, less) in
            let level : leader ≡ leader - place = omega (arith, less) in
            ap (λ l. is_in l place other) all ∙ ap (λ k. is_in (c.retain.new.self ∷ []) k other) (sym at) ∙ own other
            ∙ ap (λ r. orders_in graph leader author free r other) level,
        c.requires.none,
      ),
    )

pub loop-place-preserved : goal.loop-place-preserved
loop-place-preserved c =
    let graph = c.args.dag.now in
    let leader = c.args.leader.0 in
    let author = c.args.leader.1.0 in
    let free : ℕ → ℕ → Bool = is_free graph c.args.top c.args.taken.now in
    let place = c.loop-place.place in
    let first = c.number-first.result in
    let before = c.loop-place.invariant in
    let some : 0 < place = omega (arith, c.loop-place.auto.place) in
    let within : (leader + 1 - c.args.count) + place ≤ leader = omega (arith, c.loop-place-test.true, c.requires.within, c.loop-place.auto.place-end) in
    let all : c.push-in-loop-place.new.self.items ≡ c.loop-place.sets.items ++ c.next_set-set.result ∷ [] = c.in_ok-push-2.ensures.items in
    let more : length (c.loop-place.sets.items ++ c.next_set-set.result ∷ []) ≡ length c.loop-place.sets.items + 1 = length-append c.loop-place.sets.items (c.next_set-set.result ∷ []) in (
      ap (λ (l : List MemberSet). length l) all ∙ more ∙ ap (λ k. k + 1) before.0,
      omega (arith, c.next_set-set.ensures.few, before.1, some),
      λ closed.
          let so_far = before.2 closed in
          let same : leader - place ≡ leader - (place + 1 - 1) = omega arith in
          let here : (other : ℕ) → has c.next_set-set.result other ≡ orders_in graph leader author free (leader - place) other =
          λ other. c.next_set-set.ensures.set other
          ∙ ap (λ (t : ℕ). is_parent_of graph (t - place + 1) (t - place) (has c.loop-place.set) other && free (t - place) other) c.number-first.ensures.value
          ∙ next_orders graph c.limits_hold.ensures leader author (leader + 1 - c.args.count) free closed place (has c.loop-place.set) some within so_far.0 other in (
            λ other. here other ∙ ap (λ r. orders_in graph leader author free r other) same,
            λ p other less.
                ap (λ l. is_in l p other) all
                ∙ one_pushed c.loop-place.sets.items c.next_set-set.result place (λ k o. orders_in graph leader author free (leader - k) o) before.0 so_far.1 here p other less,
            next_reads graph (orders_in graph leader author free) leader place c.loop-place.reads c.next_set-set.new.reads (has c.loop-place.set) some (omega (arith, within)) so_far.0 so_far.2
                (c.next_set-set.ensures.reads ∙ ap (λ (t : ℕ). c.loop-place.reads + references_of graph (t - place + 1) (has c.loop-place.set)) c.number-first.ensures.value),
          ),
    )

-- nobody is left of the rounds below
none_left : (c : goal.Then-eq) → AreClosed c.args.dag.now (c.args.leader.0 + 1 - c.args.count) c.args.leader.0 (is_free c.args.dag.now c.args.top c.args.taken.now)
    → (down other : ℕ) → down < c.args.count - c.loop-place.place + 1
    → orders_in c.args.dag.now c.args.leader.0 c.args.leader.1.0 (is_free c.args.dag.now c.args.top c.args.taken.now) ((c.args.leader.0 - (c.loop-place.place - 1)) - down) other ≡ false
none_left c closed down other less =
    let graph = c.args.dag.now in
    let leader = c.args.leader.0 in
    let free : ℕ → ℕ → Bool = is_free graph c.args.top c.args.taken.now in
    let place = c.loop-place.place in
    let some : 0 < place = omega (arith, c.loop-place.auto.place) in
    let empty : c.loop-place.set ≡ c.none.result = ap (λ (b : ℕ). let s : MemberSet = record { bits = b } in s) (eqb-true c.loop-place.set.bits c.none.result.bits (sym c.eq.ensures ∙ c.if-eq.true)) in
    none_further graph c.limits_hold.ensures leader c.args.leader.1.0 (leader + 1 - c.args.count) free closed (leader - (place - 1)) (omega arith)
    (λ o. sym ((c.loop-place.invariant.2 closed).0 o) ∙ ap (λ s. has s o) empty ∙ c.none.ensures o)
    down (omega (arith, less, some, c.requires.within, c.loop-place-test.true)) other

pub returns-then-eq-clause-sets : goal.returns-then-eq-clause-sets
returns-then-eq-clause-sets c closed place other within =
    let graph = c.args.dag.now in
    let leader = c.args.leader.0 in
    let free : ℕ → ℕ → Bool = is_free graph c.args.top c.args.taken.now in
    let before = c.loop-place.invariant in
    let some : 0 < c.loop-place.place = omega (arith, c.loop-place.auto.place) in
    elim (cases_lt place c.loop-place.place) [
      | inl less ↦ (before.2 closed).1 place other less
      | inr past ↦
          let level : (leader - (c.loop-place.place - 1)) - (place - (c.loop-place.place - 1)) ≡ leader - place = omega (arith, past, some, within, c.requires.within) in
          past_end c.loop-place.sets.items place other (omega (arith, past, before.0))
          ∙ sym (none_left c closed (place - (c.loop-place.place - 1)) other (omega (arith, past, some, within)))
          ∙ ap (λ r. orders_in graph leader c.args.leader.1.0 free r other) level
    ]

pub returns-then-eq-clause-reads : goal.returns-then-eq-clause-reads
returns-then-eq-clause-reads c closed =
    let graph = c.args.dag.now in
    let leader = c.args.leader.0 in
    let free : ℕ → ℕ → Bool = is_free graph c.args.top c.args.taken.now in
    all_read graph (orders_in graph leader c.args.leader.1.0 free) leader c.loop-place.place c.args.count c.loop-place.reads
    (omega (arith, c.loop-place.auto.place)) (omega (arith, c.loop-place-test.true)) c.requires.within (none_left c closed) (c.loop-place.invariant.2 closed).2
