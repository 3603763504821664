use Rattle.std.proofs.Common.{◌≡◌, ◌+◌, ◌-◌, ◌*◌, ◌≤◌, ◌∙◌, ◌++◌, ℕ, suc, List, [], ap, sym, arith, reverse, map}
use Rattle.std.specs.Prelude.{is_some}
use Rattle.std.specs.Option.{option_map_or}
use Rattle.std.proofs.lemmas.List.{append-nil}
use Rattle.spec_model.specs.Ordering.{newer_to}
use Rattle.spec_model.specs.Words.{Author}
use Rattle.committee.specs.Sets.{has}
use Rattle.dag.specs.Graph.{slots_in, reaches_in}
use Rattle.tusk.proofs.Downwards.{newer_slots, step_taken, step_missed, step_passed, step_last}
use Rattle.tusk.proofs.Supporting.{led_by, led_by_none}
use Rattle.tusk.proofs.coins.Coins.newer_to.Goals as goal
use Rattle.tusk.proofs.coins.Coins.newer_to.Goals.{in-Some+then-contains+in_ok-push, in-Some+else-contains, in_default}
use Rattle.tusk.specs.Chain.{ledger_in, slot_of}

pub loop-past-preserved : goal.loop-past-preserved
loop-past-preserved c =
    let graph = c.args.dag.now in
    let coins = c.args.self.now in
    let ledger = ledger_in graph coins in
    let last = c.args.last in
    let placed = c.limits_hold.ensures.placed in
    let left = c.args.wave - c.loop-past.past in
    let next = c.args.wave - (c.loop-past.past + 1) in
    let all = newer_slots ledger last (c.args.wave - 1) c.args.leader.0 c.args.leader.1.0 in
    let less = c.loop-past-test.true in
    let is : left ≡ suc next = omega (arith, less) in
    let low : last ≤ next = omega (arith, less) in
    let below : (lower other : ℕ) → lower ≡ 2 * left - 1 → has c.two_down-reached.result other ≡ reaches_in graph c.loop-past.round c.loop-past.author.0 lower other =
    λ lower other at. c.two_down-reached.ensures c.loop-past.round c.loop-past.author.0 c.loop-past.invariant.above c.loop-past.invariant.reached other
    ∙ ap (λ r. reaches_in graph c.loop-past.round c.loop-past.author.0 r other) (omega (arith, at)) in
    let passed : (member : ℕ) → has c.two_down-reached.result member ≡ reaches_in graph c.loop-past.round c.loop-past.author.0 (2 * next + 1) member =
    λ member. below (2 * next + 1) member (omega (arith, is)) in
    elim c.match-leader.branch [
      | in-Some+then-contains+in_ok-push w ↦
          let slot = w.in-Some.earlier in
          let led = led_by ledger left slot placed w.in-Some.ensures.value in
          record {
            above = omega (arith, w.round-is, w.in-Some.ensures.round, is);
            reached = λ member. (
                let level : slot.0 ≡ 2 * next + 1 = omega (arith, w.in-Some.ensures.round, is) in
                ap (λ s. has s member) w.reached-is ∙ w.reached-reached-then-contains.ensures member
                ∙ ap (λ (r : ℕ). reaches_in graph slot.0 slot.1.0 r member) level
                ∙ ap (λ (r : ℕ). reaches_in graph r slot.1.0 (2 * next + 1) member) (sym w.round-is)
                ∙ ap (λ (a : Author). reaches_in graph c.match-leader.round a.0 (2 * next + 1) member) (sym w.author-is)
                );
            held = λ _. ap (λ (r : ℕ). is_some (slots_in graph r c.match-leader.author.0)) w.round-is ∙ ap (λ (a : Author). is_some (slots_in graph slot.0 a.0)) w.author-is ∙ ap is_some led.held;
            all = ap (λ (r : ℕ). newer_slots ledger last next r c.match-leader.author.0 ++ reverse c.match-leader.chain.items) w.round-is
                ∙ ap (λ (a : Author). newer_slots ledger last next slot.0 a.0 ++ reverse c.match-leader.chain.items) w.author-is
                ∙ ap (λ (l : List (ℕ × Author)). newer_slots ledger last next slot.0 slot.1.0 ++ reverse l) (ap (λ v. v.items) w.chain-is ∙ w.in_ok-push.ensures.items)
                ∙ step_taken graph coins last left next c.loop-past.round c.loop-past.author slot c.loop-past.chain.items all placed is low led
                (sym (below slot.0 slot.1.0 w.in-Some.ensures.round) ∙ sym w.contains.ensures ∙ w.if-contains.true) c.loop-past.invariant.all;
          }
      | in-Some+else-contains w ↦
          let slot = w.in-Some.earlier in
          let led = led_by ledger left slot placed w.in-Some.ensures.value in
          record {
            above = let above = c.loop-past.invariant.above in omega (arith, w.round-is, above, is);
            reached = λ member. ap (λ s. has s member) w.reached-is ∙ passed member
                ∙ ap (λ (r : ℕ). reaches_in graph r c.loop-past.author.0 (2 * next + 1) member) (sym w.round-is)
                ∙ ap (λ (a : Author). reaches_in graph c.match-leader.round a.0 (2 * next + 1) member) (sym w.author-is);
            held = λ there. ap (λ (r : ℕ). is_some (slots_in graph r c.match-leader.author.0)) w.round-is
                ∙ ap (λ (a : Author). is_some (slots_in graph c.loop-past.round a.0)) w.author-is ∙ c.loop-past.invariant.held there;
            all = ap (λ (r : ℕ). newer_slots ledger last next r c.match-leader.author.0 ++ reverse c.match-leader.chain.items) w.round-is
                ∙ ap (λ (a : Author). newer_slots ledger last next c.loop-past.round a.0 ++ reverse c.match-leader.chain.items) w.author-is
                ∙ ap (λ v. newer_slots ledger last next c.loop-past.round c.loop-past.author.0 ++ reverse v.items) w.chain-is
                ∙ step_missed graph coins last left next c.loop-past.round c.loop-past.author.0 slot c.loop-past.chain.items all is low led
                (sym (below slot.0 slot.1.0 w.in-Some.ensures.round) ∙ sym w.contains.ensures ∙ w.if-contains.false) c.loop-past.invariant.all;
          }
      | in_default w ↦
          let none = led_by_none ledger left w.in_default.ensures.value in
          record {
            above = let above = c.loop-past.invariant.above in omega (arith, w.round-is, above, is);
            reached = λ member. ap (λ s. has s member) w.reached-is ∙ passed member
                ∙ ap (λ (r : ℕ). reaches_in graph r c.loop-past.author.0 (2 * next + 1) member) (sym w.round-is)
                ∙ ap (λ (a : Author). reaches_in graph c.match-leader.round a.0 (2 * next + 1) member) (sym w.author-is);
            held = λ there. ap (λ (r : ℕ). is_some (slots_in graph r c.match-leader.author.0)) w.round-is
                ∙ ap (λ (a : Author). is_some (slots_in graph c.loop-past.round a.0)) w.author-is ∙ c.loop-past.invariant.held there;
            all = ap (λ (r : ℕ). newer_slots ledger last next r c.match-leader.author.0 ++ reverse c.match-leader.chain.items) w.round-is
                ∙ ap (λ (a : Author). newer_slots ledger last next c.loop-past.round a.0 ++ reverse c.match-leader.chain.items) w.author-is
                ∙ ap (λ v. newer_slots ledger last next c.loop-past.round c.loop-past.author.0 ++ reverse v.items) w.chain-is
                ∙ step_passed graph coins last left next c.loop-past.round c.loop-past.author.0 c.loop-past.chain.items all is low none c.loop-past.invariant.all;
          }
    ]

pub returns : goal.returns
returns c held is =
    let graph = c.args.dag.now in
    let ledger = ledger_in graph c.args.self.now in
    let last = c.args.last in
    let low : c.args.wave - c.loop-past.past ≤ last = omega (arith, c.loop-past-test.false) in
    let there = c.loop-past.invariant.held (ap is_some is) in
    let all = step_last ledger last (c.args.wave - c.loop-past.past) c.loop-past.round c.loop-past.author c.loop-past.chain.items
    (newer_slots ledger last (c.args.wave - 1) c.args.leader.0 c.args.leader.1.0) c.limits_hold.ensures.placed low there c.loop-past.invariant.all
    ∙ ap (λ o. option_map_or (λ d. map slot_of (newer_to ledger last (c.args.wave - 1) d)) o []) is in
    cc c.in_ok-push-2.ensures.items

pub loop-past-init : goal.loop-past-init
loop-past-init c =
    let graph = c.args.dag.now in
    let leader = c.args.leader in
    let slots = newer_slots (ledger_in graph c.args.self.now) c.args.last (c.args.wave - 1) leader.0 leader.1.0 in
    let level : leader.0 ≡ 2 * (c.args.wave - 1) + 1 = omega (arith, c.requires.above, c.requires.round) in
    record {
      above = omega (arith, level);
      reached = λ member. c.reached-reached.ensures member ∙ ap (λ (r : ℕ). reaches_in graph leader.0 leader.1.0 r member) level;
      held = λ there. there;
      all = ap (λ l. slots ++ reverse l) c.new-chain.ensures.items ∙ append-nil slots;
    }
