use Rattle.std.proofs.Common.{◌≡◌, ◌+◌, suc, List, [], ◌∷◌, Some, length, refl, sym, ap, subst, ◌∙◌, length-append, arith}
use Rattle.std.specs.Prelude.{IsSome, ◌≢◌, unwrap_or, option_map}
use Rattle.std.specs.BTreeMap.{is_at}
use Rattle.std.specs.Map.{lookup, remove_entry, set_value}
use Rattle.std.specs.Ordering.{nat_cmp}
use Rattle.std.proofs.lemmas.Map.Entries.{sum_by-remove_entry, sum_by-set_value}
use Rattle.std.proofs.lemmas.Map.Steps.{set_value_same}
use Rattle.std.proofs.lemmas.Map.Views.{All-map-remove_entry, All-values-set_value}
use Rattle.wire.specs.Events.{Event}
use Rattle.waiter.specs.Rounds.{NoneIsEmpty, held_in, waiting_in}
use Rattle.waiter.proofs.ByRound.{reported, if_none, removed_same}
use Rattle.waiter.proofs.waiters.take_at.Goals as goal
use Rattle.waiter.proofs.waiters.take_at.Goals.{then-is_empty+in-Some-1, then-is_empty+in-None-1, else-is_empty}

pub returns-in_err-waiter-clause-beyond : goal.returns-in_err-waiter-clause-beyond
returns-in_err-waiter-clause-beyond c =
    let none : held_in c.args.rounds.now.entries c.args.round ≡ [] = ap reported (sym c.in_err-waiter.ensures.value) in
    let few = ap (λ (l : List Event). length l) none in
    if_none c.from_residual.result (omega (arith, few))

pub returns-in_err-found-clause-kept : goal.returns-in_err-found-clause-kept
returns-in_err-found-clause-kept c =
    let old = c.args.rounds.now in
    let later = c.take.new.self in
    let test = is_at (nat_cmp c.args.round) in
    let writes = c.get_mut.follows.holds later in
    let mid = (c.get_mut.follows.lender later).entries in
    let there = sym {a = Some c.in_ok-waiter.waiter.now} c.in_ok-waiter.ensures.value in
    subst NoneIsEmpty
    (sym {a = mid} (writes.0 ∙ ap (set_value test old.entries) c.in_err-found.ensures.none ∙ set_value_same test old.entries c.in_ok-waiter.waiter.now there))
    c.requires.kept

pub returns-in_err-found-clause-none : goal.returns-in_err-found-clause-none
returns-in_err-found-clause-none c =
    let old = c.args.rounds.now in
    let later = c.take.new.self in
    let test = is_at (nat_cmp c.args.round) in
    let writes = c.get_mut.follows.holds later in
    let there = sym {a = Some c.in_ok-waiter.waiter.now} c.in_ok-waiter.ensures.value in
    if_none c.from_residual-in_err-found.result
    (writes.0 ∙ ap (set_value test old.entries) c.in_err-found.ensures.none ∙ set_value_same test old.entries c.in_ok-waiter.waiter.now there)

pub returns-in_err-found-clause-beyond : goal.returns-in_err-found-clause-beyond
returns-in_err-found-clause-beyond c =
    let here : held_in c.args.rounds.now.entries c.args.round ≡ c.in_ok-waiter.waiter.now = sym (ap reported c.in_ok-waiter.ensures.value) in
    let many = ap (λ (l : List Event). length l) here in
    let few = c.in_err-found.ensures.beyond in
    if_none c.from_residual-in_err-found.result (omega (arith, many, few))

pub returns-clause-count : goal.returns-clause-count
returns-clause-count c =
    let old = c.args.rounds.now in
    let later = c.take.new.self in
    let events = c.in_ok-waiter.waiter.now in
    let there = c.in_ok-waiter.ensures.value in
    let test = is_at (nat_cmp c.args.round) in
    let writes = c.get_mut.follows.holds later in
    let mid = (c.get_mut.follows.lender later).entries in
    let first = c.in_ok-found.ensures.taken in
    let before : length events ≡ length first.front + suc (length first.back) = ap (λ (l : List Event). length l) first.stood ∙ length-append first.front (c.in_ok-found.found ∷ first.back) in
    let after : length later ≡ length first.front + length first.back = ap (λ (l : List Event). length l) first.left ∙ length-append first.front first.back in
    let sums = sum_by-set_value (λ (l : List Event). length l) test old.entries events later (sym {a = Some events} there) in
    let whole : waiting_in mid + 1 ≡ waiting_in old.entries = let e = ap waiting_in writes.0 in omega (arith, e, before, after, sums) in
    let at_round : lookup test mid ≡ Some later = (writes.3 (subst IsSome there refl)).1 in
    let less = sum_by-remove_entry (λ (l : List Event). length l) test mid in
    let here = ap (λ o. unwrap_or (option_map (λ (l : List Event). length l) o) 0) at_round in
    elim c.if-is_empty.branch [
      | then-is_empty+in-Some-1 w ↦
          let none : later ≡ [] = w.if-is_empty.ensures.0 refl in
          let nothing = ap (λ (l : List Event). length l) none in
          let e = ap waiting_in w.remove.ensures.entries in
          rw w.rounds-is (omega (arith, e, less, here, nothing, whole))
      | then-is_empty+in-None-1 w ↦
          let none : later ≡ [] = w.if-is_empty.ensures.0 refl in
          let nothing = ap (λ (l : List Event). length l) none in
          let e = ap waiting_in w.remove.ensures.entries in
          rw w.rounds-is (omega (arith, e, less, here, nothing, whole))
      | else-is_empty w ↦ rw w.rounds-is whole
    ]

pub returns-clause-kept : goal.returns-clause-kept
returns-clause-kept c =
    let old = c.args.rounds.now in
    let later = c.take.new.self in
    let test = is_at (nat_cmp c.args.round) in
    let writes = c.get_mut.follows.holds later in
    let mid = (c.get_mut.follows.lender later).entries in
    let gone : NoneIsEmpty (remove_entry test mid) =
    subst (λ es. NoneIsEmpty (remove_entry test es)) (sym {a = mid} writes.0)
    (subst NoneIsEmpty (sym (removed_same test old.entries later)) (All-map-remove_entry test (λ e. e.1) (λ (l : List Event). l ≢ []) old.entries c.requires.kept)) in
    elim c.if-is_empty.branch [
      | then-is_empty+in-Some-1 w ↦ rw w.rounds-is (subst NoneIsEmpty (sym w.remove.ensures.entries) gone)
      | then-is_empty+in-None-1 w ↦ rw w.rounds-is (subst NoneIsEmpty (sym w.remove.ensures.entries) gone)
      | else-is_empty w ↦
          let some : later ≢ [] = λ none. let bad = w.if-is_empty.ensures.1 none in absurd cc in
          rw w.rounds-is (subst NoneIsEmpty (sym {a = mid} writes.0) (All-values-set_value test (λ (l : List Event). l ≢ []) old.entries later c.requires.kept some))
    ]
