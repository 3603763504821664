use Rattle.std.proofs.Common.{◌≡◌, ◌+◌, List, [], ◌∷◌, ◌++◌, Some, None, length, refl, sym, ap, subst, ◌∙◌, length-append, arith}
use Rattle.std.specs.Prelude.{IsSome, ◌≢◌, unwrap_or, option_map}
use Rattle.std.specs.BTreeMap.{is_at}
use Rattle.std.specs.Map.{lookup, set_value}
use Rattle.std.specs.Ordering.{nat_cmp}
use Rattle.std.proofs.lemmas.Cmp.{nat_cmp_total}
use Rattle.std.proofs.lemmas.Map.Entries.{sum_by-insert_entry, sum_by-set_value}
use Rattle.std.proofs.lemmas.Map.Steps.{set_value_same}
use Rattle.std.proofs.lemmas.Map.Views.{All-values-insert_entry, All-values-set_value}
use Rattle.wire.specs.Events.{Event}
use Rattle.waiter.specs.Rounds.{NoneIsEmpty, held_in, waiting_in}
use Rattle.waiter.specs.Waiting.{Waits}
use Rattle.waiter.proofs.ByRound.{reported, held_updated, none_wait, on_err, on_ok, pushed_some}
use Rattle.waiter.proofs.waiters.add.Goals as goal

pub returns-in-Some-clause-held : goal.returns-in-Some-clause-held
returns-in-Some-clause-held c =
    let old = c.args.rounds.now in
    let later = c.offer.new.self in
    let there = c.in-Some.ensures.value in
    let writes = c.get_mut.follows.holds later in
    let held_is : held_in old.entries c.args.round ≡ c.in-Some.waiter.now = ap reported (sym there) in
    on_ok c.offer.result c.offer.ensures.added (λ grown.
    held_updated old.entries (c.get_mut.follows.lender later).entries c.args.round (Some later) (held_in old.entries c.args.round ++ c.args.checked ∷ [])
    (writes.3 (subst IsSome there refl)).0
    (grown (λ waits. c.requires.new (subst (λ (l : List Event). Waits l c.args.checked) (sym held_is) waits)) ∙ ap (λ (l : List Event). l ++ c.args.checked ∷ []) (sym held_is)))

pub returns-in-Some-clause-count : goal.returns-in-Some-clause-count
returns-in-Some-clause-count c =
    let old = c.args.rounds.now in
    let later = c.offer.new.self in
    let there = c.in-Some.ensures.value in
    let events = c.in-Some.waiter.now in
    let writes = c.get_mut.follows.holds later in
    let held_is : held_in old.entries c.args.round ≡ events = ap reported (sym there) in
    on_ok c.offer.result c.offer.ensures.added (λ grown.
    let is = grown (λ waits. c.requires.new (subst (λ (l : List Event). Waits l c.args.checked) (sym held_is) waits)) in
    let long : length later ≡ length events + 1 = ap (λ (l : List Event). length l) is ∙ length-append events (c.args.checked ∷ []) in
    let sums = sum_by-set_value (λ (l : List Event). length l) (is_at (nat_cmp c.args.round)) old.entries events later (sym there) in
    ap waiting_in writes.0 ∙ omega (arith, long, sums))

pub returns-in-Some-clause-kept : goal.returns-in-Some-clause-kept
returns-in-Some-clause-kept c =
    let old = c.args.rounds.now in
    let later = c.offer.new.self in
    let there = c.in-Some.ensures.value in
    let writes = c.get_mut.follows.holds later in
    let held_is : held_in old.entries c.args.round ≡ c.in-Some.waiter.now = ap reported (sym there) in
    on_ok c.offer.result c.offer.ensures.added (λ grown.
    let is = grown (λ waits. c.requires.new (subst (λ (l : List Event). Waits l c.args.checked) (sym held_is) waits)) in
    subst NoneIsEmpty (sym writes.0)
    (All-values-set_value (is_at (nat_cmp c.args.round)) (λ (l : List Event). l ≢ []) old.entries later c.requires.kept
    (subst (λ (l : List Event). l ≢ []) (sym is) (pushed_some c.in-Some.waiter.now c.args.checked))))

pub returns-in-Some-clause-err : goal.returns-in-Some-clause-err
returns-in-Some-clause-err c =
    let old = c.args.rounds.now in
    let later = c.offer.new.self in
    let test = is_at (nat_cmp c.args.round) in
    let writes = c.get_mut.follows.holds later in
    on_err c.offer.result c.offer.ensures.err (λ same.
    writes.0 ∙ ap (set_value test old.entries) same ∙ set_value_same test old.entries c.in-Some.waiter.now (sym c.in-Some.ensures.value))

pub returns-clause-count : goal.returns-clause-count
returns-clause-count c =
    let old = c.args.rounds.now in
    let new = c.offer-2.new.self in
    let is : new ≡ c.args.checked ∷ [] = c.in_ok-offer.ensures.added (none_wait c.new-waiter.result c.args.checked c.new-waiter.ensures)
    ∙ ap (λ (l : List Event). l ++ c.args.checked ∷ []) c.new-waiter.ensures in
    let none : lookup (is_at (nat_cmp c.args.round)) old.entries ≡ None = sym c.in_default.ensures.value in
    let sums = sum_by-insert_entry (λ (l : List Event). length l) nat_cmp_total old.entries c.args.round new c.get_mut.ensures.ordered in
    let nothing = ap (λ o. unwrap_or (option_map (λ (l : List Event). length l) o) 0) none in
    let long : length new ≡ 1 = ap (λ (l : List Event). length l) is in
    let entries = rw c.get_mut.follows.holds-at-none at c.in_ok-insert.ensures.entries in
    ap waiting_in entries ∙ omega (arith, sums, nothing, long)

pub returns-clause-kept : goal.returns-clause-kept
returns-clause-kept c =
    let old = c.args.rounds.now in
    let new = c.offer-2.new.self in
    let is : new ≡ c.args.checked ∷ [] = c.in_ok-offer.ensures.added (none_wait c.new-waiter.result c.args.checked c.new-waiter.ensures)
    ∙ ap (λ (l : List Event). l ++ c.args.checked ∷ []) c.new-waiter.ensures in
    let some : new ≢ [] = subst (λ (l : List Event). l ≢ []) (sym is) (pushed_some [] c.args.checked) in
    let entries = rw c.get_mut.follows.holds-at-none at c.in_ok-insert.ensures.entries in
    subst NoneIsEmpty (sym entries) (All-values-insert_entry nat_cmp c.args.round new (λ (l : List Event). l ≢ []) old.entries c.requires.kept some)
