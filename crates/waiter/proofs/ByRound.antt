-- What a tree of rounds says of those that wait.
use Rattle.std.proofs.Common.{◌≡◌, ℕ, ◌≤◌, Bool, true, false, cond, List, [], ◌∷◌, ◌++◌, Option, Some, None, refl, ap, subst, ◌∙◌, length, arith, inl, inr}
use Rattle.std.specs.Prelude.{◌≢◌, ◌==◌, IfNone, OnOk, OnErr, Result, Ok, Err, slice_get}
use Rattle.std.specs.BTreeMap.{is_at}
use Rattle.std.specs.List.{AllByRecursion}
use Rattle.std.specs.Map.{lookup, remove_entry, set_value, values_of}
use Rattle.std.specs.Option.{option_map_or}
use Rattle.std.specs.Ordering.{nat_cmp}
use Rattle.std.proofs.lemmas.Bool.{cases_Bool, eqb-true}
use Rattle.std.proofs.lemmas.Grind.{common_steps}
use Rattle.std.proofs.lemmas.Map.Entries.{sum_by-set_value}
use Rattle.std.proofs.lemmas.List.Elements.{recursion_from_All}
use Rattle.wire.specs.Events.{Event}
use Rattle.waiter.specs.Rounds.{HeldWith, NoneIsEmpty, held_in, waiting_in}
use Rattle.waiter.specs.Waiting.{Waits}

-- two numbers compare alike where they are one
pub at_same : (one other : ℕ) → is_at (nat_cmp one) other ≡ (other == one)
at_same one other = grind (arith, common_steps)

abbrev pub reported : Option (List Event) → List Event
reported found = option_map_or (λ (events : List Event). events) found []

-- what a tree has after its entry of a round was changed
pub held_updated : (old new : List (ℕ × List Event)) (round : ℕ) (w : Option (List Event)) (events : List Event)
    → ((q : ℕ) → lookup (is_at (nat_cmp q)) new ≡ cond (is_at (nat_cmp round) q) w (lookup (is_at (nat_cmp q)) old))
    → reported w ≡ events → HeldWith (held_in old) (held_in new) round events
held_updated old new round w events more is other =
    ap reported (more other ∙ ap (λ b. cond b w (lookup (is_at (nat_cmp other)) old)) (at_same round other)) ∙ by (other == round)
  where
    by : (b : Bool) → reported (cond b w (lookup (is_at (nat_cmp other)) old)) ≡ cond b events (held_in old other)
    by true = is
    by false = refl

-- a number is itself
pub same_is : (one : ℕ) → (one == one) ≡ true
same_is one = grind (arith, common_steps)

pub other_isnt : (one other : ℕ) → (one ≡ other → ⊥) → (one == other) ≡ false
other_isnt one other apart = elim (cases_Bool (one == other)) [
  | inl same ↦ absurd (apart (eqb-true one other same))
  | inr isnt ↦ isnt
]

-- what is then held of the round, and of another one
pub held_here : (old new : ℕ → List Event) (round : ℕ) (events : List Event) → HeldWith old new round events → new round ≡ events
held_here old new round events with = with round ∙ ap (λ b. cond b events (old round)) (same_is round)

pub held_there : (old new : ℕ → List Event) (round other : ℕ) (events : List Event) → HeldWith old new round events → (other ≡ round → ⊥) → new other ≡ old other
held_there old new round other events with apart = with other ∙ ap (λ b. cond b events (old other)) (other_isnt other round apart)

-- no round has more than there are
pub some_of_all : (rounds : List (ℕ × List Event)) (round : ℕ) (events : List Event) → lookup (is_at (nat_cmp round)) rounds ≡ Some events → length events ≤ waiting_in rounds
some_of_all rounds round events is =
    let e = sum_by-set_value (λ (l : List Event). length l) (is_at (nat_cmp round)) rounds events [] is in
    omega (arith, e)

-- ---- results

pub on_ok : {T E P Q : Type 0} (result : Result T E) → OnOk result P → (P → Q) → OnOk result Q
on_ok (Ok x) holds more = more holds
on_ok (Err e) holds more = tt

pub on_err : {T E P Q : Type 0} (result : Result T E) → OnErr result P → (P → Q) → OnErr result Q
on_err (Ok x) holds more = tt
on_err (Err e) holds more = more holds

pub if_none : {T P : Type 0} (result : Option T) → P → IfNone result P
if_none None holds = holds
if_none (Some x) holds = tt

-- ---- lists

pub none_wait : (events : List Event) (event : Event) → events ≡ [] → Waits events event → ⊥
none_wait events event none waits = by (subst (λ (l : List Event). Waits l event) none waits)
  where
    by : Waits [] event → ⊥
    by (k, x, within, at, same) = omega arith

pub nothing_first : (events : List Event) → slice_get events 0 ≡ None → events ≡ []
nothing_first [] none = refl
nothing_first (e ∷ rest) none = absurd cc

pub first_is : (events : List Event) (event : Event) → slice_get events 0 ≡ Some event → (rest : List Event) × (events ≡ event ∷ rest)
first_is [] event is = absurd cc
first_is (e ∷ rest) event is = let same : e ≡ event = cc in (rest, ap (λ (one : Event). one ∷ rest) same)

pub pushed_some : (events : List Event) (event : Event) → events ++ event ∷ [] ≢ []
pushed_some [] event none = absurd cc
pushed_some (e ∷ rest) event none = absurd cc

-- ---- what is taken out of a tree

-- an entry that was changed goes as it would have gone before
pub removed_same : (test : ℕ → Bool) (rounds : List (ℕ × List Event)) (w : List Event) → remove_entry test (set_value test rounds w) ≡ remove_entry test rounds
removed_same test [] w = refl
removed_same test (e ∷ rest) w = by (removed_same test rest w) (test e.0) refl
  where
    by : remove_entry test (set_value test rest w) ≡ remove_entry test rest → (b : Bool) → test e.0 ≡ b
        → remove_entry test (cond b ((e.0, w) ∷ rest) (e ∷ set_value test rest w)) ≡ cond b rest (e ∷ remove_entry test rest)
    by less true is = ap (λ b. cond b rest ((e.0, w) ∷ remove_entry test rest)) is
    by less false is = ap (λ b. cond b (set_value test rest w) (e ∷ remove_entry test (set_value test rest w))) is ∙ ap (λ (l : List (ℕ × List Event)). e ∷ l) less

some_found : (test : ℕ → Bool) (rounds : List (ℕ × List Event)) (events : List Event) → AllByRecursion (λ (l : List Event). l ≢ []) (values_of rounds) → lookup test rounds ≡ Some events → events ≢ []
some_found test [] events all is = absurd cc
some_found test (e ∷ rest) events all is = by (some_found test rest events all.1) (test e.0) is
  where
    by : (lookup test rest ≡ Some events → events ≢ []) → (b : Bool) → cond b (Some e.1) (lookup test rest) ≡ Some events → events ≢ []
    by there true same = let one : e.1 ≡ events = cc in subst (λ (l : List Event). l ≢ []) one all.0
    by there false later = there later

-- one at least waits of a round that is there
pub some_there : (rounds : List (ℕ × List Event)) (round : ℕ) (events : List Event) → NoneIsEmpty rounds → lookup (is_at (nat_cmp round)) rounds ≡ Some events → events ≢ []
some_there rounds round events all is =
    some_found (is_at (nat_cmp round)) rounds events (recursion_from_All (λ (l : List Event). l ≢ []) (values_of rounds) all) is
