-- The groups in flight, and what they have of the events that were accepted.
use Rattle.std.proofs.Common.{◌≡◌, ℕ, zero, suc, ◌+◌, ◌-◌, ◌≤◌, List, [], ◌∷◌, ◌++◌, length, take, drop, refl, sym, ap, ◌∙◌, arith, append_assoc, length-drop, take-append-drop}
use Rattle.std.proofs.lemmas.List.{append-nil, drop_at}
use Rattle.spec_model.specs.Histories.{History}
use Rattle.wire.specs.Lists.{Begins}
use Rattle.spec_world.specs.World.{World, events_of, taken_in, durable_in, undurable_in, first_of}
use Rattle.spec_world.specs.Steps.{group_to}
use Rattle.spec_world.proofs.Orders.{shorter_begins}

-- the first group, and the others
pub events_split : (groups : List History) → events_of groups ≡ first_of groups ++ events_of (drop 1 groups)
events_split [] = refl
events_split (group ∷ groups) = refl

-- one group more
pub events_push : (groups : List History) (more : History) → events_of (groups ++ more ∷ []) ≡ events_of groups ++ more
events_push [] more = append-nil more
events_push (group ∷ groups) more = ap (λ l. group ++ l) (events_push groups more) ∙ sym (append_assoc group (events_of groups) more)

-- the first so many of them, and the others
pub events_cut : (count : ℕ) (groups : List History) → events_of groups ≡ events_of (take count groups) ++ events_of (drop count groups)
events_cut zero groups = refl
events_cut (suc count) [] = refl
events_cut (suc count) (group ∷ groups) = ap (λ l. group ++ l) (events_cut count groups) ∙ sym (append_assoc group (events_of (take count groups)) (events_of (drop count groups)))

-- what is durable, and the first group that isn't durable
abbrev pub with_first : World → History
with_first world = durable_in world ++ first_of (undurable_in world)

-- with that all that is taken begins
pub first_and_others : (world : World) → taken_in world ≡ with_first world ++ events_of (drop 1 (undurable_in world))
first_and_others world =
    ap (λ l. world.settled ++ l) (events_cut world.durable world.groups)
    ∙ sym (append_assoc world.settled (events_of (take world.durable world.groups)) (events_of (undurable_in world)))
    ∙ ap (λ l. durable_in world ++ l) (events_split (undurable_in world))
    ∙ sym (append_assoc (durable_in world) (first_of (undurable_in world)) (events_of (drop 1 (undurable_in world))))

-- ---- one group more is durable, or settled

-- of no groups there are none
pub take_none : (count : ℕ) → take {A = History} count [] ≡ []
take_none zero = refl
take_none (suc count) = refl

pub drop_none : (count : ℕ) → drop {A = History} count [] ≡ []
drop_none zero = refl
drop_none (suc count) = refl

-- the groups up to the next one
take_more : (count : ℕ) (groups : List History) → events_of (take (suc count) groups) ≡ events_of (take count groups) ++ first_of (drop count groups)
take_more zero [] = refl
take_more zero (group ∷ groups) = append-nil group
take_more (suc count) [] = refl
take_more (suc count) (group ∷ groups) = ap (λ l. group ++ l) (take_more count groups) ∙ sym (append_assoc group (events_of (take count groups)) (first_of (drop count groups)))

pub take_next : (count : ℕ) (groups : List History) → events_of (take (count + 1) groups) ≡ events_of (take count groups) ++ first_of (drop count groups)
take_next count groups =
    let next : count + 1 ≡ suc count = omega arith in
    ap (λ n. events_of (take n groups)) next ∙ take_more count groups

-- where there is a group after so many, there is one more
pub some_after : (count : ℕ) (groups : List History) → (drop count groups ≡ [] → ⊥) → count + 1 ≤ length groups
some_after zero [] some = absurd (some refl)
some_after zero (group ∷ groups) some = omega arith
some_after (suc count) [] some = absurd (some refl)
some_after (suc count) (group ∷ groups) some = omega (arith, some_after count groups some)

-- the first of the groups that are durable, and the others
take_first : (before : ℕ) (groups : List History) → events_of (take (suc before) groups) ≡ first_of groups ++ events_of (take before (drop 1 groups))
take_first before [] = sym (ap (λ (l : List History). events_of l) (take_none before))
take_first before (group ∷ groups) = refl

pub first_of_durable : (count : ℕ) (groups : List History) → 1 ≤ count → events_of (take count groups) ≡ first_of groups ++ events_of (take (count - 1) (drop 1 groups))
first_of_durable count groups some =
    let next : count ≡ suc (count - 1) = omega (arith, some) in
    ap (λ n. events_of (take n groups)) next ∙ take_first (count - 1) groups

-- the groups after the next one
drop_more : (count : ℕ) (groups : List History) → drop 1 (drop count groups) ≡ drop (suc count) groups
drop_more zero groups = refl
drop_more (suc count) [] = refl
drop_more (suc count) (group ∷ groups) = drop_more count groups

pub drop_next : (count : ℕ) (groups : List History) → drop 1 (drop count groups) ≡ drop (count + 1) groups
drop_next count groups =
    let next : suc count ≡ count + 1 = omega arith in
    drop_more count groups ∙ ap (λ n. drop n groups) next

-- where the first is settled, the same aren't durable
drop_first : (before : ℕ) (groups : List History) → drop before (drop 1 groups) ≡ drop (suc before) groups
drop_first before [] = drop_none before
drop_first before (group ∷ groups) = refl

pub same_undurable : (count : ℕ) (groups : List History) → 1 ≤ count → drop (count - 1) (drop 1 groups) ≡ drop count groups
same_undurable count groups some =
    let next : suc (count - 1) ≡ count = omega (arith, some) in
    drop_first (count - 1) groups ∙ ap (λ n. drop n groups) next

-- a group that is taken stands after what was taken
pub taken_more : (world : World) (count : ℕ) → Begins (taken_in world) world.accepted → 1 ≤ length (group_to world count) → world.settled
    ++ events_of (world.groups ++ group_to world count ∷ []) ≡ take count world.accepted
taken_more world count begins some =
    let all = taken_in world in
    let more = group_to world count in
    let part = take count world.accepted in
    let long : length all ≤ length part = omega (arith, some, length-drop (length all) part) in
    let front = shorter_begins all part world.accepted begins (record { rest = drop count world.accepted; parts = sym (take-append-drop count world.accepted) }) long in
    let rest : more ≡ front.rest = ap (drop (length all)) front.parts ∙ drop_at all front.rest (length all) refl in
    ap (λ l. world.settled ++ l) (events_push world.groups more) ∙ sym (append_assoc world.settled (events_of world.groups) more) ∙ ap (λ l. all ++ l) rest ∙ sym front.parts
