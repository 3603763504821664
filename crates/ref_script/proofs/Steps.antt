-- One step more of a group, and of a desk.
use Rattle.std.proofs.Common.{◌≡◌, ℕ, ◌+◌, ◌<◌, ◌≤◌, suc, cond, true, false, List, [], ◌∷◌, ◌++◌, length, get_or, take, drop, map, filter, refl, sym, ap, ◌∙◌, arith}
use Rattle.std.proofs.lemmas.List.{drop_more, take_more, take-take, drop-take, take_all, drop_all, take-append-drop, take-append-le, length-take-le}
use Rattle.std.proofs.lemmas.List.Elements.{filter_agree}
use Rattle.std.proofs.lemmas.Bool.Decides.{leb_tells}
use Rattle.std.specs.Prelude.{nat_le, nat_lt, not}
use Rattle.spec_machine.specs.After.{after_all}
use Rattle.spec_machine.specs.Machine as machine
use Rattle.spec_machine.specs.Machine.{answered}
use Rattle.spec_model.specs.Histories.{History}
use Rattle.spec_model.specs.Nodes.{Node}
use Rattle.spec_model.specs.States.{State}
use Rattle.spec_model.specs.Words.{Event, Output}
use Rattle.header.specs.declared.admission.Admission.TheVariants.{New, Known, Refused}
use Rattle.header.specs.declared.refusal.Refusal.{Refusal}
use Rattle.spec_records.specs.Records.{record_of}
use Rattle.spec_world.specs.World.{Waiting}
use Rattle.spec_world.specs.Steps.{ticketed}
use Rattle.spec_world.specs.Text.{Desk, with_answer, take_in, fits_group, filled, group_of, flushed, after, is_due}

-- ---- lists

-- so many, and so many after them
pub take_both : {X : Type 0} (m n : ℕ) (xs : List X) → take (m + n) xs ≡ take m xs ++ take n (drop m xs)
take_both m n xs =
    sym (take-append-drop m (take (m + n) xs))
    ∙ (λ i. take-take m (m + n) xs (omega arith) i ++ drop-take m n xs i)

-- ---- groups

fill_next : (group : History) (event : Event) (events : History) → fits_group (map record_of (group ++ event ∷ [])) ≡ true → filled group (event ∷ events) ≡ filled (group ++ event ∷ []) events
unfolding filled
fill_next group event events fits = ap (λ b. cond b (filled (group ++ event ∷ []) events) group) fits

fill_last : (group : History) (event : Event) (events : History) → fits_group (map record_of (group ++ event ∷ [])) ≡ false → filled group (event ∷ events) ≡ group
unfolding filled
fill_last group event events fits = ap (λ b. cond b (filled (group ++ event ∷ []) events) group) fits

fill_none : (group : History) → filled group [] ≡ group
unfolding filled
fill_none group = refl

-- or it has all
pub fill_all : (events : History) (i : ℕ) → length events ≤ i → filled (take i events) (drop i events) ≡ events
fill_all events i all = (λ k. filled (take_all i events all k) (drop_all i events all k)) ∙ fill_none events

-- a group is filled with the event at a place
pub fill_more : (events : History) (i : ℕ) → i < length events → fits_group (map record_of (take (i + 1) events)) ≡ true
    → filled (take i events) (drop i events) ≡ filled (take (i + 1) events) (drop (i + 1) events)
fill_more [] i less fits = absurd (omega (arith, less))
fill_more (first ∷ rest) i less fits =
    let events = first ∷ rest in
    let more = take_more events i first less in
    ap (filled (take i events)) (drop_more events i first less)
    ∙ fill_next (take i events) (get_or events i first) (drop (i + 1) events) (ap (λ l. fits_group (map record_of l)) (sym more) ∙ fits)
    ∙ ap (λ l. filled l (drop (i + 1) events)) (sym more)

-- or it ends there
pub fill_ends : (events : History) (i : ℕ) → i < length events → fits_group (map record_of (take (i + 1) events)) ≡ false → filled (take i events) (drop i events) ≡ take i events
fill_ends [] i less fits = absurd (omega (arith, less))
fill_ends (first ∷ rest) i less fits =
    let events = first ∷ rest in
    ap (filled (take i events)) (drop_more events i first less)
    ∙ fill_last (take i events) (get_or events i first) (drop (i + 1) events) (ap (λ l. fits_group (map record_of l)) (sym (take_more events i first less)) ∙ fits)

-- ---- what waits

late_is : (settled ticket : ℕ) → nat_lt settled ticket ≡ not (nat_le ticket settled)
late_is settled ticket = grind (arith, leb_tells ticket settled, leb_tells (suc settled) ticket)

-- ---- states

pub after_none : (node : Node) (state : State) → after_all node state [] ≡ state
unfolding after_all
after_none node state = refl

pub after_first : (node : Node) (state : State) (event : Event) (events : History) → after_all node state (event ∷ events) ≡ after_all node (machine.after node state event) events
unfolding after_all
after_first node state event events = refl

-- ---- desks

-- the desk of a run that began with a state and accepted these events, of which so many are settled
abbrev pub desk_at : State → History → ℕ → List Waiting → Desk
desk_at base accepted settled waiting = record { base = base; accepted = accepted; settled = take settled accepted; waiting = waiting }

-- what isn't due waits for more than is settled
pub left_is : (base : State) (accepted : History) (settled : ℕ) (waiting others : List Waiting) → settled ≤ length accepted
    → filter (λ w. nat_lt settled w.ticket) others ≡ filter (λ w. not (is_due (desk_at base accepted settled waiting) w)) others
left_is base accepted settled waiting others within =
    let len : settled ≡ length (take settled accepted) = sym (length-take-le settled accepted within) in
    filter_agree (λ (w : Waiting). nat_lt settled w.ticket) (λ w. not (is_due (desk_at base accepted settled waiting) w))
    (λ w. late_is settled w.ticket ∙ ap (λ n. not (nat_le w.ticket n)) len) others

-- a flush settles the next group
pub flushed_is : (base : State) (accepted : History) (settled more : ℕ) (waiting : List Waiting) (group : History) → settled ≤ length accepted
    → group ≡ group_of (drop settled accepted) → group ≡ take (length group) (drop settled accepted) → more ≡ length group
    → desk_at base accepted (settled + more) waiting ≡ flushed (desk_at base accepted settled waiting)
flushed_is base accepted settled more waiting group within is part len =
    let pending : drop settled accepted ≡ drop (length (take settled accepted)) accepted = ap (λ n. drop n accepted) (sym (length-take-le settled accepted within)) in
    let both : take (settled + more) accepted ≡ take settled accepted ++ group_of (drop (length (take settled accepted)) accepted) =
    take_both settled more accepted ∙ ap (λ l. take settled accepted ++ l) (ap (λ n. take n (drop settled accepted)) len ∙ sym part ∙ is ∙ ap group_of pending) in
    (λ i. record { base = base; accepted = accepted; settled = both i; waiting = waiting })

-- an event is answered where it is new
pub new_is : (node : Node) (base : State) (accepted : History) (settled count : ℕ) (waiting : List Waiting) (event : Event) (outputs : List Output) → settled ≤ length accepted
    → count ≡ length accepted → answered node (after_all node base accepted) event ≡ New outputs
    → desk_at base (accepted ++ event ∷ []) settled (waiting ++ ticketed (count + 1) outputs) ≡ after node (desk_at base accepted settled waiting) (take_in event)
unfolding after
new_is node base accepted settled count waiting event outputs within counts so =
    (λ i. record {
      base = base;
      accepted = accepted ++ event ∷ [];
      settled = take-append-le settled accepted (event ∷ []) within i;
      waiting = waiting ++ ticketed (counts i + 1) outputs;
    })
    ∙ ap (with_answer (desk_at base accepted settled waiting) event) (sym so)

-- where it is known
pub known_is : (node : Node) (base : State) (accepted : History) (settled count : ℕ) (waiting : List Waiting) (event : Event) (outputs : List Output)
    → count ≡ length accepted → answered node (after_all node base accepted) event ≡ Known outputs
    → desk_at base accepted settled (waiting ++ ticketed count outputs) ≡ after node (desk_at base accepted settled waiting) (take_in event)
unfolding after
known_is node base accepted settled count waiting event outputs counts so =
    ap (λ n. record (desk_at base accepted settled waiting) { waiting = waiting ++ ticketed n outputs }) counts ∙ ap (with_answer (desk_at base accepted settled waiting) event) (sym so)

-- where it is refused
pub refused_is : (node : Node) (base : State) (accepted : History) (settled : ℕ) (waiting : List Waiting) (event : Event) (refusal : Refusal)
    → answered node (after_all node base accepted) event ≡ Refused refusal → desk_at base accepted settled waiting ≡ after node (desk_at base accepted settled waiting) (take_in event)
unfolding after
refused_is node base accepted settled waiting event refusal so = ap (with_answer (desk_at base accepted settled waiting) event) (sym so)
