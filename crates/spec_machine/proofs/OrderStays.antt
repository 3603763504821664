-- After a step from a sound state the order is empty exactly where no leader is committed.
use Rattle.std.proofs.Common.{◌≡◌, ℕ, zero, suc, ◌-◌, ◌<◌, ◌↔◌, true, List, [], ◌∷◌, ◌++◌, map, Option, Some, None, inl, inr, refl, ap, sym, ◌∙◌, subst, arith}
use Rattle.std.specs.Prelude.{Contains, flat_map, nat_le, option_and_then}
use Rattle.std.specs.List.{range_with_len}
use Rattle.std.specs.Option.{option_map_or, option_to_list}
use Rattle.std.proofs.lemmas.Bool.{cases_Bool, and_from, le-leb}
use Rattle.std.proofs.lemmas.Option.{none-some}
use Rattle.std.proofs.lemmas.List.Elements.{Contains-append_left, Contains-append_right, Contains-push_cases}
use Rattle.committee.specs.Charter.{numbers}
use Rattle.spec_model.specs.Histories.{as_coin}
use Rattle.spec_model.specs.Nodes.{Node}
use Rattle.spec_model.specs.Ordering.{Ledger, size_in, reaches_in, leader, top, last_wave, newer_to, newer_at, newer, committed, rounds_to, is_ordered_by, segment, segments}
use Rattle.spec_model.specs.Slots.{certificate_digest, has_path, round_of}
use Rattle.spec_model.specs.States.{State, ledger_in}
use Rattle.spec_model.specs.Words.{Author, Certificate, Digest, Message}
use Rattle.spec_laws.proofs.Given.{picks}
use Rattle.spec_laws.proofs.Growing.{AreInPlace, IsIn, leader_in}
use Rattle.spec_laws.proofs.Lists.{given_or_none, Contains-nothing, Contains-cases, Contains-first, Contains-makes}
use Rattle.spec_laws.proofs.Meeting.{number_in}
use Rattle.spec_laws.proofs.OrderLonger.{top_grows, top_leader, leader_place, newer_ends, committed_is}
use Rattle.spec_laws.proofs.Votes.{of_its_slot}
use Rattle.spec_machine.specs.Machine.{last_leader, newly_ordered, grown}
use Rattle.spec_machine.proofs.AfterStep.{after_step}
use Rattle.spec_machine.proofs.Collected.{IsNext, kept_top}
use Rattle.spec_machine.proofs.Step.{IsStep}

-- ---- lists

none_left : {X : Type 0} (one other : List X) → one ++ other ≡ [] → one ≡ []
none_left [] other none = refl
none_left (x ∷ one) other none = absurd cc

none_mapped : {X Y : Type 0} (f : X → Y) (xs : List X) → map f xs ≡ [] → xs ≡ []
none_mapped f [] none = refl
none_mapped f (x ∷ xs) none = absurd cc

flat_in : {X Y : Type 0} (f : X → List Y) (xs : List X) (x : X) (y : Y) → Contains xs x → Contains (f x) y → Contains (flat_map f xs) y
flat_in f [] x y inside of = absurd (Contains-nothing x inside)
flat_in f (z ∷ xs) x y inside of =
    elim (Contains-cases z xs x inside) [
      | inl same ↦ Contains-append_left (f z) (flat_map f xs) y (subst (λ w. Contains (f w) y) (sym same) of)
      | inr rest ↦ Contains-append_right (f z) (flat_map f xs) y (flat_in f xs x y rest of)
    ]

-- a list with one more at its end has a first element
starts : {X : Type 0} (front : List X) (last : X) → (x : X) × (rest : List X) × (front ++ last ∷ [] ≡ x ∷ rest)
starts [] last = (last, [], refl)
starts (x ∷ front) last = (x, front ++ last ∷ [], refl)

-- ---- a leader orders itself, where none was committed before

-- a certificate of a member above the genesis, that its slot holds
record IsAbove (ledger : Ledger) (c : Certificate) : Type 0 where
  held : IsIn ledger.slots c
  some : 0 < c.header.round
  member : c.header.author.0 < size_in ledger

leads : (ledger : Ledger) → 0 < size_in ledger → AreInPlace ledger.slots → (wave : ℕ) (c : Certificate) → leader ledger (suc wave) ≡ Some c → IsAbove ledger c
leads ledger some placed wave c is =
    let place = leader_place ledger wave c some placed is in
    let at = place.0 in
    record { held = leader_in ledger (suc wave) c placed is; some = omega (arith, at); member = place.1 }

newer_each : (ledger : Ledger) (P : Certificate → Type 0) → ((wave : ℕ) (c : Certificate) → leader ledger (suc wave) ≡ Some c → P c)
    → (base wave : ℕ) (last c : Certificate) → P last → Contains (newer_to ledger base wave last) c → P c
newer_each ledger P each base zero last c here inside =
    elim (Contains-push_cases [] last c inside) [ inl none ↦ absurd (Contains-nothing c none) | inr same ↦ subst P same here ]
newer_each ledger P each base (suc wave) last c here inside =
    elim (cases_Bool (nat_le (suc wave) base)) [
      | inl done ↦
          let inside' = rw done at inside in
          elim (Contains-push_cases [] last c inside') [ inl none ↦ absurd (Contains-nothing c none) | inr same ↦ subst P same here ]
      | inr young ↦ elim (given_or_none (leader ledger (suc wave))) [
        | inl earlier ↦ elim (cases_Bool (reaches_in ledger last earlier.0)) [
          | inl reached ↦
              let inside' = rw (young, earlier.1, reached) at inside in
              elim (Contains-push_cases (newer_to ledger base wave earlier.0) last c inside') [
                | inl before ↦ newer_each ledger P each base wave earlier.0 c (each wave earlier.0 earlier.1) before
                | inr same ↦ subst P same here
              ]
          | inr missed ↦ let inside' = rw (young, earlier.1, missed) at inside in newer_each ledger P each base wave last c here inside'
        ]
        | inr none ↦ let inside' = rw (young, none) at inside in newer_each ledger P each base wave last c here inside'
      ]
    ]

reaches_itself : (ledger : Ledger) (c : Certificate) → reaches_in ledger c c ≡ true
reaches_itself ledger c =
    let round = c.header.round in
    let none : round - round ≡ 0 = omega arith in
    and_from _ _ (le-leb round round (omega arith)) (ap (λ steps. has_path (size_in ledger) ledger.slots steps c c) none ∙ of_its_slot c.header)

orders_itself : (ledger : Ledger) (c : Certificate) → is_ordered_by ledger None c c ≡ true
orders_itself ledger c = and_from _ _ (le-leb _ _ (omega arith)) (and_from _ _ (reaches_itself ledger c) refl)

among_rounds : (ledger : Ledger) (c : Certificate) → IsAbove ledger c → Contains (rounds_to ledger c.header.round) c
among_rounds ledger c above =
    let round = c.header.round in
    let some = above.some in
    flat_in (round_of (size_in ledger) ledger.slots) (range_with_len 1 round) round c (number_in 1 round round (omega (arith, some)) (omega arith))
    (Contains-makes (ledger.slots round) (numbers (size_in ledger)) c.header.author.0 c
    (number_in 0 (size_in ledger) c.header.author.0 (omega arith) (let member = above.member in omega (arith, member))) above.held)

orders_some : (ledger : Ledger) (c : Certificate) → IsAbove ledger c → segment ledger None c ≡ [] → ⊥
orders_some ledger c above none =
    let digest : Certificate → Digest = λ d. certificate_digest d.header in
    let inside = picks digest (is_ordered_by ledger None c) (rounds_to ledger c.header.round) c (among_rounds ledger c above) (orders_itself ledger c) in
    Contains-nothing (digest c) (subst (λ l. Contains (map digest l) (digest c)) none inside)

-- what the leaders order where one is committed
committed_order : (ledger : Ledger) → 0 < size_in ledger → AreInPlace ledger.slots → (wave : ℕ) → top ledger ≡ Some wave → segments ledger None (committed ledger) ≡ [] → ⊥
committed_order ledger some placed wave found none =
    let lead = top_leader ledger wave found in
    let below = wave - 1 in
    let last = lead.0 in
    let ends = newer_ends ledger 0 below last in
    let first = starts ends.0 last in
    let is : committed ledger ≡ first.0 ∷ first.1 = committed_is ledger below last lead.1 lead.2 ∙ ends.1 ∙ first.2 in
    let inside = subst (λ l. Contains l first.0) (sym (ends.1 ∙ first.2)) (Contains-first first.1 first.0) in
    let above = newer_each ledger (IsAbove ledger) (leads ledger some placed) 0 below last first.0 (leads ledger some placed below last lead.2) inside in
    let none' : segment ledger None first.0 ++ segments ledger (Some first.0) first.1 ≡ [] = ap (segments ledger None) (sym is) ∙ none in
    orders_some ledger first.0 above (none_left (segment ledger None first.0) (segments ledger (Some first.0) first.1) none')

-- ---- the order after the step

abbrev digests : List Certificate → List Digest
digests = map (λ c. certificate_digest c.header)

-- where no leader was committed before
first_order : (node : Node) (state : State) (sender : Author) (m : Message) → IsStep node state sender m → IsNext node state m → top (ledger_in node state) ≡ None
    → ((grown node state m).order ≡ []) ↔ (top (ledger_in node (grown node state m)) ≡ None)
first_order node state sender m step next none =
    let before = ledger_in node state in
    let later = ledger_in node (grown node state m) in
    let empty = step.sound.order.1 none in
    let wave : last_wave before ≡ 0 = ap (λ o. option_map_or (λ w. w) o 0) none in
    let previous : last_leader before ≡ None = ap (λ o. lead before o) none in
    let new : newly_ordered before later ≡ digests (segments later None (committed later)) =
    ap (λ p. digests (segments later p (newer later (last_wave before)))) previous ∙ ap (λ w. digests (segments later None (newer later w))) wave in
    let is : (grown node state m).order ≡ digests (segments later None (committed later)) = ap (λ l. l ++ newly_ordered before later) empty ∙ new in (
      λ ordered. elim (given_or_none (top later)) [
        | inr nothing ↦ nothing
        | inl found ↦ absurd (committed_order later next.members next.extends.placed_after found.0 found.1
            (none_mapped (λ c. certificate_digest c.header) (segments later None (committed later)) (sym is ∙ ordered)))
      ],
      λ nothing. is ∙ ap (λ o. digests (segments later None (option_map_or (newer_at later 0) o []))) nothing,
    )
  where
    lead : Ledger → Option ℕ → Option Certificate
    lead ledger o = option_and_then (leader ledger) o

order_grown : (node : Node) (state : State) (sender : Author) (m : Message) → IsStep node state sender m → IsNext node state m
    → ((grown node state m).order ≡ []) ↔ (top (ledger_in node (grown node state m)) ≡ None)
order_grown node state sender m step next =
    let before = ledger_in node state in
    elim (given_or_none (top before)) [
      | inr none ↦ first_order node state sender m step next none
      | inl found ↦
          let higher = top_grows before (grown node state m).slots next.extends (option_to_list (as_coin m)) found.0 found.1 in (
            λ ordered. absurd (none-some found.0 (sym (step.sound.order.0 (none_left state.order _ ordered)) ∙ found.1)),
            λ none. absurd (none-some higher.0 (sym none ∙ higher.1)),
          )
    ]

pub order_stays : (node : Node) (state : State) (sender : Author) (m : Message) → IsStep node state sender m → IsNext node state m
    → ((after_step node state m).order ≡ []) ↔ (top (ledger_in node (after_step node state m)) ≡ None)
order_stays node state sender m step next =
    let tops = kept_top node (grown node state m) next.members next.extends.placed_after in
    let was = order_grown node state sender m step next in
    (λ ordered. sym tops ∙ was.0 ordered, λ none. was.1 (tops ∙ none))
