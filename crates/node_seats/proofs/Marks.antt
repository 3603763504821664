-- Events and who brought them.
use Rattle.std.proofs.Common.{◌≡◌, ◌≢◌, ℕ, List, [], ◌∷◌, ◌++◌, map, length, refl, ap, sym, ◌∙◌, subst, arith, eq-eqb, ne_eqb}
use Rattle.std.specs.Prelude.{◌==◌}
use Rattle.std.specs.List.{filter}
use Rattle.std.proofs.lemmas.List.{append-nil, map-append}
use Rattle.std.proofs.lemmas.List.Elements.{filter-append}
use Rattle.spec_model.specs.Words.{Event}
use Rattle.spec_model.specs.Histories.{History}
use Rattle.wire.specs.Lists.{Begins}
use Rattle.node_seats.specs.declared.view.Marked.{Marked}
use Rattle.node_seats.specs.Views.{mark, events, events_by}
use Rattle.node_seats.proofs.Beginnings.{begins_length, begins_whole}

abbrev pub one_by : ℕ → ℕ → Event → History
one_by number by event = map (λ (one : Marked). one.event) (filter (λ (one : Marked). one.by == number) (mark by event ∷ []))

by_push : (number by : ℕ) (event : Event) (marked : List Marked) → events_by number (marked ++ mark by event ∷ []) ≡ events_by number marked ++ one_by number by event
by_push number by event marked =
    ap (map (λ (one : Marked). one.event)) (filter-append (λ (one : Marked). one.by == number) marked (mark by event ∷ []))
    ∙ map-append (λ (one : Marked). one.event) (filter (λ (one : Marked). one.by == number) marked) (filter (λ (one : Marked). one.by == number) (mark by event ∷ []))

-- one more of a seat's own, or of another's
pub by_same : (number : ℕ) (event : Event) (marked : List Marked) → events_by number (marked ++ mark number event ∷ []) ≡ events_by number marked ++ event ∷ []
by_same number event marked = by_push number number event marked ∙ ap (λ l. events_by number marked ++ l) one
  where
    one : one_by number number event ≡ event ∷ []
    one = rw (eq-eqb number number refl) refl

pub by_other : (number by : ℕ) (event : Event) (marked : List Marked) → number ≢ by → events_by number (marked ++ mark by event ∷ []) ≡ events_by number marked
by_other number by event marked apart = by_push number by event marked ∙ ap (λ l. events_by number marked ++ l) none ∙ append-nil (events_by number marked)
  where
    none : one_by number by event ≡ []
    none = rw (ne_eqb by number (λ same. apart (sym same))) refl

pub events_push : (by : ℕ) (event : Event) (marked : List Marked) → events (marked ++ mark by event ∷ []) ≡ events marked ++ event ∷ []
events_push by event marked = map-append (λ (one : Marked). one.event) marked (mark by event ∷ [])

-- a seat's own of what begins a list begin its own of the list
pub by_begins : (number : ℕ) (one all : List Marked) → Begins one all → Begins (events_by number one) (events_by number all)
by_begins number one all begins = record {
  rest = events_by number begins.rest;
  parts =
      ap (events_by number) begins.parts ∙ ap (map (λ (each : Marked). each.event)) (filter-append (λ (each : Marked). each.by == number) one begins.rest)
      ∙ map-append (λ (each : Marked). each.event) (filter (λ (each : Marked). each.by == number) one) (filter (λ (each : Marked). each.by == number) begins.rest);
}

-- between two lists with the same of its own there is none more
pub by_between : (number : ℕ) (one between all : List Marked) (mine : History) → Begins one between → Begins between all → events_by number one ≡ mine
    → events_by number all ≡ mine → events_by number between ≡ mine
by_between number one between all mine first second own whole =
    let low : Begins (events_by number one) (events_by number between) = by_begins number one between first in
    let high = by_begins number between all second in
    let few = begins_length (events_by number between) (events_by number all) high in
    sym (begins_whole (events_by number one) (events_by number between) low (omega (arith, few, ap length own, ap length whole))) ∙ own

-- and where the whole has none, a beginning has none
pub by_nobody : (number : ℕ) (one all : List Marked) → Begins one all → events_by number all ≡ [] → events_by number one ≡ []
by_nobody number one all begins none =
    let low = begins_length (events_by number one) (events_by number all) (by_begins number one all begins) in
    begins_whole (events_by number one) [] (subst (λ (l : History). Begins (events_by number one) l) none (by_begins number one all begins)) (omega arith)
