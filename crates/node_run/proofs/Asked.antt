-- What was asked of certificates that wait.
use Rattle.std.proofs.Common.{◌≡◌, ◌≤◌, ◌<◌, ℕ, zero, suc, ◌+◌, Bool, true, false, List, [], ◌∷◌, ◌++◌, Option, Some, None, Result, Ok, Err, inl, inr, refl, sym, ap, subst, ◌∙◌, add-one, arith, take, slice_get, length}
use Rattle.std.specs.Prelude.{◌≢◌, ◌⊎◌, max, ◌==◌, All, Contains, IfSome, IfNone}
use Rattle.std.proofs.lemmas.Bool.{cases_Bool, eqb-true}
use Rattle.std.proofs.lemmas.Bool.Decides.{leb_tells}
use Rattle.std.proofs.lemmas.Grind.{common_steps}
use Rattle.std.proofs.lemmas.List.Elements.{All-nil, All-head, All-weaker, All-contains, All-push, Contains-append_cases, Contains-append_left, Contains-append_right}
use Rattle.std.proofs.lemmas.Option.{same_Some, none-some}
use Rattle.header.specs.Checks.{fault_of, accepts_all}
use Rattle.wire.specs.Lists.{Begins}
use Rattle.spec_laws.proofs.Lists.{Contains-cases}
use Rattle.spec_machine.specs.Machine.{answered, is_missing_parents}
use Rattle.spec_model.specs.States.{State}
use Rattle.spec_model.specs.Words.{Author, Event, Message}
use Rattle.node_io.specs.declared.rejection.Rejection.{Rejection}
use Rattle.node_seats.proofs.Beginnings.{begins_same, begins_trans}
use Rattle.node_seats.proofs.Same.{same_then}
use Rattle.node_shared.specs.Home.{NodeView, IsBase, seen_in}
use Rattle.node.specs.Callers.{CallerView, StaysWith}
use Rattle.sigface.specs.Scheme.{Scheme}
use Rattle.validator.specs.Setting.{node_of, ConfigView}
use Rattle.waiter.specs.Rounds.{WaitersView, held}
use Rattle.waiter.specs.Waiting.{IsTakenAt}
use Rattle.node_run.specs.Asked.{AsksEach, AsksWhatWasDue, GoesThrough, IsDue, IsFirstReady, OnlyAsks, WasAsked, WasReady, WasSubmitted}
use Rattle.node_run.specs.Bringing.{BringsAgain}
use Rattle.node_run.specs.Asking.{IsDueAfter, IsTakenOut, TakesOne, both_waiting}
use Rattle.node_run.specs.declared.due.Due.{Due}
use Rattle.node_run.specs.declared.due.Waiting.{Waiting}
use Rattle.node_run.specs.declared.due.Waiting.TheVariants.{Nothing, Rounds}

-- ---- options and lists

pub some_more : {T : Type 0} {P Q : T → Type 0} (found : Option T) → ((one : T) → P one → Q one) → IfSome found P → IfSome found Q
some_more None more holds = tt
some_more (Some one) more holds = more one holds

pub none_more : {T P Q : Type 0} (found : Option T) → (P → Q) → IfNone found P → IfNone found Q
none_more None more holds = more holds
none_more (Some one) more holds = tt

one_suc : (events : List Event) (place : ℕ) (event : Event) → slice_get events place ≡ Some event → take (suc place) events ≡ take place events ++ event ∷ []
one_suc [] place event is = absurd (none-some event is)
one_suc (first ∷ rest) zero event is = ap (λ (e : Event). e ∷ []) (same_Some first event is)
one_suc (first ∷ rest) (suc place) event is = ap (λ (l : List Event). first ∷ l) (one_suc rest place event is)

no_suc : (events : List Event) (place : ℕ) → slice_get events place ≡ None → take (suc place) events ≡ take place events
no_suc [] zero is = refl
no_suc [] (suc place) is = refl
no_suc (first ∷ rest) zero is = absurd cc
no_suc (first ∷ rest) (suc place) is = ap (λ (l : List Event). first ∷ l) (no_suc rest place is)

-- of all before a place and of the one there, if there is one
pub all_more : (P : Event → Type 0) (events : List Event) (place : ℕ) → All P (take place events) → IfSome (slice_get events place) P → All P (take (place + 1) events)
all_more P events place all next = subst (λ n. All P (take n events)) (sym (add-one place)) (by (slice_get events place) refl next)
  where
    by : (o : Option Event) → slice_get events place ≡ o → IfSome o P → All P (take (suc place) events)
    by None is holds = subst (All P) (sym (no_suc events place is)) all
    by (Some event) is holds = subst (All P) (sym (one_suc events place event is)) (All-push P (take place events) event all holds)

whole : (events : List Event) (count : ℕ) → length events ≤ count → take count events ≡ events
whole [] zero few = refl
whole [] (suc count) few = refl
whole (first ∷ rest) zero few = absurd (omega (arith, few))
whole (first ∷ rest) (suc count) few = ap (λ (l : List Event). first ∷ l) (whole rest count (omega (arith, few)))

-- of all before a place that is beyond the last
pub all_whole : (P : Event → Type 0) (events : List Event) (count : ℕ) → length events ≤ count → All P (take count events) → All P events
all_whole P events count few all = subst (All P) (whole events count few) all

pub first_of_all : (P : Event → Type 0) (events : List Event) → All P events → IfSome (slice_get events 0) P
first_of_all P [] all = tt
first_of_all P (first ∷ rest) all = All-head P first rest all

-- what stands before an element, and the element at its place
front_taken : (front back : List Event) (event : Event) → take (length front) (front ++ event ∷ back) ≡ front
front_taken [] back event = refl
front_taken (first ∷ rest) back event = ap (λ (l : List Event). first ∷ l) (front_taken rest back event)

stands_there : (front back : List Event) (event : Event) → slice_get (front ++ event ∷ back) (length front) ≡ Some event
stands_there [] back event = refl
stands_there (first ∷ rest) back event = stands_there rest back event

-- ---- what is due

pub decide_due : (waiting : Waiting) (round : ℕ) → IsDue waiting round ⊎ (IsDue waiting round → ⊥)
decide_due Nothing round = inr (λ none. none)
decide_due (Rounds low end) round = elim (leb_tells low round) [
  | inl above ↦ elim (leb_tells end round) [
    | inl beyond ↦ inr (λ both. omega (arith, both.1, beyond.1))
    | inr below ↦ inl (above.1, below.1)
  ]
  | inr under ↦ inr (λ both. omega (arith, both.0, under.1))
]

both_stay : (one other : Waiting) (round : ℕ) → IsDue one round → IsDue (both_waiting one other) round
both_stay Nothing other round due = absurd due
both_stay (Rounds low end) Nothing round due = due
both_stay (Rounds low end) (Rounds other_low other_end) round due = (omega (arith, due.0), omega (arith, due.1))

-- what was due before a message is due after it
pub due_stays : (own : Author) (sent : Message) (old new : Due) (reported : Result Bool Rejection) → IsDueAfter own sent old new reported → (round : ℕ) → IsDue old.waiting round
    → IsDue new.waiting round
due_stays own sent old new (Ok true) after round due =
    let all = after.new_one refl in
    subst (λ (d : Due). IsDue d.waiting round) (sym all.2) (both_stay old.waiting all.0.waiting round due)
due_stays own sent old new (Ok false) after round due = subst (λ (d : Due). IsDue d.waiting round) (sym (after.other (λ is. absurd cc))) due
due_stays own sent old new (Err why) after round due = subst (λ (d : Due). IsDue d.waiting round) (sym (after.other (λ is. absurd cc))) due

-- a certificate that waited in a round was taken out, or still waits there
taken_cases : (one : Event) (place : ℕ) (old new : WaitersView) → IsTakenOut one place old new → (round : ℕ) (event : Event) → Contains (held old round) event
    → (event ≡ one) ⊎ Contains (held new round) event
taken_cases one place old new taken round event inside = elim (cases_Bool (round == place)) [
  | inl is ↦ at_place (eqb-true round place is)
  | inr isnt ↦ inr (subst (λ (l : List Event). Contains l event) (sym (taken.others round (λ is. let yes : (round == place) ≡ true = subst (λ r. (r == place) ≡ true) (sym is)
      (self place) in absurd cc))) inside)
]
  where
    self : (n : ℕ) → (n == n) ≡ true
    self n = grind (arith, common_steps)

    among : Contains (taken.front ++ one ∷ taken.back) event → (event ≡ one) ⊎ Contains (taken.front ++ taken.back) event
    among there = elim (Contains-append_cases taken.front (one ∷ taken.back) event there) [
      | inl before ↦ inr (Contains-append_left taken.front taken.back event before)
      | inr from ↦ elim (Contains-cases one taken.back event from) [
        | inl is ↦ inl (sym is)
        | inr after ↦ inr (Contains-append_right taken.front taken.back event after)
      ]
    ]

    at_place : round ≡ place → (event ≡ one) ⊎ Contains (held new round) event
    at_place is = elim (among (subst (λ (l : List Event). Contains l event) (ap (held old) is ∙ taken.stood) inside)) [
      | inl same ↦ inl same
      | inr there ↦ inr (subst (λ (l : List Event). Contains l event) (sym (ap (held new) is ∙ taken.left)) there)
    ]

-- ---- callers

module _ {S : Type 0} where
  pub only_then : (one two three : CallerView S) → OnlyAsks one two → OnlyAsks two three → OnlyAsks one three
  only_then one two three first second = record {
    stays = record { setting = second.stays.setting ∙ first.stays.setting; node = second.stays.node ∙ first.stays.node };
    same = same_then one.seat two.seat three.seat first.same second.same;
    durable = second.durable ∙ first.durable;
    seen = begins_trans one.seat.view.seen two.seat.view.seen three.seat.view.seen first.seen second.seen;
  }

  pub stays_then : (one two three : CallerView S) → StaysWith one two → StaysWith two three → StaysWith one three
  stays_then one two three first second = record { setting = second.setting ∙ first.setting; node = second.node ∙ first.node }

module _ {S : Type 0} (scheme : Scheme S) (node : NodeView S) where
  -- what was asked between two moments was asked between wider ones
  pub asked_since : (before mid later : CallerView S) (event : Event) → mid.setting ≡ before.setting → Begins before.seat.view.seen mid.seat.view.seen
      → WasAsked scheme node mid later event → WasAsked scheme node before later event
  asked_since before mid later event setting more asked = record {
    looked = asked.looked;
    more = begins_trans before.seat.view.seen mid.seat.view.seen asked.looked more asked.more;
    less = asked.less;
    lacks = λ some passes. asked.lacks some (subst (λ (s : ConfigView S). fault_of s.charter accepts_all event ≡ None) (sym setting) passes);
  }

  pub asked_until : (before later end : CallerView S) (event : Event) → Begins later.seat.view.seen end.seat.view.seen
      → WasAsked scheme node before later event → WasAsked scheme node before end event
  asked_until before later end event more asked = record {
    looked = asked.looked;
    more = asked.more;
    less = begins_trans asked.looked later.seat.view.seen end.seat.view.seen asked.less more;
    lacks = asked.lacks;
  }

  pub all_since : (before mid later : CallerView S) (events : List Event) → mid.setting ≡ before.setting → Begins before.seat.view.seen mid.seat.view.seen
      → All (WasAsked scheme node mid later) events → All (WasAsked scheme node before later) events
  all_since before mid later events setting more all =
      All-weaker (WasAsked scheme node mid later) (WasAsked scheme node before later) (λ event. asked_since before mid later event setting more) events all

  pub all_until : (before later end : CallerView S) (events : List Event) → Begins later.seat.view.seen end.seat.view.seen
      → All (WasAsked scheme node before later) events → All (WasAsked scheme node before end) events
  all_until before later end events more all =
      All-weaker (WasAsked scheme node before later) (WasAsked scheme node before end) (λ event. asked_until before later end event more) events all

  pub some_since : (before mid later : CallerView S) (found : Option Event) → mid.setting ≡ before.setting → Begins before.seat.view.seen mid.seat.view.seen
      → IfSome found (WasAsked scheme node mid later) → IfSome found (WasAsked scheme node before later)
  some_since before mid later found setting more asked = some_more found (λ event. asked_since before mid later event setting more) asked

  pub some_until : (before later end : CallerView S) (found : Option Event) → Begins later.seat.view.seen end.seat.view.seen
      → IfSome found (WasAsked scheme node before later) → IfSome found (WasAsked scheme node before end)
  some_until before later end found more asked = some_more found (λ event. asked_until before later end event more) asked

  -- ---- what becomes of those that were due

  submitted_since : (before mid : CallerView S) (event : Event) → mid.setting ≡ before.setting → Begins before.seat.view.seen mid.seat.view.seen
      → WasSubmitted scheme node mid event → WasSubmitted scheme node before event
  submitted_since before mid event setting more (from, to, result, again, begins) = (
    from,
    to,
    result,
    subst (λ (s : ConfigView S). BringsAgain scheme node (fault_of s.charter accepts_all event) event from to result) setting again,
    begins_trans before.seat.view.seen mid.seat.view.seen from.seat.view.seen more begins,
  )

  pub through_self : (due : Waiting) (waiters : WaitersView) (before : CallerView S) → GoesThrough scheme node due due waiters waiters before before
  through_self due waiters before round event is inside = inr (inr (is, inside))

  pub through_then : (due mid_due last : Waiting) (waiters mid_waiters last_waiters : WaitersView) (before mid later : CallerView S) → mid.setting ≡ before.setting
      → Begins before.seat.view.seen mid.seat.view.seen → Begins mid.seat.view.seen later.seat.view.seen
      → GoesThrough scheme node due mid_due waiters mid_waiters before mid → GoesThrough scheme node mid_due last mid_waiters last_waiters mid later
      → GoesThrough scheme node due last waiters last_waiters before later
  through_then due mid_due last waiters mid_waiters last_waiters before mid later setting more rest first second round event is inside = elim (first round event is inside) [
    | inl asked ↦ inl (asked_until before mid later event rest asked)
    | inr other ↦ elim other [
      | inl submitted ↦ inr (inl submitted)
      | inr still ↦ elim (second round event still.0 still.1) [
        | inl asked ↦ inl (asked_since before mid later event setting more asked)
        | inr other' ↦ elim other' [
          | inl submitted ↦ inr (inl (submitted_since before mid event setting more submitted))
          | inr both ↦ inr (inr both)
        ]
      ]
    ]
  ]

  -- no certificate was ready in the rounds that were due, and the first one of the lowest round was asked about
  pub none_ready : (low end lowest : ℕ) (waiters : WaitersView) (before mid later : CallerView S) → held waiters lowest ≢ [] → ((other : ℕ) → other < lowest → held waiters other ≡ [])
      → ((low ≤ lowest → lowest < end → ⊥) → IfSome (slice_get (held waiters lowest) 0) (WasAsked scheme node before mid)) → Begins mid.seat.view.seen later.seat.view.seen
      → AsksEach scheme node (max low lowest) end waiters before later → AsksWhatWasDue scheme node (Rounds low end) Nothing waiters before later
  none_ready low end lowest waiters before mid later some least outside more each = record {
    rounds = λ round due _. rounds round due.0 due.1;
    lowest = λ _ _ round first rest is below. at_lowest first rest (subst (λ r. held waiters r ≡ first ∷ rest) (is_lowest round first rest is below) is);
  }
    where
      P : Event → Type 0
      P = WasAsked scheme node before later

      rounds : (round : ℕ) → low ≤ round → round < end → All P (held waiters round)
      rounds round above under = elim (leb_tells lowest round) [
        | inl from ↦ each round (omega (arith, above, from.1)) under
        | inr before' ↦ subst (All P) (sym (least round before'.1)) (All-nil P)
      ]

      is_lowest : (round : ℕ) (first : Event) (rest : List Event) → held waiters round ≡ first ∷ rest → ((other : ℕ) → other < round → held waiters other ≡ []) → round ≡ lowest
      is_lowest round first rest is below = elim (leb_tells lowest round) [
        | inl from ↦ elim (leb_tells round lowest) [
          | inl to ↦ omega (arith, from.1, to.1)
          | inr beyond ↦ absurd (some (below lowest beyond.1))
        ]
        | inr under ↦ let none : [] ≡ first ∷ rest = sym (least round under.1) ∙ is in absurd cc
      ]

      at_lowest : (first : Event) (rest : List Event) → held waiters lowest ≡ first ∷ rest → P first
      at_lowest first rest is = elim (decide_due (Rounds low end) lowest) [
        | inl due ↦ All-head P first rest (subst (All P) is (rounds lowest due.0 due.1))
        | inr isnt ↦ asked_until before mid later first more
            (subst (λ (l : List Event). IfSome (slice_get l 0) (WasAsked scheme node before mid)) is (outside (λ above under. isnt (above, under))))
      ]

  -- each in the due rounds below one was asked about, where none waits below the lowest
  pub asked_below : (low lowest at : ℕ) (waiters : WaitersView) (before later : CallerView S) → ((other : ℕ) → other < lowest → held waiters other ≡ [])
      → AsksEach scheme node (max low lowest) at waiters before later → AsksEach scheme node low at waiters before later
  asked_below low lowest at waiters before later least each round from under = elim (leb_tells lowest round) [
    | inl above ↦ each round (omega (arith, from, above.1)) under
    | inr before' ↦ subst (All (WasAsked scheme node before later)) (sym (least round before'.1)) (All-nil (WasAsked scheme node before later))
  ]

  -- one was ready in a round, and each in a round before it was asked about
  pub one_ready : (low end lowest at : ℕ) (waiters : WaitersView) (before later : CallerView S) → ((other : ℕ) → other < lowest → held waiters other ≡ [])
      → AsksEach scheme node (max low lowest) at waiters before later → AsksWhatWasDue scheme node (Rounds low end) (Rounds at end) waiters before later
  one_ready low end lowest at waiters before later least each = record {
    rounds = λ round due isnt. elim (leb_tells at round) [
      | inl from ↦ absurd (isnt (from.1, due.1))
      | inr under ↦ asked_below low lowest at waiters before later least each round due.0 under.1
    ];
    lowest = λ _ none. absurd cc;
  }

-- ---- the same of a caller's own node

module _ {S : Type 0} (scheme : Scheme S) where
  pub all_on : (before mid later : CallerView S) (waiters mid_waiters : WaitersView) (round : ℕ) → OnlyAsks before mid → mid_waiters ≡ waiters
      → All (WasAsked scheme mid.node mid later) (held mid_waiters round) → All (WasAsked scheme before.node before later) (held waiters round)
  all_on before mid later waiters mid_waiters round only same all =
      all_since scheme before.node before mid later (held waiters round) only.stays.setting only.seen
      (subst (λ (n : NodeView S). All (WasAsked scheme n mid later) (held waiters round)) only.stays.node
      (subst (λ (w : WaitersView). All (WasAsked scheme mid.node mid later) (held w round)) same all))

  pub each_on : (low end : ℕ) (before mid later : CallerView S) (waiters mid_waiters : WaitersView) → OnlyAsks before mid → mid_waiters ≡ waiters
      → AsksEach scheme mid.node low end mid_waiters mid later → AsksEach scheme before.node low end waiters before later
  each_on low end before mid later waiters mid_waiters only same each round above under = all_on before mid later waiters mid_waiters round only same (each round above under)

  pub some_on : (before mid later : CallerView S) (waiters mid_waiters : WaitersView) (round place : ℕ) → OnlyAsks before mid → mid_waiters ≡ waiters
      → IfSome (slice_get (held mid_waiters round) place) (WasAsked scheme mid.node mid later) → IfSome (slice_get (held waiters round) place) (WasAsked scheme before.node before later)
  some_on before mid later waiters mid_waiters round place only same asked =
      some_since scheme before.node before mid later (slice_get (held waiters round) place) only.stays.setting only.seen
      (subst (λ (n : NodeView S). IfSome (slice_get (held waiters round) place) (WasAsked scheme n mid later)) only.stays.node
      (subst (λ (w : WaitersView). IfSome (slice_get (held w round) place) (WasAsked scheme mid.node mid later)) same asked))

  -- a turn in which none was ready
  pub go_none : (before mid later : CallerView S) (due mid_due later_due : Waiting) (waiters mid_waiters later_waiters : WaitersView) → StaysWith before mid
      → Begins before.seat.view.seen mid.seat.view.seen → mid_due ≡ due → mid_waiters ≡ waiters → later_due ≡ Nothing
      → AsksWhatWasDue scheme mid.node mid_due later_due mid_waiters mid later → GoesThrough scheme before.node due later_due waiters later_waiters before later
  go_none before mid later due mid_due later_due waiters mid_waiters later_waiters stays more same_due same_waiters none asks round event is inside =
      let still : IsDue mid_due round = subst (λ (w : Waiting). IsDue w round) (sym same_due) is in
      let there : Contains (held mid_waiters round) event = subst (λ (w : WaitersView). Contains (held w round) event) (sym same_waiters) inside in
      inl (asked_since scheme before.node before mid later event stays.setting more (subst (λ (n : NodeView S). WasAsked scheme n mid later event) stays.node
      (All-contains (WasAsked scheme mid.node mid later) (held mid_waiters round) event (asks.rounds round still (λ due'. subst (λ (w : Waiting). IsDue w round) none due')) there)))

  -- a turn in which one was, and was submitted
  pub go_some : (before mid looked later : CallerView S) (due mid_due looked_due later_due : Due) (waiters mid_waiters looked_waiters later_waiters : WaitersView) (one : Event)
      (own : Author) (reported : Result Bool Rejection) → StaysWith before mid → Begins before.seat.view.seen mid.seat.view.seen → mid_due.waiting ≡ due.waiting → mid_waiters ≡ waiters
      → OnlyAsks mid looked → AsksWhatWasDue scheme mid.node mid_due.waiting looked_due.waiting mid_waiters mid looked → TakesOne one mid_waiters looked_waiters mid_due looked_due
      → Begins looked.seat.view.seen later.seat.view.seen → later_waiters ≡ looked_waiters → IsDueAfter own one.message looked_due later_due reported
      → BringsAgain scheme looked.node (fault_of looked.setting.charter accepts_all one) one looked later reported
      → GoesThrough scheme before.node due.waiting later_due.waiting waiters later_waiters before later
  go_some before mid looked later due mid_due looked_due later_due waiters mid_waiters looked_waiters later_waiters one own reported stays more same_due same_waiters only asks takes rest same_later
      after again round event is inside =
      let still : IsDue mid_due.waiting round = subst (λ (w : Waiting). IsDue w round) (sym same_due) is in
      let there : Contains (held mid_waiters round) event = subst (λ (w : WaitersView). Contains (held w round) event) (sym same_waiters) inside in
      let here = subst (λ (n : NodeView S). BringsAgain scheme n (fault_of before.setting.charter accepts_all one) one looked later reported) (only.stays.node ∙ stays.node)
      (subst (λ (s : ConfigView S). BringsAgain scheme looked.node (fault_of s.charter accepts_all one) one looked later reported) (only.stays.setting ∙ stays.setting) again) in
      elim (decide_due looked_due.waiting round) [
        | inr isnt ↦ inl (asked_since scheme before.node before mid later event stays.setting more (asked_until scheme before.node mid looked later event rest
            (subst (λ (n : NodeView S). WasAsked scheme n mid looked event) stays.node
            (All-contains (WasAsked scheme mid.node mid looked) (held mid_waiters round) event (asks.rounds round still isnt) there))))
        | inl due' ↦ elim (taken_cases one takes.0 mid_waiters looked_waiters takes.1 round event there) [
          | inl same ↦ inr (inl (subst (WasSubmitted scheme before.node before) (sym same)
              (looked, later, reported, here, begins_trans before.seat.view.seen mid.seat.view.seen looked.seat.view.seen more only.seen)))
          | inr left ↦ inr (inr (due_stays own one.message looked_due later_due reported after round due', subst (λ (w : WaitersView). Contains (held w round) event) (sym same_later) left))
        ]
      ]

  -- another turn
  pub go_on : (before mid later : CallerView S) (due mid_due later_due : Waiting) (waiters mid_waiters later_waiters : WaitersView) → StaysWith before mid
      → Begins before.seat.view.seen mid.seat.view.seen → Begins mid.seat.view.seen later.seat.view.seen
      → GoesThrough scheme before.node due mid_due waiters mid_waiters before mid → GoesThrough scheme mid.node mid_due later_due mid_waiters later_waiters mid later
      → GoesThrough scheme before.node due later_due waiters later_waiters before later
  go_on before mid later due mid_due later_due waiters mid_waiters later_waiters stays more rest first second =
      through_then scheme before.node due mid_due later_due waiters mid_waiters later_waiters before mid later stays.setting more rest first
      (subst (λ (n : NodeView S). GoesThrough scheme n mid_due later_due mid_waiters later_waiters mid later) stays.node second)

-- ---- which one is taken

module _ {S : Type 0} (scheme : Scheme S) where
  pub ready_now : (before later : CallerView S) (event : Event) → Begins before.seat.view.seen later.seat.view.seen → fault_of before.setting.charter accepts_all event ≡ None
      → ((base : State) → IsBase scheme before.node base
      → is_missing_parents (answered (node_of scheme before.node.setting) (seen_in (node_of scheme before.node.setting) base later.seat) event) ≡ false)
      → WasReady scheme before.node before later event
  ready_now before later event more passed has = record { looked = later.seat.view.seen; more = more; less = begins_same later.seat.view.seen; passed = passed; has = has }

  ready_since : (before mid later : CallerView S) (event : Event) → OnlyAsks before mid → WasReady scheme mid.node mid later event → WasReady scheme before.node before later event
  ready_since before mid later event only ready =
      let here = subst (λ (n : NodeView S). WasReady scheme n mid later event) only.stays.node ready in
      record {
        looked = here.looked;
        more = begins_trans before.seat.view.seen mid.seat.view.seen here.looked only.seen here.more;
        less = here.less;
        passed = subst (λ (s : ConfigView S). fault_of s.charter accepts_all event ≡ None) only.stays.setting here.passed;
        has = here.has;
      }

  -- the one at a place, where those before it aren't ready
  pub first_taken : (before mid later : CallerView S) (waiters mid_waiters : WaitersView) (round place : ℕ) (event : Event) (left : List Event) → OnlyAsks before mid → OnlyAsks mid later
      → mid_waiters ≡ waiters → All (WasAsked scheme before.node before mid) (take place (held waiters round)) → IsTakenAt (held mid_waiters round) place event left
      → IfSome (slice_get (held mid_waiters round) place) (WasReady scheme mid.node mid later) → IsFirstReady scheme before.node before later (held waiters round) event
  first_taken before mid later waiters mid_waiters round place event left first second same asked taken ready =
      let stood : held waiters round ≡ taken.front ++ event ∷ taken.back = ap (λ (w : WaitersView). held w round) (sym same) ∙ taken.stood in
      let front : take place (held waiters round) ≡ taken.front =
      ap (λ (l : List Event). take place l) stood ∙ ap (λ n. take n (taken.front ++ event ∷ taken.back)) (sym taken.before) ∙ front_taken taken.front taken.back event in
      let there : slice_get (held mid_waiters round) place ≡ Some event =
      ap (λ (l : List Event). slice_get l place) taken.stood ∙ ap (λ n. slice_get (taken.front ++ event ∷ taken.back) n) (sym taken.before) ∙ stands_there taken.front taken.back event in
      record {
        front = taken.front;
        back = taken.back;
        stood = stood;
        asked = subst (All (WasAsked scheme before.node before later)) front (all_until scheme before.node before mid later (take place (held waiters round)) second.seen asked);
        ready = ready_since before mid later event first (subst (λ (o : Option Event). IfSome o (WasReady scheme mid.node mid later)) there ready);
      }

  -- the same where more was asked before
  pub first_on : (before mid later : CallerView S) (waiters mid_waiters : WaitersView) (round : ℕ) (event : Event) → OnlyAsks before mid → mid_waiters ≡ waiters
      → IsFirstReady scheme mid.node mid later (held mid_waiters round) event → IsFirstReady scheme before.node before later (held waiters round) event
  first_on before mid later waiters mid_waiters round event only same first = record {
    front = first.front;
    back = first.back;
    stood = ap (λ (w : WaitersView). held w round) (sym same) ∙ first.stood;
    asked = all_since scheme before.node before mid later first.front only.stays.setting only.seen
        (subst (λ (n : NodeView S). All (WasAsked scheme n mid later) first.front) only.stays.node first.asked);
    ready = ready_since before mid later event only first.ready;
  }
