-- What becomes of the groups in flight.
use Rattle.std.proofs.Common.{◌≡◌, ℕ, ◌+◌, ◌≤◌, List, [], ◌∷◌, ◌++◌, length, take, drop, map, Bool, true, false, Ok, Err, inl, inr, ⊎_elim, refl, sym, ap, ◌∙◌, subst, arith, drop-drop, append-nil}
use Rattle.std.specs.Prelude.{Result, IfOk, OnErr, Option, Some, None, IfSome, IsNone}
use Rattle.std.specs.declared.alloc.AllocError.{AllocError}
use Rattle.std.proofs.lemmas.List.{nil_from_length, take_all, take-take, drop_at, take-append-le, take-append-drop, length-take-le, drop-append-le}
use Rattle.std.proofs.lemmas.List.{drop-map, map-append, length-append, length-map, length-drop}
use Rattle.std.proofs.lemmas.Grind.{flat_map-append}
use Rattle.spec_model.specs.Histories.{History}
use Rattle.wire.specs.Lists.{Begins}
use Rattle.spec_model.specs.Nodes.{Node}
use Rattle.spec_model.specs.States.{State}
use Rattle.spec_model.specs.Words.{Event}
use Rattle.header.specs.declared.refusal.Refusal.{Refusal}
use Rattle.spec_records.specs.Records.{record_of}
use Rattle.book.specs.Book.{BookView, Run, Stands, run_on, with_accepted, with_taken, with_settled, Settles, settled_by, settled_to, TakesNew, TakesKnown, SettlesNext}
use Rattle.journal.specs.Format as file
use Rattle.journal.specs.Format.{file_with}
use Rattle.journal.specs.Journal.{IsBeforeOrAfter, stands_with}
use Rattle.book.specs.InFlight.{AreInFlight, StandsSomewhere, RewritesOnlyDown, HasRoomFor, Flushes, GoesDown, IsWithOrWithout}
use Rattle.book.specs.Pending.{IsLongestBeginning, all_records}
use Rattle.book.specs.declared.book.Receipt.{Receipt}
use Rattle.book.proofs.Flushing.{stands_taken, records_taken}

begins_length : {X : Type 0} (one other : List X) → Begins one other → length one ≤ length other
begins_length one other begins = omega (arith, ap length begins.parts, length-append one begins.rest)

-- where neither changes, a rewriting is in flight only where the book is down, as before
pub only_down : {S : Type 0} (before later : BookView S) → later.rewriting ≡ before.rewriting → later.down ≡ before.down → RewritesOnlyDown before → RewritesOnlyDown later
only_down before later rewriting down = ⊎_elim (λ none. inl (rewriting ∙ none)) (λ is. inr (down ∙ is))

module _ {S : Type 0} (node : Node) where
  -- at first there are none
  pub way_first : (base : State) (book : BookView S) → book.rewriting ≡ None → Stands node (run_on base) book → AreInFlight node book []
  way_first base book alone at = record { alone = alone; run = run_on base; stands = at; are = refl }

  -- they stay where the runs stay
  pub way_same : (before later : BookView S) (groups : List (List (List ℕ))) → later.rewriting ≡ before.rewriting → ((run : Run) → Stands node run before → Stands node run later)
      → AreInFlight node before groups → AreInFlight node later groups
  way_same before later groups rewriting same way = record { alone = rewriting ∙ way.alone; run = way.run; stands = same way.run way.stands; are = way.are }

  -- and when an event is taken
  pub way_new : (before later : BookView S) (groups : List (List (List ℕ))) (event : Event) → TakesNew node before later event → AreInFlight node before groups → AreInFlight node later groups
  way_new before later groups event takes way = record { alone = takes.rewriting ∙ way.alone; run = with_accepted way.run event; stands = takes.stands way.run way.stands; are = way.are }

  pub way_accepted : (before later : BookView S) (groups : List (List (List ℕ))) (event : Event) (r : Result Receipt Refusal)
      → IfOk r (λ receipt. receipt.new ≡ true → TakesNew node before later event) → IfOk r (λ receipt. receipt.new ≡ false → TakesKnown node before later event) → OnErr r (later ≡ before)
      → AreInFlight node before groups → AreInFlight node later groups
  way_accepted before later groups event (Ok receipt) new known same way = by_newness receipt.new new known
    where
      by_newness : (is_new : Bool) → (is_new ≡ true → TakesNew node before later event) → (is_new ≡ false → TakesKnown node before later event) → AreInFlight node later groups
      by_newness true new known = way_new before later groups event (new refl) way
      by_newness false new known = way_same before later groups (ap (λ (b : BookView S). b.rewriting) (known refl).is) (known refl).stands way
  way_accepted before later groups event (Err refusal) new known same way = subst (λ s. AreInFlight node s groups) (sym same) way

  -- a group that is taken is the last of them
  pub way_taken : (before later : BookView S) (groups : List (List (List ℕ))) (group : List (List ℕ)) → later.rewriting ≡ before.rewriting
      → ((run : Run) → Stands node run before → Stands node (with_taken run (length group)) later)
      → ((run : Run) → Stands node run before → group ≡ map record_of (drop (length run.taken) (with_taken run (length group)).taken))
      → AreInFlight node before groups → AreInFlight node later (groups ++ group ∷ [])
  way_taken before later groups group rewriting stands records way =
      let run : Run = way.run in
      let at : Stands node run before = way.stands in
      let taken : History = (with_taken run (length group)).taken in
      let begins : taken ≡ run.taken ++ drop (length run.taken) taken =
      sym (take-append-drop (length run.taken) taken) ∙ ap (λ l. l ++ drop (length run.taken) taken) (first_of run.taken run.accepted at.taken_begins (length group)) in
      record {
        alone = rewriting ∙ way.alone;
        run = with_taken run (length group);
        stands = stands run at;
        are = ap (λ l. map record_of (drop (length run.settled) l)) begins
            ∙ ap (map record_of) (drop-append-le (length run.settled) run.taken (drop (length run.taken) taken) (begins_length run.settled run.taken at.settled_begins))
            ∙ map-append record_of (drop (length run.settled) run.taken) (drop (length run.taken) taken)
            ∙ ap (λ l. l ++ map record_of (drop (length run.taken) taken)) way.are
            ∙ ap (λ l. all_records groups ++ l) (sym (records run at) ∙ sym (append-nil group))
            ∙ sym (flat_map-append (λ g. g) groups (group ∷ []));
      }
    where
      -- what begins a list begins more of its first elements
      first_of : (taken accepted : History) → Begins taken accepted → (count : ℕ) → take (length taken) (take (length taken + count) accepted) ≡ taken
      first_of taken accepted begins count =
          take-take (length taken) (length taken + count) accepted (omega arith) ∙ ap (take (length taken)) begins.parts
          ∙ take-append-le (length taken) taken begins.rest (omega arith) ∙ take_all (length taken) taken (omega arith)

  -- the first of them may be settled
  pub way_settles : (book : BookView S) (first : List (List ℕ)) (rest : List (List (List ℕ))) → AreInFlight node book (first ∷ rest) → SettlesNext node book first
  way_settles book first rest way =
      (way.run, way.stands, subst (λ r. Settles node way.run r first) (sym way.alone) (record { rest = all_records rest; parts = way.are }))

  -- what is said of settling a group, where no rewriting is in flight
  pub settles_group : (before later : BookView S) (group : List (List ℕ)) → before.rewriting ≡ None
      → ((run : Run) → Stands node run before → Settles node run before.rewriting group → Stands node (settled_by run before.rewriting (length group)) later)
      → (run : Run) → Stands node run before → Begins group (map record_of (drop (length run.settled) run.taken)) → Stands node (with_settled run (length group)) later
  settles_group before later group alone stands =
      subst (λ r. (run : Run) → Stands node run before → Settles node run r group → Stands node (settled_by run r (length group)) later) alone stands

  -- and then it is none of them
  pub way_settled : (before later : BookView S) (first : List (List ℕ)) (rest : List (List (List ℕ)))
      → ((run : Run) → Stands node run before → Settles node run before.rewriting first → Stands node (settled_by run before.rewriting (length first)) later)
      → later.rewriting ≡ None → AreInFlight node before (first ∷ rest) → AreInFlight node later rest
  way_settled before later first rest stands none way =
      let run : Run = way.run in
      let begins : Begins first (map record_of (drop (length run.settled) run.taken)) = record { rest = all_records rest; parts = way.are } in
      let count : ℕ = length run.settled + length first in
      let long : length (take count run.taken) ≡ count = length-take-le count run.taken (within run first begins way.stands.settled_begins) in
      record {
        alone = none;
        run = with_settled run (length first);
        stands = settles_group before later first way.alone stands run way.stands begins;
        are = ap (λ n. map record_of (drop n run.taken)) long
            ∙ ap (map record_of) (sym (drop-drop (length first) (length run.settled) run.taken))
            ∙ sym (drop-map record_of (length first) (drop (length run.settled) run.taken))
            ∙ ap (drop (length first)) way.are
            ∙ drop_at first (all_records rest) (length first) refl;
      }
    where
      within : (run : Run) (group : List (List ℕ)) → Begins group (map record_of (drop (length run.settled) run.taken)) → Begins run.settled run.taken
          → length run.settled + length group ≤ length run.taken
      within run group begins settled =
          let rest = drop (length run.settled) run.taken in
          omega (arith, begins_length group (map record_of rest) begins, length-map rest record_of, length-drop (length run.settled) run.taken, begins_length run.settled run.taken settled)

  -- where as much is settled as was taken, there are none
  pub way_none : (book : BookView S) (run : Run) → Stands node run book → book.rewriting ≡ None → book.taken ≡ book.settled → AreInFlight node book []
  way_none book run at alone same = record {
    alone = alone;
    run = run;
    stands = at;
    are = ap (map record_of) (nil_from_length (drop (length run.settled) run.taken) (omega (arith, length-drop (length run.settled) run.taken, at.taken, at.settled, same)));
  }

  -- a book that takes an event stands somewhere, and has a rewriting in flight only where it is down
  pub accepted_somewhere : (before later : BookView S) (event : Event) (r : Result Receipt Refusal)
      → IfOk r (λ receipt. receipt.new ≡ true → TakesNew node before later event) → IfOk r (λ receipt. receipt.new ≡ false → TakesKnown node before later event) → OnErr r (later ≡ before)
      → StandsSomewhere node before × RewritesOnlyDown before → StandsSomewhere node later × RewritesOnlyDown later
  accepted_somewhere before later event (Ok receipt) new known same is = by_newness receipt.new new known
    where
      by_newness : (is_new : Bool) → (is_new ≡ true → TakesNew node before later event) → (is_new ≡ false → TakesKnown node before later event)
          → StandsSomewhere node later × RewritesOnlyDown later
      by_newness true new known = ((with_accepted is.0.0 event, (new refl).stands is.0.0 is.0.1), only_down before later (new refl).rewriting (new refl).down is.1)
      by_newness false new known =
          ((is.0.0, (known refl).stands is.0.0 is.0.1), only_down before later (ap (λ (b : BookView S). b.rewriting) (known refl).is) (ap (λ (b : BookView S). b.down) (known refl).is) is.1)
  accepted_somewhere before later event (Err refusal) new known same is = subst (λ s. StandsSomewhere node s × RewritesOnlyDown s) (sym same) is

  module _ (before middle : BookView S) (group : List (List ℕ))
      (longest : IsLongestBeginning before.pending group middle.pending) (taken : middle ≡ record before { pending = middle.pending; taken = before.taken + length group }) where
    -- a round that settles what it took where none was in flight
    pub flushes : (later : BookView S) (old new : List ℕ) (count : ℕ) → before.taken ≡ before.settled
        → before.rewriting ≡ None → later ≡ record middle { settled = later.settled; ordered = later.ordered; reached = later.reached; rewriting = None }
        → later.settled ≡ settled_to middle.rewriting (middle.settled + length group)
        → ((run : Run) → Stands node run middle → Settles node run middle.rewriting group → Stands node (settled_by run middle.rewriting (length group)) later)
        → HasRoomFor group old → new ≡ file_with old group → file.stands new ≡ stands_with old group → count ≡ length group → Flushes node before later old new count
    flushes later old new count none alone rest settled stands room written records counts =
        let free : middle.rewriting ≡ None = ap (λ (s : BookView S). s.rewriting) taken ∙ alone in
        let more : later.settled ≡ middle.settled + length group = settled ∙ ap (λ r. settled_to r (middle.settled + length group)) free in
        let pending : middle.pending ≡ later.pending = sym (ap (λ (s : BookView S). s.pending) rest) in
        record {
          group = group;
          takes = subst (IsLongestBeginning before.pending group) pending longest;
          room = room;
          written = written;
          records = records;
          counts = counts;
          is = rest ∙ (λ i. record (taken i) {
            pending = pending i;
            settled = (more ∙ ap (λ (s : BookView S). s.settled + length group) taken) i;
            rewriting = sym alone i;
            ordered = later.ordered;
            reached = later.reached;
          });
          stands = λ run at.
              settles_group middle later group free stands (with_taken run (length group)) (stands_taken node run before middle at group longest taken) (record {
                rest = [];
                parts = ap (λ n. map record_of (drop n (with_taken run (length group)).taken)) (omega (arith, at.taken, at.settled, none))
                    ∙ sym (records_taken node run before middle at group longest) ∙ sym (append-nil group);
              });
        }

    -- and one that goes down with it in flight
    abbrev pub goes_down : (later : BookView S) → later ≡ record middle { down = true } → AreInFlight node later (group ∷ []) → GoesDown node before later
    goes_down later down way =
        let pending : middle.pending ≡ later.pending = sym (ap (λ (s : BookView S). s.pending) down) in
        record {
          group = group;
          takes = subst (IsLongestBeginning before.pending group) pending longest;
          is = down ∙ (λ i. record (taken i) { pending = pending i; down = true });
          way = way;
        }

  module _ (before later : BookView S) (r : Result (Option (List (List ℕ))) AllocError)
      (taken : IfOk r (λ group. IfSome group (λ group. later ≡ record before { pending = later.pending; taken = before.taken + length group })))
      (stands : IfOk r (λ group. IfSome group (λ group. (run : Run) → Stands node run before → Stands node (with_taken run (length group)) later)))
      (records : IfOk r (λ group. IfSome group (λ group. (run : Run) → Stands node run before → group ≡ map record_of (drop (length run.taken) (with_taken run (length group)).taken)))) where
    -- what a call that takes makes of the way
    pub way_took : IfOk r (λ taken. IfSome taken (λ group. (groups : List (List (List ℕ))) → AreInFlight node before groups → AreInFlight node later (groups ++ group ∷ [])))
    way_took = by_result r taken stands records
      where
        by_result : (r : Result (Option (List (List ℕ))) AllocError)
            → IfOk r (λ group. IfSome group (λ group. later ≡ record before { pending = later.pending; taken = before.taken + length group }))
            → IfOk r (λ group. IfSome group (λ group. (run : Run) → Stands node run before → Stands node (with_taken run (length group)) later))
            → IfOk r (λ group. IfSome group (λ group. (run : Run) → Stands node run before → group ≡ map record_of (drop (length run.taken) (with_taken run (length group)).taken)))
            → IfOk r (λ taken. IfSome taken (λ group. (groups : List (List (List ℕ))) → AreInFlight node before groups → AreInFlight node later (groups ++ group ∷ [])))
        by_result (Ok (Some group)) taken stands records = λ groups. way_taken before later groups group (ap (λ (b : BookView S). b.rewriting) taken) stands records
        by_result (Ok None) taken stands records = stands
        by_result (Err error) taken stands records = stands

    -- and that the book stands somewhere after it
    pub took_somewhere : IfOk r (λ group. IsNone group → later ≡ before) → OnErr r (later ≡ before) → StandsSomewhere node before × RewritesOnlyDown before
        → StandsSomewhere node later × RewritesOnlyDown later
    took_somewhere nothing same is = by_result r taken stands nothing same
      where
        by_result : (r : Result (Option (List (List ℕ))) AllocError)
            → IfOk r (λ group. IfSome group (λ group. later ≡ record before { pending = later.pending; taken = before.taken + length group }))
            → IfOk r (λ group. IfSome group (λ group. (run : Run) → Stands node run before → Stands node (with_taken run (length group)) later))
            → IfOk r (λ group. IsNone group → later ≡ before) → OnErr r (later ≡ before) → StandsSomewhere node later × RewritesOnlyDown later
        by_result (Ok (Some group)) taken stands nothing same = (
          (with_taken is.0.0 (length group), stands is.0.0 is.0.1),
          only_down before later (ap (λ (b : BookView S). b.rewriting) taken) (ap (λ (b : BookView S). b.down) taken) is.1,
        )
        by_result (Ok None) taken stands nothing same = subst (λ s. StandsSomewhere node s × RewritesOnlyDown s) (sym (nothing refl)) is
        by_result (Err error) taken stands nothing same = subst (λ s. StandsSomewhere node s × RewritesOnlyDown s) (sym same) is

-- what a stop leaves of a file, with a group or without, is so with the longest beginning of what was pending
pub with_or_without : (pending group rest : List (List ℕ)) → IsLongestBeginning pending group rest → (file left : List ℕ) → IsBeforeOrAfter file group left → IsWithOrWithout pending file left
with_or_without pending group rest longest file left = ⊎_elim (λ without. inl without) (λ with. inr (group, rest, longest, with))

-- a call that takes leaves what the validator is set up with
pub setting_stays : {S : Type 0} (before later : BookView S) (r : Result (Option (List (List ℕ))) AllocError)
    → IfOk r (λ group. IfSome group (λ group. later ≡ record before { pending = later.pending; taken = before.taken + length group }))
    → IfOk r (λ group. IsNone group → later ≡ before) → OnErr r (later ≡ before) → later.validator.setting ≡ before.validator.setting
setting_stays before later (Ok (Some group)) taken nothing same = ap (λ b. b.validator.setting) taken
setting_stays before later (Ok None) taken nothing same = ap (λ b. b.validator.setting) (nothing refl)
setting_stays before later (Err error) taken nothing same = ap (λ b. b.validator.setting) same
