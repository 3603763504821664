-- A book goes on standing when it takes an event.
use Rattle.std.proofs.Common.{◌≡◌, ◌≢◌, ℕ, ◌+◌, ◌≤◌, ◌<◌, List, [], ◌∷◌, ◌++◌, length, drop, map, inl, inr, sym, ap, ◌∙◌, subst, arith, append_assoc}
use Rattle.std.specs.Prelude.{All, Option, IfSome}
use Rattle.std.proofs.lemmas.List.{length_push, drop-append-le, map-append}
use Rattle.std.proofs.lemmas.List.Elements.{All-weaker, All-append, All-cons, All-nil}
use Rattle.spec_machine.specs.Machine.{answered, after}
use Rattle.spec_machine.proofs.AfterAll.{legal_push_after}
use Rattle.spec_model.specs.Admitting.{is_new, IsTaken}
use Rattle.spec_model.specs.Nodes.{Node}
use Rattle.spec_model.specs.States.{State}
use Rattle.spec_model.specs.Words.{Event, Output}
use Rattle.header.specs.declared.admission.Admission.TheVariants.{New, Known}
use Rattle.spec_records.specs.Records.{record_of}
use Rattle.spec_world.specs.Steps.{ticketed}
use Rattle.validator.specs.Standing.{AreAtSound}
use Rattle.book.specs.declared.reached.Reached.{Reached}
use Rattle.book.specs.Queue.{length_at, TicketsRise}
use Rattle.book.specs.Book.{BookView, Run, IsDue, Stands, state_in, state_to, with_accepted}
use Rattle.book.proofs.Due.{begins_length, state_stays, state_now, state_more, due_new, due_known, rise_new}
use Rattle.book.proofs.Lengths.{UpTo, cases_eq, cases_le, not_there, there, stays}

-- what is said of a longer order: one more stands at the end where its length is another one
abbrev pub IsNoted : (before later : List Reached) (ticket from to : ℕ) → Type 0
IsNoted before later ticket from to = (to ≡ from → later ≡ before) × (to ≢ from → later ≡ before ++ record { ticket = ticket; length = to } ∷ [])

-- the tickets stay within what was accepted
tickets_stay : (before later : List Reached) (count from to : ℕ) → IsNoted before later (count + 1) from to → UpTo count before → UpTo (count + 1) later
tickets_stay before later count from to noted upto =
    let weaker : UpTo (count + 1) before = All-weaker (λ r. r.ticket ≤ count) (λ r. r.ticket ≤ count + 1) (λ r is. omega (arith, is)) before upto in
    elim (cases_eq to from) [
      | inl same ↦ subst (UpTo (count + 1)) (sym (noted.0 same)) weaker
      | inr other ↦ subst (UpTo (count + 1)) (sym (noted.1 other)) (All-append (λ r. r.ticket ≤ count + 1) before (record { ticket = count + 1; length = to } ∷ []) weaker
          (All-cons (λ r. r.ticket ≤ count + 1) (record { ticket = count + 1; length = to }) [] (omega arith) (All-nil (λ r. r.ticket ≤ count + 1))))
    ]

-- what was said of lower numbers stays
lower_stays : (before later : List Reached) (ticket from to first count : ℕ) → IsNoted before later ticket from to → count < ticket → length_at count first later ≡ length_at count first before
lower_stays before later ticket from to first count noted low =
    elim (cases_eq to from) [
      | inl same ↦ ap (length_at count first) (noted.0 same)
      | inr other ↦ ap (length_at count first) (noted.1 other) ∙ not_there count first before (record { ticket = ticket; length = to }) low
    ]

-- and at the new one it is the new length
now_said : (before later : List Reached) (count from to first : ℕ) → IsNoted before later (count + 1) from to → UpTo count before → length_at count first before ≡ from
    → length_at (count + 1) first later ≡ to
now_said before later count from to first noted upto said =
    elim (cases_eq to from) [
      | inl same ↦ ap (length_at (count + 1) first) (noted.0 same) ∙ stays count (count + 1) first before upto (omega arith) ∙ said ∙ sym same
      | inr other ↦ ap (length_at (count + 1) first) (noted.1 other)
          ∙ there (count + 1) first before (record { ticket = count + 1; length = to })
          (All-weaker (λ r. r.ticket ≤ count) (λ r. r.ticket ≤ count + 1) (λ r is. omega (arith, is)) before upto) (omega arith)
    ]

module _ {S : Type 0} (node : Node) (run : Run) (before later : BookView S) (event : Event) (outputs : List Output) (taken_by : IsTaken node event) (at : Stands node run before) where
  -- after a new event
  pub stands_new : answered node (state_in node run) event ≡ New outputs → AreAtSound node later.validator.tables (after node (state_in node run) event)
      → later.pending ≡ before.pending ++ record_of event ∷ [] → later.queue ≡ before.queue ++ ticketed (before.accepted + 1) outputs
      → later.accepted ≡ before.accepted + 1 → later.taken ≡ before.taken → later.settled ≡ before.settled → later.rewriting ≡ before.rewriting → later.ordered ≡ before.ordered
      → IsNoted before.reached later.reached (before.accepted + 1) (length (state_in node run).order) (length (after node (state_in node run) event).order)
      → Stands node (with_accepted run event) later
  stands_new is goes pending queue accepted taken settled rewriting ordered noted =
      let legal = legal_push_after node run.base run.accepted event at.legal taken_by (ap is_new is) in
      let long : length (run.accepted ++ event ∷ []) ≡ length run.accepted + 1 = length_push run.accepted event in
      let within : length run.taken ≤ length run.accepted = begins_length run.taken run.accepted at.taken_begins in
      let noted' = subst (λ n. IsNoted before.reached later.reached (n + 1) (length (state_in node run).order) (length (after node (state_in node run) event).order)) at.accepted noted in
      let from : length_at (length run.accepted) before.ordered before.reached ≡ length (state_in node run).order =
      at.lengths (length run.accepted) (omega (arith, within, begins_length run.settled run.taken at.settled_begins)) (omega arith) ∙ ap (λ (s : State). length s.order) (state_now node run) in
      record {
        legal = legal;
        at = subst (AreAtSound node later.validator.tables) (sym (state_more node run event)) goes;
        taken_begins = record { rest = at.taken_begins.rest ++ event ∷ []; parts = ap (λ l. l ++ event ∷ []) at.taken_begins.parts ∙ append_assoc run.taken at.taken_begins.rest (event ∷ []) };
        settled_begins = at.settled_begins;
        pending = pending ∙ ap (λ l. l ++ record_of event ∷ []) at.pending ∙ sym (map-append record_of (drop (length run.taken) run.accepted) (event ∷ []))
            ∙ ap (map record_of) (sym (drop-append-le (length run.taken) run.accepted (event ∷ []) within));
        accepted = omega (arith, accepted, at.accepted, long);
        taken = taken ∙ at.taken;
        settled = settled ∙ at.settled;
        rewriting = subst (λ (r : Option ℕ). IfSome r (λ count. (length run.settled ≤ count) × (count ≤ length run.taken))) (sym rewriting) at.rewriting;
        due = subst (All (IsDue node (with_accepted run event))) (sym (queue ∙ ap (λ n. before.queue ++ ticketed (n + 1) outputs) at.accepted))
            (due_new node run event outputs before.queue legal is at.due);
        rising = subst TicketsRise (sym (queue ∙ ap (λ n. before.queue ++ ticketed (n + 1) outputs) at.accepted))
            (rise_new node run (length run.accepted + 1) outputs before.queue (omega arith) at.due at.rising);
        ordered = ordered ∙ at.ordered;
        lengths = λ count low high. ap (λ n. length_at count n later.reached) ordered ∙ said count low (omega (arith, high, long)) noted' from;
        tickets = subst (λ n. UpTo n later.reached) (sym long) (tickets_stay before.reached later.reached (length run.accepted) _ _ noted' at.tickets);
      }
    where
      said : (count : ℕ) → length run.settled ≤ count → count ≤ length run.accepted + 1
          → IsNoted before.reached later.reached (length run.accepted + 1) (length (state_in node run).order) (length (after node (state_in node run) event).order)
          → length_at (length run.accepted) before.ordered before.reached ≡ length (state_in node run).order
          → length_at count before.ordered later.reached ≡ length (state_to node count (with_accepted run event)).order
      said count low high noted' from =
          elim (cases_le count (length run.accepted)) [
            | inl old ↦ lower_stays before.reached later.reached (length run.accepted + 1) _ _ before.ordered count noted' (omega (arith, old)) ∙ at.lengths count low old
                ∙ ap (λ (s : State). length s.order) (sym (state_stays node run event count old))
            | inr new ↦
                let here : count ≡ length run.accepted + 1 = omega (arith, high, new) in
                let whole : state_to node count (with_accepted run event) ≡ after node (state_in node run) event =
                ap (λ n. state_to node n (with_accepted run event)) (omega (arith, here, length_push run.accepted event)) ∙ state_now node (with_accepted run event) ∙ state_more node run event in
                ap (λ n. length_at n before.ordered later.reached) here ∙ now_said before.reached later.reached (length run.accepted) _ _ before.ordered noted' at.tickets from
                ∙ ap (λ (s : State). length s.order) (sym whole)
          ]

  -- after a known one
  pub stands_known : answered node (state_in node run) event ≡ Known outputs → later ≡ record before { queue = before.queue ++ ticketed before.accepted outputs } → Stands node run later
  stands_known is same = subst (Stands node run) (sym same) (record {
    legal = at.legal;
    at = at.at;
    taken_begins = at.taken_begins;
    settled_begins = at.settled_begins;
    pending = at.pending;
    accepted = at.accepted;
    taken = at.taken;
    settled = at.settled;
    rewriting = at.rewriting;
    due = subst (All (IsDue node run)) (sym (ap (λ n. before.queue ++ ticketed n outputs) at.accepted)) (due_known node run event outputs before.queue at.legal taken_by is at.due);
    rising = subst TicketsRise (sym (ap (λ n. before.queue ++ ticketed n outputs) at.accepted)) (rise_new node run (length run.accepted) outputs before.queue (omega arith) at.due at.rising);
    ordered = at.ordered;
    lengths = at.lengths;
    tickets = at.tickets;
  })
