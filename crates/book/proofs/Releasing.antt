-- What leaves a book, and what is read of it.
use Rattle.std.proofs.Common.{◌≡◌, ◌⊎◌, ℕ, ◌-◌, ◌≤◌, ◌<◌, min, List, [], ◌∷◌, ◌++◌, length, take, drop, true, false, refl, sym, ap, ◌∙◌, subst, inl, inr, arith, append_assoc, append-nil}
use Rattle.std.specs.Prelude.{All, Option, Some, None, is_some, MatchOption, if◌then◌else◌}
use Rattle.std.proofs.lemmas.Bool.{true≢false}
use Rattle.std.proofs.lemmas.List.{take-append-drop, take-append-le, take_at, drop-append-le, nil_from_length, length-drop}
use Rattle.std.proofs.lemmas.List.Elements.{All-head, All-take}
use Rattle.spec_laws.specs.Laws.{GivenGrows}
use Rattle.wire.specs.Lists.{Begins}
use Rattle.spec_machine.specs.After.{after_all, IsLegalAfter}
use Rattle.spec_machine.proofs.AfterAll.{after_append, after_joins, legal_again, order_grows_after}
use Rattle.spec_model.specs.Admitting.{IsLegal}
use Rattle.spec_model.specs.Giving.{MayGive}
use Rattle.spec_model.specs.Histories.{History}
use Rattle.spec_model.specs.Nodes.{Node}
use Rattle.spec_model.specs.States.{State}
use Rattle.spec_model.specs.Words.{Digest, Output}
use Rattle.spec_world.specs.World.{Waiting}
use Rattle.book.specs.Queue.{settled_head, settled_front}
use Rattle.book.specs.Book.{BookView, Run, IsDue, Stands, state_in, settled_in, releasable, releasable_within, GoesOutSettled}
use Rattle.book.proofs.Due.{begins_length}
use Rattle.book.proofs.Lengths.{cases_le}
use Rattle.book.proofs.Queueing.{all_moved, each_at_front, ticket_settled}

pub none_of : (o : Option Output) → is_some o ≡ false → None ≡ o
none_of None is = refl
none_of (Some x) is = absurd (true≢false is)

-- the head that is taken out
pub record IsHead (settled : ℕ) (queue later : List Waiting) (r : Option Output) : Type 0 where
  pub ticket : ℕ
  pub output : Output
  pub is : r ≡ Some output
  pub parts : queue ≡ record { ticket = ticket; output = output } ∷ later
  pub within : ticket ≤ settled

pub head_out : (settled : ℕ) (queue later : List Waiting) (r : Option Output) → is_some (settled_head settled queue) ≡ true
    → MatchOption r (queue ≡ []) (λ output. (ticket : ℕ) × (queue ≡ record { ticket = ticket; output = output } ∷ later)) → IsHead settled queue later r
head_out settled queue later None some none = absurd (true≢false (sym some ∙ ap (λ q. is_some (settled_head settled q)) none))
head_out settled queue later (Some output) some head = record {
  ticket = head.0;
  output = output;
  is = refl;
  parts = head.1;
  within = ticket_settled settled head.0 output later (subst (λ q. is_some (settled_head settled q) ≡ true) head.1 some);
}

-- what leaves all at once, if the book is down and if it isn't
module _ {S : Type 0} (book : BookView S) (room : ℕ) where
  pub none_within : book.down ≡ true → releasable_within room book ≡ []
  none_within down = ap (λ d. if d then [] else take room (settled_front book.settled book.queue)) down

  pub front_within : book.down ≡ false → releasable_within room book ≡ take room (settled_front book.settled book.queue)
  front_within up = ap (λ d. if d then [] else take room (settled_front book.settled book.queue)) up

  pub adds_none : (before : List Output) → book.down ≡ true → before ≡ before ++ releasable_within room book
  adds_none before down = sym (append-nil before) ∙ ap (λ (l : List Output). before ++ l) (sym (none_within down))

  pub adds_front : (before after : List Output) → book.down ≡ false → after ≡ before ++ take room (settled_front book.settled book.queue) → after ≡ before ++ releasable_within room book
  adds_front before after up added = added ∙ ap (λ (l : List Output). before ++ l) (sym (front_within up))

  pub unmoved : book.down ≡ true → book ≡ record book { queue = drop (length (releasable_within room book)) book.queue }
  unmoved down = ap (λ (l : List Output). record book { queue = drop (length l) book.queue }) (sym (none_within down))

  pub moved : (later : List Waiting) → book.down ≡ false → later ≡ drop (length (take room (settled_front book.settled book.queue))) book.queue
      → record book { queue = later } ≡ record book { queue = drop (length (releasable_within room book)) book.queue }
  moved later up is = ap (λ (q : List Waiting). record book { queue = q }) (is ∙ ap (λ l. drop (length l) book.queue) (sym (front_within up)))

  -- what is left may not leave, where fewer left than there was room for
  pub none_left : (later : List Waiting) → book.down ≡ false → later ≡ drop (length (take room (settled_front book.settled book.queue))) book.queue
      → length (take room (settled_front book.settled book.queue)) < room → releasable (record book { queue = later }) ≡ None
  none_left later up is few =
      ap (λ d. if d then None else settled_head book.settled later) up ∙ ap (settled_head book.settled) is ∙ all_moved book.settled room book.queue few

module _ {S : Type 0} (node : Node) (run : Run) (book : BookView S) (at : Stands node run book) where
  -- what is settled is a beginning of what was accepted
  accepted_is : run.accepted ≡ run.settled ++ (at.settled_begins.rest ++ at.taken_begins.rest)
  accepted_is = at.taken_begins.parts ∙ ap (λ l. l ++ at.taken_begins.rest) at.settled_begins.parts ∙ append_assoc run.settled at.settled_begins.rest at.taken_begins.rest

  -- it is legal after the base, and so is the rest after that
  legal_parts : IsLegalAfter node run.base run.settled × IsLegalAfter node (settled_in node run) (at.settled_begins.rest ++ at.taken_begins.rest)
  legal_parts = (after_joins node run.base run.settled (at.settled_begins.rest ++ at.taken_begins.rest)).parts (subst (IsLegalAfter node run.base) accepted_is at.legal)

  whole_is : state_in node run ≡ after_all node (settled_in node run) (at.settled_begins.rest ++ at.taken_begins.rest)
  whole_is = ap (after_all node run.base) accepted_is ∙ after_append node run.base run.settled (at.settled_begins.rest ++ at.taken_begins.rest)

  -- its first events
  to_settled : (ticket : ℕ) → ticket ≤ length run.settled → run.settled ≡ take ticket run.accepted ++ drop ticket run.settled
  to_settled ticket within =
      let same : take ticket run.accepted ≡ take ticket run.settled = ap (take ticket) accepted_is ∙ take-append-le ticket run.settled (at.settled_begins.rest ++ at.taken_begins.rest) within in
      sym (take-append-drop ticket run.settled) ∙ ap (λ (l : History). l ++ drop ticket run.settled) (sym same)

  -- what is due goes out where its ticket is settled
  goes_out : GivenGrows → (waiting : Waiting) → IsDue node run waiting → waiting.ticket ≤ book.settled → GoesOutSettled node run waiting.output
  goes_out grows waiting due within =
      let ticket = waiting.ticket in
      let low : ticket ≤ length run.settled = omega (arith, within, at.settled) in
      record {
        ticket = ticket;
        settled = low;
        goes_out = due.goes_out;
        may = λ history legal keeps.
            let longer : IsLegal node (history ++ run.settled) = legal_again node history run.settled legal (subst (λ (s : State). IsLegalAfter node s run.settled) (sym keeps) legal_parts.0) in
            let is : history ++ run.settled ≡ (history ++ take ticket run.accepted) ++ drop ticket run.settled =
            ap (λ (l : History). history ++ l) (to_settled ticket low) ∙ sym (append_assoc history (take ticket run.accepted) (drop ticket run.settled)) in
            subst (λ (h : History). MayGive node h waiting.output) (sym is)
            (grows node (history ++ take ticket run.accepted) (drop ticket run.settled) waiting.output (subst (IsLegal node) is longer) (due.goes_out.may history legal keeps));
      }

  pub goes_out_settled : GivenGrows → (ticket : ℕ) (output : Output) (later : List Waiting) → book.queue
      ≡ record { ticket = ticket; output = output } ∷ later → ticket ≤ book.settled → GoesOutSettled node run output
  goes_out_settled grows ticket output later parts within =
      let first : Waiting = record { ticket = ticket; output = output } in
      goes_out grows first (All-head (IsDue node run) first later (subst (All (IsDue node run)) parts at.due)) within

  pub all_go_out : GivenGrows → (room : ℕ) → All (GoesOutSettled node run) (take room (settled_front book.settled book.queue))
  all_go_out grows room =
      All-take (GoesOutSettled node run) room (settled_front book.settled book.queue)
      (each_at_front (IsDue node run) (GoesOutSettled node run) book.settled (goes_out grows) book.queue at.due)

  -- what is read of the whole order, up to where it is settled
  pub reads : (whole : List Digest) (from end start : ℕ) → whole ≡ (state_in node run).order → end ≡ min (length whole) book.ordered → start ≡ min end from
      → take (end - start) (drop start whole) ≡ drop from (settled_in node run).order
  reads whole from end start is end_is start_is =
      let settled = (settled_in node run).order in
      let begins : Begins settled whole = subst (Begins settled) (ap (λ (s : State). s.order) (sym whole_is) ∙ sym is)
      (order_grows_after node (settled_in node run) (at.settled_begins.rest ++ at.taken_begins.rest) legal_parts.1).order in
      let long = begins_length settled whole begins in
      let ends : end ≡ length settled = omega (arith, end_is, long, at.ordered) in
      parts_of settled begins.rest whole begins.parts from end start ends start_is
    where
      parts_of : (settled rest whole : List Digest) → whole ≡ settled ++ rest → (from end start : ℕ) → end ≡ length settled → start ≡ min end from
          → take (end - start) (drop start whole) ≡ drop from settled
      parts_of settled rest whole is from end start ends starts =
          let low : start ≤ length settled = omega (arith, starts, ends) in
          let cut : drop start whole ≡ drop start settled ++ rest = ap (drop start) is ∙ drop-append-le start settled rest low in
          ap (take (end - start)) cut ∙ take_at (drop start settled) rest (end - start) (omega (arith, length-drop start settled, ends, low)) ∙ by_cases (cases_le from end)
        where
          by_cases : (from ≤ end) ⊎ (end < from) → drop start settled ≡ drop from settled
          by_cases (inl le) = ap (λ n. drop n settled) (omega (arith, starts, le))
          by_cases (inr more) =
              nil_from_length (drop start settled) (omega (arith, length-drop start settled, starts, ends, more))
              ∙ sym (nil_from_length (drop from settled) (omega (arith, length-drop from settled, ends, more)))
