-- The outputs that leave a book together, with their tickets.
use Rattle.std.proofs.Common.{◌≡◌, ◌≤◌, ℕ, zero, suc, Bool, true, false, List, [], ◌∷◌, ◌++◌, length, map, take, refl, sym, ap, ◌∙◌, subst, arith}
use Rattle.std.specs.Prelude.{All, nat_le, slice_index_or, if◌then◌else◌}
use Rattle.std.proofs.lemmas.Bool.{leb-true}
use Rattle.std.proofs.lemmas.List.{length-map}
use Rattle.std.proofs.lemmas.List.Elements.{All-nil, All-cons, All-head, All-tail, All-take, All-weaker}
use Rattle.spec_model.specs.Histories.{History}
use Rattle.spec_model.specs.Nodes.{Node}
use Rattle.spec_model.specs.Words.{Output}
use Rattle.spec_world.specs.World.{Waiting}
use Rattle.validator.specs.Setting.{node_of}
use Rattle.node_seats.specs.Sights.{SeatView}
use Rattle.node_seats.specs.Views.{events}
use Rattle.node_seats.specs.declared.view.Marked.{Marked}
use Rattle.book.specs.Book.{BookView, Run, IsDue, Stands, GoesOutAfter, GoesOutSettled, releasable_within}
use Rattle.book.specs.Queue.{TicketsRise, settled_front}
use Rattle.node_shared.specs.Answers.{GoesOutAt, Gives, GivesAll}
use Rattle.node_shared.specs.Home.{NodeView, IsAtHome, run_of}
use Rattle.node_shared.proofs.Readings.{front, all_given}
use Rattle.sigface.specs.Scheme.{Scheme}

-- the front of a queue that leaves where there is room for this many outputs
abbrev pub leaving : ℕ → ℕ → List Waiting → List Waiting
leaving settled room queue = take (length (take room (settled_front settled queue))) queue

-- these are the outputs
pub leaving_outputs : (settled room : ℕ) (queue : List Waiting) → take room (settled_front settled queue) ≡ map (λ one. one.output) (leaving settled room queue)
leaving_outputs settled zero queue = refl
leaving_outputs settled (suc room) [] = refl
leaving_outputs settled (suc room) (first ∷ rest) = by_test (leaving_outputs settled room rest) (nat_le first.ticket settled)
  where
    taken : Bool → List Output
    taken b = take (suc room) (if b then first.output ∷ settled_front settled rest else [])

    by_test : take room (settled_front settled rest) ≡ map (λ one. one.output) (leaving settled room rest)
        → (b : Bool) → taken b ≡ map (λ one. one.output) (take (length (taken b)) (first ∷ rest))
    by_test others true = ap (λ (l : List Output). first.output ∷ l) others
    by_test others false = refl

-- each of them is settled
pub leaving_settled : (settled room : ℕ) (queue : List Waiting) → All (λ one. one.ticket ≤ settled) (leaving settled room queue)
leaving_settled settled zero queue = All-nil (λ one. one.ticket ≤ settled)
leaving_settled settled (suc room) [] = All-nil (λ one. one.ticket ≤ settled)
leaving_settled settled (suc room) (first ∷ rest) = by_test (leaving_settled settled room rest) (nat_le first.ticket settled) refl
  where
    by_test : All (λ one. one.ticket ≤ settled) (leaving settled room rest) → (b : Bool) → nat_le first.ticket settled ≡ b
        → All (λ one. one.ticket ≤ settled) (take (length (take (suc room) (if b then first.output ∷ settled_front settled rest else []))) (first ∷ rest))
    by_test others true le = All-cons (λ one. one.ticket ≤ settled) first (leaving settled room rest) (leb-true first.ticket settled le) others
    by_test others false not = All-nil (λ one. one.ticket ≤ settled)

-- tickets that rise along a queue rise along its first outputs
pub rise_first : (count : ℕ) (queue : List Waiting) → TicketsRise queue → TicketsRise (take count queue)
rise_first zero queue rise = tt
rise_first (suc count) [] rise = tt
rise_first (suc count) (first ∷ rest) rise =
    (All-take (λ waiting. first.ticket ≤ waiting.ticket) count rest rise.0, rise_first count rest rise.1)

-- what holds of the output of each
of_outputs : (P : Output → Type 0) (waiting : List Waiting) → All P (map (λ one. one.output) waiting) → All (λ one. P one.output) waiting
of_outputs P [] holds = All-nil (λ one. P one.output)
of_outputs P (first ∷ rest) holds =
    let others = map (λ (one : Waiting). one.output) rest in
    All-cons (λ one. P one.output) first rest (All-head P first.output others holds) (of_outputs P rest (All-tail P first.output others holds))

module _ {S : Type 0} (shared : NodeView S) (scheme : Scheme S) (seat mine : SeatView) (book : BookView S) (home : IsAtHome scheme shared seat book)
    (same : mine.view.durable ≡ seat.view.durable) (room : ℕ) where
  abbrev node : Node
  node = node_of scheme shared.setting

  abbrev count : ℕ
  count = length (releasable_within room book)

  -- what leaves the book, each output with its ticket
  abbrev waiting : List Waiting
  waiting = take count book.queue

  -- its outputs, where the book is down and where it isn't
  abbrev gone : Bool → List Output
  gone down = if down then [] else take room (settled_front book.settled book.queue)

  outputs_are : releasable_within room book ≡ map (λ one. one.output) waiting
  outputs_are = by_down book.down
    where
      by_down : (down : Bool) → gone down ≡ map (λ one. one.output) (take (length (gone down)) book.queue)
      by_down true = refl
      by_down false = leaving_outputs book.settled room book.queue

  book_settled : All (λ one. one.ticket ≤ book.settled) waiting
  book_settled = by_down book.down
    where
      by_down : (down : Bool) → All (λ one. one.ticket ≤ book.settled) (take (length (gone down)) book.queue)
      by_down true = All-nil (λ one. one.ticket ≤ book.settled)
      by_down false = leaving_settled book.settled room book.queue

  stood : Stands node (run_of home.somewhere.0 seat.view home.taken) book
  stood = home.stands home.somewhere.0 home.somewhere.1

  durable_size : length (events seat.view.durable) ≡ length mine.view.durable
  durable_size = length-map seat.view.durable (λ (one : Marked). one.event) ∙ ap length (sym same)

  tickets_settled : All (λ one. one.ticket ≤ length mine.view.durable) waiting
  tickets_settled =
      All-weaker (λ one. one.ticket ≤ book.settled) (λ one. one.ticket ≤ length mine.view.durable)
      (λ one within. omega (arith, within, stood.settled, durable_size)) waiting book_settled

  put_out : All (λ one. GoesOutAt scheme shared mine.view one.ticket one.output) waiting
  put_out = λ k d within. λ base at.
      let one : Waiting = slice_index_or waiting k d in
      let due : IsDue node (run_of base seat.view home.taken) one =
      All-take (IsDue node (run_of base seat.view home.taken)) count book.queue (home.stands base at).due k d within in
      let low : one.ticket ≤ length mine.view.durable = tickets_settled k d within in
      subst (λ (l : History). GoesOutAfter node base l one.output) (front shared scheme seat mine book home base at same one.ticket (omega (arith, low, durable_size))) due.goes_out

  -- each of the outputs may be given out, and they leave in the order of their tickets
  pub gives_all : ((run : Run) → Stands (node_of scheme book.validator.setting) run book → All (GoesOutSettled (node_of scheme book.validator.setting) run) (releasable_within room book))
      → (before later : List Output) → later ≡ before ++ releasable_within room book → GivesAll scheme shared mine before later
  gives_all go before later added = record {
    waiting = waiting;
    rise = rise_first count book.queue stood.rising;
    settled = tickets_settled;
    put_out = put_out;
    each = of_outputs (Gives scheme shared mine) waiting
        (subst (All (Gives scheme shared mine)) outputs_are (all_given shared scheme seat mine book home same (releasable_within room book) go));
    added = added ∙ ap (λ (l : List Output). before ++ l) outputs_are;
  }
