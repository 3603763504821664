-- A flush seat that is tied to a book at home, and what it settles.
use Rattle.std.proofs.Common.{◌≡◌, ◌≤◌, ℕ, Bool, false, List, length, take, refl, sym, ap, ◌∙◌, subst, arith}
use Rattle.std.proofs.lemmas.List.{length-map, length-take-le}
use Rattle.wire.specs.Lists.{Begins}
use Rattle.node_seats.specs.Sights.{SeatView}
use Rattle.node_seats.specs.Views.{events, IsSame}
use Rattle.node_seats.specs.declared.view.Marked.{Marked}
use Rattle.node_seats.proofs.Beginnings.{begins_length, begins_whole, take_begins}
use Rattle.node_seats.proofs.Same.{same_then}
use Rattle.std.specs.Prelude.{is_some}
use Rattle.book.specs.Book.{BookView}
use Rattle.sigface.specs.Scheme.{Scheme}
use Rattle.node_shared.specs.Calls.{SettlesTaken}
use Rattle.node_shared.specs.Home.{NodeView, IsOf, IsFlushOf, IsAtHome, IsTied, taken_by}
use Rattle.node_shared.specs.declared.flush_seat.FlushSeat.{FlushSeat}
use Rattle.node_shared.proofs.Groups.{same_front}
use Rattle.node_shared.proofs.Standing.{of_same}

-- what is settled is the same list where it is as many
pub durable_same : {X : Type 0} (one other : List X) (count : ℕ) → Begins one other → count ≡ length one → count ≡ length other → other ≡ one
durable_same one other count begins first second = sym (begins_whole one other begins (omega (arith, first, second)))

-- a seat that knows just what the book's seat does, and numbers that are the book's
pub tied_with : {S : Type 0} (shared : NodeView S) (scheme : Scheme S) (seat : SeatView) (book : BookView S) → IsAtHome scheme shared seat book
    → (mine : SeatView) (settled taken : ℕ) (rewriting : Bool) → IsOf shared mine → mine.view.seen ≡ seat.view.seen → mine.view.durable ≡ seat.view.durable → Begins mine.view.durable mine.view.seen
    → settled ≤ taken → book.settled ≡ settled → book.taken ≡ taken → is_some book.rewriting ≡ rewriting
    → IsTied shared seat book (record { seat = mine; settled = settled; taken = taken; rewriting = rewriting })
tied_with shared scheme seat book home mine settled taken rewriting of_node seen durable begins rising settled_is taken_is rewriting_is =
    let stood = home.stands home.somewhere.0 home.somewhere.1 in
    let durable_size = length-map seat.view.durable (λ (one : Marked). one.event) in
    let seen_size = length-map seat.view.seen (λ (one : Marked). one.event) in
    let within = begins_length home.taken (events seat.view.seen) stood.taken_begins in
    record {
      flush_of = record {
        of_node = of_node;
        settled = omega (arith, settled_is, stood.settled, durable_size, ap length durable);
        rising = rising;
        seen = omega (arith, taken_is, stood.taken, within, seen_size, ap length seen);
        begins = begins;
      };
      seen = seen;
      durable = durable;
      settled = settled_is;
      taken = taken_is;
      rewriting = rewriting_is;
    }

-- a flush seat whose seat then knows all that it had taken as settled
pub settles_taken : {S : Type 0} (shared : NodeView S) (flush : FlushSeat) → IsFlushOf shared flush → (mid other : SeatView) → IsSame flush.seat mid → mid.view.seen ≡ flush.seat.view.seen
    → mid.view.durable ≡ taken_by flush → other ≡ mid → SettlesTaken shared flush (record { seat = other; settled = flush.taken; taken = flush.taken; rewriting = false })
settles_taken shared flush of mid other same seen durable other_is =
    let size : length (taken_by flush) ≡ flush.taken = length-take-le flush.taken flush.seat.view.seen of.seen in
    subst (λ (s : SeatView). SettlesTaken shared flush (record { seat = s; settled = flush.taken; taken = flush.taken; rewriting = false })) (sym other_is) (record {
      flush_of = record {
        of_node = of_same shared flush.seat mid of.of_node same;
        settled = sym size ∙ ap length (sym durable);
        rising = omega arith;
        seen = omega (arith, of.seen, ap length seen);
        begins = subst (λ (l : List Marked). Begins l mid.view.seen) (sym durable)
            (subst (λ (l : List Marked). Begins (taken_by flush) l) (sym seen) (take_begins flush.taken flush.seat.view.seen));
      };
      same = same;
      durable = durable;
      settled = refl;
      taken = refl;
      idle = refl;
    })

-- a flush seat that has taken as much, and has seen more, has taken the same
pub taken_from : {S : Type 0} (shared : NodeView S) (before mid : FlushSeat) → IsFlushOf shared before → mid.taken ≡ before.taken → Begins before.seat.view.seen mid.seat.view.seen
    → taken_by mid ≡ taken_by before
taken_from shared before mid of taken seen =
    ap (λ (n : ℕ). take n mid.seat.view.seen) taken ∙ same_front before.seat.view.seen mid.seat.view.seen before.taken seen of.seen

-- so it is from a flush seat on that had taken as much, and had seen no more
pub settles_from : {S : Type 0} (shared : NodeView S) (before mid later : FlushSeat) → IsFlushOf shared before → IsSame before.seat mid.seat → mid.taken ≡ before.taken
    → Begins before.seat.view.seen mid.seat.view.seen → SettlesTaken shared mid later → SettlesTaken shared before later
settles_from shared before mid later of same taken seen settles =
    record {
      flush_of = settles.flush_of;
      same = same_then before.seat mid.seat later.seat same settles.same;
      durable = settles.durable ∙ taken_from shared before mid of taken seen;
      settled = settles.settled ∙ taken;
      taken = settles.taken ∙ taken;
      idle = settles.idle;
    }
