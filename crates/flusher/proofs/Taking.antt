-- What a flush seat has taken, and what that comes to on a disk.
use Rattle.std.proofs.Common.{◌≡◌, inl, inr, ℕ, true, false, Result, Ok, Err, ◌+◌, ◌<◌, List, ◌++◌, length, map, take, drop, refl, sym, ap, ◌∙◌, subst, arith}
use Rattle.std.specs.Prelude.{◌⊎◌, ◌↔◌, Option, None, IsErrOf, IsNone}
use Rattle.std.proofs.lemmas.List.{take_at, take-map, take-append-drop, length-take-le}
use Rattle.journal.specs.Format.{group_bytes}
use Rattle.journal.specs.declared.layout.TheConstants.{MAX_JOURNAL_BYTES}
use Rattle.book.specs.Pending.{IsLongestBeginning}
use Rattle.spec_machine.specs.After.{IsLegalAfter}
use Rattle.spec_machine.proofs.AfterAll.{after_joins}
use Rattle.spec_model.specs.Nodes.{Node}
use Rattle.spec_model.specs.States.{State}
use Rattle.wire.specs.Lists.{Begins}
use Rattle.spec_records.specs.Records.{record_of}
use Rattle.node_seats.specs.Plays.{with_down}
use Rattle.node_seats.specs.Views.{events}
use Rattle.node_seats.specs.declared.view.Marked.{Marked}
use Rattle.node_seats.proofs.Beginnings.{begins_take, take_begins}
use Rattle.node_shared.specs.Home.{NodeView, IsCheckpointAfter, IsFlushOf, TakesNext, taken_by, group_of}
use Rattle.node_shared.specs.declared.flush_seat.FlushSeat.{FlushSeat}
use Rattle.book.specs.Checkpoints.{HasNoRoomFor}
use Rattle.book.specs.declared.own.error.FlushError.{FlushError}
use Rattle.book.specs.declared.own.error.FlushError.TheVariants as errors
use Rattle.book.specs.declared.own.error.FlushError.TheVariants.{Full, Down}
use Rattle.sigface.specs.Scheme.{Scheme}
use Rattle.flusher.specs.Rounds.{journal_of, is_down, taken_in, records_after, TakesLongest, TakesAll, GoesDown, HasNoRoom, ReportsRoomToRewrite}
use Rattle.flusher.specs.declared.flusher.Flusher.{Flusher}

-- a flush seat that took its node down is still the node's
pub still_flush : {S : Type 0} (node : NodeView S) (flush later : FlushSeat) → later ≡ record flush { seat = record flush.seat { view = with_down flush.seat.view } } → IsFlushOf node flush
    → IsFlushOf node later
still_flush node flush later is of =
    subst (IsFlushOf node) (sym is) (record {
      of_node = record { table = of.of_node.table; live = of.of_node.live; numbered = of.of_node.numbered };
      settled = of.settled;
      rising = of.rising;
      seen = of.seen;
      begins = of.begins;
    })

module _ {S : Type 0} (node : NodeView S) (flush : FlushSeat) (of : IsFlushOf node flush) where
  -- where no more is taken than is settled
  pub rests_at : flush.taken ≡ flush.settled → taken_by flush ≡ flush.seat.view.durable
  rests_at rests =
      ap (take flush.taken) of.begins.parts ∙ take_at flush.seat.view.durable of.begins.rest flush.taken (sym of.settled ∙ sym rests)

  taken_size : length (taken_by flush) ≡ flush.taken
  taken_size = length-take-le flush.taken flush.seat.view.seen of.seen

  pub settled_begins : Begins flush.seat.view.durable (taken_by flush)
  settled_begins = begins_take flush.seat.view.durable flush.seat.view.seen flush.taken of.begins (omega (arith, of.settled, of.rising))

  -- the group is of what is after
  pub group_after : group_of flush ≡ records_after flush.seat.view.durable (taken_by flush)
  group_after = ap (λ (n : ℕ). map record_of (drop n (events (taken_by flush)))) of.settled

  -- the events that are taken are legal where all that was seen is
  pub taken_legal : (member : Node) (base : State) → IsLegalAfter member base (events flush.seat.view.seen) → IsLegalAfter member base (events (taken_by flush))
  taken_legal member base legal =
      let seen = events flush.seat.view.seen in
      let all : IsLegalAfter member base (take flush.taken seen ++ drop flush.taken seen) = subst (IsLegalAfter member base) (sym (take-append-drop flush.taken seen)) legal in
      subst (IsLegalAfter member base) (take-map (λ (one : Marked). one.event) flush.taken flush.seat.view.seen)
      ((after_joins member base (take flush.taken seen) (drop flush.taken seen)).parts all).0

  -- what a round takes
  pub takes_none : (seen : List Marked) → Begins seen flush.seat.view.seen → flush.taken ≡ flush.settled → flush.seat.view.durable ≡ flush.seat.view.seen
      → TakesLongest seen flush.seat.view.durable (taken_by flush)
  takes_none seen had rests whole = record {
    all = flush.seat.view.seen;
    had_seen = had;
    begins = settled_begins;
    within = take_begins flush.taken flush.seat.view.seen;
    takes = inl (sym whole, rests_at rests);
  }

  pub takes_some : (seen : List Marked) → Begins seen flush.seat.view.seen → (group : List (List ℕ)) → TakesNext flush group → TakesLongest seen flush.seat.view.durable (taken_by flush)
  takes_some seen had group next = record {
    all = flush.seat.view.seen;
    had_seen = had;
    begins = settled_begins;
    within = take_begins flush.taken flush.seat.view.seen;
    takes = inr (record {
      group = group;
      rest = next.rest;
      longest = subst (λ (n : ℕ). IsLongestBeginning (map record_of (drop n (events flush.seat.view.seen))) group next.rest) of.settled next.longest;
      is = next.is ∙ group_after;
      size = taken_size ∙ next.counts ∙ ap (λ (n : ℕ). n + length group) of.settled;
    });
  }

  pub size_some : (group : List (List ℕ)) → TakesNext flush group → length (taken_by flush) ≡ length flush.seat.view.durable + length group
  size_some group next = taken_size ∙ next.counts ∙ ap (λ (n : ℕ). n + length group) of.settled

  -- a group has a record
  pub some_taken : (group : List (List ℕ)) → TakesNext flush group → length flush.seat.view.durable < length (taken_by flush)
  some_taken group next = omega (arith, next.longest.fits.some, taken_size, next.counts, of.settled)

  pub full_for : (content : List ℕ) (group : List (List ℕ)) → TakesNext flush group → MAX_JOURNAL_BYTES < length content + length (group_bytes group)
      → HasNoRoom content flush.seat.view.durable (taken_by flush)
  full_for content group next long = record {
    some = some_taken group next;
    too_long = subst (λ (g : List (List ℕ)). MAX_JOURNAL_BYTES < length content + length (group_bytes g)) (next.is ∙ group_after) long;
  }

  pub long_for : (content : List ℕ) (group : List (List ℕ)) → TakesNext flush group → HasNoRoom content flush.seat.view.durable (taken_by flush)
      → MAX_JOURNAL_BYTES < length content + length (group_bytes group)
  long_for content group next full =
      subst (λ (g : List (List ℕ)). MAX_JOURNAL_BYTES < length content + length (group_bytes g)) (sym (next.is ∙ group_after)) full.too_long

-- there is always room for nothing
pub has_room : (content : List ℕ) (settled taken : List Marked) → taken ≡ settled → HasNoRoom content settled taken → ⊥
has_room content settled taken same full = omega (arith, full.some, ap length same)

-- the same of lists that are the same
pub takes_as : (seen settled other taken later : List Marked) → settled ≡ other → taken ≡ later → TakesLongest seen settled taken → TakesLongest seen other later
takes_as seen settled other taken later same also takes =
    subst (λ (l : List Marked). TakesLongest seen other l) also (subst (λ (l : List Marked). TakesLongest seen l taken) same takes)

-- what is told of an option that is none
pub is_none : {X : Type 0} (o : Option X) → o ≡ None → IsNone o
is_none {X = X} o is = subst (λ (p : Option X). IsNone p) (sym is) refl

-- what a checkpoint takes
pub takes_all : {S : Type 0} (node : NodeView S) (flush : FlushSeat) → IsFlushOf node flush → (seen : List Marked) → Begins seen flush.seat.view.seen → taken_by flush ≡ flush.seat.view.seen
    → TakesAll seen flush.seat.view.durable (taken_by flush)
takes_all node flush of seen had all = record { had_seen = subst (Begins seen) (sym all) had; begins = settled_begins node flush of }

pub takes_all_as : (seen settled other taken later : List Marked) → settled ≡ other → taken ≡ later → TakesAll seen settled taken → TakesAll seen other later
takes_all_as seen settled other taken later same also takes =
    subst (λ (l : List Marked). TakesAll seen other l) also (subst (λ (l : List Marked). TakesAll seen l taken) same takes)

-- ---- what is answered

-- no other error is Down
never_down : (error : FlushError) → (error ≡ errors.Device) ⊎ (error ≡ Full) → ◌≡◌ {A = Result ℕ FlushError} (Err error) (Err Down) → ⊥
never_down error (inl device) same = let bad : ◌≡◌ {A = Result ℕ FlushError} (Err errors.Device) (Err Down) = ap Err (sym device) ∙ same in cc
never_down error (inr full) same = let bad : ◌≡◌ {A = Result ℕ FlushError} (Err Full) (Err Down) = ap Err (sym full) ∙ same in cc

-- a call of a node that is up, which took it down
pub goes_down : {D : Type 0} (before later : Flusher D) (result : Result ℕ FlushError) (error : FlushError) → result ≡ Err error → (error ≡ errors.Device) ⊎ (error ≡ Full)
    → is_down before ≡ false → is_down later ≡ true → GoesDown before later result
goes_down before later result error is which up fell = record {
  down = (λ down. absurd (never_down error which (sym is ∙ down)), λ was. absurd (let bad : false ≡ true = sym up ∙ was in cc));
  same = λ down. absurd (never_down error which (sym is ∙ down));
  device = λ device. fell;
  full = λ full. fell;
  nothing_else = λ down. elim which [ inl device ↦ inl (is ∙ ap Err device) | inr full ↦ inr (inl (is ∙ ap Err full)) ];
}

-- and one that didn't
pub stays_up : {D : Type 0} (before later : Flusher D) (count : ℕ) → is_down before ≡ false → is_down later ≡ false → GoesDown before later (Ok count)
stays_up before later count up still = record {
  down = (λ down. absurd (cc), λ was. absurd (let bad : false ≡ true = sym up ∙ was in cc));
  same = λ down. absurd (cc);
  device = λ device. absurd (cc);
  full = λ full. absurd (cc);
  nothing_else = λ down. absurd (let bad : false ≡ true = sym still ∙ down in cc);
}

-- what a checkpoint that was taken tells of the room for it
pub reports_room : {S D : Type 0} (scheme : Scheme S) (node : NodeView S) (before later : Flusher D) (result : Result ℕ FlushError) (records : List (List ℕ))
    (taken : List Marked) → taken_in later ≡ taken
    → IsCheckpointAfter scheme node taken records → IsErrOf result Full ↔ HasNoRoomFor (journal_of before) records
    → (IsErrOf result Full → journal_of later ≡ journal_of before) → ReportsRoomToRewrite scheme node before later result
reports_room scheme node before later result records taken is checkpoint full same = record {
  records = records;
  checkpoint = subst (λ (l : List Marked). IsCheckpointAfter scheme node l records) (sym is) checkpoint;
  full = full;
  same = same;
}
