-- Writing the outputs that are due.
use Rattle.std.proofs.Common.{◌≡◌, ℕ, ◌<◌, ◌≤◌, Bool, true, false, cond, List, [], ◌∷◌, ◌++◌, length, drop, Option, Some, None, refl, sym, ap, ◌∙◌, subst, arith, append_assoc, append-nil}
use Rattle.std.proofs.KnownBytes.{Appends-nil, Appends-trans}
use Rattle.std.specs.Prelude.{All, not, nat_le, is_some, if◌then◌else◌}
use Rattle.std.specs.Io.KnownBytes.{Appends}
use Rattle.std.specs.List.{filter}
use Rattle.std.proofs.lemmas.Bool.{lt-leb, leb-false}
use Rattle.std.proofs.lemmas.List.Elements.{All-nil, All-head, All-tail, All-weaker, All-cons}
use Rattle.journal.specs.declared.journal.Journal.{Journal}
use Rattle.spec_model.specs.Nodes.{Node}
use Rattle.spec_model.specs.Words.{Output}
use Rattle.spec_world.specs.World.{Waiting}
use Rattle.spec_world.specs.Text.{Desk, due, without_due, frames}
use Rattle.wire.specs.Outputs.{frame_of}
use Rattle.book.specs.Queue.{settled_head, TicketsRise}
use Rattle.book.specs.Book.{BookView, Run, Stands, releasable}
use Rattle.recovery.specs.Script.{run_of, IsOf}
use Rattle.recovery.specs.Writing.{WritesFirst, WritesNone, WritesPartOfFirst}
use Rattle.wire_write.proofs.Appending.{part_after, part_front}
use Rattle.wire_write.specs.Frames.{AppendsLess}
use Rattle.diskmodel.specs.Disk.{Device}

-- what is ready at so many settled records, and what isn't
abbrev pub ready : ℕ → List Waiting → List Waiting
ready settled queue = filter (λ waiting. nat_le waiting.ticket settled) queue

abbrev pub unready : ℕ → List Waiting → List Waiting
unready settled queue = filter (λ waiting. not (nat_le waiting.ticket settled)) queue

-- one that is ready goes out before the others
ready_first : (settled : ℕ) (first : Waiting) (rest : List Waiting) → nat_le first.ticket settled ≡ true → ready settled (first ∷ rest) ≡ first ∷ ready settled rest
ready_first settled first rest so = ap (λ (b : Bool). cond b (first ∷ ready settled rest) (ready settled rest)) so

unready_first : (settled : ℕ) (first : Waiting) (rest : List Waiting) → nat_le first.ticket settled ≡ true → unready settled (first ∷ rest) ≡ unready settled rest
unready_first settled first rest so = ap (λ (b : Bool). cond (not b) (first ∷ unready settled rest) (unready settled rest)) so

-- of those that come later none is ready
none_ready : (settled : ℕ) (queue : List Waiting) → All (λ waiting. settled < waiting.ticket) queue → ready settled queue ≡ []
none_ready settled [] late = refl
none_ready settled (first ∷ rest) late =
    let off : nat_le first.ticket settled ≡ false = lt-leb first.ticket settled (All-head (λ w. settled < w.ticket) first rest late) in
    ap (λ (b : Bool). cond b (first ∷ ready settled rest) (ready settled rest)) off ∙ none_ready settled rest (All-tail (λ w. settled < w.ticket) first rest late)

all_unready : (settled : ℕ) (queue : List Waiting) → All (λ waiting. settled < waiting.ticket) queue → unready settled queue ≡ queue
all_unready settled [] late = refl
all_unready settled (first ∷ rest) late =
    let off : nat_le first.ticket settled ≡ false = lt-leb first.ticket settled (All-head (λ w. settled < w.ticket) first rest late) in
    ap (λ (b : Bool). cond (not b) (first ∷ unready settled rest) (unready settled rest)) off
    ∙ ap (λ (l : List Waiting). first ∷ l) (all_unready settled rest (All-tail (λ w. settled < w.ticket) first rest late))

-- where the first isn't ready, all of them come later
all_late : (settled : ℕ) (queue : List Waiting) → TicketsRise queue → settled_head settled queue ≡ None → All (λ waiting. settled < waiting.ticket) queue
all_late settled [] rise none = All-nil (λ w. settled < w.ticket)
all_late settled (first ∷ rest) rise none = by_test (nat_le first.ticket settled) refl
  where
    by_test : (b : Bool) → nat_le first.ticket settled ≡ b → All (λ waiting. settled < waiting.ticket) (first ∷ rest)
    by_test true so = absurd (some (sym (ap (λ (b : Bool). cond b (Some first.output) None) so) ∙ none))
      where
        some : ◌≡◌ {A = Option Output} (Some first.output) None → ⊥
        some same = cc
    by_test false off =
        let late = leb-false first.ticket settled off in
        All-cons (λ w. settled < w.ticket) first rest late (All-weaker (λ w. first.ticket ≤ w.ticket) (λ w. settled < w.ticket) (λ w le. omega (arith, le, late)) rest rise.0)

-- the head that goes out
record IsFirst (settled : ℕ) (queue : List Waiting) (output : Output) : Type 0 where
  pub first : Waiting
  pub rest : List Waiting
  pub parts : queue ≡ first ∷ rest
  pub is : first.output ≡ output
  pub so : nat_le first.ticket settled ≡ true

first_of_queue : (settled : ℕ) (queue : List Waiting) (output : Output) → settled_head settled queue ≡ Some output → IsFirst settled queue output
first_of_queue settled [] output head = absurd (cc)
first_of_queue settled (first ∷ rest) output head = by_test (nat_le first.ticket settled) refl
  where
    same_output : (a b : Output) → ◌≡◌ {A = Option Output} (Some a) (Some b) → a ≡ b
    same_output a b same = cc

    none : ◌≡◌ {A = Option Output} None (Some output) → ⊥
    none same = cc

    by_test : (b : Bool) → nat_le first.ticket settled ≡ b → IsFirst settled (first ∷ rest) output
    by_test true so = record {
      first = first;
      rest = rest;
      parts = refl;
      is = same_output first.output output (sym (ap (λ (b : Bool). cond b (Some first.output) None) so) ∙ head);
      so = so;
    }
    by_test false off = absurd (none (sym (ap (λ (b : Bool). cond b (Some first.output) None) off) ∙ head))

frames_first : (settled : ℕ) (queue : List Waiting) (output : Output) → settled_head settled queue ≡ Some output → frames (ready settled queue)
    ≡ frame_of output ++ frames (ready settled (drop 1 queue))
frames_first settled queue output head =
    let is = first_of_queue settled queue output head in
    ap (λ (q : List Waiting). frames (ready settled q)) is.parts ∙ ap frames (ready_first settled is.first is.rest is.so)
    ∙ (λ i. frame_of (is.is i) ++ frames (ready settled (drop 1 (sym is.parts i))))

unready_more : (settled : ℕ) (queue : List Waiting) (output : Output) → settled_head settled queue ≡ Some output → unready settled queue ≡ unready settled (drop 1 queue)
unready_more settled queue output head =
    let is = first_of_queue settled queue output head in
    ap (unready settled) is.parts ∙ unready_first settled is.first is.rest is.so ∙ ap (λ (q : List Waiting). unready settled (drop 1 q)) (sym is.parts)

-- ---- the loop

-- a book gave out some of what is ready, and that was written
pub record HasWritten {S : Type 0} (node : Node) (before now : BookView S) (old new : Option (List ℕ)) : Type 0 where
  pub same : now ≡ record before { queue = now.queue }
  pub stands : (run : Run) → Stands node run before → Stands node run now
  pub part : List ℕ
  pub appends : Appends old new part
  pub parts : frames (ready before.settled before.queue) ≡ part ++ frames (ready before.settled now.queue)
  pub left : unready before.settled before.queue ≡ unready before.settled now.queue

pub nothing_written : {S : Type 0} (node : Node) (before : BookView S) (old : Option (List ℕ)) → HasWritten node before before old old
nothing_written {S} node before old = record {
  same = refl;
  stands = λ run at. at;
  part = [];
  appends = Appends-nil old;
  parts = refl;
  left = refl;
}

module _ {S : Type 0} (node : Node) (before now : BookView S) (old mid : Option (List ℕ)) (so_far : HasWritten node before now old mid) (up : before.down ≡ false) where
  -- what may go out of it
  head_now : releasable now ≡ settled_head before.settled now.queue
  head_now =
      (λ i. cond (ap (λ (b : BookView S). b.down) so_far.same i) None (settled_head (ap (λ (b : BookView S). b.settled) so_far.same i) now.queue))
      ∙ ap (λ (b : Bool). cond b None (settled_head before.settled now.queue)) up

  -- one more
  pub one_written : (later : BookView S) (output : Output) (new : Option (List ℕ)) → releasable now ≡ Some output → later ≡ record now { queue = drop 1 now.queue }
      → ((run : Run) → Stands node run now → Stands node run later) → Appends mid new (frame_of output) → HasWritten node before later old new
  one_written later output new out next stands appends =
      let head : settled_head before.settled now.queue ≡ Some output = sym head_now ∙ out in
      let queue : later.queue ≡ drop 1 now.queue = ap (λ (b : BookView S). b.queue) next in
      record {
        same = next ∙ (λ i. record (so_far.same i) { queue = sym queue i });
        stands = λ run at. stands run (so_far.stands run at);
        part = so_far.part ++ frame_of output;
        appends = Appends-trans old mid new so_far.part (frame_of output) so_far.appends appends;
        parts = so_far.parts ∙ ap (λ (l : List ℕ). so_far.part ++ l) (frames_first before.settled now.queue output head)
            ∙ sym (append_assoc so_far.part (frame_of output) (frames (ready before.settled (drop 1 now.queue))))
            ∙ ap (λ (q : List Waiting). (so_far.part ++ frame_of output) ++ frames (ready before.settled q)) (sym queue);
        left = so_far.left ∙ unready_more before.settled now.queue output head ∙ ap (unready before.settled) (sym queue);
      }

  module _ {D : Type 0} (device : Device D) (journal : Journal D) (desk : Desk) (is : IsOf node device desk before journal) where
    -- what is ready is what is due
    due_is : ready before.settled before.queue ≡ due desk
    due_is = (λ i. ready (is.stands_at.settled i) (is.waits i))

    left_is : unready before.settled before.queue ≡ (without_due desk).waiting
    left_is = (λ i. unready (is.stands_at.settled i) (is.waits i))

    late : releasable now ≡ None → All (λ waiting. before.settled < waiting.ticket) now.queue
    late none = all_late before.settled now.queue (so_far.stands (run_of desk) is.stands_at).rising (sym head_now ∙ none)

    -- all that is due was written
    pub all_written : releasable now ≡ None → Appends old mid (frames (due desk))
    all_written none =
        let whole : so_far.part ≡ frames (due desk) =
        sym (append-nil so_far.part) ∙ ap (λ (q : List Waiting). so_far.part ++ frames q) (sym (none_ready before.settled now.queue (late none))) ∙ sym so_far.parts ∙ ap frames due_is in
        subst (Appends old mid) whole so_far.appends

    pub none_due : releasable now ≡ None → IsOf node device (without_due desk) now journal
    none_due none = record {
      stands_at = so_far.stands (run_of desk) is.stands_at;
      waits = sym (all_unready before.settled now.queue (late none)) ∙ sym so_far.left ∙ left_is;
      up = ap (λ (b : BookView S). b.down) so_far.same ∙ up;
      alive = is.alive;
      begun = is.begun;
      keys = is.keys;
      configured = is.configured;
      read_as = is.read_as;
    }

    -- or less than all of it
    pub part_written : (output : Output) (new : Option (List ℕ)) → releasable now ≡ Some output → AppendsLess mid new (frame_of output) → AppendsLess old new (frames (due desk))
    part_written output new out appends =
        let head : settled_head before.settled now.queue ≡ Some output = sym head_now ∙ out in
        let all : frames (due desk) ≡ (so_far.part ++ frame_of output) ++ frames (ready before.settled (drop 1 now.queue)) =
        ap frames (sym due_is) ∙ so_far.parts ∙ ap (λ (l : List ℕ). so_far.part ++ l) (frames_first before.settled now.queue output head)
        ∙ sym (append_assoc so_far.part (frame_of output) (frames (ready before.settled (drop 1 now.queue)))) in
        subst (AppendsLess old new) (sym all)
        (part_front old new (so_far.part ++ frame_of output) (frames (ready before.settled (drop 1 now.queue)))
        (part_after old mid new so_far.part (frame_of output) so_far.appends appends))

-- ---- one call

module _ {S : Type 0} (before later : BookView S) (out : Option Output) (is : out ≡ releasable before)
    (queue : later ≡ (if is_some out then record before { queue = drop 1 before.queue } else before)) where
  released : (o : Option Output) → out ≡ o → later ≡ (if is_some o then record before { queue = drop 1 before.queue } else before)
  released o same = queue ∙ ap (λ (x : Option Output). if is_some x then record before { queue = drop 1 before.queue } else before) same

  -- but for its queue it is as before
  pub released_same : later ≡ record before { queue = later.queue }
  released_same = by_output out refl
    where
      by_output : (o : Option Output) → out ≡ o → later ≡ record before { queue = later.queue }
      by_output None same = let whole = released None same in whole ∙ (λ i. record before { queue = (sym whole i).queue })
      by_output (Some output) same = let whole = released (Some output) same in whole ∙ (λ i. record before { queue = (sym whole i).queue })

  pub writes_none : (old : Option (List ℕ)) → out ≡ None → WritesNone before later old old
  writes_none old none = record { none = sym is ∙ none; same = released None none; keeps = refl }

  pub writes_first : (output : Output) (old new : Option (List ℕ)) → out ≡ Some output → Appends old new (frame_of output) → WritesFirst before later old new
  writes_first output old new some appends = record { output = output; is = sym is ∙ some; left = released (Some output) some; appends = appends }

  pub writes_part : (output : Output) (old new : Option (List ℕ)) → out ≡ Some output → AppendsLess old new (frame_of output) → WritesPartOfFirst before old new
  writes_part output old new some appends = record { output = output; is = sym is ∙ some; appends = appends }

-- with an output that went out the queue is shorter
pub queue_falls : {S : Type 0} (before later : BookView S) (old new : Option (List ℕ)) → WritesFirst before later old new → length later.queue < length before.queue
queue_falls {S} before later old new writes = falls before.queue (heads before.down writes.is)
  where
    heads : (down : Bool) → cond down None (settled_head before.settled before.queue) ≡ Some writes.output → settled_head before.settled before.queue ≡ Some writes.output
    heads true is = absurd (cc)
    heads false is = is

    falls : (queue : List Waiting) → settled_head before.settled before.queue ≡ Some writes.output → length later.queue < length before.queue
    falls queue head =
        let first = first_of_queue before.settled before.queue writes.output head in
        omega (arith, ap (λ (b : BookView S). length b.queue) writes.left, ap (λ (q : List Waiting). length (drop 1 q)) first.parts, ap (λ (q : List Waiting). length q) first.parts)

-- one more was written, of a book that isn't down
pub goes_on : {S : Type 0} (node : Node) (before now later : BookView S) (old mid new : Option (List ℕ)) → HasWritten node before now old mid → before.down ≡ false
    → ((run : Run) → Stands node run now → Stands node run later) → WritesFirst now later mid new → HasWritten node before later old new
goes_on {S} node before now later old mid new so_far up stands writes = one_written node before now old mid so_far up later writes.output new writes.is writes.left stands writes.appends
