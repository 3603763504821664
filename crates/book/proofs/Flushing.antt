-- A book goes on standing when records are taken and settled.
use Rattle.std.proofs.Common.{◌≡◌, ℕ, zero, suc, ◌+◌, ◌≤◌, List, [], ◌∷◌, ◌++◌, length, take, drop, map, true, refl, sym, ap, ◌∙◌, subst, arith, append_assoc, append-nil, drop-drop}
use Rattle.std.specs.Prelude.{All, Option, Some, None, IfSome}
use Rattle.std.proofs.lemmas.List.{take_all, nil_from_length, drop_at, take_at, take-map, drop-take, take-append-le, take-append-drop, length-take-le, length-append, drop-map, length-map, length-drop}
use Rattle.std.proofs.lemmas.List.Elements.{All-nil, All-weaker, All-tail, All-drop}
use Rattle.spec_machine.specs.After.{after_all}
use Rattle.spec_machine.proofs.AfterAll.{after_none, legal_none}
use Rattle.spec_model.specs.Histories.{History}
use Rattle.wire.specs.Lists.{Begins}
use Rattle.spec_model.specs.Nodes.{Node, IsNode}
use Rattle.spec_model.specs.States.{State}
use Rattle.spec_records.specs.Records.{record_of}
use Rattle.spec_world.specs.World.{Waiting}
use Rattle.validator.specs.Standing.{AreAtSound}
use Rattle.book.specs.Queue.{length_at, TicketsRise}
use Rattle.book.specs.Pending.{IsLongestBeginning}
use Rattle.book.specs.Book.{BookView, Run, GoesOutAfter, IsDue, Stands, Settles, run_on, with_taken, with_all_taken, settled_by, settled_to}
use Rattle.book.proofs.Due.{begins_length}
use Rattle.book.proofs.Lengths.{UpTo}

-- what is told of one that is some, more weakly
pub if_some : {X : Type 0} {P Q : X → Type 0} → ((x : X) → P x → Q x) → (o : Option X) → IfSome o P → IfSome o Q
if_some weaker None is = tt
if_some weaker (Some x) is = weaker x is

-- a beginning of a list, as so many of its first elements
begins_take : {X : Type 0} (one other : List X) → Begins one other → take (length one) other ≡ one
begins_take one other begins = ap (take (length one)) begins.parts ∙ take-append-le (length one) one begins.rest (omega arith) ∙ take_all (length one) one (omega arith)

-- the taken and the pending ones stay as many as were accepted
pub count_stays : (taken count accepted : ℕ) (pending group left : List (List ℕ)) → IsLongestBeginning pending group left → count ≡ length group
    → taken + length pending ≡ accepted → taken + count + length left ≡ accepted
count_stays taken count accepted pending group left longest counts all = omega (arith, counts, all, ap length longest.parts, length-append group left)

take_begins : {X : Type 0} (count : ℕ) (xs : List X) → Begins (take count xs) xs
take_begins count xs = record { rest = drop count xs; parts = sym (take-append-drop count xs) }

-- more of the first elements begin with fewer
longer_begins : {X : Type 0} (less more : ℕ) (xs : List X) → less ≤ more → Begins (take less xs) (take more xs)
longer_begins {X} zero more xs le = record { rest = take more xs; parts = refl }
longer_begins {X} (suc less) zero xs le = absurd (omega (arith, le))
longer_begins {X} (suc less) (suc more) [] le = record { rest = []; parts = refl }
longer_begins {X} (suc less) (suc more) (x ∷ xs) le =
    let lower = longer_begins less more xs (omega (arith, le)) in
    record { rest = lower.rest; parts = ap (λ l. x ∷ l) lower.parts }

-- what follows the front of a list
drop_front : {X : Type 0} (front rest all : List X) → all ≡ front ++ rest → drop (length front) all ≡ rest
drop_front front rest all parts = ap (drop (length front)) parts ∙ drop_at front rest (length front) refl

begins_trans : {X : Type 0} (one two three : List X) → Begins one two → Begins two three → Begins one three
begins_trans one two three first second = record {
  rest = first.rest ++ second.rest;
  parts = second.parts ∙ ap (λ l. l ++ second.rest) first.parts ∙ append_assoc one first.rest second.rest;
}

-- what is due depends on what was accepted alone
due_same : (node : Node) (run other : Run) (queue : List Waiting) → other.base ≡ run.base → other.accepted ≡ run.accepted → All (IsDue node run) queue → All (IsDue node other) queue
due_same node run other queue base accepted due =
    All-weaker (IsDue node run) (IsDue node other)
    (λ w is. record {
      within = subst (λ l. w.ticket ≤ length l) (sym accepted) is.within;
      goes_out = subst (λ (s : State). GoesOutAfter node s (take w.ticket other.accepted) w.output) (sym base)
          (subst (λ (l : History). GoesOutAfter node run.base (take w.ticket l) w.output) (sym accepted) is.goes_out);
    }) queue due

module _ {S : Type 0} (node : Node) (run : Run) (before later : BookView S) (at : Stands node run before) where
  -- after a group that is taken
  pub stands_taken : (group : List (List ℕ)) → IsLongestBeginning before.pending group later.pending → later ≡ record before { pending = later.pending; taken = before.taken + length group }
      → Stands node (with_taken run (length group)) later
  stands_taken group longest same =
      let count = length run.taken + length group in
      let rest = drop (length run.taken) run.accepted in
      let long : length before.pending ≡ length rest = ap length at.pending ∙ length-map rest record_of in
      let parts : length before.pending ≡ length group + length later.pending = ap length longest.parts ∙ length-append group later.pending in
      let within : length run.taken ≤ length run.accepted = begins_length run.taken run.accepted at.taken_begins in
      let inside : count ≤ length run.accepted = omega (arith, long, parts, length-drop (length run.taken) run.accepted, within) in
      let taken : length (take count run.accepted) ≡ count = length-take-le count run.accepted inside in
      let pending : later.pending ≡ map record_of (drop (length (take count run.accepted)) run.accepted) =
      sym (drop_front group later.pending before.pending longest.parts) ∙ ap (drop (length group)) at.pending ∙ drop-map record_of (length group) rest
      ∙ ap (map record_of) (drop-drop (length group) (length run.taken) run.accepted ∙ ap (λ n. drop n run.accepted) (sym taken)) in
      subst (Stands node (with_taken run (length group))) (sym same) (record {
        legal = at.legal;
        at = at.at;
        taken_begins = take_begins count run.accepted;
        settled_begins = begins_trans run.settled run.taken (take count run.accepted) at.settled_begins
            (subst (λ l. Begins l (take count run.accepted)) (begins_take run.taken run.accepted at.taken_begins) (longer_begins (length run.taken) count run.accepted (omega arith)));
        pending = pending;
        accepted = at.accepted;
        taken = omega (arith, at.taken, taken);
        settled = at.settled;
        rewriting = if_some (λ c is. (is.0, omega (arith, is.1, taken))) before.rewriting at.rewriting;
        due = due_same node run (with_taken run (length group)) before.queue refl refl at.due;
        rising = at.rising;
        ordered = at.ordered;
        lengths = at.lengths;
        tickets = at.tickets;
      })

  -- the group has the records of those events
  pub records_taken : (group : List (List ℕ)) → IsLongestBeginning before.pending group later.pending → group
      ≡ map record_of (drop (length run.taken) (take (length run.taken + length group) run.accepted))
  records_taken group longest =
      sym (take_at group later.pending (length group) refl) ∙ ap (take (length group)) (sym longest.parts ∙ at.pending)
      ∙ take-map record_of (length group) (drop (length run.taken) run.accepted) ∙ ap (map record_of) (sym (drop-take (length run.taken) (length group) run.accepted))

  -- a group of the records that are settled next is no longer than what is taken and not settled
  pub settles_within : (group : List (List ℕ)) → Begins group (map record_of (drop (length run.settled) run.taken)) → length run.settled + length group ≤ length run.taken
  settles_within group begins =
      let rest = drop (length run.settled) run.taken in
      omega (arith, begins_length group (map record_of rest) begins, length-map rest record_of, length-drop (length run.settled) run.taken, begins_length run.settled run.taken at.settled_begins)

  -- after the first of the taken events are settled, where no rewriting is in flight then
  module _ (count : ℕ) (low : length run.settled ≤ count) (within : count ≤ length run.taken) where
    pub stands_settled : later.settled ≡ count → later ≡ record before { settled = later.settled; ordered = later.ordered; reached = later.reached; rewriting = None }
        → later.ordered ≡ length_at later.settled before.ordered before.reached
        → ((number : ℕ) → later.settled ≤ number → length_at number later.ordered later.reached ≡ length_at number before.ordered before.reached)
        → ((limit : ℕ) → UpTo limit before.reached → UpTo limit later.reached)
        → Stands node (record run { settled = take count run.taken }) later
    stands_settled is same ordered lengths tickets =
        let after : Run = record run { settled = take count run.taken } in
        let high : length run.taken ≤ length run.accepted = begins_length run.taken run.accepted at.taken_begins in
        let number : length (take count run.taken) ≡ count = length-take-le count run.taken within in
        let first : take count run.accepted ≡ take count run.taken = ap (take count) at.taken_begins.parts ∙ take-append-le count run.taken at.taken_begins.rest within in
        subst (Stands node after) (sym same) (record {
          legal = at.legal;
          at = at.at;
          taken_begins = at.taken_begins;
          settled_begins = take_begins count run.taken;
          pending = at.pending;
          accepted = at.accepted;
          taken = at.taken;
          settled = omega (arith, is, number);
          rewriting = tt;
          due = due_same node run after before.queue refl refl at.due;
          rising = at.rising;
          ordered = ordered ∙ ap (λ n. length_at n before.ordered before.reached) is ∙ at.lengths count low (omega (arith, within, high))
              ∙ ap (λ (l : History). length (after_all node run.base l).order) first;
          lengths = λ c less top. lengths c (omega (arith, less, number, is)) ∙ at.lengths c (omega (arith, less, number, low)) top;
          tickets = tickets (length run.accepted) at.tickets;
        })

  -- what is settled next ends no lower than what is settled, and within what is taken
  pub next_within : (r : Option ℕ) (records : List (List ℕ)) → before.rewriting ≡ r → Settles node run r records
      → (length run.settled ≤ settled_to r (length run.settled + length records)) × (settled_to r (length run.settled + length records) ≤ length run.taken)
  next_within None records same begins = (omega arith, settles_within records begins)
  next_within (Some all) records same checkpoint = subst (λ (r : Option ℕ). IfSome r (λ count. (length run.settled ≤ count) × (count ≤ length run.taken))) same at.rewriting

  -- the run after that
  run_settled : (r : Option ℕ) (count : ℕ) → record run { settled = take (settled_to r (length run.settled + count)) run.taken } ≡ settled_by run r count
  run_settled None count = refl
  run_settled (Some all) count = refl

  -- after what is settled next
  pub stands_next : (records : List (List ℕ)) → Settles node run before.rewriting records → later.settled ≡ settled_to before.rewriting (before.settled + length records)
      → later ≡ record before { settled = later.settled; ordered = later.ordered; reached = later.reached; rewriting = None }
      → later.ordered ≡ length_at later.settled before.ordered before.reached
      → ((number : ℕ) → later.settled ≤ number → length_at number later.ordered later.reached ≡ length_at number before.ordered before.reached)
      → ((limit : ℕ) → UpTo limit before.reached → UpTo limit later.reached)
      → Stands node (settled_by run before.rewriting (length records)) later
  stands_next records settles is same ordered lengths tickets =
      let within = next_within before.rewriting records refl settles in
      subst (λ (r : Run). Stands node r later) (run_settled before.rewriting (length records))
      (stands_settled (settled_to before.rewriting (length run.settled + length records)) within.0 within.1
      (is ∙ ap (λ (n : ℕ). settled_to before.rewriting (n + length records)) at.settled) same ordered lengths tickets)

  -- after all that was accepted is taken
  pub stands_all : later ≡ record before { pending = []; taken = before.accepted; rewriting = Some before.accepted; down = later.down } → Stands node (with_all_taken run) later
  stands_all same =
      let high : length run.taken ≤ length run.accepted = begins_length run.taken run.accepted at.taken_begins in
      let low : length run.settled ≤ length run.taken = begins_length run.settled run.taken at.settled_begins in
      subst (Stands node (with_all_taken run)) (sym same) (record {
        legal = at.legal;
        at = at.at;
        taken_begins = record { rest = []; parts = sym (append-nil run.accepted) };
        settled_begins = begins_trans run.settled run.taken run.accepted at.settled_begins at.taken_begins;
        pending = ap (map record_of) (sym (nil_from_length (drop (length run.accepted) run.accepted) (omega (arith, length-drop (length run.accepted) run.accepted))));
        accepted = at.accepted;
        taken = at.accepted;
        settled = at.settled;
        rewriting = (omega (arith, high, low, at.accepted), omega (arith, at.accepted));
        due = due_same node run (with_all_taken run) before.queue refl refl at.due;
        rising = at.rising;
        ordered = at.ordered;
        lengths = at.lengths;
        tickets = at.tickets;
      })

-- a book that is taken down stands where it stood
pub stands_down : {S : Type 0} (node : Node) (run : Run) (before later : BookView S) → later ≡ record before { down = true } → Stands node run before → Stands node run later
stands_down {S} node run before later same at = subst (Stands node run) (sym same) (record {
  legal = at.legal;
  at = at.at;
  taken_begins = at.taken_begins;
  settled_begins = at.settled_begins;
  pending = at.pending;
  accepted = at.accepted;
  taken = at.taken;
  settled = at.settled;
  rewriting = at.rewriting;
  due = at.due;
  rising = at.rising;
  ordered = at.ordered;
  lengths = at.lengths;
  tickets = at.tickets;
})

-- and so does one whose first outputs left
stands_left : {S : Type 0} (node : Node) (run : Run) (before later : BookView S) (rest : List Waiting) → later ≡ record before { queue = rest }
    → All (IsDue node run) rest → TicketsRise rest → Stands node run before → Stands node run later
stands_left {S} node run before later rest same due rising at = subst (Stands node run) (sym same) (record {
  legal = at.legal;
  at = at.at;
  taken_begins = at.taken_begins;
  settled_begins = at.settled_begins;
  pending = at.pending;
  accepted = at.accepted;
  taken = at.taken;
  settled = at.settled;
  rewriting = at.rewriting;
  due = due;
  rising = rising;
  ordered = at.ordered;
  lengths = at.lengths;
  tickets = at.tickets;
})

-- the first one
pub stands_released : {S : Type 0} (node : Node) (run : Run) (before later : BookView S) (first : Waiting) (rest : List Waiting) → before.queue
    ≡ first ∷ rest → later ≡ record before { queue = rest } → Stands node run before → Stands node run later
stands_released node run before later first rest parts same at =
    let due : All (IsDue node run) (first ∷ rest) = subst (All (IsDue node run)) parts at.due in
    let rising : TicketsRise (first ∷ rest) = subst TicketsRise parts at.rising in
    stands_left node run before later rest same (All-tail (IsDue node run) first rest due) rising.1 at

-- or some of them
rise_on : (count : ℕ) (queue : List Waiting) → TicketsRise queue → TicketsRise (drop count queue)
rise_on zero queue rising = rising
rise_on (suc count) [] rising = tt
rise_on (suc count) (first ∷ rest) rising = rise_on count rest rising.1

pub stands_moved : {S : Type 0} (node : Node) (run : Run) (before : BookView S) (count : ℕ) (rest : List Waiting) → rest ≡ drop count before.queue
    → Stands node run before → Stands node run (record before { queue = rest })
stands_moved node run before count rest left at =
    stands_left node run before (record before { queue = rest }) rest refl (subst (All (IsDue node run)) (sym left) (All-drop (IsDue node run) count before.queue at.due))
    (subst TicketsRise (sym left) (rise_on count before.queue at.rising)) at

-- at first
pub stands_first : {S : Type 0} (node : Node) (base : State) (book : BookView S) → IsNode node → AreAtSound node book.validator.tables base
    → book.pending ≡ [] → book.queue ≡ [] → book.accepted ≡ 0 → book.taken ≡ 0 → book.settled ≡ 0 → book.rewriting ≡ None → book.reached ≡ []
    → book.ordered ≡ length base.order → Stands node (run_on base) book
stands_first node base book node_is at pending queue accepted taken settled rewriting reached ordered =
    let same : after_all node base [] ≡ base = after_none node base in
    record {
      legal = legal_none node base node_is at.sound;
      at = subst (AreAtSound node book.validator.tables) (sym same) at;
      taken_begins = take_begins 0 [];
      settled_begins = take_begins 0 [];
      pending = pending;
      accepted = accepted;
      taken = taken;
      settled = settled;
      rewriting = subst (λ (r : Option ℕ). IfSome r (λ count. (0 ≤ count) × (count ≤ 0))) (sym rewriting) tt;
      due = subst (All (IsDue node (run_on base))) (sym queue) (All-nil (IsDue node (run_on base)));
      rising = subst TicketsRise (sym queue) tt;
      ordered = ordered ∙ ap (λ (s : State). length s.order) (sym same);
      lengths = λ count low high. ap (length_at count book.ordered) reached ∙ ordered ∙ ap (λ (s : State). length s.order) (sym (first count));
      tickets = subst (UpTo 0) (sym reached) (All-nil (λ r. r.ticket ≤ 0));
    }
  where
    first : (count : ℕ) → after_all node base (take count []) ≡ base
    first zero = after_none node base
    first (suc count) = after_none node base
