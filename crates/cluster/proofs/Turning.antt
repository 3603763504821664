-- What a desk does at a move.
use Rattle.std.proofs.Common.{◌≡◌, ◌≢◌, ◌⊎◌, ℕ, ◌+◌, Bool, true, false, inl, inr, List, [], ◌∷◌, ◌++◌, length, Result, Ok, Err, refl, sym, ap, ◌∙◌, subst}
use Rattle.std.specs.Prelude.{◌↔◌, ◌==◌, Some, None, ⊤, if◌then◌else◌}
use Rattle.book.specs.Book.{Run, Stands, TakesNew, TakesKnown, MayRefuse}
use Rattle.book.specs.InFlight.{Flushes, FindsNoRoom, FailsWithRoom}
use Rattle.book.specs.declared.own.error.FlushError.{FlushError}
use Rattle.book.specs.declared.own.error.FlushError.TheVariants as errors
use Rattle.desk.specs.AtWorld.{IsAt, LeadsTo, IsStop}
use Rattle.desk.specs.Disks.{of_one}
use Rattle.desk.specs.Desk.{DeskView, IsOpened}
use Rattle.header.specs.Checks.{Accepts, fault_of}
use Rattle.header.specs.declared.error.CheckError.{CheckError}
use Rattle.journal.specs.Areas.{alone, rewrite_calls}
use Rattle.journal.specs.Journal.{disk_of, spare_of}
use Rattle.opening.specs.Decoded.{decoded}
use Rattle.spec_model.specs.Nodes.{Node}
use Rattle.spec_model.specs.States.{State}
use Rattle.spec_model.specs.Words.{Event}
use Rattle.header.specs.declared.refusal.Refusal.{Refusal}
use Rattle.header.specs.declared.refusal.Refusal.TheVariants as refusal
use Rattle.spec_model.specs.Admitting.{admit}
use Rattle.header.specs.declared.admission.Admission.{Admission}
use Rattle.header.specs.declared.admission.Admission.TheVariants.{New, Known}
use Rattle.header.specs.declared.admission.Admission.TheVariants as admission
use Rattle.spec_world.specs.Steps.{Move, accept, take_to, device_call, settle, release, read_order, take_all, spare_call, restart, with_spare_call, with_rewritten, IsAnswered, IsStep, Leads}
use Rattle.spec_world.specs.World.{Given, World}
use Rattle.cluster.specs.Answers.{Deed, TakesIn, MakesRound, IsDeviceFault, HasMoved}
use Rattle.cluster.specs.declared.moves.Applied.TheVariants.{Took, Refused, Unchecked, Settled, Fault}
use Rattle.diskmodel.specs.Disk.{Device}

-- moves by which nothing goes out
abbrev pub IsQuiet : Move → Type 0
IsQuiet (release waiting) = ⊥
IsQuiet read_order = ⊥
IsQuiet other = ⊤

abbrev pub AllQuiet : List Move → Type 0
AllQuiet [] = ⊤
AllQuiet (move ∷ moves) = IsQuiet move × AllQuiet moves

answered_given : (world : World) (event : Event) (answer : Admission) (next : World) → IsAnswered world event answer next → next.given ≡ world.given
answered_given world event (New outputs) next same = ap (λ (w : World). w.given) same
answered_given world event (Known outputs) next same = ap (λ (w : World). w.given) same
answered_given world event (admission.Refused why) next is = absurd is

-- what was given out is the same in both worlds of a choice
chosen_given : (chosen : Bool) (left right : World) (given : List Given) → left.given ≡ given → right.given ≡ given → (if chosen then left else right).given ≡ given
chosen_given true left right given first second = first
chosen_given false left right given first second = second

step_given : (node : Node) (move : Move) (world next : World) → IsQuiet move → IsStep node world move next → next.given ≡ world.given
step_given node (accept event) world next quiet step = answered_given world event (admit node (world.began ++ world.accepted) event) next step.is
step_given node (take_to count) world next quiet step = ap (λ (w : World). w.given) step.is
step_given node device_call world next quiet step = ap (λ (w : World). w.given) step.is
step_given node settle world next quiet step = ap (λ (w : World). w.given) step.is
step_given node (take_all bytes) world next quiet step = ap (λ (w : World). w.given) step.is
step_given node spare_call world next quiet step =
    ap (λ (w : World). w.given) step.is
    ∙ chosen_given (step.rewriting.made + 1 == length (rewrite_calls step.rewriting.bytes)) (with_rewritten world step.spare step.call)
    (with_spare_call world step.spare step.rewriting step.call) world.given refl refl
step_given node (restart found) world next quiet step = ap (λ (w : World). w.given) step.is
step_given node (release waiting) world next quiet step = absurd quiet
step_given node read_order world next quiet step = absurd quiet

leads_given : (node : Node) (moves : List Move) (world last : World) → AllQuiet moves → Leads node world moves last → last.given ≡ world.given
leads_given node [] world last quiet same = sym (ap (λ (w : World). w.given) same)
leads_given node (move ∷ moves) world last quiet leads = leads_given node moves leads.0 last quiet.1 leads.2 ∙ step_given node move world leads.0 quiet.0 leads.1

-- the moves of a stop are such
pub stop_quiet : (world : World) (moves : List Move) → IsStop world moves → AllQuiet moves
stop_quiet world moves (found, inl same) = subst AllQuiet (sym same) (tt, tt)
stop_quiet world moves (found, inr (inl same)) = subst AllQuiet (sym same) (tt, (tt, (tt, (tt, (tt, tt)))))
stop_quiet world moves (found, inr (inr same)) = subst AllQuiet (sym same) (tt, (tt, (tt, (tt, (tt, (tt, (tt, (tt, (tt, tt)))))))))

module _ {S D : Type 0} (node : Node) (device : Device D) where
  -- nothing moved
  pub stays : (Done : Deed S D → Type 0) (world : World) (before later : DeskView S D) → IsAt node device world before → later ≡ before
      → Done (record { world = world; moves = []; before = before; later = later }) → HasMoved node device Done world before later
  stays Done world before later at same does = record {
    moves = [];
    does = does;
    to = world;
    leads = refl;
    at = subst (IsAt node device world) (sym same) at;
    quiet = refl;
  }

  -- a desk moved
  pub moved : (Done : Deed S D → Type 0) (world : World) (moves : List Move) (before later : DeskView S D)
      → AllQuiet moves → LeadsTo node device world moves later → Done (record { world = world; moves = moves; before = before; later = later })
      → HasMoved node device Done world before later
  moved Done world moves before later quiet to does = record { moves = moves; does = does; to = to.next; leads = to.leads; at = to.is_at; quiet = leads_given node moves world to.next quiet to.leads }

  module _ (accepts : Accepts) (event : Event) (world : World) (before later : DeskView S D) (passed : fault_of node.charter accepts event ≡ None) (at : IsAt node device world before) where
    pub took : before.book.down ≡ false → (ticket : ℕ) (new : Bool) → (new ≡ true → TakesNew node before.book later.book event)
        → (new ≡ false → TakesKnown node before.book later.book event) → ticket ≡ later.book.accepted
        → ((w : World) → IsAt node device w before → LeadsTo node device w (accept event ∷ []) later)
        → HasMoved node device (TakesIn node accepts event (Took ticket new)) world before later
    took up ticket new takes_new takes_known counted step =
        moved (TakesIn node accepts event (Took ticket new)) world (accept event ∷ []) before later (tt, tt) (step world at)
        (record { passed = passed; up = up; takes_new = takes_new; takes_known = takes_known; counted = counted; by = refl })

    pub refused : (why : Refusal) → why ≢ refusal.Memory → ((why ≡ refusal.Down) ↔ (before.book.down ≡ true))
        → ((run : Run) → Stands node run before.book → MayRefuse node run before.book event why) → later ≡ before
        → HasMoved node device (TakesIn node accepts event (Refused why)) world before later
    refused why not_memory down may same =
        stays (TakesIn node accepts event (Refused why)) world before later at same
        (record { passed = passed; not_memory = not_memory; down = down; may = may; same = same; by = refl })

  pub unchecked : (accepts : Accepts) (event : Event) (world : World) (desk : DeskView S D) (error : CheckError) → IsAt node device world desk → fault_of node.charter accepts event ≡ Some error
      → HasMoved node device (TakesIn node accepts event (Unchecked error)) world desk desk
  unchecked accepts event world desk error at fault =
      stays (TakesIn node accepts event (Unchecked error)) world desk desk at refl (record { fault = fault; same = refl; by = refl })

  -- ---- a round

  module _ (world : World) (before later : DeskView S D) (at : IsAt node device world before) where
    some_pending : (first : List ℕ) (rest : List (List ℕ)) → before.book.pending ≡ first ∷ rest → before.book.pending ≢ []
    some_pending first rest is none = some_none (sym is ∙ none)
      where
        some_none : first ∷ rest ≡ [] → ⊥
        some_none same = cc

    pub settled : before.book.down ≡ false → (count : ℕ) → (before.book.pending ≡ [] → (◌≡◌ {A = Result ℕ FlushError} (Ok count) (Ok 0)) × (later ≡ before))
        → (before.book.pending ≢ [] → Flushes node before.book later.book (device.content (disk_of before.journal)) (device.content (disk_of later.journal)) count)
        → (before.book.pending ≢ [] → (w : World) → IsAt node device w before
        → LeadsTo node device w (take_to (length w.settled + count) ∷ device_call ∷ device_call ∷ device_call ∷ device_call ∷ settle ∷ []) later)
        → HasMoved node device (MakesRound node device (Settled count)) world before later
    settled up count idle flushes steps = by_pending before.book.pending refl
      where
        by_pending : (pending : List (List ℕ)) → before.book.pending ≡ pending → HasMoved node device (MakesRound node device (Settled count)) world before later
        by_pending [] none =
            let same = idle none in
            stays (MakesRound node device (Settled count)) world before later at same.1
            (record { up = up; idle = λ _. (ok_is count 0 same.0, same.1, refl); flushes = flushes; by = λ some. absurd (some none) })
          where
            ok_is : (one other : ℕ) → ◌≡◌ {A = Result ℕ FlushError} (Ok one) (Ok other) → one ≡ other
            ok_is one other so = cc
        by_pending (first ∷ rest) is =
            let some = some_pending first rest is in
            moved (MakesRound node device (Settled count)) world
            (take_to (length world.settled + count) ∷ device_call ∷ device_call ∷ device_call ∷ device_call ∷ settle ∷ []) before later
            (tt, (tt, (tt, (tt, (tt, (tt, tt)))))) (steps some world at)
            (record { up = up; idle = λ none. absurd (some none); flushes = flushes; by = λ _. refl })

    pub fault : (error : FlushError) → ((error ≡ errors.Down) ↔ (before.book.down ≡ true)) → ((error ≡ errors.Down) ⊎ (error ≡ errors.Memory) → later ≡ before)
        → (error ≡ errors.Full → FindsNoRoom node before.book later.book (device.content (disk_of before.journal)))
        → (error ≡ errors.Device → FailsWithRoom node before.book later.book (device.content (disk_of before.journal)))
        → ((error ≡ errors.Full) ⊎ (error ≡ errors.Device) → (w : World) → IsAt node device w before → (count : ℕ) × LeadsTo node device w (take_to count ∷ []) later)
        → HasMoved node device (MakesRound node device (Fault error)) world before later
    fault errors.Memory down unchanged full fails steps =
        let same = unchanged (inr refl) in
        stays (MakesRound node device (Fault errors.Memory)) world before later at same
        (record { was_down = down; unchanged = λ _. (same, refl); taken_down = λ either. absurd (elim either [ inl so ↦ (cc) | inr so ↦ (cc) ]) })
    fault errors.Down down unchanged full fails steps =
        let same = unchanged (inl refl) in
        stays (MakesRound node device (Fault errors.Down)) world before later at same
        (record { was_down = down; unchanged = λ _. (same, refl); taken_down = λ either. absurd (elim either [ inl so ↦ (cc) | inr so ↦ (cc) ]) })
    fault errors.Full down unchanged full fails steps =
        let to = steps (inl refl) world at in
        let found = full refl in
        moved (MakesRound node device (Fault errors.Full)) world (take_to to.0 ∷ []) before later (tt, tt) to.1
        (record {
          was_down = down;
          unchanged = λ either. absurd (elim either [ inl so ↦ (cc) | inr so ↦ (cc) ]);
          taken_down = λ _. record { down = found.0; full = λ _. found.1; room = λ so. absurd (cc); count = to.0; by = refl };
        })
    fault errors.Device down unchanged full fails steps =
        let to = steps (inr refl) world at in
        let found = fails refl in
        moved (MakesRound node device (Fault errors.Device)) world (take_to to.0 ∷ []) before later (tt, tt) to.1
        (record {
          was_down = down;
          unchanged = λ either. absurd (elim either [ inl so ↦ (cc) | inr so ↦ (cc) ]);
          taken_down = λ _. record { down = found.0; full = λ so. absurd (cc); room = λ _. found.1; count = to.0; by = refl };
        })

  -- what a stop leaves of a desk in its world is told as a state
  pub left_decoded : (world : World) (desk : DeskView S D) → IsAt node device world desk → spare_of desk.journal ≡ None → (found : List ℕ) → device.outcome (disk_of desk.journal) found
      → (state : State) × (decoded node found ≡ Ok state)
  left_decoded world desk at one found may = elim (at.is_of.left (alone found) (of_one found one may refl)) [ inl settled ↦ (_, settled) | inr all ↦ (_, all) ]

  -- a desk that was opened on bytes that are told as these are
  pub opened_same : (one other : List ℕ) (desk : DeskView S D) → decoded node other ≡ decoded node one → IsOpened node device (alone other) desk → IsOpened node device (alone one) desk
  opened_same one other desk same opened = record {
    state = opened.state;
    decoded_first = sym same ∙ opened.decoded_first;
    up = opened.up;
    alive = opened.alive;
    begun = opened.begun;
    disks = opened.disks;
    generation = opened.generation;
    waits = opened.waits;
    rewriting = opened.rewriting;
    is_of = opened.is_of;
  }

-- a desk whose call was answered with Ok is up
pub up_of : {T E : Type 0} (one : T) (error : E) (down : Bool) → (down ≡ true → ◌≡◌ {A = Result T E} (Ok one) (Err error)) → down ≡ false
up_of one error false is_down = refl
up_of {T} {E} one error true is_down = absurd (never (is_down refl))
  where
    never : ◌≡◌ {A = Result T E} (Ok one) (Err error) → ⊥
    never same = cc

-- what an error is, said of the call that answered it
pub err_same : {T : Type 0} (one other : Refusal) → ((◌≡◌ {A = Result T Refusal} (Err one) (Err other)) → one ≡ other)
err_same one other same = cc

pub flush_err_same : (one other : FlushError) → ((◌≡◌ {A = Result ℕ FlushError} (Err one) (Err other)) → one ≡ other)
flush_err_same one other same = cc

-- which fault of a round is the disk's
pub device_is : (error : FlushError) → IsDeviceFault (Fault error) → error ≡ errors.Device
device_is errors.Device is = refl
device_is errors.Memory is = absurd is
device_is errors.Down is = absurd is
device_is errors.Full is = absurd is
