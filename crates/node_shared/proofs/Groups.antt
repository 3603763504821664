-- Groups and checkpoints that a flush seat takes and settles.
use Rattle.std.proofs.Common.{◌≡◌, ℕ, true, false, ◌+◌, ◌-◌, ◌≤◌, List, [], length, map, take, drop, refl, sym, ap, ◌∙◌, subst, arith}
use Rattle.std.proofs.lemmas.List.{take_at, take-append-le, take-map, take_all, length-map, length-drop}
use Rattle.std.specs.Prelude.{Option, Some, None, IfSome, is_some}
use Rattle.spec_machine.specs.After.{after_all}
use Rattle.spec_model.specs.Histories.{History}
use Rattle.spec_model.specs.States.{State}
use Rattle.wire.specs.Lists.{Begins}
use Rattle.spec_records.specs.Records.{record_of}
use Rattle.validator.specs.Setting.{ConfigView, node_of}
use Rattle.node_seats.specs.Sights.{SeatView}
use Rattle.node_seats.specs.Views.{events, IsSame}
use Rattle.node_seats.specs.declared.view.Marked.{Marked}
use Rattle.node_seats.proofs.Beginnings.{begins_length, begins_whole, begins_same}
use Rattle.book.specs.Book.{BookView, Run, Stands, IsCheckpoint, IsCheckpointOfAll, state_in, state_to, with_taken, with_all_taken, Settles, SettlesNext, settled_by}
use Rattle.book.specs.Pending.{IsLongestBeginning}
use Rattle.node_shared.specs.Home.{NodeView, IsBase, IsAtHome, IsFlushOf, IsTied, RewritesAllTaken, TakesNext, IsCheckpointAfter, taken_by, group_of, run_of}
use Rattle.node_shared.specs.declared.flush_seat.FlushSeat.{FlushSeat}
use Rattle.node_shared.proofs.Standing.{of_same, at_home, none_rewrites}
use Rattle.sigface.specs.Scheme.{Scheme}

-- what begins a list is so many of its first elements
begins_is_take : {X : Type 0} (one all : List X) (count : ℕ) → Begins one all → length one ≡ count → one ≡ take count all
begins_is_take one all count begins size = sym (take_at one begins.rest count size) ∙ ap (take count) (sym begins.parts)

-- a list of no more than so many
nothing_after : {X Y : Type 0} (f : X → Y) (xs : List X) (count : ℕ) → map f (drop count xs) ≡ [] → length xs ≤ count
nothing_after f xs count none = omega (arith, ap length none, length-map (drop count xs) f, length-drop count xs)

-- the first elements of what grows stay
pub same_front : {X : Type 0} (one other : List X) (count : ℕ) → Begins one other → count ≤ length one → take count other ≡ take count one
same_front one other count begins within =
    ap (take count) begins.parts ∙ take-append-le count one begins.rest within

-- an option that is none
is_none : (one : Option ℕ) → is_some one ≡ false → one ≡ None
is_none None not_some = refl
is_none (Some count) not_some = absurd (let bad : true ≡ false = not_some in cc)

module _ {S : Type 0} (shared : NodeView S) (scheme : Scheme S) (seat : SeatView) (book : BookView S) (flush : FlushSeat)
    (home : IsAtHome scheme shared seat book) (tied : IsTied shared seat book flush) where
  -- the run at which the book stands
  abbrev pub run : Run
  run = run_of home.somewhere.0 seat.view home.taken

  stood : Stands (node_of scheme shared.setting) run book
  stood = home.stands home.somewhere.0 home.somewhere.1

  seen_events : events flush.seat.view.seen ≡ events seat.view.seen
  seen_events = ap events tied.seen

  size : length (events seat.view.seen) ≡ length flush.seat.view.seen
  size = ap length (sym seen_events) ∙ length-map flush.seat.view.seen (λ (one : Marked). one.event)

  settled_size : length (events seat.view.durable) ≡ flush.settled
  settled_size = sym stood.settled ∙ tied.settled

  taken_size : length home.taken ≡ flush.taken
  taken_size = sym stood.taken ∙ tied.taken

  -- what of it is taken is what the flush seat has taken
  pub taken_is : home.taken ≡ events (taken_by flush)
  taken_is =
      begins_is_take home.taken (events seat.view.seen) flush.taken stood.taken_begins taken_size ∙ ap (take flush.taken) (sym seen_events)
      ∙ take-map (λ (one : Marked). one.event) flush.taken flush.seat.view.seen

  -- a group that the book hands over is the next one
  module _ (later : BookView S) (group : List (List ℕ)) (rests : flush.taken ≡ flush.settled) (idle : flush.rewriting ≡ false) (longest : IsLongestBeginning book.pending group later.pending)
      (is : later ≡ record book { pending = later.pending; taken = book.taken + length group })
      (stands : (run : Run) → Stands (node_of scheme book.validator.setting) run book → Stands (node_of scheme book.validator.setting) (with_taken run (length group)) later)
      (records : (run : Run) → Stands (node_of scheme book.validator.setting) run book → group ≡ map record_of (drop (length run.taken) (with_taken run (length group)).taken)) where
    afterwards : (base : State) → IsBase scheme shared base → Stands (node_of scheme shared.setting) (with_taken (run_of base seat.view home.taken) (length group)) later
    afterwards base at =
        subst (λ (s : ConfigView S). (r : Run) → Stands (node_of scheme s) r book → Stands (node_of scheme s) (with_taken r (length group)) later) home.setting stands
        (run_of base seat.view home.taken) (home.stands base at)

    there : Stands (node_of scheme shared.setting) (with_taken run (length group)) later
    there = afterwards home.somewhere.0 home.somewhere.1

    counted : later.taken ≡ flush.settled + length group
    counted = ap (λ (b : BookView S). b.taken) is ∙ ap (λ (n : ℕ). n + length group) (tied.taken ∙ rests)

    pub home_taken : IsAtHome scheme shared seat later
    home_taken = at_home shared scheme seat later (events seat.view.seen) (with_taken run (length group)).taken (events seat.view.durable) home.somewhere
        (ap (λ (b : BookView S). b.validator.setting) is ∙ home.setting)
        home.of_node afterwards refl refl (λ down. home.down (sym (ap (λ (b : BookView S). b.down) is) ∙ down))
        (none_rewrites later (ap (λ (b : BookView S). b.rewriting) is ∙ is_none book.rewriting (tied.rewriting ∙ idle)))

    within : later.taken ≤ length flush.seat.view.seen
    within =
        let is_in : length (with_taken run (length group)).taken ≤ length (events seat.view.seen) = begins_length _ _ there.taken_begins in
        omega (arith, is_in, there.taken, size)

    pub flush_taken : IsFlushOf shared (record flush { taken = later.taken })
    flush_taken = record {
      of_node = tied.flush_of.of_node;
      settled = tied.flush_of.settled;
      rising = omega (arith, counted);
      seen = within;
      begins = tied.flush_of.begins;
    }

    pub tied_taken : IsTied shared seat later (record flush { taken = later.taken })
    tied_taken = record {
      flush_of = flush_taken;
      seen = tied.seen;
      durable = tied.durable;
      settled = ap (λ (b : BookView S). b.settled) is ∙ tied.settled;
      taken = refl;
      rewriting = ap (λ (b : BookView S). is_some b.rewriting) is ∙ tied.rewriting;
    }

    pub takes_next : TakesNext (record flush { taken = later.taken }) group
    takes_next = record {
      rest = later.pending;
      longest = subst (λ (l : List (List ℕ)). IsLongestBeginning l group later.pending) (stood.pending ∙ λ i. map record_of (drop ((taken_size ∙ rests) i) (sym seen_events i))) longest;
      counts = counted;
      is =
          subst (λ (s : ConfigView S). (r : Run) → Stands (node_of scheme s) r book → group
          ≡ map record_of (drop (length r.taken) (with_taken r (length group)).taken)) home.setting records run stood
          ∙ (λ i. map record_of (drop ((taken_size ∙ rests) i) (take (length home.taken + length group) (sym seen_events i))))
          ∙ ap (λ (n : ℕ). map record_of (drop flush.settled (take n (events flush.seat.view.seen)))) (ap (λ (n : ℕ). n + length group) (taken_size ∙ rests) ∙ sym counted)
          ∙ ap (λ (l : History). map record_of (drop flush.settled l)) (take-map (λ (one : Marked). one.event) later.taken flush.seat.view.seen);
    }

  -- a checkpoint that the book hands over is one of all that was accepted
  module _ (later : BookView S) (snapshot : List (List ℕ)) (is : later ≡ record book { pending = []; taken = book.accepted; rewriting = Some book.accepted })
      (stands : (run : Run) → Stands (node_of scheme book.validator.setting) run book → Stands (node_of scheme book.validator.setting) (with_all_taken run) later)
      (checkpoint : IsCheckpointOfAll (node_of scheme book.validator.setting) book snapshot) where
    afterwards_all : (base : State) → IsBase scheme shared base → Stands (node_of scheme shared.setting) (with_all_taken (run_of base seat.view home.taken)) later
    afterwards_all base at =
        subst (λ (s : ConfigView S). (r : Run) → Stands (node_of scheme s) r book → Stands (node_of scheme s) (with_all_taken r) later) home.setting stands
        (run_of base seat.view home.taken) (home.stands base at)

    pub home_all : IsAtHome scheme shared seat later
    home_all = at_home shared scheme seat later (events seat.view.seen) (events seat.view.seen) (events seat.view.durable) home.somewhere
        (ap (λ (b : BookView S). b.validator.setting) is ∙ home.setting)
        home.of_node afterwards_all refl refl (λ down. home.down (sym (ap (λ (b : BookView S). b.down) is) ∙ down)) (subst RewritesAllTaken (sym is) refl)

    -- so the flush seat has taken all that it has seen
    abbrev pub with_all : FlushSeat
    with_all = record flush { taken = later.taken; rewriting = true }

    count_all : later.taken ≡ length flush.seat.view.seen
    count_all = ap (λ (b : BookView S). b.taken) is ∙ stood.accepted ∙ size

    pub flush_all : IsFlushOf shared with_all
    flush_all = record {
      of_node = tied.flush_of.of_node;
      settled = tied.flush_of.settled;
      rising = omega (arith, count_all, tied.flush_of.rising, tied.flush_of.seen);
      seen = omega (arith, count_all);
      begins = tied.flush_of.begins;
    }

    pub tied_all : IsTied shared seat later with_all
    tied_all = record {
      flush_of = flush_all;
      seen = tied.seen;
      durable = tied.durable;
      settled = ap (λ (b : BookView S). b.settled) is ∙ tied.settled;
      taken = refl;
      rewriting = ap (λ (b : BookView S). is_some b.rewriting) is;
    }

    pub taken_all : taken_by with_all ≡ flush.seat.view.seen
    taken_all = take_all later.taken flush.seat.view.seen (omega (arith, count_all))

    pub checkpoint_all : IsCheckpointAfter scheme shared (taken_by with_all) snapshot
    checkpoint_all base at =
        subst (λ (l : History). IsCheckpoint (node_of scheme shared.setting) (after_all (node_of scheme shared.setting) base l) snapshot) (sym seen_events ∙ ap events (sym taken_all))
        (subst (λ (s : ConfigView S). (r : Run) → Stands (node_of scheme s) r book → IsCheckpoint (node_of scheme s) (state_in (node_of scheme s) r) snapshot) home.setting checkpoint
        (run_of base seat.view home.taken) (home.stands base at))

  -- where nothing is pending all is settled
  pub all_settled : flush.taken ≡ flush.settled → book.pending ≡ [] → flush.seat.view.durable ≡ flush.seat.view.seen
  all_settled rests none =
      let less : length (events seat.view.seen) ≤ length home.taken = nothing_after record_of (events seat.view.seen) (length home.taken) (sym stood.pending ∙ none) in
      begins_whole flush.seat.view.durable flush.seat.view.seen tied.flush_of.begins (omega (arith, less, size, taken_size, rests, tied.flush_of.settled))

  -- what the flush seat has taken may be settled
  module _ (synced : List (List ℕ)) (group : flush.rewriting ≡ false → synced ≡ group_of flush) (checkpoint : flush.rewriting ≡ true → IsCheckpointAfter scheme shared (taken_by flush) synced) where
    -- a group
    module _ (none : book.rewriting ≡ None) where
      are : synced ≡ map record_of (drop (length run.settled) run.taken)
      are = group (sym tied.rewriting ∙ ap is_some none) ∙ λ i. map record_of (drop (sym settled_size i) (sym taken_is i))

      begins : Begins synced (map record_of (drop (length run.settled) run.taken))
      begins = subst (λ (l : List (List ℕ)). Begins synced l) are (begins_same synced)

      group_whole : take (length run.settled + length synced) home.taken ≡ events (taken_by flush)
      group_whole =
          let less : length (events seat.view.durable) ≤ length home.taken = begins_length _ _ stood.settled_begins in
          let count : length synced ≡ length (drop (length run.settled) run.taken) = ap length are ∙ length-map (drop (length run.settled) run.taken) record_of in
          let left : length (drop (length run.settled) run.taken) ≡ length run.taken - length run.settled = length-drop (length run.settled) run.taken in
          take_all (length run.settled + length synced) run.taken (omega (arith, less, count, left)) ∙ taken_is

    -- or a checkpoint of all that it has taken
    module _ (count : ℕ) (some : book.rewriting ≡ Some count) where
      counts : count ≡ flush.taken
      counts = subst (λ (r : Option ℕ). IfSome r (λ n. n ≡ book.taken)) some home.whole ∙ tied.taken

      of_taken : events (taken_by flush) ≡ take count (events seat.view.seen)
      of_taken = sym (take-map (λ (one : Marked). one.event) flush.taken flush.seat.view.seen) ∙ λ i. take (sym counts i) (seen_events i)

      all_whole : take count home.taken ≡ events (taken_by flush)
      all_whole = take_all count home.taken (omega (arith, counts, taken_size)) ∙ taken_is

      checkpointed : (base : State) → IsBase scheme shared base → IsCheckpoint (node_of scheme shared.setting)
          (state_to (node_of scheme shared.setting) count (run_of base seat.view home.taken)) synced
      checkpointed base at =
          subst (λ (l : History). IsCheckpoint (node_of scheme shared.setting) (after_all (node_of scheme shared.setting) base l) synced) of_taken
          (checkpoint (sym tied.rewriting ∙ ap is_some some) base at)

    settles_at : (base : State) → IsBase scheme shared base → (r : Option ℕ) → book.rewriting ≡ r → Settles (node_of scheme shared.setting) (run_of base seat.view home.taken) r synced
    settles_at base at None none = begins none
    settles_at base at (Some count) some = checkpointed count some base at

    -- all that is taken is settled then
    settled_run : (base : State) (r : Option ℕ) → book.rewriting ≡ r
        → settled_by (run_of base seat.view home.taken) r (length synced) ≡ record (run_of base seat.view home.taken) { settled = events (taken_by flush) }
    settled_run base None none = ap (λ (l : History). record (run_of base seat.view home.taken) { settled = l }) (group_whole none)
    settled_run base (Some count) some = ap (λ (l : History). record (run_of base seat.view home.taken) { settled = l }) (all_whole count some)

    pub settles_next : SettlesNext (node_of scheme book.validator.setting) book synced
    settles_next = subst (λ (s : ConfigView S). SettlesNext (node_of scheme s) book synced) (sym home.setting)
        (run, stood, settles_at home.somewhere.0 home.somewhere.1 book.rewriting refl)

    -- and the book is at home again once its seat knows it
    pub home_settled : (later : BookView S) (afterwards : SeatView) → later.validator.setting ≡ book.validator.setting → later.down ≡ book.down → later.rewriting ≡ None
        → ((run : Run) → Stands (node_of scheme book.validator.setting) run book → Settles (node_of scheme book.validator.setting) run book.rewriting synced
        → Stands (node_of scheme book.validator.setting) (settled_by run book.rewriting (length synced)) later)
        → IsSame seat afterwards → afterwards.view.seen ≡ seat.view.seen → afterwards.view.durable ≡ taken_by flush → IsAtHome scheme shared afterwards later
    home_settled later afterwards setting down none stands same seen durable =
        let here = subst (λ (s : ConfigView S). (r : Run) → Stands (node_of scheme s) r book → Settles (node_of scheme s) r book.rewriting synced
        → Stands (node_of scheme s) (settled_by r book.rewriting (length synced)) later) home.setting stands in
        let after = λ (base : State) (at : IsBase scheme shared base).
        subst (λ (r : Run). Stands (node_of scheme shared.setting) r later) (settled_run base book.rewriting refl)
        (here (run_of base seat.view home.taken) (home.stands base at) (settles_at base at book.rewriting refl)) in
        at_home shared scheme afterwards later (events seat.view.seen) home.taken (events (taken_by flush)) home.somewhere (setting ∙ home.setting)
        (of_same shared seat afterwards home.of_node same) after
        (ap events (sym seen)) (ap events (sym durable)) (λ is. same.down (home.down (sym down ∙ is)))
        (none_rewrites later none)
