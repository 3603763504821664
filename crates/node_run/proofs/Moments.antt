-- What a stop at any moment of a node's rounds and checkpoints leaves.
use Rattle.std.proofs.Common.{◌≡◌, ℕ, Bool, true, false, List, Result, Ok, Err, refl, sym, ap, subst, ◌∙◌, inl, inr}
use Rattle.std.specs.Prelude.{◌⊎◌, IsErrOf, IsTrue, OnErr}
use Rattle.diskmodel.specs.Disk.{Device}
use Rattle.flusher.specs.Rounds.{journal_of, is_down, settled_in, taken_in, LeavesAfter, HoldsEither, KeepsEarlier, GoesDown}
use Rattle.flusher.specs.declared.flusher.Flusher.{Flusher}
use Rattle.journal.specs.Areas.{Areas}
use Rattle.journal.specs.Pairs.{areas_of, store_of}
use Rattle.journal.specs.declared.store.Store.{Store}
use Rattle.book.specs.declared.own.error.FlushError.{FlushError}
use Rattle.book.specs.declared.own.error.FlushError.TheVariants as flush
use Rattle.node.specs.Disks.{AtEachMomentOn}
use Rattle.node.specs.Rounds.{Flushes}
use Rattle.node.proofs.Stages.{Counts, on_weaker, on_joins, on_end}
use Rattle.node_seats.proofs.Beginnings.{begins_same, begins_trans}
use Rattle.node_seats.specs.declared.view.Marked.{Marked}
use Rattle.node_shared.specs.Home.{NodeView}
use Rattle.wire.specs.Lists.{Begins}
use Rattle.node_run.specs.Runs.{HoldsMore, LeavesSettled}
use Rattle.sigface.specs.Scheme.{Scheme}

-- a call that isn't of a node which is down takes what is settled first
pub begins_taken : (settled taken : List Marked) (round : Result ℕ FlushError) → (IsErrOf round flush.Down → ⊥) → IsErrOf round flush.Down ⊎ Begins settled taken → Begins settled taken
begins_taken settled taken round up (inl down) = absurd (up down)
begins_taken settled taken round up (inr takes) = takes

-- what holds of a round that fails
pub of_err : {P : Type 0} (round : Result ℕ FlushError) (error : FlushError) → round ≡ Err error → OnErr round P → P
of_err {P} round error is holds = subst (λ (it : Result ℕ FlushError). OnErr it P) is holds

-- no round that ends well is of a node which is down
pub ok_is_up : (round : Result ℕ FlushError) (count : ℕ) → round ≡ Ok count → IsErrOf round flush.Down → ⊥
ok_is_up round count is down = let bad : IsErrOf {T = ℕ} (Ok count) flush.Down = subst (λ (it : Result ℕ FlushError). IsErrOf it flush.Down) is down in cc

-- nor is a round of one that is up
pub up_is_up : (Down : Type 0) (was now : Bool) → now ≡ was → was ≡ false → (Down → IsTrue now) → Down → ⊥
up_is_up Down was now same up fell down = let bad : false ≡ true = sym (same ∙ up) ∙ fell down in cc

module _ {S D : Type 0} (scheme : Scheme S) (device : Device D) where
  abbrev pub disks : Flusher D → Store D
  disks flusher = store_of (journal_of flusher)

  abbrev areas : Flusher D → Areas
  areas flusher = areas_of device (journal_of flusher)

  -- what there is: what was settled first, and perhaps more after it
  abbrev May : NodeView S → Flusher D → Areas → Type 0
  May node first = HoldsMore scheme node (settled_in first) (areas first)

  -- at each moment from one to the other there is what was settled, and perhaps more after it
  abbrev pub Leaves : NodeView S → Flusher D → Flusher D → Type 0
  Leaves node first later = AtEachMomentOn device (HoldsMore scheme node (settled_in first) (areas_of device (journal_of first))) (store_of (journal_of first)) (store_of (journal_of later))

  -- what a stop leaves now has all that is settled now, after the same state as at first
  abbrev pub Ends : NodeView S → Flusher D → Flusher D → Type 0
  Ends node first later = LeavesSettled scheme device node first (settled_in later) (store_of (journal_of later))

  -- what a round or a checkpoint leaves
  abbrev Either : NodeView S → Flusher D → Flusher D → Areas → Type 0
  Either node now later = HoldsEither scheme node (settled_in now) (taken_in later) (areas_of device (journal_of now))

  -- what came before is as it was, from one to the other
  abbrev pub Keeps : NodeView S → Flusher D → Flusher D → Type 0
  Keeps node first later = KeepsEarlier scheme node (settled_in first) (settled_in later) (areas_of device (journal_of first)) (areas_of device (journal_of later))

  -- so far there was no round, or there were some
  abbrev pub SoFar : NodeView S → Flusher D → Flusher D → Type 0
  SoFar node first now = (now ≡ first) ⊎ (Leaves node first now × Keeps node first now)

  pub keeps_so_far : (node : NodeView S) (first now : Flusher D) → SoFar node first now → Keeps node first now
  keeps_so_far node first now (inl same) = subst (Keeps node first) (sym same) (λ base there. there)
  keeps_so_far node first now (inr (leaves, keeps)) = keeps

  pub keeps_on : (node at : NodeView S) (first now later : Flusher D) → at ≡ node → Keeps node first now → Keeps at now later → Keeps node first later
  keeps_on node at first now later here before more base there = subst (λ n. Keeps n now later) here more base (before base there)

  -- what a call after others leaves: all that was settled before it, and perhaps more
  call_leaves : (node at : NodeView S) (first now later : Flusher D) → at ≡ node → Begins (settled_in first) (settled_in now) → Begins (settled_in now) (taken_in later) → SoFar node first now
      → (a : Areas) → Either at now later a → (it : May node first a) × Begins (settled_in now) it.more
  call_leaves node at first now later here begins taken so_far = by
    where
      left : (all : List Marked) (a : Areas) → LeavesAfter scheme at (settled_in now) all (areas now) a → LeavesAfter scheme node (settled_in first) all (areas first) a
      left all a it =
          let here_it = subst (λ n. LeavesAfter scheme n (settled_in now) all (areas now) a) here it in
          record { holds = here_it.holds; earlier = λ base there. here_it.earlier base (keeps_so_far node first now so_far base there) }

      by : (a : Areas) → Either at now later a → (it : May node first a) × Begins (settled_in now) it.more
      by a (inl it) = (record { more = settled_in now; begins = begins; leaves = left (settled_in now) a it }, begins_same (settled_in now))
      by a (inr it) = (
        record {
          more = taken_in later;
          begins = begins_trans (settled_in first) (settled_in now) (taken_in later) begins taken;
          leaves = left (taken_in later) a it;
        },
        taken,
      )

  -- a call after others
  pub round_on : (node at : NodeView S) (first now later : Flusher D) (round : Result ℕ FlushError) → at ≡ node → (IsErrOf round flush.Down → ⊥)
      → Begins (settled_in first) (settled_in now) → Flushes scheme device at now later round → SoFar node first now → Leaves node first later
  round_on node at first now later round here up begins flushes so_far = by flushes.any_moment
    where
      taken : Begins (settled_in now) (taken_in later)
      taken = begins_taken (settled_in now) (taken_in later) round up flushes.takes

      more : (a : Areas) → Either at now later a → May node first a
      more a it = (call_leaves node at first now later here begins taken so_far a it).0

      goes_on : AtEachMomentOn device (Either at now later) (disks now) (disks later) → SoFar node first now → Leaves node first later
      goes_on leaves (inl same) = subst (λ (f : Flusher D). AtEachMomentOn device (May node first) (disks f) (disks later)) same
          (on_weaker device (May node first) (Either at now later) (disks now) (disks later) leaves more)
      goes_on leaves (inr (before, keeps)) = on_joins device (May node first) (Either at now later) (disks first) (disks now) (disks later) before leaves more

      by : IsErrOf round flush.Down ⊎ AtEachMomentOn device (Either at now later) (disks now) (disks later) → Leaves node first later
      by (inl down) = absurd (up down)
      by (inr leaves) = goes_on leaves so_far

  -- the last call, which settles nothing more
  pub ends_on : Counts device → (node at : NodeView S) (first now later : Flusher D) (round : Result ℕ FlushError) → at ≡ node → (IsErrOf round flush.Down → ⊥)
      → Begins (settled_in first) (settled_in now) → Flushes scheme device at now later round → SoFar node first now → settled_in later ≡ settled_in now → Ends node first later
  ends_on counts node at first now later round here up begins flushes so_far same = by flushes.any_moment
    where
      taken : Begins (settled_in now) (taken_in later)
      taken = begins_taken (settled_in now) (taken_in later) round up flushes.takes

      by : IsErrOf round flush.Down ⊎ AtEachMomentOn device (Either at now later) (disks now) (disks later) → Ends node first later
      by (inl down) = absurd (up down)
      by (inr leaves) = λ found may.
          let here_now = on_end device counts (Either at now later) (disks now) (disks later) leaves found may in
          let it = call_leaves node at first now later here begins taken so_far found here_now in
          (it.0, subst (λ (l : List Marked). Begins l it.0.more) (sym same) it.1)

  -- more after a call is more after what came before it
  holds_on : (node at : NodeView S) (first now : Flusher D) → at ≡ node → Begins (settled_in first) (settled_in now) → Keeps node first now
      → (a : Areas) (old : HoldsMore scheme at (settled_in now) (areas now) a) → (it : May node first a) × (it.more ≡ old.more)
  holds_on node at first now here begins before a old =
      let here_it = subst (λ n. LeavesAfter scheme n (settled_in now) old.more (areas now) a) here old.leaves in (
        record {
          more = old.more;
          begins = begins_trans (settled_in first) (settled_in now) old.more begins old.begins;
          leaves = record { holds = here_it.holds; earlier = λ base there. here_it.earlier base (before base there) };
        },
        refl,
      )

  -- what a call leaves, after others
  pub leaves_on : (node at : NodeView S) (first now later : Flusher D) → at ≡ node → Begins (settled_in first) (settled_in now) → SoFar node first now → Leaves at now later → Leaves node first later
  leaves_on node at first now later here begins so_far leaves = by so_far
    where
      more : (a : Areas) → HoldsMore scheme at (settled_in now) (areas now) a → May node first a
      more a old = (holds_on node at first now here begins (keeps_so_far node first now so_far) a old).0

      by : SoFar node first now → Leaves node first later
      by (inl same) = subst (λ (f : Flusher D). AtEachMomentOn device (May node first) (disks f) (disks later)) same
          (on_weaker device (May node first) (HoldsMore scheme at (settled_in now) (areas now)) (disks now) (disks later) leaves more)
      by (inr before) = on_joins device (May node first) (HoldsMore scheme at (settled_in now) (areas now)) (disks first) (disks now) (disks later) before.0 leaves more

  -- and at its end
  pub ends_after : (node at : NodeView S) (first now later : Flusher D) → at ≡ node → Begins (settled_in first) (settled_in now) → SoFar node first now → Ends at now later → Ends node first later
  ends_after node at first now later here begins so_far ends = λ found may.
      let old = ends found may in
      let it = holds_on node at first now here begins (keeps_so_far node first now so_far) found old.0 in
      (it.0, subst (Begins (settled_in later)) (sym it.1) old.1)

  -- what a call that failed leaves settled
  pub fails_on : (node : NodeView S) (now later : Flusher D) (round : Result ℕ FlushError) (error : FlushError) → round ≡ Err error → is_down later ≡ false → GoesDown now later round
      → Flushes scheme device node now later round → Keeps node now later
  fails_on node now later round error is up goes flushes = by error is
    where
      down : is_down later ≡ true → Keeps node now later
      down fell = absurd (let bad : false ≡ true = sym up ∙ fell in cc)

      by : (one : FlushError) → round ≡ Err one → Keeps node now later
      by flush.Memory same =
          subst (λ (l : List Marked). KeepsEarlier scheme node (settled_in now) l (areas now) (areas later)) (sym (of_err round flush.Memory same flushes.not_settled))
          (subst (λ (j : _). KeepsEarlier scheme node (settled_in now) (settled_in now) (areas now) (areas_of device j)) (sym (flushes.memory same).0) (λ base there. there))
      by flush.Device same = down (goes.device same)
      by flush.Full same = down (goes.full same)
      by flush.Down same = let was = goes.down.0 same in down (ap (λ (f : Flusher D). is_down f) (goes.same same) ∙ was)

  -- the same over all rounds that were called: of a node that is up
  abbrev pub AllSoFar : NodeView S → Flusher D → Flusher D → Type 0
  AllSoFar node first now = (now ≡ first) ⊎ (is_down first ≡ false → Leaves node first now × Ends node first now × (is_down now ≡ false → Keeps node first now))

  -- rounds until nothing is pending, after others; a node that is down stays so, and its disks as they are
  pub all_on : (node at : NodeView S) (first now later : Flusher D) → at ≡ node → Begins (settled_in first) (settled_in now) → AllSoFar node first now
      → (IsTrue (is_down now) → later ≡ now) → (is_down now ≡ false → Leaves at now later) → (is_down now ≡ false → Ends at now later) → (is_down later ≡ false → Keeps at now later)
      → is_down first ≡ false → Leaves node first later × Ends node first later × (is_down later ≡ false → Keeps node first later)
  all_on node at first now later here begins so_far stays leaves ends keeps up = goes_on (is_down now) refl so_far
    where
      more : Keeps node first now → (a : Areas) → (old : HoldsMore scheme at (settled_in now) (areas now) a) → (it : May node first a) × (it.more ≡ old.more)
      more before a old =
          let here_it = subst (λ n. LeavesAfter scheme n (settled_in now) old.more (areas now) a) here old.leaves in (
            record {
              more = old.more;
              begins = begins_trans (settled_in first) (settled_in now) old.more begins old.begins;
              leaves = record { holds = here_it.holds; earlier = λ base there. here_it.earlier base (before base there) };
            },
            refl,
          )

      ends_more : Keeps node first now → Ends at now later → Ends node first later
      ends_more before ends_now = λ found may.
          let old = ends_now found may in
          let it = more before found old.0 in
          (it.0, subst (Begins (settled_in later)) (sym it.1) old.1)

      goes_on : (down : Bool) → is_down now ≡ down → AllSoFar node first now → Leaves node first later × Ends node first later × (is_down later ≡ false → Keeps node first later)
      goes_on true is (inl same) = absurd (let bad : true ≡ false = sym is ∙ ap (λ f. is_down f) same ∙ up in cc)
      goes_on true is (inr before) =
          let same = stays is in (
            subst (λ f. Leaves node first f) (sym same) (before up).0,
            subst (λ f. Ends node first f) (sym same) (before up).1,
            λ still. absurd (let bad : true ≡ false = sym is ∙ ap (λ f. is_down f) (sym same) ∙ still in cc),
          )
      goes_on false is (inl same) =
          let before = subst (Keeps node first) (sym same) (λ base there. there) in (
            subst (λ (f : Flusher D). AtEachMomentOn device (May node first) (disks f) (disks later)) same
                (on_weaker device (May node first) (HoldsMore scheme at (settled_in now) (areas now)) (disks now) (disks later) (leaves is) (λ a it. (more before a it).0)),
            ends_more before (ends is),
            λ still. keeps_on node at first now later here before (keeps still),
          )
      goes_on false is (inr before) =
          let kept = (before up).2 is in (
            on_joins device (May node first) (HoldsMore scheme at (settled_in now) (areas now)) (disks first) (disks now) (disks later) (before up).0 (leaves is) (λ a it. (more kept a it).0),
            ends_more kept (ends is),
            λ still. keeps_on node at first now later here kept (keeps still),
          )
