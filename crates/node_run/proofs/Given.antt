-- What the threads of a node wrote, and the disks that they leave.
use Rattle.std.proofs.Common.{true, ◌≡◌, Bool, false, List, Option, Some, None, ℕ, refl, ap, sym, subst, ◌∙◌}
use Rattle.std.proofs.lemmas.Bool.{or_parts, or_right}
use Rattle.std.specs.Prelude.{◌||◌, All, IfSome}
use Rattle.diskmodel.specs.Disk.{Device}
use Rattle.flusher.specs.Rounds.{journal_of, is_down, settled_in}
use Rattle.journal.specs.Pairs.{store_of}
use Rattle.journal.specs.declared.error.JournalError.{JournalError}
use Rattle.journal.specs.declared.error.JournalError.TheVariants as journal
use Rattle.journal.specs.declared.store.Store.{Store}
use Rattle.node.specs.Callers.{RoundsView}
use Rattle.node.specs.Disks.{MayBeLeft}
use Rattle.node_io.specs.Endings.{after_input, first_of}
use Rattle.node_io.specs.declared.faults.Faults.{Faults}
use Rattle.node_io.specs.declared.input.End.{End}
use Rattle.node_io.specs.declared.input.End.TheVariants as ends
use Rattle.node_seats.proofs.Beginnings.{begins_trans}
use Rattle.node_seats.specs.declared.view.View.{View}
use Rattle.node_shared.specs.Home.{NodeView}
use Rattle.sigface.specs.Scheme.{Scheme}
use Rattle.wire.specs.Lists.{Begins}
use Rattle.node_run.proofs.Pending.{by_rule_weaker, none_of_both, place_weaker}
use Rattle.node_run.proofs.Written.{written_weaker}
use Rattle.node_run.specs.Rewriting.{point_of, HasCheckpoint}
use Rattle.node_run.specs.Runs.{AreSettled, ComesByRule, HasFlushed, IsFullUp}
use Rattle.node_run.specs.Writing.{HasWritten, MayGo}
use Rattle.node_run.specs.declared.rule.Rule.{Rule}

-- none of three threads tells that the writer failed
second_fine : (one other third : Bool) → ((one || other) || third) ≡ false → other ≡ false
second_fine one other third fine = (or_parts one other (or_parts (one || other) third fine).0).1

-- What was written is on the disks, where the one that wrote knew no more as settled than the rounds had settled on it.
pub is_settled : {S D : Type 0} (scheme : Scheme S) (device : Device D) (rule : Rule) (first later : RoundsView S D) (reports : Faults) (node : NodeView S) (view : View)
    (left : Store D) (one other third all : Bool)
    (old new : Option (List ℕ)) → HasFlushed scheme device rule first later reports → is_down first.flusher ≡ false → node ≡ first.node
    → left ≡ store_of (journal_of later.flusher) → Begins view.durable (settled_in later.flusher) → all ≡ ((one || other) || third)
    → HasWritten (All (MayGo scheme node view)) (other ≡ false) old new → HasWritten (AreSettled scheme device first.node first.flusher left) (all ≡ false) old new
is_settled {S} {D} scheme device rule first later reports node view left one other third all old new flushed up same is_left durable is_all written =
    written_weaker (All (MayGo scheme node view)) (AreSettled scheme device first.node first.flusher left) (other ≡ false) (all ≡ false) old new
    (λ outputs each. record {
      view = view;
      each = subst (λ (n : NodeView S). All (MayGo scheme n view) outputs) same each;
      on_disk = λ found may.
          let it = flushed.at_end up found (subst (λ (d : Store D). MayBeLeft device d found) is_left may) in
          (it.0, begins_trans view.durable (settled_in later.flusher) it.0.more durable it.1);
    })
    (λ fine. second_fine one other third (sym is_all ∙ fine)) written

-- What was brought to the disks was brought by the rule, where nothing is told.
pub comes_by_rule : {S D : Type 0} (scheme : Scheme S) (device : Device D) (rule : Rule) (first later : RoundsView S D) (others reports all : Faults) (left : Store D)
    → HasFlushed scheme device rule first later reports → is_down first.flusher ≡ false → left ≡ store_of (journal_of later.flusher)
    → all.journal ≡ first_of others.journal reports.journal → all.memory ≡ (others.memory || reports.memory) → all.journal ≡ None
    → ComesByRule device (HasCheckpoint scheme device first.node) rule all.memory (point_of first.flusher) left
comes_by_rule scheme device rule first later others reports all left flushed up is_left journal_is memory_is none =
    let both = none_of_both others.journal reports.journal (sym journal_is ∙ none) in
    let by = flushed.by_rule up both.1 in
    let raised : reports.memory ≡ true → all.memory ≡ true = λ is. memory_is ∙ or_right others.memory reports.memory is in
    record {
      last = point_of later.flusher;
      last_rule = by.0;
      by_rule = by_rule_weaker device (HasCheckpoint scheme device first.node) (HasCheckpoint scheme device first.node) rule by.0 reports.memory all.memory (point_of first.flusher)
          (point_of later.flusher) (λ point made. made) raised by.1;
      is_left = is_left;
    }

-- two threads that tell no fault of the journal, and a third one: what it tells is told
pub third_alone : (one other third both all : Option JournalError) → one ≡ None → other ≡ None → both ≡ first_of one other → all ≡ first_of both third → all ≡ third
third_alone one other third both all no_one no_other both_is all_is =
    let none : both ≡ None = both_is ∙ ap (λ (it : Option JournalError). first_of it other) no_one ∙ no_other in
    all_is ∙ ap (λ (it : Option JournalError). first_of it third) none

pub none_of_input : (end : End) (lacked_memory : Bool) → (after_input end lacked_memory).journal ≡ None
none_of_input ends.Whole lacked_memory = refl
none_of_input ends.Broken lacked_memory = refl
none_of_input ends.Memory lacked_memory = refl

-- A full journal that the rounds told has no room on the disks for what was to be written next.
pub is_full_up : {S D : Type 0} (scheme : Scheme S) (device : Device D) (rule : Rule) (first later : RoundsView S D) (others reports all : Faults) (left : Store D)
    → HasFlushed scheme device rule first later reports → left ≡ store_of (journal_of later.flusher) → all.memory ≡ (others.memory || reports.memory)
    → all.journal ≡ reports.journal → all.journal ≡ Some journal.Full → IsFullUp scheme device first.node rule all.memory (point_of first.flusher) left
is_full_up scheme device rule first later others reports all left flushed is_left memory_is same is = record {
  last = later.flusher;
  lacks = place_weaker scheme device first.node rule reports.memory all.memory (point_of first.flusher) later.flusher
      (λ lacking. memory_is ∙ or_right others.memory reports.memory lacking) (flushed.full (sym same ∙ is));
  is_left = is_left;
}

-- what holds of what there is
pub of_some : {X : Type 0} (P : X → Type 0) (found : Option X) (one : X) → found ≡ Some one → IfSome found P → P one
of_some {X} P found one is holds = subst (λ (it : Option X). IfSome it P) is holds
