-- What becomes of a book that takes all for a checkpoint.
use Rattle.std.proofs.Common.{◌≡◌, ℕ, ◌+◌, List, [], length, take, true, inl, inr, ⊎_elim, sym, ap, ◌∙◌, subst}
use Rattle.std.specs.Prelude.{Some, None}
use Rattle.diskmodel.specs.Disk.{Device}
use Rattle.journal.specs.Pairs.{StandsAsOrAfter}
use Rattle.journal.specs.declared.journal.Journal.{Journal}
use Rattle.spec_model.specs.Histories.{History}
use Rattle.spec_model.specs.Nodes.{Node}
use Rattle.book.specs.Book.{BookView, Run, Stands, IsCheckpointOfAll, Settles, SettlesNext, settled_by, settled_to, with_all_taken, with_all_settled}
use Rattle.book.specs.Checkpoints.{CanBeWritten, SettlesAll, GoesDownRewriting, StandsAsOrForAll}
use Rattle.book.specs.InFlight.{StandsSomewhere}
use Rattle.book.proofs.Due.{events_now}
use Rattle.book.proofs.Rewriting.{settles_all}

module _ {S : Type 0} (node : Node) (before middle : BookView S) (snapshot : List (List ℕ)) (writable : CanBeWritten snapshot) (all : IsCheckpointOfAll node before snapshot)
    (taken : middle ≡ record before { pending = []; taken = before.accepted; rewriting = Some before.accepted })
    (stands : (run : Run) → Stands node run before → Stands node (with_all_taken run) middle) where
  settles_there : (run : Run) → Stands node run before → Settles node (with_all_taken run) middle.rewriting snapshot
  settles_there run at =
      subst (λ r. Settles node (with_all_taken run) r snapshot) (sym (ap (λ (b : BookView S). b.rewriting) taken)) (settles_all node run before snapshot at all)

  -- the checkpoint is settled next
  pub comes_next : StandsSomewhere node before → SettlesNext node middle snapshot
  comes_next some = (with_all_taken some.0, stands some.0 some.1, settles_there some.0 some.1)

  -- and then all is
  module _ (later : BookView S) (rest : later ≡ record middle { settled = later.settled; ordered = later.ordered; reached = later.reached; rewriting = None })
      (settled : later.settled ≡ settled_to middle.rewriting (middle.settled + length snapshot))
      (goes : (run : Run) → Stands node run middle → Settles node run middle.rewriting snapshot → Stands node (settled_by run middle.rewriting (length snapshot)) later) where
    all_settled : (run : Run) → Stands node run before → settled_by (with_all_taken run) middle.rewriting (length snapshot) ≡ with_all_settled run
    all_settled run at =
        ap (λ (b : BookView S). settled_by (with_all_taken run) b.rewriting (length snapshot)) taken
        ∙ ap (λ (l : History). record (with_all_taken run) { settled = l }) (ap (λ (n : ℕ). take n run.accepted) at.accepted ∙ events_now run)

    pub settles_it : SettlesAll node before later snapshot
    settles_it = record {
      checkpoint = all;
      writable = writable;
      is = rest ∙ (λ i. record (taken i) {
        settled = (settled ∙ ap (λ (b : BookView S). settled_to b.rewriting (b.settled + length snapshot)) taken) i;
        ordered = later.ordered;
        reached = later.reached;
        rewriting = None;
      });
      stands = λ run at. subst (λ (r : Run). Stands node r later) (all_settled run at) (goes (with_all_taken run) (stands run at) (settles_there run at));
    }

  -- or the book goes down
  abbrev pub goes_down_with_it : (later : BookView S) → later ≡ record middle { down = true } → ((run : Run) → Stands node run middle → Stands node run later) → GoesDownRewriting node before later
  goes_down_with_it later down falls = record {
    snapshot = snapshot;
    checkpoint = all;
    writable = writable;
    is = down ∙ (λ i. record (taken i) { down = true });
    stands = λ run at. falls (with_all_taken run) (stands run at);
  }

-- what a rewriting to a checkpoint of all may leave
pub as_or_for_all : {S D : Type 0} (node : Node) (device : Device D) (book : BookView S) (journal : Journal D) (snapshot : List (List ℕ)) → IsCheckpointOfAll node book snapshot
    → (left : List ℕ) → StandsAsOrAfter device journal snapshot left → StandsAsOrForAll node device book journal left
as_or_for_all node device book journal snapshot all left = ⊎_elim (λ before. inl before) (λ after. inr (snapshot, all, after))
