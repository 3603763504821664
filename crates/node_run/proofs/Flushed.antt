-- What there is left to bring to the disk after a round, and what is told of all rounds.
use Rattle.std.proofs.Common.{◌≡◌, ◌+◌, ◌<◌, ℕ, Bool, true, false, List, length, Option, Some, None, Result, Ok, refl, sym, subst, ◌∙◌, inl, inr, arith}
use Rattle.std.specs.Prelude.{◌⊎◌, ◌↔◌, IfOk, OnOk, IsErrOf, IsSome, IsTrue}
use Rattle.flusher.specs.Rounds.{IsGroupOf, TakesLongest}
use Rattle.node_io.specs.Endings.{first_of}
use Rattle.node_run.specs.Ends.{ReportsRounds, ReportsJournal}
use Rattle.book.specs.declared.own.error.FlushError.{FlushError}
use Rattle.book.specs.declared.own.error.FlushError.TheVariants as flush
use Rattle.journal.specs.declared.error.JournalError.{JournalError}
use Rattle.journal.specs.declared.error.JournalError.TheVariants as journal
use Rattle.wire.specs.Lists.{Begins}
use Rattle.node_seats.proofs.Beginnings.{begins_trans, begins_whole}
use Rattle.node_seats.specs.declared.view.Marked.{Marked}

-- where a round brought nothing to the disk all that was seen is settled, since a group has at least one record
nothing_more : (first seen settled taken later : List Marked) → Begins first seen → TakesLongest seen settled taken → length taken ≡ length settled + 0 → later ≡ taken → Begins first later
nothing_more first seen settled taken later more takes none is = by takes.takes
  where
    by : ((takes.all ≡ settled) × (taken ≡ settled)) ⊎ IsGroupOf settled takes.all taken → Begins first later
    by (inl same) =
        subst (Begins first) (same.0 ∙ sym same.1 ∙ sym is) (begins_trans first seen takes.all more takes.had_seen)
    by (inr group) = absurd (let some = group.longest.fits.some in let size = group.size in omega (arith, none, size, some))

-- a round that ends well and brought nothing to the disk
pub nothing_left : (first seen settled taken later : List Marked) (round : Result ℕ FlushError) → round ≡ Ok 0 → Begins first seen
    → IsErrOf round flush.Down ⊎ IsErrOf round flush.Memory ⊎ TakesLongest seen settled taken
    → IfOk round (λ count. length taken ≡ length settled + count) → OnOk round (later ≡ taken) → Begins first later
nothing_left first seen settled taken later round is more takes size settled_all = by takes
  where
    none : length taken ≡ length settled + 0
    none = subst (λ (it : Result ℕ FlushError). IfOk it (λ count. length taken ≡ length settled + count)) is size

    whole : later ≡ taken
    whole = subst (λ (it : Result ℕ FlushError). OnOk it (later ≡ taken)) is settled_all

    by : IsErrOf round flush.Down ⊎ IsErrOf round flush.Memory ⊎ TakesLongest seen settled taken → Begins first later
    by (inl down) = let bad : IsErrOf {T = ℕ} (Ok 0) flush.Down = sym is ∙ down in absurd cc
    by (inr (inl memory)) = let bad : IsErrOf {T = ℕ} (Ok 0) flush.Memory = sym is ∙ memory in absurd cc
    by (inr (inr longest)) = nothing_more first seen settled taken later more longest none whole

-- and it settles nothing more
pub settles_none : (settled taken later : List Marked) (round : Result ℕ FlushError) → round ≡ Ok 0 → Begins settled taken
    → IfOk round (λ count. length taken ≡ length settled + count) → OnOk round (later ≡ taken) → later ≡ settled
settles_none settled taken later round is begins size settled_all =
    let none : length taken ≡ length settled + 0 = subst (λ (it : Result ℕ FlushError). IfOk it (λ count. length taken ≡ length settled + count)) is size in
    let whole : later ≡ taken = subst (λ (it : Result ℕ FlushError). OnOk it (later ≡ taken)) is settled_all in
    whole ∙ sym (begins_whole settled taken begins (omega (arith, none)))

-- what holds of a round that ends well
pub of_ok : {P : Type 0} (round : Result ℕ FlushError) (count : ℕ) → round ≡ Ok count → OnOk round P → P
of_ok {P} round count is holds = subst (λ (it : Result ℕ FlushError). OnOk it P) is holds

-- no such round is of a node that is down
pub never_ok : (round : Result ℕ FlushError) (count : ℕ) (was : Bool) → round ≡ Ok count → IsErrOf round flush.Down ↔ IsTrue was → IsTrue was → ⊥
never_ok round count was is fell down = let bad : IsErrOf {T = ℕ} (Ok count) flush.Down = sym is ∙ fell.1 down in cc

-- such a round is of a node that is up, and leaves it so
pub stays_up : (round : Result ℕ FlushError) (count : ℕ) (was down : Bool) → round ≡ Ok count → IsErrOf round flush.Down ↔ IsTrue was
    → (IsTrue down → IsErrOf round flush.Device ⊎ IsErrOf round flush.Full ⊎ IsErrOf round flush.Down) → down ≡ was
stays_up round count true down is fell goes = absurd (let bad : IsErrOf {T = ℕ} (Ok count) flush.Down = sym is ∙ fell.1 refl in cc)
stays_up round count false false is fell goes = refl
stays_up round count false true is fell goes = absurd (never (goes refl))
  where
    never : IsErrOf round flush.Device ⊎ IsErrOf round flush.Full ⊎ IsErrOf round flush.Down → ⊥
    never (inl device) = let bad : IsErrOf {T = ℕ} (Ok count) flush.Device = sym is ∙ device in cc
    never (inr (inl full)) = let bad : IsErrOf {T = ℕ} (Ok count) flush.Full = sym is ∙ full in cc
    never (inr (inr down)) = let bad : IsErrOf {T = ℕ} (Ok count) flush.Down = sym is ∙ down in cc

-- nothing went wrong before
pub nothing_reported : (first : ℕ) (was : Bool) (Lacks : Type 0) → ReportsJournal first first was was None Lacks
nothing_reported first was Lacks = record {
  fell = λ some. absurd (cc);
  reported = λ up down. absurd (let bad : false ≡ true = sym up ∙ down in cc);
  full = λ is. absurd (cc);
  rounds = record { disk = record { device = λ is. absurd (cc); no_fault = λ other. refl }; which = tt };
}

none_more : (fault : Option JournalError) → first_of fault None ≡ fault
none_more None = refl
none_more (Some journal.Memory) = refl
none_more (Some journal.Device) = refl
none_more (Some (journal.Damaged place)) = refl
none_more (Some journal.ConfigMismatch) = refl
none_more (Some journal.Full) = refl

-- more rounds: those of a node that is down tell nothing, and leave it so
pub reported_on : (first mid now : ℕ) (was down later : Bool) (fault more : Option JournalError) (Lacks More : Type 0) → ReportsJournal first mid was down fault Lacks
    → ReportsRounds mid now more → (down ≡ false → IsSome more ↔ IsTrue later)
    → (IsTrue down → (more ≡ None) × IsTrue later × (Lacks → More)) → (down ≡ false → more ≡ Some journal.Full → More)
    → ReportsJournal first now was later (first_of fault more) More
reported_on first mid now was true later fault more Lacks More so_far reports down_is stays full =
    let none = (stays refl).0 in
    let same : now ≡ mid = reports.disk.no_fault (λ is. let bad : ◌≡◌ {A = Option JournalError} None (Some journal.Device) = sym none ∙ is in cc) in
    subst (λ (m : Option JournalError). ReportsJournal first now was later (first_of fault m) More) (sym none)
    (subst (λ (f : Option JournalError). ReportsJournal first now was later f More) (sym (none_more fault))
    (record {
      fell = λ some. (stays refl).1;
      reported = λ up down. so_far.reported up refl;
      full = λ is. (stays refl).2 (so_far.full is);
      rounds = record {
        disk = record { device = λ is. subst (λ n. first < n) (sym same) (so_far.rounds.disk.device is); no_fault = λ other. same ∙ so_far.rounds.disk.no_fault other };
        which = so_far.rounds.which;
      };
    }))
reported_on first mid now was false later (Some error) more Lacks More so_far reports down_is stays full = absurd (let bad : false ≡ true = so_far.fell refl in cc)
reported_on first mid now was false later None more Lacks More so_far reports down_is stays full =
    let start : mid ≡ first = so_far.rounds.disk.no_fault (λ is. let bad : ◌≡◌ {A = Option JournalError} None (Some journal.Device) = is in cc) in
    record {
      fell = (down_is refl).0;
      reported = λ up down. (down_is refl).1 down;
      full = full refl;
      rounds = record {
        disk = record { device = λ is. subst (λ n. n < now) start (reports.disk.device is); no_fault = λ other. reports.disk.no_fault other ∙ start };
        which = reports.which;
      };
    }
