-- The same for the record of a disk in memory.
use Rattle.std.proofs.Common.{◌≡◌, ℕ, ◌≤◌, List, length, sym, subst, inl, inr, rules}
use Rattle.std.specs.Prelude.{Result, Ok, Err, OnOk, OnErr, is_ok}
use Rattle.std.proofs.lemmas.Bool.{false≢true}
use Rattle.diskmodel.specs.declared.disk.DiskFault.{DiskFault}
use Rattle.std.specs.declared.alloc.AllocError.{AllocError}
use Rattle.diskmodel.specs.declared.call.Call.{Call}
use Rattle.diskmodel.specs.declared.call.Call.TheVariants.{Wrote, Cut, Synced}
use Rattle.diskmodel.specs.declared.history.History.{History}
use Rattle.diskmodel.specs.Disk.{IsTorn, IsCut, ComesBy, NoneNew, LeavesOnly, GoesOn}
use Rattle.diskmodel.specs.Outcomes.{IsOutcome, IsOutcomeSince}
use Rattle.diskmodel.specs.Recorded.{Adds, IsAsBefore, TakesStop}
use Rattle.diskmodel.proofs.Moments.{MayAdd, time, time_stop, outcomes_write, outcomes_cut, outcomes_sync, outcomes_stop, others_stop, durable_sync}

-- the record is as before, or has one call more
pub record Effect (call : Call) (old new : History) : Type 0 where
  pub first : new.first.items ≡ old.first.items
  pub calls : MayAdd call old.calls.items new.calls.items

effect_between : (call : Call) (r : Result (Unit {0}) AllocError) (old new : History) → OnOk r (Adds call old new) → OnErr r (IsAsBefore old new) → Effect call old new
effect_between call (Ok x) old new adds as_before = let more : Adds call old new = search adds in record { first = more.first; calls = inl more.calls }
effect_between call (Err e) old new adds as_before = let same : IsAsBefore old new = search as_before in record { first = same.first; calls = inr same.calls }

-- told is the record once a failure was ruled out, and went the record after the call
pub effect : (call : Call) (r : Result (Unit {0}) AllocError) (old told went new : History) → told ≡ old → OnOk r (Adds call told went) → OnErr r (IsAsBefore told went) → new ≡ went
    → Effect call old new
effect call r old told went new same_told adds as_before same_went =
    subst (λ (h : History). Effect call old h) (sym same_went)
    (subst (λ (h : History). Effect call h went) same_told (effect_between call r told went adds as_before))

pub time_of : (call : Call) (old new : History) → Effect call old new
    → GoesOn (length old.calls.items) (length new.calls.items) (IsOutcomeSince old.first.items old.calls.items)
    (IsOutcomeSince new.first.items new.calls.items) (IsOutcome new.first.items new.calls.items)
time_of call old new done =
    subst (λ (first : List ℕ). GoesOn (length old.calls.items) (length new.calls.items) (IsOutcomeSince old.first.items old.calls.items)
    (IsOutcomeSince first new.calls.items) (IsOutcome first new.calls.items))
    (sym done.first) (time old.first.items call old.calls.items new.calls.items done.calls)

pub write_of : (at : ℕ) (bytes : List ℕ) (old new : History) → at ≤ length old.content.items → Effect (Wrote at bytes) old new
    → ComesBy (IsTorn at (length bytes)) (IsOutcome old.first.items old.calls.items) (IsOutcome new.first.items new.calls.items)
write_of at bytes old new within done =
    subst (λ (first : List ℕ). ComesBy (IsTorn at (length bytes)) (IsOutcome old.first.items old.calls.items) (IsOutcome first new.calls.items)) (sym done.first)
    (outcomes_write _ _ _ _ _ _ _ old.kept at bytes new.calls.items within done.calls)

pub cut_of : (len : ℕ) (old new : History) → len ≤ length old.content.items → Effect (Cut len) old new
    → ComesBy (IsCut len) (IsOutcome old.first.items old.calls.items) (IsOutcome new.first.items new.calls.items)
cut_of len old new within done =
    subst (λ (first : List ℕ). ComesBy (IsCut len) (IsOutcome old.first.items old.calls.items) (IsOutcome first new.calls.items)) (sym done.first)
    (outcomes_cut _ _ _ _ _ _ _ old.kept len new.calls.items within done.calls)

pub sync_of : (old new : History) → Effect Synced old new → NoneNew (IsOutcome old.first.items old.calls.items) (IsOutcome new.first.items new.calls.items)
sync_of old new done =
    subst (λ (first : List ℕ). NoneNew (IsOutcome old.first.items old.calls.items) (IsOutcome first new.calls.items)) (sym done.first)
    (outcomes_sync _ _ _ _ _ _ _ old.kept new.calls.items done.calls)

pub durable_of : (old new : History) → Adds Synced old new → LeavesOnly old.content.items (IsOutcome new.first.items new.calls.items)
durable_of old new done =
    subst (λ (first : List ℕ). LeavesOnly old.content.items (IsOutcome first new.calls.items)) (sym done.first)
    (durable_sync _ _ _ _ _ _ _ old.kept new.calls.items done.calls)

pub stop_of : (found : List ℕ) (old new : History) → TakesStop found old new → NoneNew (IsOutcome old.first.items old.calls.items) (IsOutcome new.first.items new.calls.items)
stop_of found old new done =
    subst (λ (first : List ℕ). NoneNew (IsOutcome old.first.items old.calls.items) (IsOutcome first new.calls.items)) (sym done.first)
    (outcomes_stop old.first.items old.calls.items new.calls.items found done.calls)

pub stop_others_of : (found : List ℕ) (old new : History) → TakesStop found old new → NoneNew (IsOutcome new.first.items new.calls.items) (IsOutcome old.first.items old.calls.items)
stop_others_of found old new done =
    subst (λ (first : List ℕ). NoneNew (IsOutcome first new.calls.items) (IsOutcome old.first.items old.calls.items)) (sym done.first)
    (others_stop old.first.items old.calls.items new.calls.items found done.calls)

pub stop_time_of : (found : List ℕ) (old new : History) → TakesStop found old new
    → GoesOn (length old.calls.items) (length new.calls.items) (IsOutcomeSince old.first.items old.calls.items)
    (IsOutcomeSince new.first.items new.calls.items) (IsOutcome new.first.items new.calls.items)
stop_time_of found old new done =
    subst (λ (first : List ℕ). GoesOn (length old.calls.items) (length new.calls.items) (IsOutcomeSince old.first.items old.calls.items)
    (IsOutcomeSince first new.calls.items) (IsOutcome first new.calls.items))
    (sym done.first) (time_stop old.first.items old.calls.items new.calls.items found done.calls)

-- the same where the sync has succeeded
pub durable_when : (r : Result (Unit {0}) DiskFault) (s : Result (Unit {0}) AllocError) (old told went new : History) → is_ok r ≡ is_ok s → told ≡ old → OnOk s (Adds Synced told went) → new ≡ went
    → OnOk r (LeavesOnly old.content.items (IsOutcome new.first.items new.calls.items))
durable_when (Ok x) (Ok y) old told went new same same_told adds same_went =
    let more : Adds Synced told went = search adds in
    let done : Adds Synced old new = subst (λ (h : History). Adds Synced old h) (sym same_went) (subst (λ (h : History). Adds Synced h went) same_told more) in
    let only : LeavesOnly old.content.items (IsOutcome new.first.items new.calls.items) = durable_of old new done in
    search only
durable_when (Ok x) (Err e) old told went new same same_told adds same_went = absurd (false≢true (sym same))
durable_when (Err e) s old told went new same same_told adds same_went = search rules
