-- What the calls of a disk do to what a stop may leave, now and at each moment.
use Rattle.std.proofs.Common.{◌≡◌, ◌⊎◌, ℕ, ◌+◌, ◌<◌, ◌≤◌, List, [], ◌∷◌, ◌++◌, length, take, sym, ap, subst, ◌∙◌, inl, inr, ⊎_elim, arith}
use Rattle.std.proofs.lemmas.Bool.{cases_lt}
use Rattle.std.proofs.lemmas.List.{length_push, take_all, take-append-le}
use Rattle.diskmodel.specs.declared.call.Call.{Call}
use Rattle.diskmodel.specs.declared.call.Call.TheVariants.{Wrote, Cut, Synced, Stopped}
use Rattle.diskmodel.specs.declared.call.Span.{Span}
use Rattle.diskmodel.specs.Disk.{IsTorn, IsCut, ComesBy, NoneNew, LeavesOnly, GoesOn}
use Rattle.diskmodel.specs.Outcomes.{CanLeave, IsOutcome, IsOutcomeSince, after, state}
use Rattle.diskmodel.specs.Kept.{Keeps, ReplacesStop}
use Rattle.diskmodel.proofs.Calls.{durable_only, torn_write, torn_cut}
use Rattle.diskmodel.proofs.Torn.{IsTorn_refl, IsCut_refl}
use Rattle.diskmodel.proofs.Kept.{IsOutcome-pushed, state_possible, state_in_durable, state_durable_bytes, IsOutcome-stopped, IsOutcome-unstopped}

-- the first calls are those from before one more
take-push : (calls : List Call) (call : Call) (moment : ℕ) → moment ≤ length calls → take moment (calls ++ call ∷ []) ≡ take moment calls
take-push calls call moment early = take-append-le moment calls (call ∷ []) early

pub goes_on_same : (first : List ℕ) (calls : List Call) → GoesOn (length calls) (length calls) (IsOutcomeSince first calls) (IsOutcomeSince first calls) (IsOutcome first calls)
goes_on_same first calls = record { later = omega arith; nothing_else = λ t found early since. inl since; keeps = λ t found early since. since }

pub goes_on : (first : List ℕ) (calls : List Call) (call : Call)
    → GoesOn (length calls) (length (calls ++ call ∷ [])) (IsOutcomeSince first calls) (IsOutcomeSince first (calls ++ call ∷ [])) (IsOutcome first (calls ++ call ∷ []))
goes_on first calls call =
    let size : length (calls ++ call ∷ []) ≡ length calls + 1 = length_push calls call in
    record {
      later = omega arith;
      nothing_else = λ t found early since. ⊎_elim
          (λ (past : since.moment < length calls + 1).
          let before : since.moment ≤ length calls = omega arith in
          inl (record {
            moment = since.moment;
            no_earlier = since.no_earlier;
            no_later = before;
            outcome = subst (λ (some : List Call). IsOutcome first some found) (take-push calls call since.moment before) since.outcome;
          }))
          (λ (last : length calls + 1 ≤ since.moment).
          inr (subst (λ (some : List Call). IsOutcome first some found) (take_all since.moment (calls ++ call ∷ []) (omega arith)) since.outcome))
          (cases_lt since.moment (length calls + 1));
      keeps = λ t found early since. record {
        moment = since.moment;
        no_earlier = since.no_earlier;
        no_later = omega (arith, since.no_later);
        outcome = subst (λ (some : List Call). IsOutcome first some found) (sym (take-push calls call since.moment since.no_later)) since.outcome;
      };
    }

-- of a list of calls that ends in a stop, the outcomes at a moment are those with any other stop there
moments_of_stop : (first : List ℕ) (calls : List Call) (gone found : List ℕ) (t : ℕ) (bytes : List ℕ)
    → IsOutcomeSince first (calls ++ Stopped gone ∷ []) t bytes → IsOutcomeSince first (calls ++ Stopped found ∷ []) t bytes
moments_of_stop first calls gone found t bytes since =
    let size : length (calls ++ Stopped gone ∷ []) ≡ length calls + 1 = length_push calls (Stopped gone) in
    let size_found : length (calls ++ Stopped found ∷ []) ≡ length calls + 1 = length_push calls (Stopped found) in
    record {
      moment = since.moment;
      no_earlier = since.no_earlier;
      no_later = omega (arith, since.no_later);
      outcome = ⊎_elim
          (λ (past : since.moment < length calls + 1).
          let before : since.moment ≤ length calls = omega arith in
          subst (λ (some : List Call). IsOutcome first some bytes) (take-push calls (Stopped gone) since.moment before ∙ sym (take-push calls (Stopped found) since.moment before)) since.outcome)
          (λ (last : length calls + 1 ≤ since.moment).
          subst (λ (some : List Call). IsOutcome first some bytes) (sym (take_all since.moment (calls ++ Stopped found ∷ []) (omega arith)))
          (IsOutcome-unstopped first calls found bytes
          (IsOutcome-stopped first calls gone bytes
          (subst (λ (some : List Call). IsOutcome first some bytes) (take_all since.moment (calls ++ Stopped gone ∷ []) (omega arith)) since.outcome))))
          (cases_lt since.moment (length calls + 1));
    }

pub goes_on_replaced : (first : List ℕ) (calls : List Call) (gone found : List ℕ)
    → GoesOn (length (calls ++ Stopped gone ∷ [])) (length (calls ++ Stopped found ∷ [])) (IsOutcomeSince first (calls ++ Stopped gone ∷ []))
    (IsOutcomeSince first (calls ++ Stopped found ∷ [])) (IsOutcome first (calls ++ Stopped found ∷ []))
goes_on_replaced first calls gone found = record {
  later = omega (arith, length_push calls (Stopped gone), length_push calls (Stopped found));
  nothing_else = λ t bytes early since. inl (moments_of_stop first calls found gone t bytes since);
  keeps = λ t bytes early since. moments_of_stop first calls gone found t bytes since;
}

-- a record of calls that is as before, or has one call more
abbrev pub MayAdd : Call → List Call → List Call → Type 0
MayAdd call old new = (new ≡ old ++ call ∷ []) ⊎ (new ≡ old)

pub time : (first : List ℕ) (call : Call) (old new : List Call) → MayAdd call old new
    → GoesOn (length old) (length new) (IsOutcomeSince first old) (IsOutcomeSince first new) (IsOutcome first new)
time first call old new (inl more) =
    subst (λ (calls : List Call). GoesOn (length old) (length calls) (IsOutcomeSince first old) (IsOutcomeSince first calls) (IsOutcome first calls)) (sym more) (goes_on first old call)
time first call old new (inr same) =
    subst (λ (calls : List Call). GoesOn (length old) (length calls) (IsOutcomeSince first old) (IsOutcomeSince first calls) (IsOutcome first calls)) (sym same) (goes_on_same first old)

-- an outcome of calls that are as before, or of those with one call more
outcome_of : (first : List ℕ) (call : Call) (old new : List Call) (found : List ℕ) → MayAdd call old new → IsOutcome first new found
    → CanLeave (after (state first old) call) found ⊎ IsOutcome first old found
outcome_of first call old new found (inl more) left = inl (IsOutcome-pushed first old call found (subst (λ (calls : List Call). IsOutcome first calls found) more left))
outcome_of first call old new found (inr same) left = inr (subst (λ (calls : List Call). IsOutcome first calls found) same left)

module _ (first : List ℕ) (old : List Call) (durable : List ℕ) (smallest greatest : ℕ) (spans : List Span) (content : List ℕ) (kept : Keeps first old durable smallest greatest spans content) where
  pub outcomes_write : (at : ℕ) (bytes : List ℕ) (new : List Call) → at ≤ length content → MayAdd (Wrote at bytes) old new
      → ComesBy (IsTorn at (length bytes)) (IsOutcome first old) (IsOutcome first new)
  outcomes_write at bytes new within may found left =
      ⊎_elim
      (torn_write (state first old) at bytes (state_in_durable first old durable smallest greatest spans content kept)
      (state_durable_bytes first old durable smallest greatest spans content kept) (state_possible first old durable smallest greatest spans content kept)
      (omega (arith, ap length kept.content_is)) found)
      (λ (same : IsOutcome first old found). (found, same, IsTorn_refl at (length bytes) found))
      (outcome_of first (Wrote at bytes) old new found may left)

  pub outcomes_cut : (len : ℕ) (new : List Call) → len ≤ length content → MayAdd (Cut len) old new → ComesBy (IsCut len) (IsOutcome first old) (IsOutcome first new)
  outcomes_cut len new within may found left =
      ⊎_elim
      (torn_cut (state first old) len (state_in_durable first old durable smallest greatest spans content kept)
      (state_durable_bytes first old durable smallest greatest spans content kept) (state_possible first old durable smallest greatest spans content kept)
      (omega (arith, ap length kept.content_is)) found)
      (λ (same : IsOutcome first old found). (found, same, IsCut_refl len found))
      (outcome_of first (Cut len) old new found may left)

  -- after a sync only what a read gave is an outcome
  pub durable_sync : (new : List Call) → new ≡ old ++ Synced ∷ [] → LeavesOnly content (IsOutcome first new)
  durable_sync new more found left =
      durable_only (state first old).content found (IsOutcome-pushed first old Synced found (subst (λ (calls : List Call). IsOutcome first calls found) more left)) ∙ kept.content_is

  pub outcomes_sync : (new : List Call) → MayAdd Synced old new → NoneNew (IsOutcome first old) (IsOutcome first new)
  outcomes_sync new may found left =
      ⊎_elim
      (λ (lasting : CanLeave (after (state first old) Synced) found).
      subst (λ (bytes : List ℕ). IsOutcome first old bytes) (sym (durable_only (state first old).content found lasting)) (state_possible first old durable smallest greatest spans content kept))
      (λ (same : IsOutcome first old found). same)
      (outcome_of first Synced old new found may left)

-- a stop makes no outcome
pub outcomes_stop : (first : List ℕ) (old new : List Call) (found : List ℕ) → (new ≡ old ++ Stopped found ∷ []) ⊎ ReplacesStop found old new → NoneNew (IsOutcome first old) (IsOutcome first new)
outcomes_stop first old new found (inl more) bytes left = IsOutcome-stopped first old found bytes (subst (λ (calls : List Call). IsOutcome first calls bytes) more left)
outcomes_stop first old new found (inr replaces) bytes left =
    subst (λ (calls : List Call). IsOutcome first calls bytes) (sym replaces.was)
    (IsOutcome-unstopped first replaces.before replaces.gone bytes
    (IsOutcome-stopped first replaces.before found bytes (subst (λ (calls : List Call). IsOutcome first calls bytes) replaces.is left)))

-- and all of them stay
pub others_stop : (first : List ℕ) (old new : List Call) (found : List ℕ) → (new ≡ old ++ Stopped found ∷ []) ⊎ ReplacesStop found old new → NoneNew (IsOutcome first new) (IsOutcome first old)
others_stop first old new found (inl more) bytes left = subst (λ (calls : List Call). IsOutcome first calls bytes) (sym more) (IsOutcome-unstopped first old found bytes left)
others_stop first old new found (inr replaces) bytes left =
    subst (λ (calls : List Call). IsOutcome first calls bytes) (sym replaces.is)
    (IsOutcome-unstopped first replaces.before found bytes
    (IsOutcome-stopped first replaces.before replaces.gone bytes (subst (λ (calls : List Call). IsOutcome first calls bytes) replaces.was left)))

pub time_stop : (first : List ℕ) (old new : List Call) (found : List ℕ) → (new ≡ old ++ Stopped found ∷ []) ⊎ ReplacesStop found old new
    → GoesOn (length old) (length new) (IsOutcomeSince first old) (IsOutcomeSince first new) (IsOutcome first new)
time_stop first old new found (inl more) = time first (Stopped found) old new (inl more)
time_stop first old new found (inr replaces) =
    subst (λ (past : List Call). GoesOn (length past) (length new) (IsOutcomeSince first past) (IsOutcomeSince first new) (IsOutcome first new)) (sym replaces.was)
    (subst (λ (calls : List Call). GoesOn (length (replaces.before ++ Stopped replaces.gone ∷ [])) (length calls)
    (IsOutcomeSince first (replaces.before ++ Stopped replaces.gone ∷ [])) (IsOutcomeSince first calls) (IsOutcome first calls))
    (sym replaces.is) (goes_on_replaced first replaces.before replaces.gone found))
