-- What one call more makes of the record of a file.
use Rattle.std.proofs.Common.{◌≡◌, ℕ, ◌+◌, ◌-◌, ◌<◌, ◌≤◌, min, max, List, [], ◌∷◌, ◌++◌, length, take, refl, sym, ap, subst, ◌∙◌, inl, inr, arith, rules, append_assoc, length-append, length-take}
use Rattle.std.proofs.lemmas.Bool.{cases_lt}
use Rattle.std.proofs.lemmas.List.{length-take-le, take_all, take-append-le, take-take}
use Rattle.std.specs.Prelude.{◌⊎◌, Option, Some, None, Result, Ok, Err, IfSome, OnOk}
use Rattle.std.specs.Option.{option_map, option_map_or}
use Rattle.std.proofs.lemmas.Option.{none-some}
use Rattle.std.proofs.lemmas.List.Elements.{All-append}
use Rattle.diskmodel.specs.declared.call.Call.{Call}
use Rattle.diskmodel.specs.declared.call.Call.TheVariants.{Wrote, Cut, Synced}
use Rattle.diskmodel.specs.declared.call.Span.{Span}
use Rattle.diskmodel.specs.Disk.{written, IsTorn, IsCut, ComesBy, NoneNew, LeavesOnly}
use Rattle.diskmodel.specs.Outcomes.{State, AreBytes, IsOutcome, state}
use Rattle.diskmodel.specs.Kept.{Keeps}
use Rattle.diskmodel.proofs.Calls.{durable_only, possible_durable}
use Rattle.diskmodel.proofs.Kept.{state-push, state_possible, state_in_durable, state_durable_bytes, kept_write, kept_cut, kept_sync}
use Rattle.diskmodel.proofs.Torn.{length-written}
use Rattle.diskmodel.proofs.Moments.{outcomes_write, outcomes_cut, outcomes_sync, durable_sync}
use Rattle.disk_file.specs.declared.story.TapeView.{TapeView}
use Rattle.disk_file.specs.Stories.{begun, with_more, Adds, GoesOnFor, SameCalls, held, MayLeave, IsSound}

-- a list of calls on a file that began with these bytes is sound
abbrev Sound : List ℕ → List Call → Type 0
Sound first calls = Keeps first calls (state first calls).durable (state first calls).smallest (state first calls).greatest (state first calls).spans (state first calls).content

sound_from : (first : List ℕ) (calls : List Call) (durable : List ℕ) (smallest greatest : ℕ) (spans : List Span) (content : List ℕ)
    → Keeps first calls durable smallest greatest spans content → Sound first calls
sound_from first calls durable smallest greatest spans content kept = record {
  durable_is = refl;
  smallest_is = refl;
  greatest_is = refl;
  spans_are = refl;
  content_is = refl;
  in_durable = state_in_durable first calls durable smallest greatest spans content kept;
  durable_fits = omega (arith, ap length kept.durable_is, kept.greatest_is, kept.durable_fits);
  durable_bytes = state_durable_bytes first calls durable smallest greatest spans content kept;
  possible = state_possible first calls durable smallest greatest spans content kept;
}

pub durable_begun : (bytes : List ℕ) → LeavesOnly (held (begun bytes)) (MayLeave (begun bytes))
durable_begun bytes found left = durable_only bytes found left

-- there is this call more, whatever has failed
pub record Longer (call : Call) (old new : TapeView) : Type 0 where
  pub first : new.first ≡ old.first
  pub calls : new.calls ≡ old.calls ++ call ∷ []

pub same_calls : (one other third : TapeView) → SameCalls one other → SameCalls other third → SameCalls one third
same_calls one other third first second = record { first = second.first ∙ first.first; calls = second.calls ∙ first.calls }

pub longer_by : (call : Call) (old new : TapeView) → Adds call old new → Longer call old new
longer_by call old new adds = record { first = adds.first; calls = adds.calls }

pub longer : (call : Call) (old before added new : TapeView) → SameCalls old before → Adds call before added → SameCalls added new → Longer call old new
longer call old before added new same adds later = record {
  first = later.first ∙ adds.first ∙ same.first;
  calls = later.calls ∙ adds.calls ∙ ap (λ (calls : List Call). calls ++ call ∷ []) same.calls;
}

-- what holds anyway holds where a call succeeds
pub anyway : {T E : Type 0} {P : Type 0} (r : Result T E) → P → OnOk r P
anyway (Ok x) holds = search holds
anyway (Err e) holds = search rules

module _ (call : Call) (old new : TapeView) (more : Longer call old new) where
  sound_of : Sound old.first (old.calls ++ call ∷ []) → IsSound new
  sound_of sound = subst (λ (first : List ℕ). Sound first new.calls) (sym more.first) (subst (λ (calls : List Call). Sound old.first calls) (sym more.calls) sound)

  held_of : held new ≡ (state old.first (old.calls ++ call ∷ [])).content
  held_of = ap (λ (first : List ℕ). (state first new.calls).content) more.first ∙ ap (λ (calls : List Call). (state old.first calls).content) more.calls

module _ (old new : TapeView) (at : ℕ) (bytes : List ℕ) (sound : IsSound old) (within : at ≤ length (held old)) (more : Longer (Wrote at bytes) old new) where
  pub write_sound : AreBytes bytes → IsSound new
  write_sound are = sound_of (Wrote at bytes) old new more (sound_from _ _ _ _ _ _ _ (kept_write _ _ _ _ _ _ _ at bytes sound are within))

  pub write_held : held new ≡ written (held old) at bytes
  write_held = held_of (Wrote at bytes) old new more ∙ ap (λ (s : State). s.content) (state-push old.first old.calls (Wrote at bytes))

  pub write_length : length (held new) ≡ max (length (held old)) (at + length bytes)
  write_length = ap length write_held ∙ length-written (held old) at bytes within

  pub write_outcomes : ComesBy (IsTorn at (length bytes)) (MayLeave old) (MayLeave new)
  write_outcomes =
      subst (λ (first : List ℕ). ComesBy (IsTorn at (length bytes)) (IsOutcome old.first old.calls) (IsOutcome first new.calls)) (sym more.first)
      (outcomes_write _ _ _ _ _ _ _ sound at bytes new.calls within (inl more.calls))

module _ (old new : TapeView) (len : ℕ) (sound : IsSound old) (within : len ≤ length (held old)) (more : Longer (Cut len) old new) where
  pub cut_sound : IsSound new
  cut_sound = sound_of (Cut len) old new more (sound_from _ _ _ _ _ _ _ (kept_cut _ _ _ _ _ _ _ len sound within))

  pub cut_held : held new ≡ take len (held old)
  cut_held = held_of (Cut len) old new more ∙ ap (λ (s : State). s.content) (state-push old.first old.calls (Cut len))

  pub cut_length : length (held new) ≡ len
  cut_length = ap length cut_held ∙ length-take len (held old) ∙ omega arith

  pub cut_outcomes : ComesBy (IsCut len) (MayLeave old) (MayLeave new)
  cut_outcomes =
      subst (λ (first : List ℕ). ComesBy (IsCut len) (IsOutcome old.first old.calls) (IsOutcome first new.calls)) (sym more.first)
      (outcomes_cut _ _ _ _ _ _ _ sound len new.calls within (inl more.calls))

module _ (old new : TapeView) (sound : IsSound old) (more : Longer Synced old new) where
  pub sync_sound : IsSound new
  sync_sound = sound_of Synced old new more (sound_from _ _ _ _ _ _ _ (kept_sync _ _ _ _ _ _ _ sound))

  pub sync_held : held new ≡ held old
  sync_held = held_of Synced old new more ∙ ap (λ (s : State). s.content) (state-push old.first old.calls Synced)

  pub sync_outcomes : NoneNew (MayLeave old) (MayLeave new)
  sync_outcomes =
      subst (λ (first : List ℕ). NoneNew (IsOutcome old.first old.calls) (IsOutcome first new.calls)) (sym more.first)
      (outcomes_sync _ _ _ _ _ _ _ sound new.calls (inl more.calls))

  pub sync_durable : LeavesOnly (held old) (MayLeave new)
  sync_durable =
      subst (λ (first : List ℕ). LeavesOnly (held old) (IsOutcome first new.calls)) (sym more.first)
      (durable_sync _ _ _ _ _ _ _ sound new.calls more.calls)

-- ---- the front that is kept

-- a cut leaves of a kept front what it leaves of the file
cut_front : (len : ℕ) (kept held : List ℕ) → kept ≡ take (length kept) held → take len kept ≡ take (length (take len kept)) (take len held)
cut_front len kept held is = by (cases_lt (length kept) len)
  where
    by : (length kept < len) ⊎ (len ≤ length kept) → take len kept ≡ take (length (take len kept)) (take len held)
    by (inr less) =
        ap (take len) is ∙ take-take len (length kept) held less ∙ sym (take-take len len held (omega arith))
        ∙ ap (λ n. take n (take len held)) (sym (length-take-le len kept less))
    by (inl more) =
        let le : length kept ≤ len = omega (arith, more) in
        let whole : take len kept ≡ kept = take_all len kept le in
        whole ∙ is ∙ sym (take-take (length kept) len held le) ∙ ap (λ (l : List ℕ). take (length l) (take len held)) (sym whole)

module _ {V : Type 0} (items : V → List ℕ) (len : ℕ) (held cut : List ℕ) (cut_is : cut ≡ take len held) where
  same_front : (old new : V) → Some (items new) ≡ Some (take len (items old)) → items new ≡ take len (items old)
  same_front old new is = ap (λ (o : Option (List ℕ)). option_map_or (λ (l : List ℕ). l) o []) is

  -- what is kept of a file that was cut is its front again
  pub cut_mirrors : (old new : Option V) → option_map items new ≡ option_map (take len) (option_map items old) → IfSome old (λ bytes. items bytes ≡ take (length (items bytes)) held)
      → IfSome new (λ bytes. items bytes ≡ take (length (items bytes)) cut)
  cut_mirrors old None is mirrors = tt
  cut_mirrors None (Some new) is mirrors = absurd (none-some (items new) (sym is))
  cut_mirrors (Some old) (Some new) is mirrors =
      let same = same_front old new is in
      same ∙ cut_front len (items old) held mirrors ∙ ap (λ (l : List ℕ). take (length l) (take len held)) (sym same) ∙ ap (take (length (items new))) (sym cut_is)

-- ---- what a file was found to go on with

longer_twice : (rest piece : List ℕ) (old mid new : TapeView) → mid ≡ with_more rest old → new ≡ with_more piece mid → new ≡ with_more (rest ++ piece) old
longer_twice rest piece old mid new first second =
    second ∙ ap (with_more piece) first ∙ ap (λ (l : List ℕ). record old { first = l }) (append_assoc old.first rest piece)

-- it goes on for so many bytes, and then for so many more
pub goes_on_twice : (one other both : ℕ) (old mid new : TapeView) → GoesOnFor one old mid → GoesOnFor other mid new → both ≡ one + other → GoesOnFor both old new
goes_on_twice one other both old mid new first second sum = record {
  bytes = first.bytes ++ second.bytes;
  is = longer_twice first.bytes second.bytes old mid new first.is second.is;
  are_bytes = All-append (λ number. number < 256) first.bytes second.bytes first.are_bytes second.are_bytes;
  long = let parts = length-append first.bytes second.bytes in let a = first.long in let b = second.long in omega (arith, parts, a, b, sum);
}

-- ---- a file that is opened by its front

sound_begun : (bytes : List ℕ) → AreBytes bytes → IsSound (begun bytes)
sound_begun bytes are_bytes = record {
  durable_is = refl;
  smallest_is = refl;
  greatest_is = refl;
  spans_are = refl;
  content_is = refl;
  in_durable = omega arith;
  durable_fits = omega arith;
  durable_bytes = are_bytes;
  possible = possible_durable bytes are_bytes;
}

-- its record begins with the front and goes on to its length
module _ (front : List ℕ) (from len : ℕ) (before tape : TapeView) (begins : before ≡ begun front) (is_from : from ≡ length front) (within : length front ≤ len)
    (goes_on : GoesOnFor (len - from) before tape)
  where
    more : GoesOnFor (len - length front) (begun front) tape
    more = subst (λ (n : ℕ). GoesOnFor (len - n) (begun front) tape) is_from (subst (λ (story : TapeView). GoesOnFor (len - from) story tape) begins goes_on)

    front_held : held tape ≡ front ++ more.bytes
    front_held = ap held more.is

    pub front_sound : AreBytes before.first → IsSound tape
    front_sound are_bytes =
        let front_bytes : AreBytes front = subst (λ (story : TapeView). AreBytes story.first) begins are_bytes in
        subst IsSound (sym more.is) (sound_begun (front ++ more.bytes) (All-append (λ number. number < 256) front more.bytes front_bytes more.are_bytes))

    pub front_length : len ≡ length (held tape)
    front_length = let parts = ap length front_held ∙ length-append front more.bytes in let rest = more.long in omega (arith, within, parts, rest)

    pub front_mirrors : front ≡ take (length front) (held tape)
    front_mirrors = sym (ap (take (length front)) front_held ∙ take-append-le (length front) front more.bytes (omega arith) ∙ take_all (length front) front (omega arith))

    pub front_durable : LeavesOnly (held tape) (MayLeave tape)
    front_durable = subst (λ (story : TapeView). LeavesOnly (held story) (MayLeave story)) (sym more.is) (durable_begun (front ++ more.bytes))

    pub front_kept : (keep : ℕ) → length front ≤ keep → (length front ≡ keep) ⊎ (length front ≡ len) → length front ≡ min keep (length (held tape))
    front_kept keep less (inl all) = let whole = front_length in omega (arith, less, within, all, whole)
    front_kept keep less (inr all) = let whole = front_length in omega (arith, less, within, all, whole)
